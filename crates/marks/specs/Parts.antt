-- Not to be believed: words of inner contracts, on which no contract of what users call rests.
-- Parts of refusal 5 (docs/RULES.md, "Answer 5") that have no name of their own: identifiers, scales, separators and texts.
use Rattle.std.specs.Prelude.{ℕ, List, [], ◌∷◌, Bool, not, ltb}
use Rattle.codec.specs.Limits.{any, any_of}
use Rattle.format.specs.Envelope.{Envelope}
use Rattle.format.specs.Words.{repeats}
use Rattle.format.specs.Refusal.{upper, digit, textual, separators}

-- a byte that no identifier has
abbrev pub stray : ℕ → Bool
stray c = not (any (upper c ∷ digit c ∷ []))

-- two separators are equal, or one is a letter, digit, space, minus or point
unfoldable pub marked : List ℕ → Bool
marked s = any (repeats s ∷ any_of textual s ∷ [])

abbrev pub marked_envelope : Envelope → Bool
marked_envelope e = marked (separators e)

-- above 127
abbrev pub high : ℕ → Bool
high c = ltb 127 c
