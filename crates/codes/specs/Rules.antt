-- Not to be believed: words of inner contracts, on which no contract of what users call rests.
-- Control rules, as tests (docs/RULES.md, "Places"): places start at 1, closer and count elements differ.
use Rattle.std.specs.Prelude.{ℕ, [], ◌∷◌, Bool, ltb, eqb}
use Rattle.codec.specs.Limits.{any}
use Rattle.format.specs.Words.{if_some}
use Rattle.format.specs.Spec.{Control, Loop}

-- a number that is no place
unfoldable pub low : ℕ → Bool
low n = ltb n 1

unfoldable pub wrong_control : Control → Bool
wrong_control c = any (low c.opener ∷ low c.closer ∷ low c.count ∷ eqb c.closer c.count ∷ [])

unfoldable pub wrong_loop : Loop → Bool
wrong_loop l = if_some wrong_control l.control
