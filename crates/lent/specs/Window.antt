-- Not to be believed: words of inner contracts, beside those of Fit, on which no contract of what users call rests.
use Rattle.std.specs.Prelude.{ℕ, List, take, drop}
use Rattle.lent.specs.Fit.{StoredAt}

-- `len` items from `start` on; past the end of the source there are none
abbrev pub stretch : {A : Type 0} → List A → ℕ → ℕ → List A
stretch source start len = take len (drop start source)

-- 2 ^ 62: the place of a window's first number
abbrev pub base : ℕ
base = 4611686018427387904

-- findings: the list is a window of the whole list of findings
abbrev pub Noted : List ℕ → ℕ → List ℕ → ℕ → List ℕ → Type 0
Noted = StoredAt base
