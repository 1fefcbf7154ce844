-- Not to be believed: words of inner contracts, on which no contract of what users call rests.
-- Counting instances up to the limit of refusal 6 (docs/RULES.md, "Answer 6"): 65,536 may be entered, and one more is too many.
use Rattle.std.specs.Prelude.{ℕ, ◌+◌, min}

abbrev pub too_many : ℕ
too_many = 65537

abbrev pub counted : ℕ → ℕ
counted n = min (n + 1) too_many
