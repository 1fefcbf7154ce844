-- Laws of the definitions of specs/Entered, and words that only proofs use.
use Rattle.std.specs.Prelude.{ℕ, suc}
use Rattle.nest.specs.Outline.{Outline}
use Rattle.walk.specs.Instances.{Context}
use Rattle.census.specs.Entered.{entered_below}

-- by one instance of loop l
abbrev pub entered_with : Outline → ℕ → ℕ → Context → ℕ
entered_with o h l c = suc (entered_below o h l c)
