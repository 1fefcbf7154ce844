-- Not to be believed: words of inner contracts, beside those of Instances, on which no contract of what users call rests.
use Rattle.std.specs.Prelude.{ℕ, Bool, true, false, cond, eqb, Option}
use Rattle.nest.specs.Lists.{on, is}
use Rattle.nest.specs.Outline.{Outline, table_parent}
use Rattle.nest.specs.Nest.{referred}
use Rattle.walk.specs.Instances.{Run}

-- ---- the rows of a table in a context

-- whether a row is one of those
unfoldable pub held_by : Outline → ℕ → (ℕ → Option ℕ) → ℕ → Bool
held_by j t row r = on (table_parent j t) (λ u. on (row u) (is (referred j t r u)) false) true

-- ---- groups

-- and where it ends there; n where no run of that table bounds it
abbrev pub bound : ℕ → Option Run → ℕ → ℕ
bound t run n = on run (λ p. cond (eqb p.table t) p.end n) n
