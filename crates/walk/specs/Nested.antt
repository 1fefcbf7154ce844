-- Not to be believed: words of inner contracts, on which no contract of what users call rests.
-- What the walk asks for: a job that passed, its index, nest's array and its flags; and a context whose rows are there and whose run begins at its table's row.
use Rattle.std.specs.Prelude.{ℕ, ◌+◌, ◌*◌, ◌≤◌, ◌<◌, ◌≡◌, true, false, List, length, get_or, Some}
use Rattle.format.specs.Refusal.{rows_of_all}
use Rattle.format.specs.Sections.{job_of}
use Rattle.nest.specs.Lists.{keep}
use Rattle.nest.specs.UpTo.{up_to}
use Rattle.nest.specs.Outline.{Outline, table_parent, row_count}
use Rattle.nest.specs.Nest.{nest_array}
use Rattle.nest.specs.Rising.{falls, rises}
use Rattle.nest.specs.Ready.{Ready}
use Rattle.nest.specs.OutlineAt.{outline_at}
use Rattle.walk.specs.Instances.{Context, Run}
use Rattle.walk.specs.Bounds.{held_by}

pub record Nested (b idx n : List ℕ) : Type 0 where
  pub ready : Ready b idx
  pub room : rows_of_all (job_of b).tables * 3 + 16 ≤ length n
  pub numbers : (i : ℕ) → i < length (nest_array (outline_at b)) → get_or n i 0 ≡ get_or (nest_array (outline_at b)) i 0
  pub rising : (t : ℕ) → rises n t ≡ true → falls (outline_at b) t ≡ false

pub record Sound (o : Outline) (c : Context) : Type 0 where
  pub there : (t r : ℕ) → c.row t ≡ Some r → r < row_count o t
  -- before the row where a run begins stand as many of the parent's list as its start says; a table that is its own parent has another list in the run
  pub begun : (p : Run) (r : ℕ) → c.run ≡ Some p → c.row p.table ≡ Some r → (table_parent o p.table ≡ Some p.table → ⊥)
      → length (keep (held_by o p.table c.row) (up_to 0 r)) ≡ p.start
