-- A law of runs: they stand in the lists that they cut (docs/RULES.md, "Groups").
use Rattle.std.specs.Prelude.{ℕ, ◌-◌, ◌≤◌, ◌≡◌, length, None, Some}
use Rattle.nest.specs.Lists.{All, part}
use Rattle.nest.specs.Outline.{Outline, table_parent}
use Rattle.walk.specs.Instances.{Context, Run, outside, held_in, instances}

-- the context's run stands in its list
pub record Fits (j : Outline) (c : Context) : Type 0 where
  -- it doesn't fall, and ends within the rows of its table
  pub run_fits : (p : Run) → c.run ≡ Some p → (p.start ≤ p.end) × (p.end ≤ length (held_in j p.table c.row))
  -- a table that is its own parent never has a row
  pub no_ring : (t : ℕ) → table_parent j t ≡ Some t → c.row t ≡ None

-- Each run of the walk fits, so that cutting a list to it is the Rust's `get(from..to)`.
pub record RunsFit : Type 0 where
  -- outside of all loops there is none
  pub start : (j : Outline) → Fits j outside
  -- each instance in a context whose run fits has one that fits
  pub kept : (j : Outline) (h l : ℕ) (c : Context) → Fits j c → All (Fits j) (instances j h l c)
  -- and a run that fits cuts out as many rows as it says
  pub whole : (j : Outline) (c : Context) (p : Run) → Fits j c → c.run ≡ Some p → length (part p.start p.end (held_in j p.table c.row)) ≡ p.end - p.start
