-- Not to be believed: words of inner contracts, on which no contract of what users call rests.
-- What no context has more of: rows of a table, instances of a loop, instances entered by it.
use Rattle.std.specs.Prelude.{ℕ, ◌≤◌, min, List, length}
use Rattle.nest.specs.Lists.{keep}
use Rattle.nest.specs.UpTo.{up_to}
use Rattle.nest.specs.Found.{held_at}
use Rattle.nest.specs.Outline.{Outline}
use Rattle.walk.specs.Instances.{Context, rows_in, instances}
use Rattle.walk.specs.Tour.{enters_in, visits}
use Rattle.walk.specs.Census.{too_many}

-- how many of a table's rows before row k hang on row p of its parent, by nest's numbers
unfoldable pub held_before : List ℕ → ℕ → ℕ → ℕ → ℕ
held_before n base k p = length (keep (held_at n base p) (up_to 0 k))

pub record Fan (o : Outline) (t w : ℕ) : Type 0 where
  pub few : w ≤ 4096
  pub most : (c : Context) → length (rows_in o t c) ≤ w

pub record Width (o : Outline) (l w : ℕ) : Type 0 where
  pub few : w ≤ 4096
  pub most : (h : ℕ) (c : Context) → length (instances o h l c) ≤ w

-- h levels deep, as far as the limit
pub record AtMost (o : Outline) (h l m : ℕ) : Type 0 where
  pub few : m ≤ too_many
  pub most : (c : Context) → min (enters_in (visits o h l c)) too_many ≤ m
