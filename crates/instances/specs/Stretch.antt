-- Not to be believed: words of inner contracts, on which no contract of what users call rests.
-- A cursor over fewer rows.
use Rattle.std.specs.Prelude.{ℕ, ◌≤◌, ◌<◌, ◌≡◌, List}
use Rattle.nest.specs.Found.{nest_at}
use Rattle.nest.specs.Outline.{Outline}
use Rattle.instances.specs.declared.Cursor.{Cursor}
use Rattle.instances.specs.Cursor.{coming, Going}

-- a cursor with the same instances still to give
pub record Same (o : Outline) (n : List ℕ) (cur r : Cursor) : Type 0 where
  pub coming : coming o n r ≡ coming o n cur
  pub going : Going o n r

-- from row k on none has a number below `above`
pub record Reached (n : List ℕ) (base from rows above k : ℕ) : Type 0 where
  pub after : from ≤ k
  pub within : k ≤ rows
  pub rest : (r : ℕ) → k ≤ r → r < rows → above ≤ nest_at n base r 0
