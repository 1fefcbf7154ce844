-- Laws of the definitions of specs/Did, and words that only proofs use.
use Rattle.std.specs.Prelude.{ℕ, ◌≤◌, List, length}
use Rattle.lent.specs.Fit.{cap}
use Rattle.lent.proofs.Fit.{wide}

-- ---- what was done

-- the lists are no longer than the cap, as no slice is
pub record Fit (d g f p : List ℕ) : Type 0 where
  pub document : length d ≤ cap
  pub segments : length g ≤ cap
  pub findings : length f ≤ wide
  pub stops : length p ≤ cap
