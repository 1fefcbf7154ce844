-- Not to be believed: words of inner contracts, on which no contract of what users call rests.
-- What stands at a place, taken apart: from a structure to its fields, from a list to its items.
use Prim.Native.Nat.{ℕ, ◌≤◌}
use Rattle.std.specs.Prelude.{List, length}
use Rattle.codec.specs.Codec.{Codec}
use Rattle.codec.specs.Skip.{Is}

-- ---- what an accessor needs: n was read at the place p, which the index holds, and there stands the list

-- some value stands at a place, within the bytes: what a reader asks that goes by place without a test
pub record Stands {A : Type 0} (C : Codec A) (b : List ℕ) (at : ℕ) : Type 0 where
  pub end : ℕ
  pub value : A
  pub within : end ≤ length b
  pub is : Is C b end at value
