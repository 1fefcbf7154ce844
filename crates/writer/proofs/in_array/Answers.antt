use Prim.Native.Nat.{ℕ}
use native.Mathlib.Omega.{arith}
use lib.ListN.{length-replicate}
use Rattle.writer.proofs.NestedLaws.{nested_hung}
use Rattle.writer.proofs.in_array.Goals as goal

pub nested-requires : goal.nested-requires
nested-requires g c = nested_hung _ _ c.requires.0 (omega (arith, c.requires.1, length-replicate {A = ℕ} g.row.N 0)) c.hang_rows.ensures
