use Rattle.std.specs.Prelude.{Option}
use Rattle.column.proofs.Refs.{Rest}
use Rattle.column.specs.Parts.{refs_c}
use Rattle.column.specs.Cell.{ref_column}
use Rattle.format.specs.Data.{Column}
use Rattle.codec.specs.Skip.{Is}
use lib.ListN.{length}
use mathlib.Core.List.{List}
use Prim.Native.Nat.{ℕ, ◌-◌, ◌≤◌}
use Rattle.column.proofs.data.find_ref.Given as goal

abbrev pub invariant-loop-i : goal.invariant-loop-i
invariant-loop-i l = (e : ℕ) (refs : List (ℕ × Option Column)) → e ≤ length l.job → Is refs_c l.job e l.at refs → Rest l.job l.above e (l.n - l._i) l.p (ref_column refs l.above)
