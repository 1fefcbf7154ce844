use Rattle.spec.specs.Rows.{loop_row, loop_rows}
use Rattle.format.specs.Spec.{loop_c}
use Rattle.codec.specs.Codec.{list_c}
use Rattle.codec.specs.Skip.{skip, steps}
use Rattle.codec.specs.Rows.{rows, stored}
use Prim.Native.Nat.{◌+◌, ◌-◌, ◌*◌, ◌≤◌}
use mathlib.Core.Path.{◌≡◌}
use Rattle.spec.proofs.fill.loops_into.Given as goal

abbrev pub invariant-loop-i : goal.invariant-loop-i
invariant-loop-i l = (stored l.initial.index 8 (loop_rows l.s.bytes.now l.s.end 0) ≡ stored l.index (8 + 7 * l.i) (rows loop_c l.s.bytes.now l.s.end (loop_row l.s.bytes.now l.s.end) (l.n - l.i) l.p)) × (l.n ≤ 32) × (skip (list_c loop_c) l.s.bytes.now 0 l.s.end ≡ steps loop_c l.s.bytes.now l.s.end (l.n - l.i) l.p)
