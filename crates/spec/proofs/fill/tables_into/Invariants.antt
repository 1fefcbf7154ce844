use Rattle.spec.specs.Rows.{table_row, table_rows}
use Rattle.format.specs.Spec.{table_c}
use Rattle.codec.specs.Codec.{list_c}
use Rattle.codec.specs.Skip.{skip, steps}
use Rattle.codec.specs.Rows.{rows, stored}
use Prim.Native.Nat.{◌+◌, ◌-◌, ◌*◌, ◌≤◌}
use mathlib.Core.Path.{◌≡◌}
use Rattle.spec.proofs.fill.tables_into.Given as goal

abbrev pub invariant-loop-i : goal.invariant-loop-i
invariant-loop-i l = (stored l.initial.index 232 (table_rows l.s.bytes.now l.s.end l.at) ≡ stored l.index (232 + 6 * l.i) (rows table_c l.s.bytes.now l.s.end (table_row l.s.bytes.now l.s.end) (l.n - l.i) l.p)) × (l.n ≤ 16) × (skip (list_c table_c) l.s.bytes.now l.at l.s.end ≡ steps table_c l.s.bytes.now l.s.end (l.n - l.i) l.p)
