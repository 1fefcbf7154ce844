use Rattle.codec.specs.Skip.{skip, steps}
use Rattle.codec.specs.Forms.{bytes_c}
use Rattle.codec.specs.Codec.{◌⊗◌, list_c}
use Rattle.spec.specs.Rows.{entry_row, entry_rows}
use Rattle.format.specs.Spec.{segment_c}
use Rattle.codec.specs.Rows.{rows, stored}
use Prim.Native.Nat.{◌+◌, ◌-◌, ◌≤◌}
use mathlib.Core.Path.{◌≡◌}
use Rattle.spec.proofs.fill.entries_into.Given as goal

abbrev pub invariant-loop-i : goal.invariant-loop-i
invariant-loop-i l = (stored l.initial.index 4097 (entry_rows l.s.bytes.now l.s.end l.at) ≡ stored l.index (4097 + l.i) (rows (bytes_c ⊗ segment_c) l.s.bytes.now l.s.end entry_row (l.n - l.i) l.p)) × (l.n ≤ 6655) × (skip (list_c (bytes_c ⊗ segment_c)) l.s.bytes.now l.at l.s.end ≡ steps (bytes_c ⊗ segment_c) l.s.bytes.now l.s.end (l.n - l.i) l.p)
