use Rattle.std.specs.Prelude.{◌-◌, ◌≤◌, ◌≡◌, length}
use Rattle.format.specs.Layout.{item_c}
use Rattle.format.specs.Refusal.{loops_in}
use Rattle.tree.proofs.Names.{Noting}
use Rattle.loops.proofs.note_names.Given as goal

abbrev pub invariant-loop-i : goal.invariant-loop-i
invariant-loop-i l = (length l.names ≡ length l.initial.names) × ((l.k ≤ length l.names) × Noting item_c loops_in l.s.bytes.now l.s.end l.at l.names l.k (l.n - l._i) l.p)
