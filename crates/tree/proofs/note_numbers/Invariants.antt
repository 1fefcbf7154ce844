use Rattle.std.specs.Prelude.{◌-◌, ◌≤◌, ◌≡◌, length}
use Rattle.codec.specs.Forms.{num_c}
use Rattle.tree.proofs.Names.{Noting}
use Rattle.tree.proofs.note_numbers.Given as goal

abbrev pub invariant-loop-k : goal.invariant-loop-k
invariant-loop-k l = (length l.names ≡ length l.initial.names) × ((l.k ≤ length l.names) × Noting num_c (λ xs. xs) l.s.bytes.now l.s.end l.at l.names l.k (l.n - l.k) l.p)
