use Rattle.std.proofs.Common.{ℕ, List}
use Rattle.nest.specs.Finding.{Finding}
use Rattle.nest.specs.Notes.{NotesAs}
use Rattle.nest.proofs.Reports.{Reported}
use Rattle.nest.proofs.noted.each_below.Given as goal

abbrev pub invariant-loop-k : goal.invariant-loop-k
invariant-loop-k g l = (p : ℕ → List Finding) → NotesAs (goal.F-post g l.note) p l.n → Reported p l.n l.initial.findings l.at l.findings l.next l.k
