use Rattle.std.proofs.Common.{ℕ, Bool}
use Rattle.format.specs.Sections.{job_of}
use Rattle.format.specs.Ask.{planned_of}
use Rattle.nest.specs.Seek.{AnswersAs}
use Rattle.due.proofs.Ways.{Placed, None_before}
use Rattle.due.proofs.cells.some_column.Given as goal

abbrev pub invariant-loop-k : goal.invariant-loop-k
invariant-loop-k g l =
    Placed l.job.at.bytes.now (planned_of (job_of l.job.at.bytes.now) l.l.0 l.i).elements l.k-end l.p l.k
    × ((p : ℕ → Bool) → AnswersAs (goal.F-post g l.passes) p 4294967296 → None_before p (planned_of (job_of l.job.at.bytes.now) l.l.0 l.i).elements l.k)
