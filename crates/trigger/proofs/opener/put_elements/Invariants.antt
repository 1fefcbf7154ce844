use Rattle.trigger.proofs.Openers.{SoFar}
use lib.ListN.{length}
use mathlib.Core.Path.{◌≡◌}
use Rattle.nest.specs.Job.{job_by}
use Rattle.trigger.specs.Drawn.{trigger_of, element_put, Opening}
use Rattle.trigger.proofs.opener.put_elements.Given as goal

abbrev pub invariant-loop-rest : goal.invariant-loop-rest
invariant-loop-rest l = (length l.doc ≡ length l.initial.doc) × (length l.findings ≡ length l.initial.findings) × ((o : Opening l.w l.initial.rest) → SoFar l.w.job.at.bytes.now (job_by l.w.job) l.w.sep (trigger_of l.w) (element_put l.w) o.elements l.initial.drawn.pen l.at l.initial.doc l.initial.findings l.doc l.findings l.drawn l.rest)

abbrev pub decreases-loop-rest : goal.decreases-loop-rest
decreases-loop-rest l = l.rest.left
