use Prim.Native.Nat.{ℕ, ◌≤◌}
use mathlib.Core.Path.{◌≡◌}
use Rattle.format.specs.Sections.{job_of}
use Rattle.format.specs.Ask as A
use Rattle.tables.specs.Parts as T
use Rattle.nest.specs.OfJob.{outline_of}
use Rattle.nest.specs.Rising.{falls}
use Rattle.nest.proofs.RisingRows.{falls_from}
use Rattle.nest.proofs.order.falls.Given as goal

abbrev pub invariant-loop-k : goal.invariant-loop-k
invariant-loop-k l = ((t : ℕ) → l.base ≡ T.rows_before (job_of l.job.at.bytes.now).tables t → l.rows ≡ (A.data_of (job_of l.job.at.bytes.now) t).rows → falls (outline_of (job_of l.job.at.bytes.now)) t ≡ falls_from (outline_of (job_of l.job.at.bytes.now)) t l.k) × (1 ≤ l.k)
