use Rattle.walk.specs.Check.{fits}
use Rattle.nest.specs.OfJob.{outline_of}
use Rattle.format.specs.Sections.{job_of}
use lib.ListN.{length}
use Prim.Native.Nat.{◌-◌}
use mathlib.Core.Path.{◌≡◌}
use Rattle.paths.proofs.up.fits.Given as goal

abbrev pub invariant-loop-i : goal.invariant-loop-i
invariant-loop-i l = fits (outline_of (job_of l.job.at.bytes.now)) (length (outline_of (job_of l.job.at.bytes.now)).loops) l.initial.at l.initial.last ≡ fits (outline_of (job_of l.job.at.bytes.now)) (l.n - l._i) l.at l.last
