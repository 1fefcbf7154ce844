use Rattle.nest.specs.OutlineAt.{outline_at}
use Rattle.census.proofs.Bounding.{Most}
use Prim.Native.Nat.{◌-◌}
use Rattle.census.proofs.+most.Given as goal

abbrev pub decreases-most : goal.decreases-most
decreases-most l = l.height

abbrev pub invariant-loop-i : goal.invariant-loop-i
invariant-loop-i l = Most (outline_at l.nest.job.at.bytes.now) (l.height - 1) l.l.0 l.i l.s
