use mathlib.Core.Path.{◌≡◌}
use Rattle.nest.specs.OutlineAt.{outline_at}
use Rattle.walk.specs.Contexts.{context_by}
use Rattle.walk.proofs.TourLaws.{some_child}
use Prim.Native.Nat.{◌-◌}
use Rattle.instances.proofs.+has_instance.Given as goal

abbrev pub decreases-has_instance : goal.decreases-has_instance
decreases-has_instance l = l.height

abbrev pub invariant-loop-i : goal.invariant-loop-i
invariant-loop-i l = some_child (outline_at l.nest.job.at.bytes.now) (l.height - 1) l.l.0 (context_by l.c) 0 ≡ some_child (outline_at l.nest.job.at.bytes.now) (l.height - 1) l.l.0 (context_by l.c) l.i
