use Rattle.std.proofs.Common.{◌-◌}
use Rattle.texts.proofs.Passes.{Found}
use Rattle.texts.proofs.number.places_of.Given as goal

abbrev pub invariant-loop-rest : goal.invariant-loop-rest
invariant-loop-rest l = Found l.n l.bytes l.count l.rest

abbrev pub decreases-loop-rest : goal.decreases-loop-rest
decreases-loop-rest l = 39 - l.count
