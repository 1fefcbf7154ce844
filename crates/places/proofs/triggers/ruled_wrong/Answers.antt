use Rattle.format.proofs.Fields.{is_loop_plan}
use Rattle.spec.proofs.Found.{place_nowhere, place_at}
use Rattle.says.proofs.Walk.{says_at}
use Rattle.places.proofs.Turning.{ruled_nowhere, ruled_there}
use Rattle.places.proofs.triggers.ruled_wrong.Goals as goal

pub returns-in-None : goal.returns-in-None
returns-in-None c v i = ruled_nowhere _ _ _ v _ c.trigger-name.ensures.bytes (place_nowhere _ _ _ _ _ c.elements_of.ensures c.in-None.is)

pub returns-in-Some : goal.returns-in-Some
returns-in-Some c v i = let l = is_loop_plan _ _ _ v i in
    ruled_there _ _ _ v _ _ _ _ _ _ _ c.trigger-name.ensures.bytes (place_at _ _ _ _ _ c.elements_of.ensures _ c.in-Some.is) c.trigger_of-t.ensures c.spec_of-spec.ensures.1
    (λ xs o. says_at _ _ _ _ _ _ _ _ ((rw c.spec_of-spec.ensures.0 at c.triggers_wrong.ensures) xs o) l.segments (cc))
