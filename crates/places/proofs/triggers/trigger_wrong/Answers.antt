use native.Mathlib.Omega.{arith}
use mathlib.Core.Path.{refl}
use Rattle.codec.proofs.Field.{is_at}
use Rattle.codec.proofs.Ways.{case_is, case_not}
use Rattle.format.proofs.Fields.{is_segment_plan}
use Rattle.plan.proofs.Reading.{source_room}
use Rattle.places.proofs.Turning.{trigger_yes, trigger_no}
use Rattle.places.proofs.triggers.trigger_wrong.Goals as goal

pub returns-then-eq : goal.returns-then-eq
returns-then-eq c xs o v i = let l = is_segment_plan _ _ _ v i in
    trigger_yes _ _ _ _ (case_is _ _ _ _ c.case.ensures _ _ c.eq.ensures c.if-eq.true) _ xs v _ refl (is_at _ _ _ _ _ _ c.le_at-source.ensures l.source)
    (c.elements_wrong.ensures _ (is_at _ _ _ _ _ _ (cc) l.elements) xs o)

pub returns-else-eq : goal.returns-else-eq
returns-else-eq c xs o v i =
    let l = is_segment_plan _ _ _ v i in
    let s = is_at _ _ _ _ _ _ c.le_at-source.ensures l.source in
    rw c.if-eq.false (trigger_no _ _ _ _ refl _ xs v (source_room _ _ _ _ s) (case_not _ _ _ _ c.case.ensures _ _ c.eq.ensures c.if-eq.false (omega arith)) s)
