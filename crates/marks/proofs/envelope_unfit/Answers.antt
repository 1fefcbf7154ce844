use mathlib.Core.Path.{refl}
use Rattle.codec.proofs.Field.{is_at}
use Rattle.format.proofs.Fields.{is_envelope_lem}
use Rattle.format.specs.Refusal.{unfit_envelope}
use Rattle.says.proofs.Walk.{both, only, says_at}
use Rattle.codec.proofs.Joined.{or_pick, pick_pick}
use Rattle.marks.proofs.Marks.{two_first}
use Rattle.marks.specs.Parts.{marked}
use Rattle.marks.proofs.envelope_unfit.Goals as goal

pub returns : goal.returns
unfolding unfit_envelope marked
returns c v i =
    let l = is_envelope_lem _ _ _ v i in
    let s = c.marks_unfit-separators.ensures v (is_at _ _ _ _ _ _ (cc) l.element) (is_at _ _ _ _ _ _ (cc) l.component) (is_at _ _ _ _ _ _ (cc) l.segment) (is_at _ _ _ _ _ _ (cc) l.repetition) in
    simp (or_pick, pick_pick) (two_first _ _ _ _ _ _ refl s
    (both _ _ _ _ _ refl (says_at _ _ _ _ _ _ _ _ c.foreign_at-x.ensures l.sender_qualifier refl)
    (both _ _ _ _ _ refl (says_at _ _ _ _ _ _ _ _ c.foreign_at-y.ensures l.sender_id (cc))
    (both _ _ _ _ _ refl (says_at _ _ _ _ _ _ _ _ c.foreign_at-z.ensures l.receiver_qualifier (cc))
    (both _ _ _ _ _ refl (says_at _ _ _ _ _ _ _ _ c.foreign_at-u.ensures l.receiver_id (cc))
    (both _ _ _ _ _ refl (says_at _ _ _ _ _ _ _ _ c.opt_foreign_at-v.ensures l.application_sender (cc))
    (both _ _ _ _ _ refl (says_at _ _ _ _ _ _ _ _ c.opt_foreign_at-w.ensures l.application_receiver (cc))
    (only _ _ (says_at _ _ _ _ _ _ _ _ c.foreign_at-t.ensures l.usage_indicator (cc))))))))))
