use Rattle.nest.proofs.Lacking.{agrees_null, agrees_above, agrees_same, differs, mismatch_words}
use Rattle.nest.proofs.Reports.{stored_nothing, stored_finding}
use Rattle.nest.proofs.report.contradiction_at.Goals as goal

pub returns-in_default : goal.returns-in_default
returns-in_default c = stored_nothing _ _ _ _ (agrees_null _ _ _ _ _ _ _ c.reference.ensures c.in_default.is) c.more.ensures

pub returns-in_default-reference : goal.returns-in_default-reference
returns-in_default-reference c = stored_nothing _ _ _ _ (agrees_above _ _ _ _ _ _ _ _ c.reference.ensures c.reference-2.ensures _ c.in-Some.is c.in_default-reference.is) c.more-in_default-reference.ensures

pub returns-then-v-w : goal.returns-then-v-w
returns-then-v-w c = stored_nothing _ _ _ _ (agrees_same _ _ _ _ _ _ _ _ c.reference.ensures c.reference-2.ensures _ _ c.in-Some.is c.in-Some-reference.is c.if-v-w.true) c.more-then-v-w.ensures

pub returns : goal.returns
returns c = stored_finding _ _ _ _ _ _ _ (differs _ _ _ _ _ _ _ _ c.reference.ensures c.reference-2.ensures _ _ c.in-Some.is c.in-Some-reference.is c.if-v-w.false) (mismatch_words _ _ _ _ _ _ _) c.note_words.ensures
