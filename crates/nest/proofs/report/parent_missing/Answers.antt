use Rattle.nest.proofs.Lacking.{lacks_top, lacks_value, lacks_null, missing_some, missing_none}
use Rattle.nest.proofs.Reports.{stored_nothing, stored_finding}
use Rattle.nest.proofs.report.parent_missing.Goals as goal

pub returns-in_default : goal.returns-in_default
returns-in_default c = stored_nothing _ _ _ _ (lacks_top _ _ _ c.requires _ c.table_parent.ensures c.in_default.is) c.more.ensures

pub returns-in-Some-reference : goal.returns-in-Some-reference
returns-in-Some-reference c = stored_finding _ _ _ _ _ _ _ (lacks_value _ _ _ c.requires _ c.table_parent.ensures _ c.in-Some.is _ c.reference.ensures _ c.in-Some-reference.is) (missing_some _ _ _ _) c.note_words.ensures

pub returns-in-None : goal.returns-in-None
returns-in-None c = stored_finding _ _ _ _ _ _ _ (lacks_null _ _ _ c.requires _ c.table_parent.ensures _ c.in-Some.is _ c.reference.ensures c.in-None.is) (missing_none _ _ _) c.note_words-in-None.ensures
