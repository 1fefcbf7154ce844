use Rattle.nest.proofs.Lacking.{lacks_claim, lacks_anchor, missing_some, missing_none}
use Rattle.nest.proofs.Reports.{stored_finding}
use Rattle.nest.proofs.report.repeat_missing.Goals as goal

pub returns-in-Ok : goal.returns-in-Ok
returns-in-Ok c = stored_finding _ _ _ _ _ _ _ (lacks_claim _ _ _ c.requires.1 _ c.claim.ensures _ c.in-Ok.is) (missing_some _ _ _ _) c.note_words.ensures

pub returns-in-Err : goal.returns-in-Err
returns-in-Err c = stored_finding _ _ _ _ _ _ _ (lacks_anchor _ _ _ c.requires.1 _ c.claim.ensures _ c.in-Err.is) (missing_none _ _ _) c.note_words-in-Err.ensures
