use Rattle.nest.proofs.Reports.{stored_nothing, stored_finding, duplicate_no, duplicate_own, duplicate_yes, duplicate_words}
use borrow.Author.Rules.{rules}
use Rattle.nest.proofs.duplicates.duplicate_at.Goals as goal

pub returns-in_default : goal.returns-in_default
returns-in_default c = stored_nothing _ _ _ _ (duplicate_no _ _ _ _ c.requires c.key-key.ensures _ c.first_with.ensures c.in_default.is) c.more.ensures

pub returns-then-le : goal.returns-then-le
returns-then-le c = stored_nothing _ _ _ _ (duplicate_own _ _ _ _ c.requires c.key-key.ensures _ c.first_with.ensures _ c.in-Some.is (search rules)) c.more-then-le.ensures

pub returns : goal.returns
returns c = stored_finding _ _ _ _ _ _ _ (duplicate_yes _ _ _ _ c.requires c.key-key.ensures _ c.first_with.ensures _ c.in-Some.is (search rules)) (duplicate_words _ _ _ _ c.requires c.key-key.ensures _ c.first_with.ensures _) c.note_words.ensures
