use Rattle.emit.proofs.FindingLaws.{none_stored}
use Rattle.enter.proofs.Laws.{order_unseen, order_not_lower}
use borrow.Author.Rules.{rules}
use Rattle.enter.proofs.note_order.Goals as goal

pub returns-in_default : goal.returns-in_default
returns-in_default c = rw (order_unseen _ _ _ _ c.in_default.is) (none_stored c.more.ensures)

pub returns : goal.returns
returns c = rw (order_not_lower _ _ c.args.r.0 _ c.in-Some.highest c.in-Some.is (search rules)) (none_stored c.more-2.ensures)
