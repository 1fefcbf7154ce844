use Rattle.marks.proofs.Marks.{named_long, named_not}
use Rattle.marks.proofs.unnamed_at.Goals as goal

pub returns-then-within : goal.returns-then-within
returns-then-within c = named_long _ _ _ _ c.count_at-n.ensures.0 _ _ c.within.ensures c.if-within.true c.strays_at.ensures

pub returns : goal.returns
returns c = named_not _ _ _ _ c.count_at-n.ensures.0 _ c.within.ensures c.if-within.false
