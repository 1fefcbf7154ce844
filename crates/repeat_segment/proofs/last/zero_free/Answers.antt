use Rattle.repeat_segment.proofs.ZeroLaws.{zero_none, zero_some}
use Rattle.repeat_segment.proofs.last.zero_free.Goals as goal

pub returns-then-count-eq0 : goal.returns-then-count-eq0
returns-then-count-eq0 c = let a = c.args in zero_none a.job.now a.s a.count c.if-count-eq0.true

pub returns : goal.returns
returns c = let a = c.args in zero_some a.job.now a.s a.count c.if-count-eq0.false c.all_above.ensures
