use Rattle.repeat_segment.specs.Places.{text_in}
use Rattle.plan.specs.Answers.{element_of}
use Rattle.repeat_segment.proofs.HighLaws.{filled_none}
use Rattle.repeat_segment.proofs.last.number_if.Goals as goal

pub returns-then-n-eq0 : goal.returns-then-n-eq0
returns-then-n-eq0 c = let a = c.args in filled_none (text_in a.job.at.bytes.now a.s a.m a.r.0 (element_of a.job.at.bytes.now a.e)).text a.n c.if-n-eq0.true
