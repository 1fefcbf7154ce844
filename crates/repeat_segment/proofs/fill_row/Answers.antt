use Rattle.repeat_segment.proofs.FillLaws.{did_fill}
use Rattle.repeat_segment.proofs.fill_row.Goals as goal

pub returns : goal.returns
returns c = let a = c.args in let p = c.requires in did_fill a.job.at.bytes.now a.segment a.k a.r.0 a.s p.1 p.0 c.fill_elements.ensures
