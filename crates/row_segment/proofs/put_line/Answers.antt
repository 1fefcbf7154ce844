use Rattle.row_segment.proofs.RowLaws.{did_line}
use Rattle.row_segment.proofs.put_line.Goals as goal

pub returns : goal.returns
returns c = let a = c.args in λ p. did_line a.job.at.bytes.now a.x c.join_line-g.result c.requires.1 c.join_line-g.ensures.1 c.join_line-g.ensures.0 c.finish_segment.ensures
