use Rattle.repeat_segment.proofs.JoinLaws.{did_chunk}
use mathlib.Core.Path.{sym}
use Rattle.repeat_segment.proofs.write_chunk.Goals as goal

pub returns : goal.returns
returns c = let a = c.args in let p = c.requires in did_chunk a.job.at.bytes.now a.segment a.rows.now a.s _ _ p.1 p.0 (sym c.separators_of-separators.ensures) c.source_of-from.ensures c.put_chunk-at.ensures c.finish_segment.ensures
