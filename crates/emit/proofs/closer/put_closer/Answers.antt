use Rattle.emit.proofs.JoinLaws.{closer_count_first, closer_control_first}
use Rattle.segment.specs.Values.{value_text}
use Rattle.lent.specs.Window.{stretch}
use Rattle.emit.proofs.closer.put_closer.Goals as goal

pub returns-then-c : goal.returns-then-c
returns-then-c c = let a = c.args.c in let j = c.args.job.now in λ k e f. closer_count_first a.sep (stretch j a.id.start a.id.len) k (value_text j a.control) (value_text j c.count_value-number.result) a.counted a.closer a.count e f (c.count_value-number.ensures j) c.if-c.true c.join_two.ensures

pub returns : goal.returns
returns c = let a = c.args.c in let j = c.args.job.now in λ k e f. closer_control_first a.sep (stretch j a.id.start a.id.len) k (value_text j a.control) (value_text j c.count_value-number.result) a.counted a.closer a.count e f (c.count_value-number.ensures j) c.if-c.false c.join_two-2.ensures
