use Rattle.paths.proofs.Answers.{order_segment}
use Rattle.paths.proofs.order.once_seen.Goals as goal

pub returns-then-i-lt32 : goal.returns-then-i-lt32
returns-then-i-lt32 c = order_segment _ _ _ _ (c.requires.1 _ c.if-i-lt32.true)
