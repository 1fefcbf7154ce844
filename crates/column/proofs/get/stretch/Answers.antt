use Rattle.column.proofs.Lists.{to_negative, falling, passing, stretch_is}
use Rattle.column.proofs.get.stretch.Goals as goal

pub returns-then-to-ge2147483648 : goal.returns-then-to-ge2147483648
returns-then-to-ge2147483648 c = to_negative _ _ _ _ c.if-to-ge2147483648.true

pub returns-then-to-from : goal.returns-then-to-from
returns-then-to-from c = falling _ _ _ _ c.if-to-ge2147483648.false c.if-to-from.true

pub returns-then-n-to : goal.returns-then-n-to
returns-then-n-to c = passing _ _ _ _ c.if-to-ge2147483648.false c.if-to-from.false c.if-n-to.true

pub returns : goal.returns
returns c = stretch_is _ _ _ _ c.if-to-ge2147483648.false c.if-to-from.false c.if-n-to.false
