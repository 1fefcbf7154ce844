use Rattle.places.proofs.Reading.{clash_is}
use Rattle.places.proofs.spots.clashes.Goals as goal

pub returns-then-is_misplaced : goal.returns-then-is_misplaced
returns-then-is_misplaced c = clash_is _ _ _ _ _ _ _ (rw c.step.ensures at c.meets-m.ensures) c.is_misplaced.ensures (rw c.if-is_misplaced.true)

pub returns-then-m : goal.returns-then-m
returns-then-m c = clash_is _ _ _ _ _ _ _ (rw c.step.ensures at c.meets-m.ensures) c.is_misplaced.ensures (rw (c.if-is_misplaced.false, c.if-m.true) c.is_mixed.ensures)

pub returns-else-m : goal.returns-else-m
returns-else-m c = clash_is _ _ _ _ _ _ _ (rw c.step.ensures at c.meets-m.ensures) c.is_misplaced.ensures (rw (c.if-is_misplaced.false, c.if-m.false))
