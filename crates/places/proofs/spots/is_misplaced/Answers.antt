use mathlib.Core.Path.{ap, ◌∙◌}
use mathlib.Core.Bool.{not}
use Rattle.places.specs.Spots.{misplaced}
use Rattle.places.proofs.Ranking.{rank_eqb}
use Rattle.places.proofs.spots.is_misplaced.Goals as goal

pub returns-in-Envelope : goal.returns-in-Envelope
unfolding misplaced
returns-in-Envelope c = rw c.in-Envelope.is

pub returns-in-Row : goal.returns-in-Row
unfolding misplaced
returns-in-Row c = rw c.in-Row.is (ap not c.in_front.ensures)

pub returns-then-m : goal.returns-then-m
unfolding misplaced
returns-then-m c = rw (c.in-Repeat.is, c.if-m.true) (c.eq.ensures ∙ rank_eqb _ _)

pub returns-else-m : goal.returns-else-m
unfolding misplaced
returns-else-m c = rw (c.in-Repeat.is, c.if-m.false)
