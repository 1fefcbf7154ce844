use mathlib.Core.Path.{sym, ◌∙◌}
use Rattle.places.specs.Spots.{meet}
use borrow.Author.Tests.{le-leb, lt-leb}
use Rattle.places.proofs.spots.meets.Goals as goal

pub returns-then-x-y : goal.returns-then-x-y
unfolding meet
returns-then-x-y c = c.hit.ensures ∙ sym (simp (le-leb _ _ c.if-x-y.true))

pub returns-else-x-y : goal.returns-else-x-y
unfolding meet
returns-else-x-y c = c.hit-else-x-y.ensures ∙ sym (simp (lt-leb _ _ c.if-x-y.false))
