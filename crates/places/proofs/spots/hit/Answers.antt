use mathlib.Core.Path.{sym}
use Rattle.places.specs.Spots.{hits}
use borrow.Author.Tests.{eq-eqb, ne_eqb}
use Rattle.places.proofs.spots.hit.Goals as goal

pub returns-then-step-eq0 : goal.returns-then-step-eq0
unfolding hits
returns-then-step-eq0 c = sym (simp (eq-eqb _ _ c.if-step-eq0.true))

pub returns-then-y-x-eq0 : goal.returns-then-y-x-eq0
unfolding hits
returns-then-y-x-eq0 c = sym (simp (ne_eqb _ _ c.if-step-eq0.false, eq-eqb _ _ c.if-y-x-eq0.true))

pub returns-else-y-x-eq0 : goal.returns-else-y-x-eq0
unfolding hits
returns-else-y-x-eq0 c = sym (simp (ne_eqb _ _ c.if-step-eq0.false, ne_eqb _ _ c.if-y-x-eq0.false))
