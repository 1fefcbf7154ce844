use native.Mathlib.Omega.{arith}
use mathlib.Core.Path.{sym}
use borrow.Author.Tests.{ne_eqb}
use Rattle.places.specs.Triggers.{field_gives}
use Rattle.places.proofs.triggers.field_gives.Goals as goal

pub returns-in-11 : goal.returns-in-11
unfolding field_gives
returns-in-11 c = rw c.in-11.is

pub returns-then-plain : goal.returns-then-plain
unfolding field_gives
returns-then-plain c = rw (c.in-10.is, c.if-plain.true)

pub returns-else-plain : goal.returns-else-plain
unfolding field_gives
returns-else-plain c = rw (c.in-10.is, c.if-plain.false)

pub returns-in_default : goal.returns-in_default
unfolding field_gives
returns-in_default c = sym (simp (ne_eqb c.args.f 11 (λ h. omega (arith, h)), ne_eqb c.args.f 10 (λ h. omega (arith, h))))
