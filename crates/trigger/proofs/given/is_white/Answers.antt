use borrow.Author.Tests.{eq-eqb, ne_eqb, le-leb, lt-leb}
use mathlib.Core.Path.{◌∙◌}
use Rattle.trigger.proofs.Givens.{white_space, white_low}
use Rattle.trigger.proofs.given.is_white.Goals as goal

pub returns-then-b-eq32 : goal.returns-then-b-eq32
returns-then-b-eq32 c = eq-eqb _ _ c.if-b-eq32.true ∙ white_space _ c.if-b-eq32.true

pub returns-then-b-ge9 : goal.returns-then-b-ge9
returns-then-b-ge9 c = rw (ne_eqb _ 32 c.if-b-eq32.false, le-leb 9 _ c.if-b-ge9.true)

pub returns-else-b-ge9 : goal.returns-else-b-ge9
returns-else-b-ge9 c = lt-leb _ _ c.if-b-ge9.false ∙ white_low _ c.if-b-eq32.false c.if-b-ge9.false
