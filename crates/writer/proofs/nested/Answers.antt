use mathlib.Core.Path.{refl, sym, ◌∙◌}
use borrow.Author.Tests.{ltb-true}
use Rattle.writer.proofs.AnswerLaws.{refused_6, passed_refusal, wrote_refused}
use Rattle.writer.proofs.nested.Goals as goal

pub returns-then-many : goal.returns-then-many
returns-then-many c = wrote_refused 5 _ (refused_6 _ (passed_refusal _ c.requires.ready.passed) (ltb-true _ _ (sym c.crowded-many.ensures ∙ c.if-many.true))) refl refl
