use mathlib.Core.Bool.{true≢false, false}
use mathlib.Core.Path.{◌≡◌, refl, sym, ◌∙◌}
use Rattle.std.specs.Prelude.{Option, None, Some, is_some}
use Rattle.repeat_segment.proofs.OrderLaws.{rises_nowhere, rises_there}
use Rattle.plan.specs.Answers.{element_of}
use Rattle.repeat_segment.proofs.order.behind.Goals as goal

none : {A : Type 0} (o : Option A) → is_some o ≡ false → o ≡ None
none None h = refl
none (Some x) h = absurd (true≢false h)

pub returns-in-None : goal.returns-in-None
returns-in-None c = λ b row. let a = c.args in rises_nowhere b a.s a.k row (element_of b a.e) a.last (sym (c.place_of.ensures b) ∙ c.in-None.is)

pub returns-in-Some : goal.returns-in-Some
returns-in-Some c = λ b row. let a = c.args in rises_there b a.s a.k row (element_of b a.e) a.last _ (sym (c.place_of.ensures b) ∙ c.in-Some.is) c.if-last-m.true (none a.e.component (sym c.is_some.ensures ∙ c.if-is_some.false))
