use mathlib.Core.Path.{sym, ◌∙◌}
use Rattle.format.specs.Refusal.{misordered}
use Rattle.loops.proofs.Tangle.{second_true, second_false}
use Rattle.loops.proofs.misordered_at.Goals as goal

pub returns-then-order_repeats : goal.returns-then-order_repeats
unfolding misordered
returns-then-order_repeats c = λ ls q v i. second_true _ _ (sym (c.order_repeats.ensures v i) ∙ c.if-order_repeats.true)

pub returns : goal.returns
unfolding misordered
returns c = λ ls q v i. second_false _ _ _ (sym (c.order_repeats.ensures v i) ∙ c.if-order_repeats.false) (c.items_misplaced.ensures ls q v i)
