use mathlib.Core.Path.{refl, sym, ◌∙◌}
use Rattle.format.proofs.Fields.{is_loop}
use Rattle.format.specs.Refusal.{disagrees}
use Rattle.says.proofs.Walk.{says_at}
use Rattle.loops.proofs.Tangle.{third_true, third_false}
use Rattle.codec.proofs.Joined.{or_pick}
use Rattle.loops.proofs.disagrees_at.Goals as goal

pub returns-then-repeats_at : goal.returns-then-repeats_at
unfolding disagrees
returns-then-repeats_at c = λ ls q v i. third_true _ _ _ (sym (says_at _ _ _ _ _ _ _ _ c.repeats_at.ensures.says (is_loop _ _ _ v i).children c.requires) ∙ c.if-repeats_at.true)

pub returns : goal.returns
unfolding disagrees
returns c = λ ls q v i. let l = is_loop _ _ _ v i in simp or_pick (third_false _ _ _ _ _ _ (sym (says_at _ _ _ _ _ _ _ _ c.repeats_at.ensures.says l.children c.requires) ∙ c.if-repeats_at.false) refl (says_at _ _ _ _ _ _ _ _ (c.strangers_at.ensures ls q) l.children c.requires) (says_at _ _ _ _ _ _ _ _ (c.opt_unlisted_at.ensures ls q) l.parent refl))
