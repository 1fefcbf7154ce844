use mathlib.Core.Path.{refl}
use Rattle.format.proofs.Fields.{is_loop}
use Rattle.format.specs.Words.{if_some}
use Rattle.format.specs.Spec.{Loop}
use Rattle.tree.proofs.Tree.{loop_says, past_says}
use lib.Dec.{eqb}
use Rattle.tree.proofs.loops.Loops.parent_is.Goals as goal

pub returns-then-count_at-c-clause-says : goal.returns-then-count_at-c-clause-says
unfolding if_some
returns-then-count_at-c-clause-says c = past_says _ _ _ _ _ (λ (v : Loop). if_some (eqb c.args.i) v.parent) _ c.count_at.ensures.0 c.if-count_at-c.true refl

pub returns-clause-says : goal.returns-clause-says
returns-clause-says c = loop_says _ _ _ _ _ (λ (v : Loop). if_some (eqb c.args.i) v.parent) _ c.count_at.ensures.0 _ c.if-count_at-c.false c.place_of-p.ensures.stands (λ v i. c.opt_same_at.ensures _ (is_loop _ _ _ v i).parent)
