use mathlib.Core.Path.{refl}
use Rattle.format.specs.Words.{member_of}
use Rattle.format.specs.Spec.{Loop}
use Rattle.tree.proofs.Tree.{below_says, past_says}
use Rattle.tree.proofs.loops.Loops.is_child.Goals as goal

pub returns-then-n-c-clause-says : goal.returns-then-n-c-clause-says
unfolding member_of
returns-then-n-c-clause-says c = past_says _ _ _ _ _ (λ (v : Loop). member_of c.args.i v.children) _ c.count_at-n.ensures.0 c.if-n-c.true refl

pub returns-clause-says : goal.returns-clause-says
returns-clause-says c = below_says _ _ _ _ _ (member_of c.args.i) _ c.count_at-n.ensures.0 _ c.if-n-c.false c.below-children.ensures.stands c.member_at.ensures
