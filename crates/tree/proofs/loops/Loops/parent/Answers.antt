use native.Mathlib.Omega.{arith}
use Rattle.codec.proofs.Ways.{case_is, case_not}
use mathlib.Core.Path.{refl}
use Rattle.format.proofs.Fields.{is_loop}
use Rattle.format.specs.Spec.{Loop}
use Rattle.tree.specs.Parts.{held}
use Rattle.tree.proofs.Tree.{held_not, held_there, loop_says, past_says}
use Rattle.tree.proofs.loops.Loops.parent.Goals as goal

pub returns-then-count_at-c-clause-says : goal.returns-then-count_at-c-clause-says
returns-then-count_at-c-clause-says c = past_says _ _ _ _ _ (λ (v : Loop). held v.parent) _ c.count_at.ensures.0 c.if-count_at-c.true refl

pub returns-then-eq-clause-says : goal.returns-then-eq-clause-says
returns-then-eq-clause-says c = loop_says _ _ _ _ _ (λ (v : Loop). held v.parent) _ c.count_at.ensures.0 _ c.if-count_at-c.false c.place_of-p.ensures.stands (λ v i. held_there _ _ _ _ (case_is _ _ _ _ c.case.ensures _ _ c.eq.ensures c.if-eq.true) _ _ refl c.le_at-q.ensures c.count_at-then-eq.ensures.0 _ (is_loop _ _ _ v i).parent)

pub returns-clause-says : goal.returns-clause-says
returns-clause-says c = loop_says _ _ _ _ _ (λ (v : Loop). held v.parent) _ c.count_at.ensures.0 _ c.if-count_at-c.false c.place_of-p.ensures.stands (λ v i. held_not _ _ _ _ refl (case_not _ _ _ _ c.case.ensures _ _ c.eq.ensures c.if-eq.false (omega arith)) _ (is_loop _ _ _ v i).parent)
