use native.Mathlib.Omega.{arith}
use Rattle.tree.proofs.ByNumber.{loop_at, upto_start, upto_again, upto_found, upto_none, asked_again, asked_found, asked_none}
use Rattle.tree.proofs.loops.Loops.some.Goals as goal

pub loop-k-init : goal.loop-k-init
loop-k-init g c = (λ f h. upto_start _ _ _ _ _ c.count_at-n.ensures.0, record { clear = λ i l. absurd (omega (arith, l)) })

pub returns-then-test-clause-says : goal.returns-then-test-clause-says
returns-then-test-clause-says g c = λ f h. upto_found _ _ _ f _ c.count_at-n.ensures.0 _ _ _ (c.loop-k.invariant.0 f h) (omega arith) c.place_of-p.ensures.stands
    (h _ _ _ _ (loop_at _ _ _ _ _ c.count_at-n.ensures.0 _ _ (omega arith) c.place_of-p.ensures.stands c.below-children.ensures.stands (omega (arith, c.place_of-p.type_inv)) (omega (arith, c.below-children.type_inv))) c.test.ensures) c.if-test.true

pub returns-then-test-clause-asked : goal.returns-then-test-clause-asked
returns-then-test-clause-asked g c = asked_found _ _ _ _ _ c.count_at-n.ensures.0 _ _ _ _ c.loop-k.invariant.1 (omega arith) c.place_of-p.ensures.stands c.below-children.ensures.stands c.test.ensures c.if-test.true

pub loop-k-preserved : goal.loop-k-preserved
loop-k-preserved g c = (
  λ f h. upto_again _ _ _ f _ c.count_at-n.ensures.0 _ _ _ (c.loop-k.invariant.0 f h) (omega arith) c.place_of-p.ensures.stands
      (h _ _ _ _ (loop_at _ _ _ _ _ c.count_at-n.ensures.0 _ _ (omega arith) c.place_of-p.ensures.stands c.below-children.ensures.stands (omega (arith, c.place_of-p.type_inv)) (omega (arith, c.below-children.type_inv))) c.test.ensures) c.if-test.false,
  asked_again _ _ _ _ _ c.count_at-n.ensures.0 _ _ _ _ c.loop-k.invariant.1 (omega arith) c.place_of-p.ensures.stands c.below-children.ensures.stands c.test.ensures c.if-test.false,
)

pub returns-clause-says : goal.returns-clause-says
returns-clause-says g c = λ f h. upto_none _ _ _ f _ c.count_at-n.ensures.0 _ (c.loop-k.invariant.0 f h) (omega arith)

pub returns-clause-asked : goal.returns-clause-asked
returns-clause-asked g c = asked_none _ _ _ _ _ c.count_at-n.ensures.0 _ c.loop-k.invariant.1 (omega arith)
