use Rattle.std.specs.Prelude.{◌≡◌, ◌+◌, ◌-◌}
use native.Mathlib.Omega.{arith}
use Rattle.says.proofs.Behind.{before_step, before_nil, behind_start, behind_again, behind_found, behind_none}
use Rattle.says.proofs.Asked.{asking_start, asking_again, asking_found, asking_none}
use Rattle.says.proofs.lists.any_before.Goals as goal

pub loop-i-init : goal.loop-i-init
loop-i-init g c = (λ u h. let z : c.count_at-n.result - 0 ≡ c.count_at-n.result = omega arith in rw z (behind_start _ _ _ _ _ _ _ c.count_at-n.ensures.0 c.le_at-p.ensures), omega (arith, c.le_at-p.type_inv), asking_start _ _ _ _ _ _ c.le_at-p.ensures)

pub returns-then-test-clause-says : goal.returns-then-test-clause-says
returns-then-test-clause-says g c u h = behind_found _ _ _ _ _ u (before_step u) _ _ _ _ (c.loop-i.invariant.0 u h) (omega arith) c.ends_at-q.ensures (h _ _ _ _ c.loop-i.invariant.1 (omega arith) (omega (arith, c.ends_at-q.type_inv)) c.test.ensures) c.if-test.true

pub returns-then-test-clause-asked : goal.returns-then-test-clause-asked
returns-then-test-clause-asked g c = rw (← c.count_at-n.ensures.0) (asking_found _ _ _ _ _ _ _ _ _ c.loop-i.invariant.2 (omega arith) (rw (← c.ends_at-q.ensures) c.test.ensures) c.if-test.true)

pub loop-i-preserved : goal.loop-i-preserved
loop-i-preserved g c = (
  λ u h.
      let z : c.count_at-n.result - (c.loop-i.i + 1) ≡ c.count_at-n.result - c.loop-i.i - 1 = omega arith in
      rw z (behind_again _ _ _ _ _ u (before_step u) _ _ _ _ (c.loop-i.invariant.0 u h) (omega arith) c.ends_at-q.ensures (h _ _ _ _ c.loop-i.invariant.1 (omega arith) (omega (arith, c.ends_at-q.type_inv)) c.test.ensures) c.if-test.false),
  omega (arith, c.ends_at-q.type_inv),
  asking_again _ _ _ _ _ _ _ _ _ c.loop-i.invariant.2 (rw (← c.ends_at-q.ensures) c.test.ensures) c.if-test.false c.ends_at-q.ensures,
)

pub returns-clause-says : goal.returns-clause-says
returns-clause-says g c u h = behind_none _ _ _ _ _ (before_nil u) _ _ (c.loop-i.invariant.0 u h) (omega arith)

pub returns-clause-asked : goal.returns-clause-asked
returns-clause-asked g c = rw (← c.count_at-n.ensures.0) (asking_none _ _ _ _ _ _ _ _ c.loop-i.invariant.2 (omega arith))
