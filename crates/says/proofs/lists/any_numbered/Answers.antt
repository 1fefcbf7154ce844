use Rattle.std.specs.Prelude.{◌≡◌, ◌+◌, ◌-◌}
use native.Mathlib.Omega.{arith}
use Rattle.says.proofs.Behind.{from_start, from_again, from_found, from_none}
use Rattle.says.proofs.Asked.{asking_start, asking_again, asking_found, asking_none}
use Rattle.says.proofs.lists.any_numbered.Goals as goal

pub loop-k-init : goal.loop-k-init
loop-k-init g c = (λ f h. let z : c.count_at-n.result - 0 ≡ c.count_at-n.result = omega arith in rw z (from_start _ _ _ _ _ _ _ c.count_at-n.ensures.0 c.le_at-p.ensures), omega (arith, c.le_at-p.type_inv), asking_start _ _ _ _ _ _ c.le_at-p.ensures)

pub test-requires : goal.test-requires
test-requires g c = c.requires _ _ (omega (arith, c.count_at-n.ensures.0)) c.loop-k.invariant.1

pub returns-then-test-clause-says : goal.returns-then-test-clause-says
returns-then-test-clause-says g c f h = from_found _ _ _ _ f _ _ _ _ (c.loop-k.invariant.0 f h) (omega arith) (h _ _ _ (omega (arith, c.count_at-n.ensures.0)) c.loop-k.invariant.1 c.test.ensures) c.if-test.true

pub returns-then-test-clause-asked : goal.returns-then-test-clause-asked
returns-then-test-clause-asked g c = asking_found _ _ _ _ _ _ _ _ _ c.loop-k.invariant.2 (omega (arith, c.count_at-n.ensures.0)) c.test.ensures c.if-test.true

pub loop-k-preserved : goal.loop-k-preserved
loop-k-preserved g c = (
  λ f h.
      let z : c.count_at-n.result - (c.loop-k.k + 1) ≡ c.count_at-n.result - c.loop-k.k - 1 = omega arith in
      rw z (from_again _ _ _ _ f _ _ _ _ _ (c.loop-k.invariant.0 f h) (omega arith) c.ends_at-p.ensures (h _ _ _ (omega (arith, c.count_at-n.ensures.0)) c.loop-k.invariant.1 c.test.ensures) c.if-test.false),
  omega (arith, c.ends_at-p.type_inv),
  asking_again _ _ _ _ _ _ _ _ _ c.loop-k.invariant.2 c.test.ensures c.if-test.false c.ends_at-p.ensures,
)

pub returns-clause-says : goal.returns-clause-says
returns-clause-says g c f h = from_none _ _ _ _ f _ _ _ (c.loop-k.invariant.0 f h) (omega arith)

pub returns-clause-asked : goal.returns-clause-asked
returns-clause-asked g c = asking_none _ _ _ _ _ _ _ _ c.loop-k.invariant.2 (omega (arith, c.count_at-n.ensures.0))
