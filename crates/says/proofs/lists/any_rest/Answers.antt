use Rattle.std.specs.Prelude.{◌≡◌, ◌+◌, ◌-◌}
use native.Mathlib.Omega.{arith}
use Rattle.says.proofs.Behind.{any_step, any_nil, still_start, still_again, still_found, still_none}
use mathlib.Core.Path.{refl}
use Rattle.says.proofs.Asked.{asking_start, asking_again, asking_found, asking_none}
use Rattle.says.proofs.lists.any_rest.Goals as goal

pub loop-i-init : goal.loop-i-init
loop-i-init g c = (λ f h. let z : c.args.rest - 0 ≡ c.args.rest = omega arith in rw z (still_start _ _ _ _ _ _), omega arith, asking_start _ _ _ _ _ _ refl)

pub returns-then-test-clause-says : goal.returns-then-test-clause-says
returns-then-test-clause-says g c f h = still_found _ _ _ _ _ _ _ (any_step f) _ _ _ (c.loop-i.invariant.0 f h) (omega arith) (h _ _ c.loop-i.invariant.1 c.test.ensures) c.if-test.true

pub returns-then-test-clause-asked : goal.returns-then-test-clause-asked
returns-then-test-clause-asked g c = asking_found _ _ _ _ _ _ _ _ _ c.loop-i.invariant.2 (omega arith) c.test.ensures c.if-test.true

pub loop-i-preserved : goal.loop-i-preserved
loop-i-preserved g c = (
  λ f h.
      let z : c.args.rest - (c.loop-i._i + 1) ≡ c.args.rest - c.loop-i._i - 1 = omega arith in
      rw z (still_again _ _ _ _ _ _ _ (any_step f) _ _ _ _ (c.loop-i.invariant.0 f h) (omega arith) c.ends_at-p.ensures (h _ _ c.loop-i.invariant.1 c.test.ensures) c.if-test.false),
  omega (arith, c.ends_at-p.type_inv),
  asking_again _ _ _ _ _ _ _ _ _ c.loop-i.invariant.2 c.test.ensures c.if-test.false c.ends_at-p.ensures,
)

pub returns-clause-says : goal.returns-clause-says
returns-clause-says g c f h = still_none _ _ _ _ _ _ (any_nil f) _ _ (c.loop-i.invariant.0 f h) (omega arith)

pub returns-clause-asked : goal.returns-clause-asked
returns-clause-asked g c = asking_none _ _ _ _ _ _ _ _ c.loop-i.invariant.2 (omega arith)
