use Rattle.std.proofs.Common.{subst}
use Rattle.says.specs.Says.{Clears}
use Rattle.std.specs.Prelude.{◌≡◌, ◌+◌, ◌-◌}
use native.Mathlib.Omega.{arith}
use Rattle.says.proofs.Pass.{pass_start, pass_again, pass_found, pass_none}
use Rattle.says.proofs.Asked.{passed_start, passed_again, passed_found, passed_end}
use Rattle.says.proofs.lists.list_clear.Goals as goal

pub loop-i-init : goal.loop-i-init
loop-i-init g c = (λ f h. let z : c.count_at-n.result - 0 ≡ c.count_at-n.result = omega arith in rw z (pass_start g.F.Form.codec c.args.s.bytes.now c.args.s.end c.args.at f _ _ c.count_at-n.ensures.0 c.le_at-p.ensures), omega (arith, c.le_at-p.type_inv), passed_start _ _ _ c.le_at-p.ensures)

pub returns-in-None-clause-says : goal.returns-in-None-clause-says
returns-in-None-clause-says g c f h = pass_found _ _ _ _ _ _ _ (c.loop-i.invariant.0 f h) (omega arith) (subst (λ x. Clears g.F.Form.codec c.args.s.bytes.now c.args.s.end c.loop-i.p f x) c.in-None.is (h _ _ c.loop-i.invariant.1 c.test.ensures))

pub returns-in-None-clause-asked : goal.returns-in-None-clause-asked
returns-in-None-clause-asked g c = passed_found _ _ _ _ _ _ c.loop-i.invariant.2 (omega (arith, c.count_at-n.ensures.0)) c.test.ensures c.in-None.is

pub loop-i-preserved : goal.loop-i-preserved
loop-i-preserved g c = (
  λ f h.
      let z : c.count_at-n.result - (c.loop-i._i + 1) ≡ c.count_at-n.result - c.loop-i._i - 1 = omega arith in
      rw z (pass_again _ _ _ _ _ _ _ _ (c.loop-i.invariant.0 f h) (omega arith) (subst (λ x. Clears g.F.Form.codec c.args.s.bytes.now c.args.s.end c.loop-i.p f x) c.in-Some.is (h _ _ c.loop-i.invariant.1 c.test.ensures))),
  omega (arith, c.test.type_inv),
  passed_again _ _ _ _ _ _ c.loop-i.invariant.2 c.test.ensures c.in-Some.is,
)

pub returns-clause-says : goal.returns-clause-says
returns-clause-says g c f h = pass_none _ _ _ _ _ _ _ (c.loop-i.invariant.0 f h) (omega arith)

pub returns-clause-asked : goal.returns-clause-asked
returns-clause-asked g c = passed_end _ _ _ _ _ c.loop-i.invariant.2 (omega (arith, c.count_at-n.ensures.0))
