use Rattle.std.specs.Prelude.{◌≡◌, ◌+◌, ◌-◌}
use Rattle.std.proofs.Common.{subst}
use native.Mathlib.Omega.{arith}
use Rattle.says.specs.Says.{Says}
use Rattle.says.proofs.Pass.{pass_start, pass_again, pass_found, pass_none, clear_by, none_by}
use Rattle.says.proofs.Asked.{asking_start, asking_again, asking_found, asking_end}
use Rattle.says.proofs.lists.any_clear.Goals as goal

pub loop-i-init : goal.loop-i-init
loop-i-init g c = (λ f h. let z : c.count_at-n.result - 0 ≡ c.count_at-n.result = omega arith in rw z (pass_start g.F.Form.codec c.args.s.bytes.now c.args.s.end c.args.at f _ _ c.count_at-n.ensures.0 c.le_at-p.ensures), omega (arith, c.le_at-p.type_inv), asking_start _ _ _ _ _ _ c.le_at-p.ensures)

pub returns-then-test-clause-says : goal.returns-then-test-clause-says
returns-then-test-clause-says g c f h = pass_found _ _ _ _ _ _ _ (c.loop-i.invariant.0 f h) (omega arith) (none_by _ _ _ _ _ (subst (λ x. Says g.F.Form.codec c.args.s.bytes.now c.args.s.end c.loop-i.p f x) c.if-test.true (h _ _ c.loop-i.invariant.1 c.test.ensures)))

pub returns-then-test-clause-asked : goal.returns-then-test-clause-asked
returns-then-test-clause-asked g c = asking_found _ _ _ _ _ _ _ _ _ c.loop-i.invariant.2 (omega (arith, c.count_at-n.ensures.0)) c.test.ensures c.if-test.true

pub loop-i-preserved : goal.loop-i-preserved
loop-i-preserved g c = (
  λ f h.
      let z : c.count_at-n.result - (c.loop-i._i + 1) ≡ c.count_at-n.result - c.loop-i._i - 1 = omega arith in
      rw z (pass_again _ _ _ _ _ _ _ _ (c.loop-i.invariant.0 f h) (omega arith) (clear_by _ _ _ _ _ _ (subst (λ x. Says g.F.Form.codec c.args.s.bytes.now c.args.s.end c.loop-i.p f x) c.if-test.false (h _ _ c.loop-i.invariant.1 c.test.ensures)) c.ends_at-p.ensures)),
  omega (arith, c.ends_at-p.type_inv),
  asking_again _ _ _ _ _ _ _ _ _ c.loop-i.invariant.2 c.test.ensures c.if-test.false c.ends_at-p.ensures,
)

pub returns-clause-says : goal.returns-clause-says
returns-clause-says g c f h = pass_none _ _ _ _ _ _ _ (c.loop-i.invariant.0 f h) (omega arith)

pub returns-clause-asked : goal.returns-clause-asked
returns-clause-asked g c = asking_end _ _ _ _ _ _ _ _ c.loop-i.invariant.2 (omega (arith, c.count_at-n.ensures.0))
