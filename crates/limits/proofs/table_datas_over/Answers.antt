use Rattle.std.specs.Prelude.{◌≡◌, ◌+◌, ◌-◌}
use Rattle.std.proofs.Common.{subst}
use native.Mathlib.Omega.{arith}
use Rattle.format.specs.Data.{table_data_c}
use Rattle.format.specs.Refusal.{over_table_data}
use Rattle.says.specs.Says.{Clears}
use Rattle.limits.proofs.Rows.{sum_start, sum_again, sum_found, sum_over, sum_none}
use Rattle.limits.proofs.table_datas_over.Goals as goal

pub loop-i-init : goal.loop-i-init
loop-i-init c = let z : c.count_at-n.result - 0 ≡ c.count_at-n.result = omega arith in (omega arith, rw z (sum_start _ _ _ _ _ c.count_at-n.ensures.0 c.le_at-p.ensures))

pub returns-then-rows-gt4096 : goal.returns-then-rows-gt4096
returns-then-rows-gt4096 c = sum_found _ _ _ _ _ _ _ c.loop-i.invariant.1 (omega arith) c.count_at-rows.ensures.0 c.if-rows-gt4096.true

pub returns-in-None : goal.returns-in-None
returns-in-None c = sum_over _ _ _ _ _ _ c.loop-i.invariant.1 (omega arith) (subst (λ x. Clears table_data_c c.args.s.bytes.now c.args.s.end c.loop-i.p over_table_data x) c.in-None.is c.table_data_over.ensures)

pub loop-i-preserved : goal.loop-i-preserved
loop-i-preserved c =
    let z : c.count_at-n.result - (c.loop-i._i + 1) ≡ c.count_at-n.result - c.loop-i._i - 1 = omega arith in
    (c.if-rows-gt4096.false, rw z (sum_again _ _ _ _ _ _ _ _ c.loop-i.invariant.1 (omega arith) c.count_at-rows.ensures.0 (subst (λ x. Clears table_data_c c.args.s.bytes.now c.args.s.end c.loop-i.p over_table_data x) c.in-Some.is c.table_data_over.ensures)))

pub returns : goal.returns
returns c = sum_none _ _ _ _ _ _ c.loop-i.invariant.1 (omega arith) c.loop-i.invariant.0
