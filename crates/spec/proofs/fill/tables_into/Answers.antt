use Rattle.std.specs.Prelude.{◌≡◌, ◌+◌, ◌-◌, ◌*◌}
use Rattle.spec.specs.Rows.{table_rows}
use Rattle.codec.proofs.Skip.{list_start, list_again, list_done}
use Rattle.codec.proofs.Rows.{rows_next, rows_done}
use native.Mathlib.Omega.{arith}
use mathlib.Core.Path.{refl}
use Rattle.spec.proofs.fill.tables_into.Goals as goal

pub loop-i-init : goal.loop-i-init
unfolding table_rows
loop-i-init c =
    let z : c.count_at-n.result - 0 ≡ c.count_at-n.result = omega arith in
    (rw z (cc), omega (arith, c.requires, c.count_at-n.ensures.0), rw z (list_start _ _ _ _ _ _ c.count_at-n.ensures.0 c.le_at-p.ensures))

pub loop-i-preserved : goal.loop-i-preserved
loop-i-preserved c =
    let z : c.count_at-n.result - (c.loop-i.i + 1) ≡ c.count_at-n.result - c.loop-i.i - 1 = omega arith in
    let y : 232 + 6 * (c.loop-i.i + 1) ≡ 232 + 6 * c.loop-i.i + 6 = omega arith in
    (rw (z, y) (rows_next _ _ _ _ _ _ _ _ _ _ _ _ c.loop-i.invariant.0 (omega arith) refl c.table_into-p.ensures.0 c.table_into-p.ensures.1), c.loop-i.invariant.1, rw z (list_again _ _ _ _ _ _ _ c.loop-i.invariant.2 (omega arith) c.table_into-p.ensures.0))

pub returns : goal.returns
returns c = (list_done _ _ _ _ _ _ c.loop-i.invariant.2 (omega arith), rows_done _ _ _ _ _ _ _ _ _ c.loop-i.invariant.0 (omega arith))
