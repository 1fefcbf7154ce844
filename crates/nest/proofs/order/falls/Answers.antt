use mathlib.Core.Path.{refl}
use native.Mathlib.Omega.{arith}
use Rattle.nest.proofs.RisingRows.{falls_start, place_within, falls_yes, falls_no, falls_never}
use Rattle.nest.proofs.order.falls.Goals as goal

pub loop-k-init : goal.loop-k-init
loop-k-init c = (λ t e q. falls_start _ t, omega arith)

pub bounds-nest-i : goal.bounds-nest-i
bounds-nest-i c = omega (arith, place_within _ _ c.requires _ _ _ _ c.first_row-base.ensures c.row_count-rows.ensures c.loop-k-test.true)

pub bounds-nest-before : goal.bounds-nest-before
bounds-nest-before c = omega (arith, place_within _ _ c.requires _ _ _ _ c.first_row-base.ensures c.row_count-rows.ensures c.loop-k-test.true)

pub returns-then-nest-i : goal.returns-then-nest-i
returns-then-nest-i c = falls_yes _ _ c.requires _ _ _ _ c.first_row-base.ensures c.row_count-rows.ensures c.loop-k-test.true _ _ refl refl c.loop-k.invariant.1 (c.loop-k.invariant.0 _ c.first_row-base.ensures c.row_count-rows.ensures) c.if-nest-i.true

pub loop-k-preserved : goal.loop-k-preserved
loop-k-preserved c = (λ t e q. falls_no _ _ c.requires t _ _ _ e q c.loop-k-test.true _ _ refl refl c.loop-k.invariant.1 (c.loop-k.invariant.0 t e q) c.if-nest-i.false, omega arith)

pub returns : goal.returns
returns c = falls_never _ _ _ _ c.row_count-rows.ensures c.loop-k-test.false (c.loop-k.invariant.0 _ c.first_row-base.ensures c.row_count-rows.ensures)
