use Rattle.nest.proofs.Placing.{storing_none, storing_next, storing_end, table_next, before_all}
use Rattle.nest.proofs.Bridge.{data-count-is}
use Rattle.nest.proofs.NestLaws.{array_all}
use Prim.Native.Nat.{◌*◌}
use mathlib.Core.Path.{sym, ap, ◌∙◌}
use Rattle.nest.proofs.rows.nest_rows.Goals as goal

pub loop-t-init : goal.loop-t-init
loop-t-init c = storing_none _ _ _ _ _ (ap (λ k. k * 3) (before_all _))

pub loop-t-preserved : goal.loop-t-preserved
loop-t-preserved c = storing_next _ _ _ _ _ _ _ _ _ _ c.loop-t.invariant (c.data_count-count.ensures ∙ sym (data-count-is _)) c.loop-t-test.true c.nest_table.ensures (table_next _ _)

pub returns : goal.returns
returns c = storing_end _ _ _ _ _ _ _ _ _ c.loop-t.invariant (c.data_count-count.ensures ∙ sym (data-count-is _)) c.loop-t-test.false (array_all _)
