use mathlib.Core.Path.{sym, ◌∙◌}
use native.Mathlib.Omega.{arith}
use Rattle.nest.proofs.Bridge.{data-count-is}
use Rattle.nest.proofs.Placing.{storing_next, storing_end}
use Rattle.nest.proofs.RisingRows.{flagged, flags_all, array_kept}
use Rattle.nest.proofs.order.mark_rising.Goals as goal

pub loop-t-preserved : goal.loop-t-preserved
loop-t-preserved c = (storing_next _ _ _ _ _ _ _ _ _ _ c.loop-t.invariant.0 (c.data_count-count.ensures ∙ sym (data-count-is _)) c.loop-t-test.true (flagged _ _ c.loop-t.nest _ _ _ c.falls-down.ensures c.put_flag.ensures) (omega arith), array_kept _ c.loop-t.nest _ _ _ (omega (arith, c.requires.1)) c.loop-t.invariant.1 c.put_flag.ensures)

pub returns : goal.returns
returns c = storing_end _ _ _ _ _ _ _ _ _ c.loop-t.invariant.0 (c.data_count-count.ensures ∙ sym (data-count-is _)) c.loop-t-test.false (flags_all _)
