use Rattle.trigger.proofs.Openers.{none_yet, still_left, still_known, one_more, one_less, all_drawn, element_shape}
use native.Mathlib.Omega.{arith}
use lib.ListN.{length}
use Prim.Native.Nat.{◌≤◌}
use mathlib.Core.Path.{refl, ◌∙◌}
use Rattle.lent.proofs.Fit.{wide}
use Rattle.trigger.proofs.opener.put_elements.Goals as goal

pub loop-rest-init : goal.loop-rest-init
loop-rest-init c = (refl, refl, λ o. none_yet o.entries o.rises o.mins c.more-start.ensures refl refl refl refl)

pub element-x-requires : goal.element-x-requires
element-x-requires c = let s = c.args.w.now.job.ready.segments in record { job = (s.trailed, s.short, s.within); left = still_left (c.loop-rest.invariant.2 c.requires) c.loop-rest-test.true }

pub put_element-drawn-requires : goal.put_element-drawn-requires
put_element-drawn-requires c = still_known (c.loop-rest.invariant.2 c.requires) c.loop-rest-test.true c.element-x.ensures

pub loop-rest-smaller : goal.loop-rest-smaller
loop-rest-smaller c = one_less (c.loop-rest.invariant.2 c.requires) c.loop-rest-test.true c.next_element-rest.ensures

pub loop-rest-preserved : goal.loop-rest-preserved
loop-rest-preserved c = (c.put_element-drawn.auto.doc ∙ c.loop-rest.invariant.0, c.put_element-drawn.auto.findings ∙ c.loop-rest.invariant.1, λ o. let h : length c.args.findings.now ≤ wide = omega arith in one_more (c.loop-rest.invariant.2 o) (element_shape _ _ _ _ _) h c.loop-rest-test.true c.element-x.ensures c.put_element-drawn.ensures c.next_element-rest.ensures)

pub returns : goal.returns
returns c = λ o. all_drawn (c.loop-rest.invariant.2 o) c.loop-rest-test.false
