use native.Mathlib.Omega.{arith}
use mathlib.Core.Path.{◌∙◌}
use Rattle.due.proofs.Bridge.{child_small}
use Rattle.instances.proofs.Made.{implied_of}
use Rattle.instances.proofs.Some.{some_deep, some_found, some_next, some_none, some_coming}
use Rattle.instances.proofs.+has_instance.Goals as goal

pub returns-then-height-eq0 : goal.returns-then-height-eq0
returns-then-height-eq0 t c = some_deep _ _ _ _ c.if-height-eq0.true

pub has_instance-requires : goal.has_instance-requires
has_instance-requires t c = (omega (arith, c.args.nest.nested), (c.requires.0, child_small _ c.args.nest.nested.ready.passed _ _ _ _ c.child_count-n.ensures c.loop-i-test.true c.child-k.ensures))

pub returns-then-has_instance : goal.returns-then-has_instance
returns-then-has_instance t c = some_found _ _ _ _ c.if-height-eq0.false _ (implied_of _ _ c.instances-kind.result _ c.instances-kind.ensures c.by_children.ensures) c.if-by_children.true _ _ c.child_count-n.ensures c.loop-i.invariant _ _ c.loop-i-test.true c.child-k.ensures c.has_instance.ensures c.if-has_instance.true

pub loop-i-preserved : goal.loop-i-preserved
loop-i-preserved t c = some_next _ _ _ _ c.if-height-eq0.false _ (implied_of _ _ c.instances-kind.result _ c.instances-kind.ensures c.by_children.ensures) c.if-by_children.true _ _ c.child_count-n.ensures c.loop-i.invariant _ _ c.loop-i-test.true c.child-k.ensures c.has_instance.ensures c.if-has_instance.false

pub returns-then-by_children : goal.returns-then-by_children
returns-then-by_children t c = some_none _ _ _ _ c.if-height-eq0.false _ (implied_of _ _ c.instances-kind.result _ c.instances-kind.ensures c.by_children.ensures) c.if-by_children.true _ _ c.child_count-n.ensures c.loop-i.invariant c.loop-i-test.false

pub returns : goal.returns
returns t c = c.is_some.ensures ∙ some_coming _ _ _ _ _ c.if-height-eq0.false _ c.by_kind-cur.ensures _ c.next_instance.ensures
