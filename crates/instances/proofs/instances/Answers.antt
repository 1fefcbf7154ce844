use Rattle.instances.proofs.Made.{implied_of}
use Rattle.instances.proofs.Some.{gives_none, gives_one, deep_none, implied_one, implied_none, all_coming}
use Rattle.instances.proofs.instances.Goals as goal

pub returns-then-height-eq0 : goal.returns-then-height-eq0
returns-then-height-eq0 c = gives_none _ _ _ _ _ c.requires.1 c.requires.0 _ c.rowless.ensures (deep_none _ _ _ _ c.if-height-eq0.true)

pub returns-then-has_instance : goal.returns-then-has_instance
returns-then-has_instance c = gives_one _ _ _ _ _ c.requires.1 c.requires.0 _ c.rowless-then-has_instance.ensures (implied_one _ _ _ _ c.if-height-eq0.false _ (implied_of _ _ c.instances-kind.result _ c.instances-kind.ensures c.by_children.ensures) c.if-not-by_children.false _ c.has_instance.ensures c.if-has_instance.true)

pub returns-else-has_instance : goal.returns-else-has_instance
returns-else-has_instance c = gives_none _ _ _ _ _ c.requires.1 c.requires.0 _ c.rowless-else-has_instance.ensures (implied_none _ _ _ _ c.if-height-eq0.false _ (implied_of _ _ c.instances-kind.result _ c.instances-kind.ensures c.by_children.ensures) c.if-not-by_children.false _ c.has_instance.ensures c.if-has_instance.false)

pub returns-then-not-by_children : goal.returns-then-not-by_children
returns-then-not-by_children c = (all_coming _ _ _ _ _ c.if-height-eq0.false _ c.by_kind.ensures, c.by_kind.ensures.going)
