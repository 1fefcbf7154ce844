use Rattle.spec.proofs.Storing.{lists_past}
use Rattle.plan.proofs.Filled.{loop_plan_more}
use Rattle.plan.proofs.index.loop_plan_into.Goals as goal

pub returns-then-l-lt32 : goal.returns-then-l-lt32
returns-then-l-lt32 c = λ start old h. loop_plan_more _ _ start _ _ _ _ old _ _ _ c.if-l-lt32.true c.put.ensures c.ends_at-at.ensures c.list_into.ensures h

pub returns : goal.returns
returns c = λ start old h. lists_past _ _ _ _ _ _ _ _ start _ _ _ old _ c.if-l-lt32.false h c.ends_at.ensures
