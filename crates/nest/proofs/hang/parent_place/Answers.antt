use Rattle.nest.proofs.Placing.{referred_small, hung_top, hung_parent, hung_lost}
use native.Mathlib.Omega.{arith}
use Rattle.nest.proofs.hang.parent_place.Goals as goal

pub overflow_add-result : goal.overflow_add-result
overflow_add-result c = omega (arith, referred_small _ _ _ _ _ _ c.args.job.ready.tables.few_rows c.referred.ensures c.in-Some-referred.is)

pub returns-in-Some-referred : goal.returns-in-Some-referred
returns-in-Some-referred c = hung_parent _ _ _ c.requires.1 _ c.table_parent.ensures _ c.in-Some.is _ c.referred.ensures _ c.in-Some-referred.is

pub returns-in-None-referred : goal.returns-in-None-referred
returns-in-None-referred c = hung_lost _ _ _ c.requires.1 _ c.table_parent.ensures _ c.in-Some.is _ c.referred.ensures c.in-None-referred.is

pub returns-in-None : goal.returns-in-None
returns-in-None c = hung_top _ _ _ c.requires.1 _ c.table_parent.ensures c.in-None.is
