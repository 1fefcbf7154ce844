use Rattle.nest.proofs.Placing.{first_small, hung_hooked, hung_unhooked, hung_unclaimed}
use native.Mathlib.Omega.{arith}
use Rattle.nest.proofs.hang.repeat_place.Goals as goal

pub overflow_add-result : goal.overflow_add-result
overflow_add-result c = omega (arith, first_small _ _ _ _ _ c.args.job.ready.tables.few_rows c.first_row.ensures c.in-Some.is)

pub returns-in-Some : goal.returns-in-Some
returns-in-Some c = hung_hooked _ _ _ c.requires.2 _ _ c.claim_by.ensures _ c.in-Ok.is _ c.first_row.ensures _ c.in-Some.is

pub returns-in-None : goal.returns-in-None
returns-in-None c = hung_unhooked _ _ _ c.requires.2 _ _ c.claim_by.ensures _ c.in-Ok.is _ c.first_row.ensures c.in-None.is

pub returns-in-Err : goal.returns-in-Err
returns-in-Err c = hung_unclaimed _ _ _ c.requires.2 _ _ c.claim_by.ensures _ c.in-Err.is
