use Rattle.codec.proofs.Field.{stands_opt}
use Rattle.spec.proofs.Standing.{stands_step}
use Rattle.spec.proofs.ReadsLaws.{step_none, step_is}
use Rattle.spec.proofs.Held.{is_unset, is_set}
use native.Mathlib.Omega.{arith}
use Rattle.spec.proofs.read.step_at.Goals as goal

pub flag_at-requires : goal.flag_at-requires
flag_at-requires c = stands_opt _ _ _ c.requires

pub num_in-requires : goal.num_in-requires
num_in-requires c = omega (arith, stands_step _ _ (is_set c.flag_at.ensures c.if-flag_at.true) c.requires)

pub returns-then-flag_at : goal.returns-then-flag_at
returns-then-flag_at c = step_is _ _ _ (is_set c.flag_at.ensures c.if-flag_at.true) c.num_in.ensures.0

pub returns : goal.returns
returns c = step_none _ _ (is_unset c.flag_at.ensures c.if-flag_at.false)
