use Rattle.codec.proofs.Field.{stands_opt}
use Rattle.spec.proofs.Standing.{stands_control}
use Rattle.spec.proofs.ReadsLaws.{control_none, control_is}
use Rattle.spec.proofs.Held.{is_unset, is_set}
use native.Mathlib.Omega.{arith}
use Rattle.spec.proofs.read.control_at.Goals as goal

pub flag_at-requires : goal.flag_at-requires
flag_at-requires c = stands_opt _ _ _ c.requires

pub returns-then-not-flag_at : goal.returns-then-not-flag_at
returns-then-not-flag_at c = control_none _ _ (is_unset c.flag_at.ensures c.if-not-flag_at.true)

pub num_in-requires : goal.num_in-requires
num_in-requires c = omega (arith, stands_control _ _ (is_set c.flag_at.ensures c.if-not-flag_at.false) c.requires)

pub num_in-requires-2 : goal.num_in-requires-2
num_in-requires-2 c = omega (arith, stands_control _ _ (is_set c.flag_at.ensures c.if-not-flag_at.false) c.requires)

pub num_in-requires-3 : goal.num_in-requires-3
num_in-requires-3 c = omega (arith, stands_control _ _ (is_set c.flag_at.ensures c.if-not-flag_at.false) c.requires)

pub flag_at-requires-2 : goal.flag_at-requires-2
flag_at-requires-2 c = omega (arith, stands_control _ _ (is_set c.flag_at.ensures c.if-not-flag_at.false) c.requires)

pub returns : goal.returns
returns c = control_is _ _ _ (is_set c.flag_at.ensures c.if-not-flag_at.false) c.num_in.ensures.0 c.num_in-2.ensures.0 c.num_in-3.ensures.0 c.flag_at-2.ensures
