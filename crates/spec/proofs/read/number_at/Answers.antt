use Rattle.codec.proofs.Answers.{opt_nothing, opt_number}
use Rattle.codec.proofs.Field.{stands_le, stands_opt, stands_some}
use Rattle.spec.proofs.Held.{is_unset, is_set}
use Rattle.spec.proofs.read.number_at.Goals as goal

pub flag_at-requires : goal.flag_at-requires
flag_at-requires c = stands_opt _ _ _ c.requires

pub returns-then-not-flag_at : goal.returns-then-not-flag_at
returns-then-not-flag_at c = opt_nothing _ _ (is_unset c.flag_at.ensures c.if-not-flag_at.true)

pub num_in-requires : goal.num_in-requires
num_in-requires c = stands_le _ _ _ (stands_some _ _ _ c.requires (is_set c.flag_at.ensures c.if-not-flag_at.false))

pub returns : goal.returns
returns c = opt_number _ _ _ (is_set c.flag_at.ensures c.if-not-flag_at.false) c.num_in.ensures.0
