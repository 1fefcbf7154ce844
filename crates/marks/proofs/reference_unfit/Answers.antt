use Rattle.codec.proofs.Field.{is_pair}
use Rattle.format.specs.Refusal.{unfit_reference}
use Rattle.says.proofs.Walk.{says_at}
use Rattle.marks.proofs.reference_unfit.Goals as goal

pub returns : goal.returns
unfolding unfit_reference
returns c v i = let t = is_pair _ _ _ _ _ v i in (says_at _ _ _ _ _ _ _ _ c.opt_column_unfit.ensures t.1 (cc))
