use Rattle.column.proofs.Refs.{reference_is, reference_none, found_stands}
use Rattle.column.proofs.data.reference.Goals as goal

pub opt_int-requires : goal.opt_int-requires
opt_int-requires c = found_stands _ _ _ c.find_ref.result c.find_ref.ensures _ c.in_ok-p.was c.requires

pub returns-in_err-p : goal.returns-in_err-p
returns-in_err-p c = rw c.from_residual.ensures (reference_none _ _ _ c.find_ref.result c.find_ref.ensures _ c.in_err-p.was)

pub returns : goal.returns
returns c = reference_is _ _ _ c.find_ref.result c.find_ref.ensures _ _ c.in_ok-p.was c.opt_int.result c.opt_int.ensures
