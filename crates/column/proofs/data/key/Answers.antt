use Rattle.column.proofs.Refs.{key_is}
use Rattle.column.proofs.data.key.Goals as goal

pub returns : goal.returns
returns c = key_is _ _ _ _ c.opt_int.ensures _ c.unwrap_or.ensures
