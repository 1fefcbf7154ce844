use Rattle.spec.proofs.Index.{row_none, row_is}
use native.Mathlib.Omega.{arith}
use Rattle.spec.proofs.read.row_place.Goals as goal

pub num_in-requires : goal.num_in-requires
num_in-requires c = omega (arith, c.requires, c.place-p.ensures.0)

pub returns-then-num_in-i : goal.returns-then-num_in-i
returns-then-num_in-i c = row_none _ _ _ _ _ _ _ _ _ c.place-p.ensures.0 c.num_in.ensures.0 c.if-num_in-i.true

pub returns : goal.returns
returns c = row_is _ _ _ _ _ _ _ _ _ c.place-p.ensures.0 c.num_in.ensures.0 _ c.if-num_in-i.false c.place.ensures.0
