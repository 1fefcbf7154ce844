use native.Mathlib.Omega.{arith}
use Rattle.spec.proofs.region.item_place.Goals as goal

pub num_in-requires : goal.num_in-requires
num_in-requires c = omega (arith, c.requires.there, c.place-list.ensures.0)

pub returns-then-num_in-i : goal.returns-then-num_in-i
returns-then-num_in-i c = rw (← c.place-list.ensures.0, ← c.num_in.ensures.0) c.if-num_in-i.true

pub returns : goal.returns
returns c = (rw (← c.place-list.ensures.0, ← c.num_in.ensures.0) (omega (arith, c.if-num_in-i.false)), c.place.ensures.0, c.place.ensures.1)
