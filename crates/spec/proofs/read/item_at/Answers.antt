use Rattle.codec.proofs.Field.{stands_list}
use Rattle.spec.proofs.Standing.{stands_item}
use Rattle.spec.proofs.ReadsLaws.{item_none, item_is}
use native.Mathlib.Omega.{arith}
use Rattle.spec.proofs.read.item_at.Goals as goal

pub num_in-n-requires : goal.num_in-n-requires
num_in-n-requires c = stands_list _ _ _ c.requires

pub returns-then-n-k : goal.returns-then-n-k
returns-then-n-k c = item_none _ _ _ _ c.num_in-n.ensures.0 c.if-n-k.true

pub num_in-requires : goal.num_in-requires
num_in-requires c = stands_item _ _ 4 _ c.requires (omega (arith, c.num_in-n.ensures.0, c.if-n-k.false))

pub returns : goal.returns
returns c = item_is _ _ _ _ _ c.num_in-n.ensures.0 c.if-n-k.false c.num_in.ensures.0
