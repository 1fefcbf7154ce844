use mathlib.Core.Path.{refl}
use Rattle.codec.proofs.Field.{stands_list}
use Rattle.spec.proofs.ReadsLaws.{stretch_is}
use Rattle.spec.proofs.read.stretch_at.Goals as goal

pub num_in-requires : goal.num_in-requires
num_in-requires c = stands_list _ _ _ c.requires

pub returns : goal.returns
returns c = stretch_is _ _ _ refl c.num_in.ensures.0
