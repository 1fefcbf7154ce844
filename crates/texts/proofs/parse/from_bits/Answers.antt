use Rattle.std.proofs.Common.{refl, ◌∙◌, to_z-of_z, w32}
use Rattle.texts.proofs.Integers.{cast_is}
use Rattle.texts.proofs.parse.from_bits.Goals as goal

pub returns : goal.returns
returns c = to_z-of_z {w = w32} (record { sfits = c.cast_signed.type_inv }) ∙ c.cast_signed.ensures ∙ cast_is w32 c.args.n refl
