use Rattle.std.proofs.Common.{refl, ◌∙◌, to_z-of_z, w64}
use Rattle.texts.proofs.Integers.{cast_is}
use Rattle.texts.proofs.number.from_bits64.Goals as goal

pub returns : goal.returns
returns c = to_z-of_z {w = w64} (record { sfits = c.cast_signed.type_inv }) ∙ c.cast_signed.ensures ∙ cast_is w64 c.args.n refl
