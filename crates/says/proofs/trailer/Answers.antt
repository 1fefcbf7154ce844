use Rattle.format.proofs.Decoding.{sound_of}
use native.Mathlib.Omega.{arith}
use Rattle.says.proofs.trailer.Goals as goal

pub overflow_sub-result : goal.overflow_sub-result
overflow_sub-result c = omega (arith, (sound_of _ c.requires).least)

pub overflow_cast-result : goal.overflow_cast-result
overflow_cast-result c = omega (arith, (sound_of _ c.requires).most)
