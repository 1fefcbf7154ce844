use Rattle.format.proofs.Decoding.{sound_of}
use native.Mathlib.Omega.{arith}
use Rattle.says.proofs.start.Goals as goal

pub overflow_sub-t : goal.overflow_sub-t
overflow_sub-t c = omega (arith, (sound_of _ c.requires).least)

pub num-requires : goal.num-requires
num-requires c = omega (arith, (sound_of _ c.requires).most)
