use mathlib.Core.Path.{refl}
use native.Mathlib.Omega.{arith}
use Rattle.format.proofs.Decoding.{sound_of, spoilt_is}
use Rattle.codec.proofs.Joined.{or_pick, pick_pick}
use Rattle.format.proofs.spoilt_at.Goals as goal

pub overflow_sub-t : goal.overflow_sub-t
overflow_sub-t c = omega (arith, (sound_of _ c.requires).least)

pub num-plan-requires : goal.num-plan-requires
num-plan-requires c = omega (arith, (sound_of _ c.requires).most)

pub num-layout-requires : goal.num-layout-requires
num-layout-requires c = omega (arith, (sound_of _ c.requires).most)

pub num-envelope-requires : goal.num-envelope-requires
num-envelope-requires c = omega (arith, (sound_of _ c.requires).most)

pub num-data-requires : goal.num-data-requires
num-data-requires c = omega (arith, (sound_of _ c.requires).most)

pub spoils-x-requires : goal.spoils-x-requires
spoils-x-requires c = (omega (arith, sound_of _ c.requires), (sound_of _ c.requires).most)

pub spoils-y-requires : goal.spoils-y-requires
spoils-y-requires c = (omega (arith, sound_of _ c.requires), (sound_of _ c.requires).most)

pub spoils-z-requires : goal.spoils-z-requires
spoils-z-requires c = (omega (arith, sound_of _ c.requires), (sound_of _ c.requires).most)

pub spoils-v-requires : goal.spoils-v-requires
spoils-v-requires c = (omega (arith, sound_of _ c.requires), (sound_of _ c.requires).most)

pub spoils-w-requires : goal.spoils-w-requires
spoils-w-requires c = (omega (arith, sound_of _ c.requires), (sound_of _ c.requires).most)

pub returns : goal.returns
returns c = simp (or_pick, pick_pick) (cc (spoilt_is _ _ _ _ _ _ _ _ _ _ _ refl c.num-plan.ensures.0 c.num-layout.ensures.0 c.num-envelope.ensures.0 c.num-data.ensures.0 refl refl refl refl refl))
