use native.Mathlib.Omega.{arith}
use Rattle.spec.proofs.RegionLaws.{listed_room}
use mathlib.Core.Path.{ap, refl}
use lib.ListN.{length}
use Rattle.format.specs.Plan.{LoopPlan}
use Rattle.plan.proofs.Asking.{plan_lacks, planned_room, planned_are}
use Rattle.plan.proofs.planned.planned_count.Goals as goal

pub item_place-requires : goal.item_place-requires
item_place-requires c = record { small = omega arith; there = listed_room _ _ _ _ _ _ c.requires.0.plan_end c.requires.0.plan }

pub returns-in-None : goal.returns-in-None
returns-in-None c = ap (λ (p : LoopPlan). length p.segments) (plan_lacks _ _ c.requires.0 _ _ _ refl refl (rw c.in-None.is at c.item_place.ensures))

pub list_count-requires : goal.list_count-requires
list_count-requires c = let i = rw c.in-Some.is at c.item_place.ensures in record { there = planned_room _ _ c.requires.0 _ _ _ refl refl i.0 c.requires.1 }

pub returns-in-Some : goal.returns-in-Some
returns-in-Some c = let i = rw c.in-Some.is at c.item_place.ensures in planned_are _ _ c.requires.0 _ _ _ refl refl _ _ i.0 c.requires.1 refl c.list_count.ensures
