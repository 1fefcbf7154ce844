use native.Mathlib.Omega.{arith}
use Rattle.codec.proofs.Field.{stands_at}
use Rattle.format.specs.Plan.{LoopPlan, instances_c}
use Rattle.plan.proofs.Asking.{plan_lacks, plan_is}
use mathlib.Core.Path.{ap, refl}
use Rattle.spec.proofs.RegionLaws.{listed_room}
use Rattle.plan.proofs.planned.instances.Goals as goal

pub item_place-requires : goal.item_place-requires
item_place-requires c = record { small = omega arith; there = listed_room _ _ _ _ _ _ c.requires.0.plan_end c.requires.0.plan }

pub returns-in-None : goal.returns-in-None
returns-in-None c = ap (λ (p : LoopPlan). p.instances) (plan_lacks _ _ c.requires.0 _ _ _ refl refl (rw c.in-None.is at c.item_place.ensures))

pub instances_at-requires : goal.instances_at-requires
instances_at-requires c =
    let i = rw c.in-Some.is at c.item_place.ensures in
    let x = c.requires.0 in
    stands_at instances_c _ _ _ _ _ refl x.plan_end (plan_is _ _ x _ _ _ refl refl _ i.0 c.requires.1 i.1).instances

pub returns-in-Some : goal.returns-in-Some
returns-in-Some c =
    let i = rw c.in-Some.is at c.item_place.ensures in
    let f = plan_is _ _ c.requires.0 _ _ _ refl refl _ i.0 c.requires.1 i.1 in
    c.instances_at.ensures _ _ f.instances
