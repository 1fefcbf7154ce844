use Rattle.spec.proofs.RegionLaws.{listed_room}
use mathlib.Core.Path.{refl}
use native.Mathlib.Omega.{arith}
use Rattle.plan.proofs.Asking.{inner_none, inner_some, order_room, order_count, order_at}
use Rattle.plan.proofs.layout.order.Goals as goal

pub item_place-requires : goal.item_place-requires
item_place-requires c = record { small = omega arith; there = listed_room _ _ _ _ _ _ c.requires.0.layout_end c.requires.0.order }

pub num_in-requires : goal.num_in-requires
num_in-requires c = let i = rw c.in-Some.is at c.item_place.ensures in order_room _ _ c.requires.0 _ c.requires.1 _ i.0 i.1

pub returns-in-None : goal.returns-in-None
returns-in-None c = record {
  count = order_count _ _ c.requires.0 _ c.requires.1 _ (inner_none _ _ _ _ _ _ refl refl (rw c.in-None.is at c.item_place.ensures));
  within = c.requires.0.layout_end;
  item = λ k q. absurd (omega (arith, q));
}

pub returns-in-Some : goal.returns-in-Some
returns-in-Some c =
    let i = rw c.in-Some.is at c.item_place.ensures in
    order_at _ _ c.requires.0 _ c.requires.1 _ _ _ (order_count _ _ c.requires.0 _ c.requires.1 _ (inner_some _ _ _ _ _ _ _ _ refl refl i.0 i.1 c.num_in.ensures.0)) i.1 refl refl
