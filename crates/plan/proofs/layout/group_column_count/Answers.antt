use native.Mathlib.Omega.{arith}
use Rattle.spec.proofs.RegionLaws.{listed_room}
use mathlib.Core.Path.{refl}
use Rattle.plan.proofs.Asking.{inner_none, inner_some, column_room, column_count}
use Rattle.plan.proofs.layout.group_column_count.Goals as goal

pub item_place-requires : goal.item_place-requires
item_place-requires c = record { small = omega arith; there = listed_room _ _ _ _ _ _ c.requires.0.layout_end c.requires.0.columns }

pub num_in-requires : goal.num_in-requires
num_in-requires c = let i = rw c.in-Some.is at c.item_place.ensures in column_room _ _ c.requires.0 _ c.requires.1 _ i.0 i.1

pub returns-in-None : goal.returns-in-None
returns-in-None c = column_count _ _ c.requires.0 _ c.requires.1 _ (inner_none _ _ _ _ _ _ refl refl (rw c.in-None.is at c.item_place.ensures))

pub returns-in-Some : goal.returns-in-Some
returns-in-Some c = let i = rw c.in-Some.is at c.item_place.ensures in column_count _ _ c.requires.0 _ c.requires.1 _ (inner_some _ _ _ _ _ _ _ _ refl refl i.0 i.1 c.num_in.ensures.0)
