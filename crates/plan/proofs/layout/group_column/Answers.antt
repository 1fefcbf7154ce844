use mathlib.Core.List.{[]}
use native.Mathlib.Omega.{arith}
use Rattle.spec.proofs.RegionLaws.{listed_room, listed_stands}
use Rattle.plan.proofs.Asking.{column_lacks, column_is}
use Rattle.plan.proofs.layout.group_column.Goals as goal

pub item_place-requires : goal.item_place-requires
item_place-requires c = record { small = omega arith; there = listed_room _ _ _ _ _ _ c.requires.0.layout_end c.requires.0.columns }

pub returns-in-None : goal.returns-in-None
returns-in-None c = column_lacks _ _ c.requires.0 _ c.requires.1 _ (rw c.in-None.is at c.item_place.ensures)

pub item_at-requires : goal.item_at-requires
item_at-requires c = listed_stands _ _ _ _ _ _ c.requires.0.columns _ _ [] c.requires.1 (rw c.in-Some.is at c.item_place.ensures) c.requires.0.layout_end

pub returns-in-Some : goal.returns-in-Some
returns-in-Some c = c.item_at.ensures _ _ (column_is _ _ c.requires.0 _ c.requires.1 _ (rw c.in-Some.is at c.item_place.ensures))
