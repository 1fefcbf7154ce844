use mathlib.Core.Path.{◌∙◌}
use native.Mathlib.Omega.{arith}
use Rattle.std.specs.Prelude.{None}
use Rattle.spec.proofs.RegionLaws.{listed_room, listed_stands}
use Rattle.plan.proofs.Asking.{depth_lacks, depth_is}
use Rattle.plan.proofs.layout.depth.Goals as goal

pub item_place-requires : goal.item_place-requires
item_place-requires c = record { small = omega arith; there = listed_room _ _ _ _ _ _ c.requires.0.layout_end c.requires.0.depth }

pub returns-in-None : goal.returns-in-None
returns-in-None c = depth_lacks _ _ c.requires.0 _ c.requires.1 (rw c.in-None.is at c.item_place.ensures)

pub number_at-requires : goal.number_at-requires
number_at-requires c = listed_stands _ _ _ _ _ _ c.requires.0.depth _ _ None c.requires.1 (rw c.in-Some.is at c.item_place.ensures) c.requires.0.layout_end

pub returns-in-Some : goal.returns-in-Some
returns-in-Some c = c.unwrap_or.ensures ∙ depth_is _ _ c.requires.0 _ c.requires.1 _ (rw c.in-Some.is at c.item_place.ensures) _ (c.number_at.ensures _ _)
