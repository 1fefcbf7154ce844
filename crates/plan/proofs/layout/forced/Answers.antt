use Rattle.spec.proofs.RegionLaws.{listed_room}
use borrow.Author.Tests.{le-ltb}
use mathlib.Core.Path.{refl, ◌∙◌}
use native.Mathlib.Omega.{arith}
use Rattle.plan.proofs.Asking.{inner_none, inner_some, forced_room, forced_lacks, forced_there, forced_is}
use Rattle.plan.proofs.layout.forced.Goals as goal

pub item_place-requires : goal.item_place-requires
item_place-requires c = record { small = omega arith; there = listed_room _ _ _ _ _ _ c.requires.0.layout_end c.requires.0.forced }

pub num_in-n-requires : goal.num_in-n-requires
num_in-n-requires c = let i = rw c.in-Some.is at c.item_place.ensures in forced_room _ _ c.requires.0 _ c.requires.1 _ i.0 i.1

pub bounds-job-p : goal.bounds-job-p
bounds-job-p c =
    let i = rw c.in-Some.is at c.item_place.ensures in
    forced_there _ _ c.requires.0 _ c.requires.1 _ _ _ (inner_some _ _ _ _ _ _ _ _ refl refl i.0 i.1 c.num_in-n.ensures.0) c.if-i-n.true i.1

pub returns-in-None : goal.returns-in-None
returns-in-None c = forced_lacks _ _ c.requires.0 _ c.requires.1 _ _ (inner_none _ _ _ _ _ _ refl refl (rw c.in-None.is at c.item_place.ensures)) (omega arith)

pub returns-then-i-n : goal.returns-then-i-n
returns-then-i-n c =
    let i = rw c.in-Some.is at c.item_place.ensures in
    forced_is _ _ c.requires.0 _ c.requires.1 _ _ _ (inner_some _ _ _ _ _ _ _ _ refl refl i.0 i.1 c.num_in-n.ensures.0) c.if-i-n.true i.1

pub returns-else-i-n : goal.returns-else-i-n
returns-else-i-n c =
    let i = rw c.in-Some.is at c.item_place.ensures in
    le-ltb _ _ c.if-i-n.false ∙ forced_lacks _ _ c.requires.0 _ c.requires.1 _ _ (inner_some _ _ _ _ _ _ _ _ refl refl i.0 i.1 c.num_in-n.ensures.0) c.if-i-n.false
