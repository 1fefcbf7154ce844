-- The numbers of places that a job which passed plans: 255 at most, and so is a repeat table's step.
use Prim.Native.Nat.{ℕ, ◌≤◌}
use mathlib.Core.Path.{◌≡◌, refl}
use mathlib.Core.Bool.{Bool, true, false}
use mathlib.Core.List.{List, [], ◌∷◌}
use native.Mathlib.Omega.{arith}
use Rattle.std.specs.Prelude.{Option, None, Some}
use lib.ListN.{get_or}
use borrow.Author.Tests.{ltb-false}
use Rattle.codec.specs.Codec.{pick}
use Rattle.codec.proofs.Limits.{none_of}
use Rattle.codec.specs.Limits.{any_of}
use Rattle.format.specs.Words.{if_some}
use Rattle.format.specs.Spec.{Repeat, Table, no_table}
use Rattle.format.specs.Plan.{ElementPlan, SegmentPlan, LoopPlan, no_segment_plan, no_loop_plan}
use Rattle.format.specs.Job.{Job}
use Rattle.format.specs.Ask.{plan_of, planned_of, table_of, step_of}
use Rattle.format.specs.Refusal.{large, over_step, over_table, over_element_plan, over_segment_plan, over_loop_plan, over_spec, over}
use Rattle.segment.specs.Parts.{or_one}
use Rattle.nest.specs.Lists.{on, All}
use Rattle.nest.proofs.Alls.{all_weaker}
use Rattle.lossless.proofs.Words.{all_get}

pub none_all : {A : Type 0} (f : A → Bool) (xs : List A) → any_of f xs ≡ false → All (λ x. f x ≡ false) xs
unfolding any_of
none_all f [] h = tt
none_all {A} f (x ∷ xs) h = go (f x) refl h (none_all f xs)
  where
    go : (t : Bool) → f x ≡ t → pick t true (any_of f xs) ≡ false → (any_of f xs ≡ false → All (λ x. f x ≡ false) xs) → All (λ x. f x ≡ false) (x ∷ xs)
    go true e h more = absurd (let z : ◌≡◌ {A = ℕ} 0 1 = cc in omega arith)
    go false e h more = (e, more h)

pub not_large : (n : ℕ) → large n ≡ false → n ≤ 255
unfolding large
not_large n h = ltb-false 255 n h

pub record Placed (e : ElementPlan) : Type 0 where
  pub element : e.element ≤ 255
  pub component : or_one e.component ≤ 255

component_small : (c : Option ℕ) → if_some large c ≡ false → or_one c ≤ 255
unfolding if_some
component_small None h = omega arith
component_small (Some c) h = not_large c h

element_placed : (e : ElementPlan) → over_element_plan e ≡ false → Placed e
unfolding over_element_plan
element_placed e h = let s = none_of _ _ h in record { element = not_large e.element s.0; component = component_small e.component (none_of _ _ s.1).0 }

abbrev SegmentPlaced : SegmentPlan → Type 0
SegmentPlaced s = All Placed s.elements

abbrev LoopPlaced : LoopPlan → Type 0
LoopPlaced l = All SegmentPlaced l.segments

segment_placed : (s : SegmentPlan) → over_segment_plan s ≡ false → SegmentPlaced s
unfolding over_segment_plan
segment_placed s h = all_weaker _ Placed s.elements element_placed (none_all over_element_plan s.elements h)

loop_placed : (l : LoopPlan) → over_loop_plan l ≡ false → LoopPlaced l
unfolding over_loop_plan
loop_placed l h = all_weaker _ SegmentPlaced l.segments segment_placed (none_all over_segment_plan l.segments (none_of _ _ (none_of _ _ h).1).0)

pub planned_placed : (j : Job) → over j ≡ false → (l i : ℕ) → All Placed (planned_of j l i).elements
unfolding over planned_of plan_of
planned_placed j h l i =
    let plans : All LoopPlaced j.plan = all_weaker _ LoopPlaced j.plan loop_placed (none_all over_loop_plan j.plan (none_of _ _ (none_of _ _ h).1).0) in
    all_get SegmentPlaced (get_or j.plan l no_loop_plan).segments no_segment_plan (all_get LoopPlaced j.plan no_loop_plan plans tt l) tt i

Stepped : Table → Type 0
Stepped t = on t.repeat (λ (r : Repeat). r.step) 0 ≤ 255

table_stepped : (t : Table) → over_table t ≡ false → Stepped t
unfolding over_table Stepped if_some over_step
table_stepped t h = go t.repeat (none_of _ _ (none_of _ _ h).1).0
  where
    go : (x : Option Repeat) → if_some over_step x ≡ false → on x (λ (r : Repeat). r.step) 0 ≤ 255
    go None e = omega arith
    go (Some r) e = not_large r.step e

pub step_small : (j : Job) → over j ≡ false → (t : ℕ) → step_of j t ≤ 255
unfolding over over_spec step_of table_of Stepped
step_small j h t =
    let s = none_of _ _ (none_of _ _ h).0 in
    let tables = (none_of _ _ (none_of _ _ (none_of _ _ (none_of _ _ s.1).1).1).1).0 in
    all_get Stepped j.spec.tables no_table (all_weaker _ Stepped j.spec.tables table_stepped (none_all over_table j.spec.tables tables)) (omega arith) t
