-- Limits of a job that passed: elements and steps up to 255.
use Prim.Native.Nat.{ℕ, ◌≤◌, ◌<◌}
use mathlib.Core.Path.{◌≡◌, refl}
use mathlib.Core.Bool.{Bool, true, false}
use mathlib.Core.List.{List}
use native.Mathlib.Omega.{arith}
use Rattle.std.specs.Prelude.{Option, None, Some}
use lib.ListN.{length, get_or, get_or-eq_default}
use lib.Dec.{ltb}
use borrow.Author.Tests.{ltb-true, ltb-false}
use Rattle.codec.proofs.Limits.{none_of, none_in}
use Rattle.codec.specs.Limits.{any_of}
use Rattle.format.specs.Spec.{no_table, Repeat}
use Rattle.format.specs.Plan.{no_loop_plan, no_segment_plan}
use Rattle.format.specs.NoElement.{no_element_plan}
use Rattle.format.specs.Sections.{job_of}
use Rattle.format.specs.Refusal.{over, over_spec, over_table, over_step, over_loop_plan, over_segment_plan, over_element_plan, large}
use Rattle.format.specs.Words.{if_some}
use Rattle.format.specs.Passed.{Passed}
use Rattle.format.specs.Ask.{on, plan_of, planned_of, table_of, step_of}

module _ (b : List ℕ) (w : Passed b) where
  segments_small : (l : ℕ) → any_of over_segment_plan (plan_of (job_of b) l).segments ≡ false
  unfolding over plan_of over_loop_plan any_of
  segments_small l = go (ltb l (length (job_of b).plan)) refl
    where
      go : (t : Bool) → ltb l (length (job_of b).plan) ≡ t → any_of over_segment_plan (plan_of (job_of b) l).segments ≡ false
      go true q = (none_of _ _ (none_of _ _ (none_in over_loop_plan (job_of b).plan (none_of _ _ (none_of _ _ w.limits).1).0 l no_loop_plan (ltb-true _ _ q))).1).0
      go false q = rw (get_or-eq_default (job_of b).plan no_loop_plan {n = l} (ltb-false _ _ q)) refl

  elements_small : (l i : ℕ) → any_of over_element_plan (planned_of (job_of b) l i).elements ≡ false
  unfolding planned_of over_segment_plan any_of
  elements_small l i = go (ltb i (length (plan_of (job_of b) l).segments)) refl
    where
      go : (t : Bool) → ltb i (length (plan_of (job_of b) l).segments) ≡ t → any_of over_element_plan (planned_of (job_of b) l i).elements ≡ false
      go true q = none_in over_segment_plan (plan_of (job_of b) l).segments (segments_small l) i no_segment_plan (ltb-true _ _ q)
      go false q = rw (get_or-eq_default (plan_of (job_of b) l).segments no_segment_plan {n = i} (ltb-false _ _ q)) refl

  pub element_small : (l i k : ℕ) → k < length (planned_of (job_of b) l i).elements → (get_or (planned_of (job_of b) l i).elements k no_element_plan).element ≤ 255
  unfolding over_element_plan large
  element_small l i k h = ltb-false _ _ (none_of _ _ (none_in over_element_plan (planned_of (job_of b) l i).elements (elements_small l i) k no_element_plan h)).0

  table_small : (t : ℕ) → if_some over_step (table_of (job_of b) t).repeat ≡ false
  unfolding over over_spec table_of over_table if_some
  table_small t = go (ltb t (length (job_of b).spec.tables)) refl
    where
      go : (x : Bool) → ltb t (length (job_of b).spec.tables) ≡ x → if_some over_step (table_of (job_of b) t).repeat ≡ false
      go true q =
          let s = (none_of _ _ w.limits).0 in
          let m = (none_of _ _ (none_of _ _ (none_of _ _ (none_of _ _ (none_of _ _ s).1).1).1).1).0 in
          (none_of _ _ (none_of _ _ (none_in over_table (job_of b).spec.tables m t no_table (ltb-true _ _ q))).1).0
      go false q = rw (get_or-eq_default (job_of b).spec.tables no_table {n = t} (ltb-false _ _ q)) refl

  pub step_small : (t : ℕ) → step_of (job_of b) t ≤ 255
  unfolding step_of if_some over_step large
  step_small t = go (table_of (job_of b) t).repeat (table_small t)
    where
      go : (r : Option Repeat) → if_some over_step r ≡ false → on r (λ (x : Repeat). x.step) 0 ≤ 255
      go None h = omega arith
      go (Some x) h = ltb-false _ _ h
