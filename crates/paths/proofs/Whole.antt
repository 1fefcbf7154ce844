-- The tests put together by condition are the tests of the plan check.
use Prim.Native.Nat.{ℕ, ◌<◌}
use mathlib.Core.Path.{◌≡◌, sym, ◌∙◌}
use borrow.Author.Tests.{eq-eqb, not-true, not-false}
use mathlib.Core.Bool.{Bool, true, false, not, ◌&&◌, true≢false}
use lib.ListN.{length}
use lib.Dec.{eqb, ltb}
use Rattle.format.specs.Job.{Job}
use Rattle.nest.specs.Lists.{times, All}
use Rattle.nest.specs.Outline.{Outline, item_segments, loop_of, order_of, segment_of}
use Rattle.nest.specs.OfJob.{outline_of}
use Rattle.walk.specs.Check.{each_below, planned, all_pass, plan_tests}
use Rattle.walk.proofs.Tests.{both, and_true, below_true, true_below, tests_all, that_is_all, ◌⨾◌, all_tests}
use Rattle.complete.specs.Complete.{Entries}
use Rattle.complete.specs.Decides.{Decides}
use Rattle.paths.proofs.Answers.{first_no, first_yes, decides_no}
use Rattle.paths.specs.Tests.{row_loops, repeats_in, each_table, each_loop, one_row_loop, names_plain, condition1, parent_plain, order_right, only_planned, segment_ordered, loop_ordered, condition2, row_fits, condition3, anchors_in, planned_once, repeat_planned, loop_anchored, condition4}
use Rattle.paths.specs.Entries.{Orders}

-- ---- the ways through the conditions

pub two_entries : (j : Job) (a : Bool) → Decides a (Entries j) → not a ≡ true → Decides false (Orders j)
two_entries j a d h = decides_no _ (λ o. d.1 (not-true a h) o.entries)

pub two_parents : (j : Job) (b : Bool) → b ≡ each_table (outline_of j) (parent_plain (outline_of j)) → not b ≡ true → Decides false (Orders j)
unfolding condition2
two_parents j b q h = decides_no _ (λ o. true≢false (sym o.ordered ∙ sym (first_no b (each_table (outline_of j) (parent_plain (outline_of j))) _ q h)))

pub two_orders : (j : Job) (a : Bool) → Decides a (Entries j) → not a ≡ false → (b : Bool) → b ≡ each_table (outline_of j) (parent_plain (outline_of j)) → not b ≡ false
    → (x : Bool) → x ≡ each_loop (outline_of j) (loop_ordered (outline_of j)) → Decides x (Orders j)
unfolding condition2
two_orders j a d h b q g x e =
    let r : x ≡ condition2 (outline_of j) = first_yes b (each_table (outline_of j) (parent_plain (outline_of j))) _ x q g e in
    ((λ y. record { entries = d.0 (not-false a h); ordered = sym r ∙ y }), (λ y o. true≢false (sym o.ordered ∙ sym r ∙ y)))

-- ---- all of them

module _ (j : Outline) where
  abbrev ordered : ℕ → ℕ → Bool
  ordered l i = eqb (times i (item_segments (order_of j l))) 1

  abbrev occurring : ℕ → ℕ → Bool
  occurring l i = ltb (segment_of j l i).occurrence (loop_of j l).occurrences

  abbrev kids : ℕ → Bool
  kids l = each_loop j (order_right j l)

  abbrev segments : ℕ → Bool
  segments l = each_below (planned j l) (segment_ordered j l)

  segment_parts : (l i : ℕ) → segment_ordered j l i ≡ true → (ordered l i ≡ true) × (occurring l i ≡ true)
  unfolding segment_ordered
  segment_parts l i e = both (ordered l i) (occurring l i) e

  segment_all : (l i : ℕ) → ordered l i ≡ true → occurring l i ≡ true → segment_ordered j l i ≡ true
  unfolding segment_ordered
  segment_all l i a b = and_true (ordered l i) (occurring l i) a b

  loop_parts : (l : ℕ) → loop_ordered j l ≡ true → (kids l ≡ true) × (segments l ≡ true) × (only_planned j l ≡ true)
  unfolding loop_ordered
  loop_parts l e =
      let p = both (kids l) (segments l && only_planned j l) e in
      let q = both (segments l) (only_planned j l) p.1 in
      (p.0, q.0, q.1)

  loop_all : (l : ℕ) → kids l ≡ true → segments l ≡ true → only_planned j l ≡ true → loop_ordered j l ≡ true
  unfolding loop_ordered
  loop_all l a b c = and_true (kids l) (segments l && only_planned j l) a (and_true (segments l) (only_planned j l) b c)

  loop_at_lem : each_loop j (loop_ordered j) ≡ true → (l : ℕ) → l < length j.loops → (kids l ≡ true) × (segments l ≡ true) × (only_planned j l ≡ true)
  loop_at_lem e l h = loop_parts l (below_true (length j.loops) (loop_ordered j) e l h)

  segment_at_lem : each_loop j (loop_ordered j) ≡ true → (l : ℕ) → l < length j.loops → (i : ℕ) → i < planned j l → (ordered l i ≡ true) × (occurring l i ≡ true)
  segment_at_lem e l h i g = segment_parts l i (below_true (planned j l) (segment_ordered j l) (loop_at_lem e l h).1 i g)

  -- where plan and orders have one entry a loop, the four conditions pass all tests
  pub conditions_pass : length j.plan ≡ length j.loops → length j.order ≡ length j.loops
      → condition1 j ≡ true → condition2 j ≡ true → condition3 j ≡ true → condition4 j ≡ true → all_pass (plan_tests j) ≡ true
  unfolding plan_tests row_loops repeats_in names_plain order_right only_planned row_fits anchors_in planned_once segment_ordered loop_ordered condition1 condition2 condition3 condition4
  conditions_pass p o one two three four =
      let a = both (each_table j (one_row_loop j)) (each_loop j (names_plain j)) one in
      let b = both (each_table j (parent_plain j)) (each_loop j (loop_ordered j)) two in
      let d = both (each_table j (repeat_planned j)) (each_loop j (loop_anchored j)) four in
      all_tests (
      a.0
      ⨾ a.1
      ⨾ eq-eqb _ _ p
      ⨾ eq-eqb _ _ o
      ⨾ true_below _ _ (λ l h. (loop_at_lem b.1 l h).0)
      ⨾ true_below _ _ (λ l h. true_below _ _ (λ i g. (segment_at_lem b.1 l h i g).0))
      ⨾ true_below _ _ (λ l h. (loop_at_lem b.1 l h).2)
      ⨾ true_below _ _ (λ l h. true_below _ _ (λ i g. (segment_at_lem b.1 l h i g).1))
      ⨾ b.0
      ⨾ three
      ⨾ d.0
      ⨾ d.1
      ⨾ that_is_all)

  -- and the other way
  pub pass_conditions : all_pass (plan_tests j) ≡ true → (condition1 j ≡ true) × (condition2 j ≡ true) × (condition3 j ≡ true) × (condition4 j ≡ true)
  unfolding plan_tests row_loops repeats_in names_plain order_right only_planned row_fits anchors_in planned_once segment_ordered loop_ordered condition1 condition2 condition3 condition4
  pass_conditions e = (
    and_true (each_table j (one_row_loop j)) (each_loop j (names_plain j)) t.0 t.1.0,
    and_true (each_table j (parent_plain j)) (each_loop j (loop_ordered j)) t.1.1.1.1.1.1.1.1.0 (true_below (length j.loops) (loop_ordered j) loop),
    t.1.1.1.1.1.1.1.1.1.0,
    and_true (each_table j (repeat_planned j)) (each_loop j (loop_anchored j)) t.1.1.1.1.1.1.1.1.1.1.0 t.1.1.1.1.1.1.1.1.1.1.1.0,
  )
    where
      t : All (λ b. b ≡ true) (plan_tests j)
      t = tests_all (plan_tests j) e

      segment : (l : ℕ) → l < length j.loops → (i : ℕ) → i < planned j l → segment_ordered j l i ≡ true
      segment l h i g = segment_all l i
          (below_true (planned j l) _ (below_true (length j.loops) _ t.1.1.1.1.1.0 l h) i g)
          (below_true (planned j l) _ (below_true (length j.loops) _ t.1.1.1.1.1.1.1.0 l h) i g)

      loop : (l : ℕ) → l < length j.loops → loop_ordered j l ≡ true
      loop l h = loop_all l
          (below_true (length j.loops) _ t.1.1.1.1.0 l h)
          (true_below (planned j l) (segment_ordered j l) (segment l h))
          (below_true (length j.loops) _ t.1.1.1.1.1.1.0 l h)
