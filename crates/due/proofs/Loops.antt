-- The ways through a loop's segments, its children and its order.
use Prim.Native.Nat.{ℕ, zero, suc, ◌+◌, ◌-◌, ◌≤◌, ◌<◌}
use mathlib.Core.Path.{◌≡◌, refl, sym, ap, ap₂, ◌∙◌}
use mathlib.Core.Bool.{Bool, true, false, ◌&&◌}
use native.Mathlib.Omega.{arith}
use native.Mathlib.Numerals.{sub-one}
use lib.ListN.{length, get_or}
use lib.Dec.{eqb, ltb}
use borrow.Author.Tests.{lt-ltb, le-ltb}
use Rattle.format.specs.Plan as P
use Rattle.format.specs.Job.{Job}
use Rattle.format.specs.Ask as A
use Rattle.spec.specs.Usage.{is_required}
use Rattle.spec.specs.declared.ids.TableId.{TableId}
use Rattle.plan.specs.Answers.{instances_of, source_of}
use Rattle.plan.specs.declared.answers.Instances.{Instances}
use Rattle.plan.specs.declared.answers.Instances.TheVariants.{Inside}
use Rattle.plan.specs.declared.answers.Source.{Source}
use Rattle.plan.specs.declared.answers.Source.TheVariants.{Row}
use Rattle.nest.specs.Lists.{is}
use Rattle.nest.specs.Outline.{Planned, inside_table, source_table, loop_of, kind_of, segment_of, planned, has_occurrence}
use Rattle.nest.specs.OfJob.{outline_of, kind_in, source_in}
use Rattle.nest.proofs.Bridge.{kind_is, planned_is, segment_is, source_is, children_is, occurrences_is, loop_count_is, data-count-is}
use Rattle.walk.specs.Instances.{own_data, has_data, shown}
use Rattle.walk.specs.Tour.{due_row, is_opener}
use Rattle.walk.proofs.DataLaws.{data_in, data_from, data-deep, data-own, data-below, data-found, data-next, data-end, shown_required, shown_data}
use Rattle.walk.proofs.TourLaws as T
use Rattle.due.proofs.Bridge.{forced_is, required_is, required_not}

-- ---- the table that a loop stands inside, and that of a row segment

pub inside_row : (k : Instances) (u : TableId) (t : ℕ) → k ≡ Inside u → eqb t u.0 ≡ is (inside_table (kind_in (instances_of k))) t
inside_row k u t e = rw e

pub row_of : (s : Source) (u : TableId) (t : ℕ) → s ≡ Row u → eqb t u.0 ≡ is (source_table (source_in (source_of s))) t
row_of s u t e = rw e

pub inside_is : (j : Job) (l t : ℕ) (k : P.Instances) (x : Bool) → x ≡ is (inside_table (kind_in k)) t → k ≡ (A.plan_of j l).instances → x ≡ is (inside_table (kind_of (outline_of j) l)) t
inside_is j l t k x h e = h ∙ ap (λ v. is (inside_table (kind_in v)) t) e ∙ ap (λ v. is (inside_table v) t) (sym (kind_is j l))

-- ---- a segment that a row of its own table fills

abbrev pub fills : Job → ℕ → ℕ → ℕ → ℕ → Bool
fills j l t r i = is (source_table (segment_of (outline_of j) l i).source) t && (outline_of j).filled l i t r

module _ (j : Job) (l i t r : ℕ) (s : P.Source) (m : Bool) (e : s ≡ (A.planned_of j l i).source) (h : m ≡ is (source_table (source_in s)) t) where
  mine : m ≡ is (source_table (segment_of (outline_of j) l i).source) t
  mine = rw (source_is j l i, ← e) h

  pub fills_by : (x : Bool) → m ≡ true → x ≡ (outline_of j).filled l i t r → x ≡ fills j l t r i
  fills_by x y d = rw (← mine, y) d

  pub fills_not : m ≡ false → false ≡ fills j l t r i
  fills_not y = rw (← mine, y)

-- ---- data at a loop and below it

module _ (j : Job) (h l t r : ℕ) where
  pub deep : h ≡ 0 → false ≡ has_data (outline_of j) h l t r
  deep e = rw e (sym (data-deep (outline_of j) l t r))

  pub at_own : (x : Bool) → (h ≡ 0 → ⊥) → x ≡ own_data (outline_of j) l t r → x ≡ true → true ≡ has_data (outline_of j) h l t r
  at_own x z d y = go h z
    where
      go : (h : ℕ) → (h ≡ 0 → ⊥) → true ≡ has_data (outline_of j) h l t r
      go zero z = absurd (z refl)
      go (suc h) z = sym (data-own (outline_of j) h l t r (sym d ∙ y))

  pub below_own : (x : Bool) → (h ≡ 0 → ⊥) → x ≡ own_data (outline_of j) l t r → x ≡ false → has_data (outline_of j) h l t r ≡ data_from (outline_of j) (h - 1) l t r 0
  below_own x z d y = go h z
    where
      go : (h : ℕ) → (h ≡ 0 → ⊥) → has_data (outline_of j) h l t r ≡ data_from (outline_of j) (h - 1) l t r 0
      go zero z = absurd (z refl)
      go (suc h) z = rw sub-one (data-below (outline_of j) h l t r (sym d ∙ y))

  module _ (k n : ℕ) (c : n ≡ length (A.loop_of j l).children) (w : has_data (outline_of j) h l t r ≡ data_from (outline_of j) (h - 1) l t r k) where
    kids : length (loop_of (outline_of j) l).children ≡ n
    kids = ap length (children_is j l) ∙ sym c

    module _ (m : ℕ) (x : Bool) (q : k < n) (e : m ≡ get_or (A.loop_of j l).children k 0) (d : x ≡ is (inside_table (kind_of (outline_of j) m)) t) where
      kid : get_or (loop_of (outline_of j) l).children k 0 ≡ m
      kid = ap (λ cs. get_or cs k 0) (children_is j l) ∙ sym e

      looked : (y : Bool) → data_in (outline_of j) (h - 1) t r m ≡ y → data_in (outline_of j) (h - 1) t r (get_or (loop_of (outline_of j) l).children k 0) ≡ y
      looked y f = ap (data_in (outline_of j) (h - 1) t r) kid ∙ f

      pub elsewhere : x ≡ false → has_data (outline_of j) h l t r ≡ data_from (outline_of j) (h - 1) l t r (k + 1)
      elsewhere y = w ∙ data-next (outline_of j) (h - 1) l t r k (omega (arith, q, kids)) (looked false (rw (← d, y)))

      module _ (z : Bool) (y : x ≡ true) (f : z ≡ has_data (outline_of j) (h - 1) m t r) where
        pub below_here : z ≡ true → true ≡ has_data (outline_of j) h l t r
        below_here g = sym (w ∙ data-found (outline_of j) (h - 1) l t r k (omega (arith, q, kids)) (looked true (rw (← d, y) (sym f ∙ g))))

        pub below_next : z ≡ false → has_data (outline_of j) h l t r ≡ data_from (outline_of j) (h - 1) l t r (k + 1)
        below_next g = w ∙ data-next (outline_of j) (h - 1) l t r k (omega (arith, q, kids)) (looked false (rw (← d, y) (sym f ∙ g)))

    pub below_end : n ≤ k → false ≡ has_data (outline_of j) h l t r
    below_end q = sym (w ∙ data-end (outline_of j) (h - 1) l t r k (omega (arith, q, kids)))

-- ---- an `Inside` loop

module _ (j : Job) (l t r n : ℕ) (c : n ≡ length j.spec.loops) where
  count : length (outline_of j).loops ≡ n
  count = loop_count_is j ∙ sym c

  pub shown_as_required : (x : Bool) → l < n → x ≡ is_required (A.loop_of j l).usage → x ≡ true → true ≡ shown (outline_of j) l t r
  shown_as_required x h e y = sym (shown_required (outline_of j) l t r (required_is j l (omega (arith, c, h)) ∙ sym e ∙ y))

  by_data : (z : Bool) → (loop_of (outline_of j) l).required ≡ false → z ≡ has_data (outline_of j) n l t r → z ≡ shown (outline_of j) l t r
  by_data z q d = d ∙ ap (λ m. has_data (outline_of j) m l t r) (sym count) ∙ sym (shown_data (outline_of j) l t r q)

  pub shown_by_data : (x z : Bool) → l < n → x ≡ is_required (A.loop_of j l).usage → x ≡ false → z ≡ has_data (outline_of j) n l t r → z ≡ shown (outline_of j) l t r
  shown_by_data x z h e y d = by_data z (required_is j l (omega (arith, c, h)) ∙ sym e ∙ y) d

  pub shown_unknown : (z : Bool) → n ≤ l → z ≡ has_data (outline_of j) n l t r → z ≡ shown (outline_of j) l t r
  shown_unknown z h d = by_data z (required_not j l (omega (arith, c, h))) d

-- ---- a row segment

module _ (j : Job) (l i t r n : ℕ) (c : n ≡ length j.tables) where
  pub due_not : n ≤ t → false ≡ due_row (outline_of j) l i t r
  due_not h = sym (T.due_dataless (outline_of j) l i t r (omega (arith, c, h, data-count-is j)))

  module _ (x : Bool) (h : t < n) (e : x ≡ A.forced_of j l i) where
    pub due_always : x ≡ true → true ≡ due_row (outline_of j) l i t r
    due_always y = sym (T.due_forced (outline_of j) l i t r (omega (arith, c, h, data-count-is j)) (forced_is j l i ∙ sym e ∙ y))

    pub due_filled : (z : Bool) → x ≡ false → z ≡ (outline_of j).filled l i t r → z ≡ due_row (outline_of j) l i t r
    due_filled z y d = d ∙ sym (T.due_unforced (outline_of j) l i t r (omega (arith, c, h, data-count-is j)) (forced_is j l i ∙ sym e ∙ y))

pub occurs : (j : Job) (l i k n : ℕ) → k ≡ (A.planned_of j l i).occurrence → n ≡ length (A.loop_of j l).occurrences → ltb k n ≡ has_occurrence (outline_of j) l i
unfolding has_occurrence
occurs j l i k n e h = ap₂ ltb (e ∙ ap (λ (v : Planned). v.occurrence) (sym (segment_is j l i))) (h ∙ sym (occurrences_is j l))

-- ---- the order

module _ (j : Job) (l i n : ℕ) (c : n ≡ length (A.plan_of j l).segments) where
  pub opener_past : n ≤ i → false ≡ ltb i (planned (outline_of j) l) && is_opener (segment_of (outline_of j) l i).source
  opener_past h = sym (rw (le-ltb i (planned (outline_of j) l) (omega (arith, c, h, planned_is j l))))

  pub opener_is : (s : P.Source) (x : Bool) → i < n → s ≡ (A.planned_of j l i).source → x ≡ is_opener (source_in s) → x ≡ ltb i (planned (outline_of j) l) && is_opener (segment_of (outline_of j) l i).source
  opener_is s x h e d = d ∙ ap is_opener (ap source_in e ∙ sym (source_is j l i)) ∙ sym (rw (lt-ltb i (planned (outline_of j) l) (omega (arith, c, h, planned_is j l))))
