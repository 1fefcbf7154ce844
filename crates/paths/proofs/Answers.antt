-- The ways through the small questions: tables, kinds, orders, sources, a step upwards, entries.
use Prim.Native.Nat.{ℕ, zero, suc, ◌+◌, ◌-◌, ◌≤◌, ◌<◌}
use mathlib.Core.Path.{◌≡◌, refl, sym, ap, ap₂, ◌∙◌}
use mathlib.Core.Bool.{Bool, true, false, not, ◌&&◌, true≢false}
use mathlib.Core.List.{List, [], ◌∷◌, map}
use native.Mathlib.Omega.{arith}
use native.Mathlib.Numerals.{sub-one}
use Rattle.std.specs.Prelude.{Option, None, Some}
use lib.ListN.{length, get_or}
use lib.Dec.{eqb, ltb}
use borrow.Author.Tests.{lt-ltb, le-ltb, not-true, not-false, eq-eqb, eqb-true}
use Rattle.codec.specs.Codec.{le}
use Rattle.codec.proofs.Field.{count_of}
use Rattle.format.specs.Plan as P
use Rattle.format.specs.Layout.{segment_item, loop_item}
use Rattle.format.specs.Job.{Job}
use Rattle.format.specs.Sections.{job_of}
use Rattle.format.specs.Ask as A
use Rattle.format.specs.Orders
use Rattle.spec.proofs.RegionLaws.{listed_room}
use Rattle.plan.specs.Index.{PlanIndexed}
use Rattle.nest.specs.Lists.{on, is, sum, times, All}
use Rattle.nest.specs.Outline.{Outline, Table, Planned, Kind, row_table, loop_of, table_of, kind_of, order_of, segment_of, table_parent, plain, repeated, item_loops, item_segments}
use Rattle.nest.specs.OfJob.{outline_of, kind_in, source_in}
use Rattle.nest.proofs.Bridge.{table_is, kind_is, parent_is, planned_is, segment_is, source_is, order_is, occurrences_is, table_parent_by, loops_is}
use Rattle.walk.specs.Check.{each_of, rows_of, repeat_table, planned, if_there, past, fits, all_pass}
use Rattle.walk.proofs.Tests.{tests_all, all_tests, that_is_all, ◌⨾◌}
use Rattle.complete.specs.Complete.{Entries}
use Rattle.complete.specs.Decides.{Decides}
use Rattle.paths.specs.Tests.{same_item, segment_below, order_right, only_planned, row_fits, repeats_in, planned_once, anchors_in}
use Rattle.paths.specs.Upward.{outcome}
use Rattle.paths.specs.declared.up.Up.{Up}
use Rattle.paths.specs.declared.up.Up.TheVariants.{No, Top}
use Rattle.paths.proofs.Tests.{every, each_every, loop_times, segment_times, segments_below}

-- ---- tests put together

pub first_no : (a x y : Bool) → a ≡ x → not a ≡ true → false ≡ x && y
first_no a x y e h = rw (sym e ∙ not-true a h)

pub first_yes : (a x y z : Bool) → a ≡ x → not a ≡ false → z ≡ y → z ≡ x && y
first_yes a x y z e h q = rw (sym e ∙ not-false a h) q

-- ---- tables

module _ (j : Job) (t n : ℕ) (c : n ≡ length (outline_of j).tables) where
  pub repeated_out : n ≤ t → false ≡ repeated (outline_of j) t
  unfolding repeated
  repeated_out h = rw (le-ltb t (length (outline_of j).tables) (omega (arith, c, h)))

  module _ (x : Bool) (h : t < n) (e : x ≡ (A.table_of j t).segment) where
    segment_here : x ≡ (table_of (outline_of j) t).repeats
    segment_here = e ∙ sym (ap (λ (v : Table). v.repeats) (table_is j t))

    pub repeated_in : x ≡ repeated (outline_of j) t
    unfolding repeated
    repeated_in = rw (lt-ltb t (length (outline_of j).tables) (omega (arith, c, h))) segment_here

pub kind_in_lem : (j : Job) (l : ℕ) (k : P.Instances) → k ≡ (A.plan_of j l).instances → kind_in k ≡ kind_of (outline_of j) l
kind_in_lem j l k e = ap kind_in e ∙ sym (kind_is j l)

pub source_in_lem : (j : Job) (l i : ℕ) (s : P.Source) → s ≡ (A.planned_of j l i).source → source_in s ≡ (segment_of (outline_of j) l i).source
source_in_lem j l i s e = ap source_in e ∙ sym (source_is j l i)

pub planned_in_lem : (j : Job) (l n : ℕ) → n ≡ length (A.plan_of j l).segments → n ≡ planned (outline_of j) l
planned_in_lem j l n e = e ∙ sym (planned_is j l)

-- the table's parent, as its accessor answers
module _ (j : Job) (t : ℕ) (v : Option ℕ) (e : v ≡ (A.table_of j t).parent) where
  pub parent_there : (u : ℕ) (x : Bool) → v ≡ Some u → x ≡ plain (outline_of j) u → x ≡ if_there (table_parent (outline_of j) t) (plain (outline_of j))
  parent_there u x q p = rw (table_parent_by j t v e (Some u) q) p

  pub parent_none : v ≡ None → true ≡ if_there (table_parent (outline_of j) t) (plain (outline_of j))
  parent_none q = rw (table_parent_by j t v e None q)

  pub top_no : (u : ℕ) → v ≡ Some u → (h : ℕ) → on (table_parent (outline_of j) t) (λ w. false) true ≡ false
  top_no u q h = rw (table_parent_by j t v e (Some u) q)

  pub top_yes : v ≡ None → (h : ℕ) → on (table_parent (outline_of j) t) (λ w. false) true ≡ true
  top_yes q h = rw (table_parent_by j t v e None q)

-- ---- kinds and sources

pub anchored_in : (j : Job) (l i : ℕ) (s : P.Source) (x : Bool) → s ≡ (A.planned_of j l i).source → x ≡ if_there (repeat_table (source_in s)) (anchors_in (outline_of j) l) → x ≡ if_there (repeat_table (segment_of (outline_of j) l i).source) (anchors_in (outline_of j) l)
anchored_in j l i s x e f = f ∙ ap (λ v. if_there (repeat_table v) (anchors_in (outline_of j) l)) (source_in_lem j l i s e)

abbrev pub rows_at : Outline → ℕ → ℕ → Bool
rows_at j t l = rows_of t (kind_of j l)

abbrev pub repeats_at : Outline → ℕ → ℕ → ℕ → Bool
repeats_at j t l i = is (repeat_table (segment_of j l i).source) t

-- ---- loops that a table lists

pub planned_of_lem : (j : Job) (t : ℕ) (x : Bool) → x ≡ every (planned_once (outline_of j) t) (A.table_of j t).loops → x ≡ each_of (table_of (outline_of j) t).loops (planned_once (outline_of j) t)
planned_of_lem j t x e = e ∙ sym (ap (λ xs. each_of xs (planned_once (outline_of j) t)) (loops_is j t) ∙ each_every (planned_once (outline_of j) t) (A.table_of j t).loops)

-- ---- orders

module _ (j : Job) (l : ℕ) where
  pub order_loop : (k a b : ℕ) → a ≡ sum (same_item (loop_item k)) (Orders.order_of j l) → b ≡ times k (loop_of (outline_of j) l).children → eqb a b ≡ order_right (outline_of j) l k
  unfolding order_right
  order_loop k a b e f = ap₂ eqb (e ∙ sym (ap (λ o. times k (item_loops o)) (order_is j l) ∙ loop_times k (Orders.order_of j l))) f

  pub order_segment : (i n : ℕ) → n ≡ sum (same_item (segment_item i)) (Orders.order_of j l) → eqb n 1 ≡ eqb (times i (item_segments (order_of (outline_of j) l))) 1
  order_segment i n e = ap (λ m. eqb m 1) (e ∙ sym (ap (λ o. times i (item_segments o)) (order_is j l) ∙ segment_times i (Orders.order_of j l)))

  pub only_in : (n : ℕ) → n ≡ length (A.plan_of j l).segments → every (segment_below n) (Orders.order_of j l) ≡ only_planned (outline_of j) l
  unfolding only_planned
  only_in n e = sym (ap (λ m. each_of (item_segments (order_of (outline_of j) l)) (λ i. ltb i m)) (sym (planned_in_lem j l n e)) ∙ ap (λ o. each_of (item_segments o) (λ i. ltb i n)) (order_is j l) ∙ segments_below n (Orders.order_of j l))

  pub occurs_in : (i k n : ℕ) → k ≡ (A.planned_of j l i).occurrence → n ≡ length (A.loop_of j l).occurrences → ltb k n ≡ ltb (segment_of (outline_of j) l i).occurrence (loop_of (outline_of j) l).occurrences
  occurs_in i k n e f = ap₂ ltb (e ∙ ap (λ (v : Planned). v.occurrence) (sym (segment_is j l i))) (f ∙ sym (occurrences_is j l))

-- ---- upwards

module _ (j : Job) (l w : ℕ) (o : Option ℕ) (e : o ≡ (A.loop_of j l).parent) where
  pub up_top : (r : Up) → o ≡ None → ((h : ℕ) → on (table_parent (outline_of j) w) (λ u. false) true ≡ outcome (outline_of j) h r) → (h : ℕ) → fits (outline_of j) (suc h) l w ≡ outcome (outline_of j) h r
  unfolding fits
  up_top r q f h = rw (parent_is j l ∙ sym e ∙ q) (f h)

  pub up_past : (p : ℕ) (r : Up) → o ≡ Some p → ((h : ℕ) → past (outline_of j) (fits (outline_of j) h p) w (kind_of (outline_of j) p) ≡ outcome (outline_of j) h r) → (h : ℕ) → fits (outline_of j) (suc h) l w ≡ outcome (outline_of j) h r
  unfolding fits
  up_past p r q f h = rw (parent_is j l ∙ sym e ∙ q) (f h)

module _ (j : Outline) (n l w c i at last : ℕ) (d : fits j n l w ≡ fits j (c - i) at last) where
  module _ (s : Up) (h : i < c) (f : (k : ℕ) → fits j (suc k) at last ≡ outcome j k s) where
    stepped : fits j n l w ≡ outcome j (c - (i + 1)) s
    stepped = let z : c - (i + 1) ≡ c - i - 1 = omega arith in rw z (d ∙ go (c - i) (omega arith))
      where
        go : (m : ℕ) → 0 < m → fits j m at last ≡ outcome j (m - 1) s
        go zero h = absurd (omega arith)
        go (suc m) h = rw sub-one (f m)

    pub up_yes : s ≡ Top → true ≡ fits j n l w
    up_yes e = sym (stepped ∙ ap (outcome j (c - (i + 1))) e)

    pub up_no : s ≡ No → false ≡ fits j n l w
    up_no e = sym (stepped ∙ ap (outcome j (c - (i + 1))) e)

  pub up_end : c ≤ i → false ≡ fits j n l w
  unfolding fits
  up_end h = sym (d ∙ go (c - i) (omega arith))
    where
      go : (m : ℕ) → m ≤ 0 → fits j m at last ≡ false
      go zero h = refl
      go (suc m) h = absurd (omega arith)

pub fits_kind : (j : Outline) (l : ℕ) (k : Kind) (x : Bool) → k ≡ kind_of j l → x ≡ if_there (row_table k) (fits j (length j.loops) l) → x ≡ row_fits j l
unfolding row_fits
fits_kind j l k x e f = f ∙ ap (λ v. if_there (row_table v) (fits j (length j.loops) l)) e

-- ---- repeat segments

module _ (j : Outline) (t l : ℕ) (k : Kind) (x : Bool) (e : k ≡ kind_of j l) (f : x ≡ on (row_table k) (λ u. true) false) where
  rows_here : x ≡ on (row_table (kind_of j l)) (λ u. true) false
  rows_here = f ∙ ap (λ v. on (row_table v) (λ u. true) false) e

  pub once_rows : (n : ℕ) → x ≡ true → n ≡ repeats_in j t l → eqb n 1 ≡ planned_once j t l
  unfolding planned_once
  once_rows n y c = ap (λ m. eqb m 1) c ∙ go (row_table (kind_of j l)) (sym rows_here ∙ y)
    where
      go : (o : Option ℕ) → on o (λ u. true) false ≡ true → eqb (repeats_in j t l) 1 ≡ if_there o (λ u. eqb (repeats_in j t l) 1)
      go None q = absurd (true≢false (sym q))
      go (Some u) q = refl

  pub once_other : x ≡ false → true ≡ planned_once j t l
  unfolding planned_once
  once_other y = go (row_table (kind_of j l)) (sym rows_here ∙ y)
    where
      go : (o : Option ℕ) → on o (λ u. true) false ≡ false → true ≡ if_there o (λ u. eqb (repeats_in j t l) 1)
      go None q = refl
      go (Some u) q = absurd (true≢false q)

-- ---- entries

pub decides_no : (P : Type 0) → (P → ⊥) → Decides false P
decides_no P f = ((λ e. absurd (true≢false (sym e))), (λ e q. f q))

module _ (b idx : List ℕ) (x : PlanIndexed b idx) (n : ℕ) where
  pub plan_count : n ≡ le 4 b (get_or idx 1024 0) → n ≡ length (job_of b).plan
  plan_count e = count_of b _ n (get_or idx 1024 0) (get_or idx 1024 0) _ _ e refl x.plan.list

  pub order_count : n ≡ le 4 b (get_or idx 1057 0) → n ≡ length (job_of b).layout.order
  order_count e = count_of b _ n (get_or idx 1057 0) (get_or idx 1057 0) _ _ e refl x.order.list

  pub forced_count : n ≡ le 4 b (get_or idx 1090 0) → n ≡ length (job_of b).layout.forced
  forced_count e = count_of b _ n (get_or idx 1090 0) (get_or idx 1090 0) _ _ e refl x.forced.list

  pub columns_count : n ≡ le 4 b (get_or idx 1123 0) → n ≡ length (job_of b).layout.group_columns
  columns_count e = count_of b _ n (get_or idx 1123 0) (get_or idx 1123 0) _ _ e refl x.columns.list

  pub depth_count : n ≡ le 4 b (get_or idx 1156 0) → n ≡ length (job_of b).layout.depth
  depth_count e = count_of b _ n (get_or idx 1156 0) (get_or idx 1156 0) _ _ e refl x.depth.list

  pub capacity_count : n ≡ le 4 b (get_or idx 1189 0) → n ≡ length (job_of b).layout.capacity
  capacity_count e = count_of b _ n (get_or idx 1189 0) (get_or idx 1189 0) _ _ e refl x.capacity

-- the lists that have one entry a loop
abbrev pub loop_lists : List ℕ
loop_lists = 1024 ∷ 1057 ∷ 1090 ∷ 1123 ∷ 1156 ∷ []

-- their counts are there
pub counts_there : (b idx : List ℕ) → PlanIndexed b idx → (i k : ℕ) → i < length loop_lists → k ≡ get_or loop_lists i k → get_or idx k 0 + 4 ≤ length b
counts_there b idx x zero k h q = rw q (listed_room _ b _ idx 1024 _ x.plan_end x.plan)
counts_there b idx x (suc zero) k h q = rw q (listed_room _ b _ idx 1057 _ x.layout_end x.order)
counts_there b idx x (suc (suc zero)) k h q = rw q (listed_room _ b _ idx 1090 _ x.layout_end x.forced)
counts_there b idx x (suc (suc (suc zero))) k h q = rw q (listed_room _ b _ idx 1123 _ x.layout_end x.columns)
counts_there b idx x (suc (suc (suc (suc zero)))) k h q = rw q (listed_room _ b _ idx 1156 _ x.layout_end x.depth)
counts_there b idx x (suc (suc (suc (suc (suc i))))) k h q = absurd (omega (arith, h))

pub decides_eq : (P : Type 0) (a b : ℕ) → (a ≡ b → P) → (P → a ≡ b) → Decides (eqb a b) P
decides_eq P a b f g = ((λ e. f (eqb-true a b e)), (λ e p. true≢false (sym (eq-eqb a b (g p)) ∙ e)))

-- whether each of those lists has n items
abbrev pub counts_fit : List ℕ → List ℕ → ℕ → List Bool
counts_fit b idx n = map (λ k. eqb (le 4 b (get_or idx k 0)) n) loop_lists

module _ (b idx : List ℕ) (x : PlanIndexed b idx) (n : ℕ) (c : n ≡ length (job_of b).spec.loops) where
  pub lists_right : all_pass (counts_fit b idx n) ≡ true
      → (length (job_of b).plan ≡ length (job_of b).spec.loops) × (length (job_of b).layout.order ≡ length (job_of b).spec.loops) × (length (job_of b).layout.forced ≡ length (job_of b).spec.loops)
      × (length (job_of b).layout.group_columns ≡ length (job_of b).spec.loops) × (length (job_of b).layout.depth ≡ length (job_of b).spec.loops)
  lists_right e = (
    sym (plan_count b idx x _ refl) ∙ eqb-true _ _ t.0 ∙ c,
    sym (order_count b idx x _ refl) ∙ eqb-true _ _ t.1.0 ∙ c,
    sym (forced_count b idx x _ refl) ∙ eqb-true _ _ t.1.1.0 ∙ c,
    sym (columns_count b idx x _ refl) ∙ eqb-true _ _ t.1.1.1.0 ∙ c,
    sym (depth_count b idx x _ refl) ∙ eqb-true _ _ t.1.1.1.1.0 ∙ c,
  )
    where
      t : All (λ y. y ≡ true) (counts_fit b idx n)
      t = tests_all (counts_fit b idx n) e

  pub lists_pass : Entries (job_of b) → all_pass (counts_fit b idx n) ≡ true
  lists_pass E = all_tests (
      eq-eqb _ _ (plan_count b idx x _ refl ∙ E.plan ∙ sym c)
      ⨾ eq-eqb _ _ (order_count b idx x _ refl ∙ E.order ∙ sym c)
      ⨾ eq-eqb _ _ (forced_count b idx x _ refl ∙ E.forced ∙ sym c)
      ⨾ eq-eqb _ _ (columns_count b idx x _ refl ∙ E.group_columns ∙ sym c)
      ⨾ eq-eqb _ _ (depth_count b idx x _ refl ∙ E.depth ∙ sym c)
      ⨾ that_is_all)
