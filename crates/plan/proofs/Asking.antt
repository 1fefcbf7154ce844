-- What the accessors answer is what is asked of the job: a law for each way. p is a place that the index holds, n the count of the list there.
use Prim.Native.Nat.{ℕ, ◌+◌, ◌*◌, ◌≤◌, ◌<◌}
use mathlib.Core.Path.{◌≡◌, refl, sym, ap, subst, ◌∙◌}
use mathlib.Core.List.{List, []}
use mathlib.Core.Bool.{Bool, true, false}
use native.Mathlib.Omega.{arith}
use Rattle.std.specs.Prelude.{Option, None, Some, unwrap_or}
use lib.ListN.{length, get_or, get_or-eq_default}
use lib.Dec.{leb, ltb, eqb}
use borrow.Author.Tests.{le-leb, lt-leb, le-ltb, lt-ltb, leb-true, leb-false, ltb-true, ltb-false}
use Rattle.codec.specs.Codec.{Codec, le, list_c}
use Rattle.codec.specs.Skip.{Is}
use Rattle.codec.specs.Forms.{num_c, opt_c, flag_c}
use Rattle.codec.proofs.Field.{is_at, is_le, is_list, count_of}
use Rattle.format.specs.Plan.{LoopPlan, no_loop_plan, loop_plan_c, SegmentPlan, no_segment_plan, segment_plan_c, source_c, element_plan_c}
use Rattle.format.specs.Layout.{item_c}
use Rattle.format.specs.Sections.{job_of, layout_start, envelope_start}
use Rattle.format.proofs.Fields.{LoopPlanIs, is_loop_plan}
use Rattle.format.specs.Ask.{on, plan_of, planned_of, forced_of, group_columns_of, depth_of, capacity_of}
use Rattle.format.specs.Orders.{order_of}
use Rattle.plan.specs.Answers.{no_item}
use Rattle.spec.specs.Region.{Listed, ItemAt}
use Rattle.spec.proofs.RegionLaws.{listed_is, listed_room}
use Rattle.spec.proofs.Standing.{next_place}
use Rattle.spec.proofs.ReadsLaws.{num_reads}
use Rattle.plan.specs.Index.{PlanIndexed, segments_at}
use Rattle.plan.proofs.IndexLaws.{inner_count}
use Rattle.plan.proofs.Elements.{run_none}
use Rattle.plan.specs.declared.answers.Planned.{Planned}
use Rattle.plan.specs.declared.answers.Order.{Order}
use Rattle.plan.specs.Planned.{unplanned, SegmentIs, SegmentRead, PlannedIs, OrderIs}
use Rattle.plan.proofs.Reading.{source_behind, wide_item, wide_order, wide_flag, flag_room, flag_is}

-- past the last item
past : {A : Type 0} (vs : List A) (d : A) (k n : ℕ) → n ≡ length vs → n ≤ k → d ≡ get_or vs k d
past vs d k n h q = sym (get_or-eq_default vs d {n = k} (rw (← h) q))

-- ---- lists in a list
pub inner_none : (b idx : List ℕ) (k l p n : ℕ) → p ≡ get_or idx k 0 → n ≡ le 4 b p → n ≤ l → 0 ≡ inner_count b idx k l
unfolding inner_count
inner_none b idx k l p n h i q = let m : le 4 b (get_or idx k 0) ≤ l = rw (← h, ← i) q in sym (simp (le-leb _ _ m))

pub inner_some : (b idx : List ℕ) (k l p n q r : ℕ) → p ≡ get_or idx k 0 → n ≡ le 4 b p → l < n → q ≡ get_or idx (k + 1 + l) 0 → r ≡ le 4 b q → r ≡ inner_count b idx k l
unfolding inner_count
inner_some b idx k l p n q r h i m j s = let o : l < le 4 b (get_or idx k 0) = rw (← h, ← i) m in s ∙ rw j (sym (simp (lt-leb _ _ o)))

module _ {A : Type 0} (C : Codec A) (b : List ℕ) (e : ℕ) (idx : List ℕ) (k : ℕ) (vss : List (List A)) (x : Listed (list_c C) b e idx k vss) (l : ℕ) (m : l < 32) where
  inner_count_lem : inner_count b idx k l ≡ length (get_or vss l [])
  unfolding inner_count
  inner_count_lem = go (leb (le 4 b (get_or idx k 0)) l) refl
    where
      n : length vss ≡ le 4 b (get_or idx k 0)
      n = (is_list (list_c C) b e (get_or idx k 0) vss x.list).counted

      go : (t : Bool) → leb (le 4 b (get_or idx k 0)) l ≡ t → inner_count b idx k l ≡ length (get_or vss l [])
      go true q =
          let o : length vss ≤ l = rw n (leb-true _ _ q) in
          rw q (sym (ap length (get_or-eq_default vss [] {n = l} o)))
      go false q =
          let o : l < length vss = rw n (leb-false _ _ q) in
          rw q (sym (is_list C b e _ _ (x.item l [] o m)).counted)

  -- an inner list's count is there
  inner_room : e ≤ length b → (p : ℕ) → l < le 4 b (get_or idx k 0) → p ≡ get_or idx (k + 1 + l) 0 → p + 4 ≤ length b
  inner_room h p q i =
      let o : l < length vss = rw (← (is_list (list_c C) b e (get_or idx k 0) vss x.list).counted) at q in
      omega (arith, h, (is_list C b e p _ (is_at (list_c C) b e p _ _ i (x.item l [] o m))).room)

  -- an inner list that has an item is there
  inner_is : (i p : ℕ) → i < length (get_or vss l []) → p ≡ get_or idx (k + 1 + l) 0 → Is (list_c C) b e p (get_or vss l [])
  inner_is i p q h = go (ltb l (length vss)) refl
    where
      go : (t : Bool) → ltb l (length vss) ≡ t → Is (list_c C) b e p (get_or vss l [])
      go true r = is_at (list_c C) b e p _ _ h (x.item l [] (ltb-true _ _ r) m)
      go false r = absurd (let z : length (get_or vss l []) ≡ 0 = ap length (get_or-eq_default vss [] {n = l} (ltb-false _ _ r)) in omega arith)

module _ (b idx : List ℕ) (x : PlanIndexed b idx) where
  -- ---- the plan
  module _ (l p n : ℕ) (h : p ≡ get_or idx 1024 0) (i : n ≡ le 4 b p) where
    plan_count : n ≡ length (job_of b).plan
    plan_count = count_of b (layout_start b) n p (get_or idx 1024 0) loop_plan_c (job_of b).plan i h x.plan.list

    pub plan_lacks : n ≤ l → no_loop_plan ≡ plan_of (job_of b) l
    unfolding plan_of
    plan_lacks q = past (job_of b).plan no_loop_plan l n plan_count q

    pub plan_is : (q : ℕ) → l < n → l < 32 → q ≡ get_or idx (1025 + l) 0 → LoopPlanIs b (layout_start b) q (plan_of (job_of b) l)
    unfolding plan_of
    plan_is q m o r = is_loop_plan b (layout_start b) q _ (is_at loop_plan_c b (layout_start b) q _ _ r (x.plan.item l no_loop_plan (rw (← plan_count) m) o))

    pub planned_are : (q r : ℕ) → l < n → l < 32 → q ≡ get_or idx (1222 + l * 33) 0 → r ≡ le 4 b q → r ≡ length (plan_of (job_of b) l).segments
    planned_are q r m o s t = count_of b (layout_start b) r q (get_or idx (segments_at l) 0) segment_plan_c _ t s (x.segments l (rw (← plan_count) m) o).list

    pub planned_room : l < n → l < 32 → get_or idx (1222 + l * 33) 0 + 4 ≤ length b
    planned_room m o = listed_room segment_plan_c b (layout_start b) idx (segments_at l) _ x.plan_end (x.segments l (rw (← plan_count) m) o)

  module _ (l i n : ℕ) (h : n ≡ length (plan_of (job_of b) l).segments) where
    pub planned_lacks : n ≤ i → no_segment_plan ≡ planned_of (job_of b) l i
    unfolding planned_of
    planned_lacks q = past (plan_of (job_of b) l).segments no_segment_plan i n h q

    pub unplanned_is : (r : Planned) → r ≡ unplanned → n ≤ i → PlannedIs b l i r
    unplanned_is r z q = rw z (record {
      there = sym (simp (le-ltb _ _ (rw h at q)));
      segment = subst (λ (s : SegmentPlan). SegmentIs b (layout_start b) s unplanned) (planned_lacks q) (record { source = refl; occurrence = refl; count = refl; first = run_none element_plan_c b (layout_start b) 0 });
    })

    pub planned_read : (r : Planned) → i < n → SegmentRead b (layout_start b) (planned_of (job_of b) l i) r → PlannedIs b l i r
    planned_read r q f = record { there = f.there ∙ sym (simp (lt-ltb _ _ (rw h at q))); segment = f.segment }

    module _ (p : ℕ) (m : i < n) (o : l < 32) (q : p ≡ get_or idx (1222 + l * 33 + 1 + i) 0) where
      pub planned_is : Is segment_plan_c b (layout_start b) p (planned_of (job_of b) l i)
      unfolding planned_of plan_of
      planned_is = go (ltb l (length (job_of b).plan)) refl
        where
          go : (t : Bool) → ltb l (length (job_of b).plan) ≡ t → Is segment_plan_c b (layout_start b) p (planned_of (job_of b) l i)
          go true r = is_at segment_plan_c b (layout_start b) p _ _ q ((x.segments l (ltb-true _ _ r) o).item i no_segment_plan (rw h at m) (omega (arith, x.few l)))
          go false r = absurd (let z : length (plan_of (job_of b) l).segments ≡ 0 = ap (λ (s : LoopPlan). length s.segments) (get_or-eq_default (job_of b).plan no_loop_plan {n = l} (ltb-false _ _ r)) in omega arith)

      pub source_is : Is source_c b (layout_start b) (p + 4) (planned_of (job_of b) l i).source
      source_is = source_behind b p (layout_start b) _ planned_is

  -- ---- the layout
  module _ (l : ℕ) (m : l < 32) where
    pub order_count : (n : ℕ) → n ≡ inner_count b idx 1057 l → n ≡ length (order_of (job_of b) l)
    unfolding order_of
    order_count n h = h ∙ inner_count_lem item_c b (envelope_start b) idx 1057 _ x.order l m

    pub order_room : (p : ℕ) → l < le 4 b (get_or idx 1057 0) → p ≡ get_or idx (1058 + l) 0 → p + 4 ≤ length b
    order_room = inner_room item_c b (envelope_start b) idx 1057 _ x.order l m x.layout_end

    pub order_lacks : (k n : ℕ) → n ≡ length (order_of (job_of b) l) → n ≤ k → no_item ≡ get_or (order_of (job_of b) l) k no_item
    order_lacks k n h q = past (order_of (job_of b) l) no_item k n h q

    pub order_is : (k n p : ℕ) → n ≡ length (order_of (job_of b) l) → k < n → p ≡ get_or idx (1058 + l) 0 → Is item_c b (envelope_start b) (p + 4 + k * 5) (get_or (order_of (job_of b) l) k no_item)
    unfolding order_of
    order_is k n p h q i = wide_item item_c 5 b (envelope_start b) p _ k no_item (wide_order b (envelope_start b)) (inner_is item_c b (envelope_start b) idx 1057 _ x.order l m k p (rw h at q) i) (rw h at q)

    pub order_at : (r : Order) (n p : ℕ) → n ≡ length (order_of (job_of b) l) → p ≡ get_or idx (1058 + l) 0 → r.count ≡ n → r.first ≡ p + 4 → OrderIs b l r
    order_at r n p h i c f = record { count = c ∙ h; within = x.layout_end; item = λ k q. rw f (order_is k n p h (rw c at q) i) }

    pub forced_room : (p : ℕ) → l < le 4 b (get_or idx 1090 0) → p ≡ get_or idx (1091 + l) 0 → p + 4 ≤ length b
    forced_room = inner_room flag_c b (envelope_start b) idx 1090 _ x.forced l m x.layout_end

    pub forced_lacks : (i n : ℕ) → n ≡ inner_count b idx 1090 l → n ≤ i → false ≡ forced_of (job_of b) l i
    unfolding forced_of
    forced_lacks i n h q = past (get_or (job_of b).layout.forced l []) false i n (h ∙ inner_count_lem flag_c b (envelope_start b) idx 1090 _ x.forced l m) q

    module _ (i n p : ℕ) (h : n ≡ inner_count b idx 1090 l) (q : i < n) (r : p ≡ get_or idx (1091 + l) 0) where
      flag_here : Is flag_c b (envelope_start b) (p + 4 + i) (forced_of (job_of b) l i)
      unfolding forced_of
      flag_here =
          let o : i < length (get_or (job_of b).layout.forced l []) = rw (← inner_count_lem flag_c b (envelope_start b) idx 1090 _ x.forced l m, ← h) q in
          let w : p + 4 + i * 1 ≡ p + 4 + i = omega arith in
          rw w at (wide_item flag_c 1 b (envelope_start b) p _ i false (wide_flag b (envelope_start b)) (inner_is flag_c b (envelope_start b) idx 1090 _ x.forced l m i p o r) o)

      pub forced_there : p + 4 + i < length b
      forced_there = omega (arith, x.layout_end, flag_room b (envelope_start b) _ _ flag_here)

      pub forced_is : eqb (get_or b (p + 4 + i) 0) 1 ≡ forced_of (job_of b) l i
      forced_is = flag_is b (envelope_start b) _ _ _ refl flag_here

    pub column_count : (n : ℕ) → n ≡ inner_count b idx 1123 l → n ≡ length (group_columns_of (job_of b) l)
    unfolding group_columns_of
    column_count n h = h ∙ inner_count_lem num_c b (envelope_start b) idx 1123 _ x.columns l m

    pub column_room : (p : ℕ) → l < le 4 b (get_or idx 1123 0) → p ≡ get_or idx (1124 + l) 0 → p + 4 ≤ length b
    column_room = inner_room num_c b (envelope_start b) idx 1123 _ x.columns l m x.layout_end

    pub column_lacks : (k : ℕ) → le 4 b (get_or idx 1123 0) ≤ l → 0 ≡ get_or (group_columns_of (job_of b) l) k 0
    unfolding group_columns_of
    column_lacks k q = rw (get_or-eq_default (job_of b).layout.group_columns [] {n = l} (rw (← count_of b (envelope_start b) _ _ _ (list_c num_c) (job_of b).layout.group_columns refl refl x.columns.list) q)) refl

    pub column_is : (p : ℕ) → ItemAt b idx 1123 l (Some p) → Is (list_c num_c) b (envelope_start b) p (group_columns_of (job_of b) l)
    unfolding group_columns_of
    column_is p q = listed_is (list_c num_c) b (envelope_start b) idx 1123 _ x.columns l p [] m q

    depth_count : le 4 b (get_or idx 1156 0) ≡ length (job_of b).layout.depth
    depth_count = count_of b (envelope_start b) _ _ _ (opt_c num_c) (job_of b).layout.depth refl refl x.depth.list

    pub depth_lacks : le 4 b (get_or idx 1156 0) ≤ l → 0 ≡ depth_of (job_of b) l
    unfolding depth_of
    depth_lacks q = rw (get_or-eq_default (job_of b).layout.depth None {n = l} (rw (← depth_count) q))

    pub depth_is : (p : ℕ) → ItemAt b idx 1156 l (Some p) → (r : Option ℕ) → (Is (opt_c num_c) b (envelope_start b) p (get_or (job_of b).layout.depth l None) → r ≡ get_or (job_of b).layout.depth l None) → unwrap_or r 0 ≡ depth_of (job_of b) l
    unfolding depth_of
    depth_is p q r f = rw (f (listed_is (opt_c num_c) b (envelope_start b) idx 1156 _ x.depth l p None m q)) (either (get_or (job_of b).layout.depth l None))
      where
        either : (d : Option ℕ) → unwrap_or d 0 ≡ on d (λ c. c) 0
        either None = refl
        either (Some c) = refl

  pub capacity_room : (p : ℕ) → p ≡ get_or idx 1189 0 → p + 4 ≤ length b
  capacity_room p h = omega (arith, x.layout_end, (is_list num_c b (envelope_start b) p _ (is_at (list_c num_c) b (envelope_start b) p _ _ h x.capacity)).room)

  module _ (t p n : ℕ) (h : p ≡ get_or idx 1189 0) (i : n ≡ le 4 b p) where
    capacity_count : n ≡ length (job_of b).layout.capacity
    capacity_count = count_of b (envelope_start b) n p (get_or idx 1189 0) num_c (job_of b).layout.capacity i h x.capacity

    pub capacity_lacks : n ≤ t → 1 ≡ capacity_of (job_of b) t
    unfolding capacity_of
    capacity_lacks q = past (job_of b).layout.capacity 1 t n capacity_count q

    module _ (q : t < n) where
      capacity_here : Is num_c b (envelope_start b) (p + 4 + t * 4) (capacity_of (job_of b) t)
      unfolding capacity_of
      capacity_here = wide_item num_c 4 b (envelope_start b) p _ t 1 (next_place b (envelope_start b)) (is_at (list_c num_c) b (envelope_start b) p _ _ h x.capacity) (rw (← capacity_count) q)

      pub capacity_there : p + 4 + t * 4 + 4 ≤ length b
      capacity_there = omega (arith, x.layout_end, (is_le 4 b (envelope_start b) _ _ capacity_here).0)

      pub capacity_is : (r : ℕ) → r ≡ le 4 b (p + 4 + t * 4) → r ≡ capacity_of (job_of b) t
      capacity_is r s = num_reads b (p + 4 + t * 4) r s (envelope_start b) _ capacity_here
