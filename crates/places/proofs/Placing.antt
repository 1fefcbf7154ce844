-- The tests of a planned segment's places decide what a complete plan asks of them.
use Prim.Native.Nat.{ℕ, suc, ◌*◌, ◌≤◌, ◌<◌}
use mathlib.Core.Path.{◌≡◌, refl, sym, ap}
use mathlib.Core.Logic.{◌≢◌, ◌⊎◌, inl, inr}
use mathlib.Core.List.{List}
use mathlib.Core.Bool.{Bool, true, false, not}
use native.Mathlib.Omega.{arith}
use native.Mathlib.Nat.{le-max_left, zero-mul}
use Rattle.std.specs.Prelude.{Option, None, Some}
use lib.Dec.{ltb, eqb}
use borrow.Author.Tests.{eqb-true, eqb-false, ltb-true, ltb-false}
use Rattle.codec.specs.Codec.{pick}
use Rattle.codec.specs.Limits.{any_of}
use Rattle.format.specs.Plan.{Source, from_envelope, from_row, from_repeat, Value, from_column, from_group, from_code, ElementPlan, SegmentPlan, LoopPlan}
use Rattle.format.specs.Job.{Job}
use Rattle.format.specs.Ask.{capacity_of}
use Rattle.segment.specs.Parts.{rank}
use Rattle.segment.proofs.Rows.{rank_same}
use Rattle.nest.specs.Lists.{All}
use Rattle.complete.specs.Complete.{Pairs, IfThere, Segments, PlanStarts, reach, step_in, element_of, InFront, PlacesApart, OwnApart, Unmixed, Placed, SegmentFits}
use Rattle.codes.proofs.Refutes.{Refutes}
use Rattle.places.specs.declared.spots.Spot.{Spot}
use Rattle.places.specs.Spots.{wrong_spot, wrong_spot_of, clash, clash_of, front, kind_of, meet, misplaced, mixed, reach_of, room_in, spot_of, wrong_plan, wrong_segment, wrong_spots}
use Rattle.codes.proofs.Laws.{no_way, refute_as, refute_any, refute_none, refute_all, refute_low}
use Rattle.codes.proofs.Listing.{all_map, all_both, all_any}
use Rattle.places.proofs.Listing.{pairs_map, pairs_both, pairs_any, pairs_each, each_pairs, refute_pairs}
use Rattle.places.proofs.Meeting.{Meets, meets_back, rows_apart, meet_yes, meet_no}

-- ---- reach
reach_is : (j : Job) (s : Source) (v : Value) → reach j s v ≡ reach_of (room_in j s) v
reach_is j from_envelope (from_column c) = refl
reach_is j from_envelope (from_group c) = refl
reach_is j from_envelope (from_code c) = refl
reach_is j (from_row t) (from_column c) = refl
reach_is j (from_row t) (from_group c) = refl
reach_is j (from_row t) (from_code c) = refl
reach_is j (from_repeat t) (from_column c) = refl
reach_is j (from_repeat t) (from_group c) = refl
reach_is j (from_repeat t) (from_code c) = refl

room_one : (j : Job) (s : Source) → 1 ≤ room_in j s
room_one j from_envelope = omega arith
room_one j (from_row t) = omega arith
room_one j (from_repeat t) = le-max_left 1 (capacity_of j t)

reach_one : (room : ℕ) → 1 ≤ room → (v : Value) → 1 ≤ reach_of room v
reach_one room h (from_column c) = omega arith
reach_one room h (from_group c) = h
reach_one room h (from_code c) = omega arith

-- ---- plain and component
rank_plain : (o : Option ℕ) → rank o ≡ 0 → o ≡ None
rank_plain None h = refl
rank_plain (Some c) h = absurd (omega arith)

mixed_right : (x y : Spot) → Refutes (mixed x y) ((rank x.component ≡ 0 → rank y.component ≡ 0) × (rank y.component ≡ 0 → rank x.component ≡ 0))
unfolding mixed
mixed_right x y = go (eqb (rank x.component) 0) (eqb (rank y.component) 0) refl refl
  where
    go : (s t : Bool) → eqb (rank x.component) 0 ≡ s → eqb (rank y.component) 0 ≡ t → Refutes (pick s (not t) t) ((rank x.component ≡ 0 → rank y.component ≡ 0) × (rank y.component ≡ 0 → rank x.component ≡ 0))
    go true true p q = (λ i. (λ h. eqb-true _ _ q, λ h. eqb-true _ _ p), λ i. no_way (sym i))
    go true false p q = (λ i. no_way i, λ i h. eqb-false _ _ q (h.0 (eqb-true _ _ p)))
    go false true p q = (λ i. no_way i, λ i h. eqb-false _ _ p (h.1 (eqb-true _ _ q)))
    go false false p q = (λ i. (λ h. absurd (eqb-false _ _ p h), λ h. absurd (eqb-false _ _ q h)), λ i. no_way (sym i))

front_right : (x y : Spot) → Refutes (not (front x y)) ((x.element < y.element) ⊎ ((x.element ≡ y.element) × (rank x.component < rank y.component)))
unfolding front
front_right x y = go (ltb x.element y.element) (eqb x.element y.element) (ltb (rank x.component) (rank y.component)) refl refl refl
  where
    none_of : (x.element < y.element → ⊥) → ((x.element ≡ y.element) × (rank x.component < rank y.component) → ⊥) → (x.element < y.element) ⊎ ((x.element ≡ y.element) × (rank x.component < rank y.component)) → ⊥
    none_of f g (inl h) = f h
    none_of f g (inr h) = g h

    go : (s t u : Bool) → ltb x.element y.element ≡ s → eqb x.element y.element ≡ t → ltb (rank x.component) (rank y.component) ≡ u
        → Refutes (not (pick s true (pick t u false))) ((x.element < y.element) ⊎ ((x.element ≡ y.element) × (rank x.component < rank y.component)))
    go true t u p q w = (λ i. inl (ltb-true _ _ p), λ i. no_way (sym i))
    go false true true p q w = (λ i. inr (eqb-true _ _ q, ltb-true _ _ w), λ i. no_way (sym i))
    go false true false p q w = (λ i. no_way i, λ i. none_of (λ h. omega (arith, h, ltb-false x.element y.element p)) (λ h. omega (arith, h.1, ltb-false (rank x.component) (rank y.component) w)))
    go false false u p q w = (λ i. no_way i, λ i. none_of (λ h. omega (arith, h, ltb-false x.element y.element p)) (λ h. eqb-false _ _ q h.0))

-- ---- two planned elements
-- row segments' places rise, a repeat segment's don't collide
abbrev pub PairFits : Job → Source → ElementPlan → ElementPlan → Type 0
PairFits j from_envelope a b = Unit {0}
PairFits j (from_row t) a b = InFront a b
PairFits j (from_repeat t) a b = PlacesApart j (from_repeat t) a b

module _ (j : Job) (s : Source) where
  meeting : (a b : ElementPlan) (k n : ℕ) → k < reach j s a.value → n < reach j s b.value → element_of j s a k ≡ element_of j s b n
      → Meets (step_in j s) (reach_of (room_in j s) a.value) a.element (reach_of (room_in j s) b.value) b.element
  meeting a b k n h i e = record { k = k; n = n; k_in = rw (reach_is j s a.value) at h; n_in = rw (reach_is j s b.value) at i; same = e }

  met : (a b : ElementPlan) → meet (step_in j s) (spot_of (room_in j s) a) (spot_of (room_in j s) b) ≡ true
      → Meets (step_in j s) (reach_of (room_in j s) a.value) a.element (reach_of (room_in j s) b.value) b.element
  met a b h = meet_yes (step_in j s) (spot_of (room_in j s) a) (spot_of (room_in j s) b) (reach_one _ (room_one j s) a.value) (reach_one _ (room_one j s) b.value) h

  missed : (a b : ElementPlan) → meet (step_in j s) (spot_of (room_in j s) a) (spot_of (room_in j s) b) ≡ false
      → Meets (step_in j s) (reach_of (room_in j s) a.value) a.element (reach_of (room_in j s) b.value) b.element → ⊥
  missed a b h = meet_no (step_in j s) (spot_of (room_in j s) a) (spot_of (room_in j s) b) (reach_one _ (room_one j s) a.value) (reach_one _ (room_one j s) b.value) h

  unmixed_refuted : (a b : ElementPlan) → Refutes (pick (meet (step_in j s) (spot_of (room_in j s) a) (spot_of (room_in j s) b)) (mixed (spot_of (room_in j s) a) (spot_of (room_in j s) b)) false) (Unmixed j s a b × Unmixed j s b a)
  unmixed_refuted a b = go (meet (step_in j s) (spot_of (room_in j s) a) (spot_of (room_in j s) b)) refl
    where
      go : (t : Bool) → meet (step_in j s) (spot_of (room_in j s) a) (spot_of (room_in j s) b) ≡ t → Refutes (pick t (mixed (spot_of (room_in j s) a) (spot_of (room_in j s) b)) false) (Unmixed j s a b × Unmixed j s b a)
      go false p = (λ i. ((λ k n h l e c. absurd (missed a b p (meeting a b k n h l e))), (λ k n h l e c. absurd (missed a b p (meets_back _ _ _ _ _ (meeting b a k n h l e))))), λ i. no_way (sym i))
      go true p = refute_as _ _ _
          (λ q. ((λ k n h l e c. rank_plain b.component (q.0 (ap rank c))), (λ k n h l e c. rank_plain a.component (q.1 (ap rank c)))))
          (λ q. let m = met a b p in (
            λ h. ap rank (q.0 m.k m.n (rw (← reach_is j s a.value) at m.k_in) (rw (← reach_is j s b.value) at m.n_in) m.same (rank_plain a.component h)),
            λ h. ap rank (q.1 m.n m.k (rw (← reach_is j s b.value) at m.n_in) (rw (← reach_is j s a.value) at m.k_in) (sym m.same) (rank_plain b.component h)),
          ))
          (mixed_right (spot_of (room_in j s) a) (spot_of (room_in j s) b))

  apart_refuted : (a b : ElementPlan) → Refutes (pick (meet (step_in j s) (spot_of (room_in j s) a) (spot_of (room_in j s) b)) (eqb (rank a.component) (rank b.component)) false) (PlacesApart j s a b)
  apart_refuted a b = go (meet (step_in j s) (spot_of (room_in j s) a) (spot_of (room_in j s) b)) refl
    where
      go : (t : Bool) → meet (step_in j s) (spot_of (room_in j s) a) (spot_of (room_in j s) b) ≡ t → Refutes (pick t (eqb (rank a.component) (rank b.component)) false) (PlacesApart j s a b)
      go false p = (λ i k n h l e. absurd (missed a b p (meeting a b k n h l e)), λ i. no_way (sym i))
      go true p = (
        λ i k n h l e c. eqb-false _ _ i (ap rank c),
        λ i q. let m = met a b p in
            q m.k m.n (rw (← reach_is j s a.value) at m.k_in) (rw (← reach_is j s b.value) at m.n_in) m.same (rank_same _ _ (eqb-true _ _ i)),
      )

misplaced_refuted : (j : Job) (s : Source) (a b : ElementPlan) → Refutes (misplaced (kind_of s) (meet (step_in j s) (spot_of (room_in j s) a) (spot_of (room_in j s) b)) (spot_of (room_in j s) a) (spot_of (room_in j s) b)) (PairFits j s a b)
unfolding misplaced
misplaced_refuted j from_envelope a b = (λ i. tt, λ i. no_way (sym i))
misplaced_refuted j (from_row t) a b = front_right (spot_of 1 a) (spot_of 1 b)
misplaced_refuted j (from_repeat t) a b = apart_refuted j (from_repeat t) a b

clash_refuted : (j : Job) (s : Source) (a b : ElementPlan) → Refutes (clash_of (kind_of s) (step_in j s) (room_in j s) a b) (PairFits j s a b × (Unmixed j s a b × Unmixed j s b a))
unfolding clash
clash_refuted j s a b = refute_as _ (PairFits j s a b × ((Unmixed j s a b × Unmixed j s b a) × Unit {0})) _ (λ q. (q.0, q.1.0)) (λ q. (q.0, (q.1, tt)))
    (refute_any _ _ _ _ (misplaced_refuted j s a b) (refute_any _ _ _ _ (unmixed_refuted j s a b) refute_none))

-- ---- one planned element
component_refuted : (o : Option ℕ) → Refutes (eqb (rank o) 1) (IfThere (λ c. 1 ≤ c) o)
component_refuted None = (λ i. tt, λ i. no_way (sym i))
component_refuted (Some c) =
    (λ i. let z : suc c ≢ 1 = eqb-false _ _ i in omega arith, λ i h. let z : suc c ≡ 1 = eqb-true _ _ i in omega arith)

own_refuted : (j : Job) (s : Source) (a : ElementPlan) → Refutes (pick (eqb (step_in j s) 0) (ltb 1 (reach_of (room_in j s) a.value)) false) (OwnApart j s a)
own_refuted j s a = rw (← reach_is j s a.value) (go (eqb (step_in j s) 0) (ltb 1 (reach j s a.value)) refl refl)
  where
    go : (t u : Bool) → eqb (step_in j s) 0 ≡ t → ltb 1 (reach j s a.value) ≡ u → Refutes (pick t u false) (OwnApart j s a)
    go false u p q = (λ i k n h l e. rows_apart (step_in j s) a.element k n (let z : step_in j s ≢ 0 = eqb-false _ _ p in omega arith) e, λ i. no_way (sym i))
    go true false p q = (λ i k n h l e. let z : reach j s a.value ≤ 1 = ltb-false _ _ q in omega (arith, h, l), λ i. no_way (sym i))
    go true true p q = (
      λ i. no_way i,
      λ i f.
          let z : 1 < reach j s a.value = ltb-true _ _ q in
          let d : step_in j s ≡ 0 = eqb-true _ _ p in
          let n : 0 * step_in j s ≡ 0 = zero-mul (step_in j s) in
          let m : 1 * step_in j s ≡ step_in j s = omega arith in
          let w : ◌≡◌ {A = ℕ} 0 1 = f 0 1 (omega arith) z (omega arith) in
          omega arith,
    )

spot_refuted : (j : Job) (s : Source) (a : ElementPlan) → Refutes (wrong_spot_of (step_in j s) (room_in j s) a) (PlanStarts a × OwnApart j s a)
unfolding wrong_spot
spot_refuted j s a = refute_as _ ((1 ≤ a.element) × (IfThere (λ c. 1 ≤ c) a.component × (OwnApart j s a × Unit {0}))) _
    (λ q. (record { element = q.0; component = q.1.0 }, q.1.1.0)) (λ q. (q.0.element, (q.0.component, (q.1, tt))))
    (refute_any _ _ _ _ (refute_low a.element) (refute_any _ _ _ _ (component_refuted a.component) (refute_any _ _ _ _ (own_refuted j s a) refute_none)))

-- ---- a planned segment
-- one row's places are one
own_row_lem : (j : Job) (s : Source) → ((v : Value) → reach j s v ≡ 1) → (a : ElementPlan) → OwnApart j s a
own_row_lem j s r a k n h l e = let z : reach j s a.value ≡ 1 = r a.value in omega arith

placed_of : (j : Job) (s : Source) (es : List ElementPlan) → All (OwnApart j s) es → Pairs (PairFits j s) es → Placed j s es
placed_of j from_envelope es h k = tt
placed_of j (from_row t) es h k = k
placed_of j (from_repeat t) es h k = (k, h)

of_placed : (j : Job) (s : Source) (es : List ElementPlan) → Placed j s es → All (OwnApart j s) es × Pairs (PairFits j s) es
of_placed j from_envelope es h = (all_any _ (own_row_lem j from_envelope (λ v. refl)) es, pairs_any _ (λ x y. tt) es)
of_placed j (from_row t) es h = (all_any _ (own_row_lem j (from_row t) (λ v. refl)) es, h)
of_placed j (from_repeat t) es h = (h.1, h.0)

segment_refuted : (j : Job) (p : SegmentPlan) → Refutes (wrong_segment j p) (SegmentFits j p)
unfolding wrong_segment wrong_spots
segment_refuted j p = refute_as _ _ _
    (λ q. record {
      starts = all_map _ PlanStarts (λ x w. w.0) es q.0;
      placed = placed_of j s es (all_map _ (OwnApart j s) (λ x w. w.1) es q.0) (pairs_map _ (PairFits j s) (λ x y w. w.0) es q.1);
      unmixed = pairs_each (Unmixed j s) (λ x k n h l e c. c) es (pairs_map _ (λ x y. Unmixed j s x y × Unmixed j s y x) (λ x y w. w.1) es q.1);
    })
    (λ f. let o = of_placed j s es f.placed in
    (all_both PlanStarts (OwnApart j s) es f.starts o.0, pairs_both (PairFits j s) (λ x y. Unmixed j s x y × Unmixed j s y x) es o.1 (each_pairs (Unmixed j s) es f.unmixed)))
    (refute_pairs (wrong_spot_of (step_in j s) (room_in j s)) (clash_of (kind_of s) (step_in j s) (room_in j s)) (λ a. PlanStarts a × OwnApart j s a) (λ a b. PairFits j s a b × (Unmixed j s a b × Unmixed j s b a)) (spot_refuted j s) (clash_refuted j s) es)
  where
    s : Source
    s = p.source

    es : List ElementPlan
    es = p.elements

plan_refuted : (j : Job) (p : LoopPlan) → Refutes (wrong_plan j p) (All (SegmentFits j) p.segments)
unfolding wrong_plan
plan_refuted j p = refute_all (wrong_segment j) (SegmentFits j) (segment_refuted j) p.segments

pub segments_refuted : (j : Job) → Refutes (any_of (wrong_plan j) j.plan) (Segments (SegmentFits j) j)
segments_refuted j = refute_all (wrong_plan j) _ (plan_refuted j) j.plan
