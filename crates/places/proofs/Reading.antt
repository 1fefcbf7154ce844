-- What stands at a place, read there: values and sources of the plan.
use Prim.Native.Nat.{ℕ, ◌+◌}
use mathlib.Core.Path.{◌≡◌, refl, sym, ap, ◌∙◌}
use mathlib.Core.List.{List, [], ◌∷◌}
use mathlib.Core.Bool.{Bool, true, false}
use native.Mathlib.Omega.{arith}
use Rattle.std.specs.Prelude.{Option, None, Some}
use Rattle.codec.specs.Codec.{le_c, pick}
use Rattle.codec.specs.Forms.{num_c, opt_c}
use Rattle.codec.specs.Skip.{skip, count_at, tag_at, Is}
use Rattle.codec.proofs.Field.{is_in, is_none, is_some}
use Rattle.codec.specs.Limits.{any_of}
use Rattle.format.specs.Job.{Job}
use Rattle.format.specs.Plan.{Source, from_envelope, from_row, from_repeat, source_c, from_column, from_group, from_code, value_c, ElementPlan, element_plan_c, SegmentPlan}
use Rattle.format.proofs.Fields.{source_tag, is_from_row, is_from_repeat, value_tag, is_from_group}
use Rattle.complete.specs.Complete.{step_in}
use Rattle.says.specs.Says.{Says, SaysRest, SaysBefore, any_before}
use Rattle.says.proofs.Walk.{number_is, both, only}
use Rattle.codec.proofs.Ways.{tag_read, tag_past, tag_within}
use Rattle.places.specs.declared.spots.Spot.{Spot}
use Rattle.places.specs.declared.spots.Filled.{Filled}
use Rattle.places.specs.declared.spots.Filled.TheVariants.{Row}
use Rattle.places.specs.Spots.{wrong_spot, wrong_spot_of, clash, clash_of, fails, filled_of, kind_by, kind_of, meet, misplaced, mixed, pairs, reach_of, room_by, room_in, spot_of, step_by, wrong_segment, wrong_spots}

module _ (b : List ℕ) (e at t room : ℕ) (h : t ≡ tag_at b at e) where
  pub reach_group : t ≡ 1 → Says value_c b e at (reach_of room) room
  reach_group i (from_column x) u = absurd (omega (arith, value_tag b e at (from_column x) u, tag_read b at e t h 1 i (omega arith)))
  reach_group i (from_group x) u = refl
  reach_group i (from_code x) u = absurd (omega (arith, value_tag b e at (from_code x) u, tag_read b at e t h 1 i (omega arith)))

  pub reach_one : (t ≡ 1 → ⊥) → Says value_c b e at (reach_of room) 1
  reach_one i (from_column x) u = refl
  reach_one i (from_group x) u = absurd (i (sym (tag_within b at e t h (is_in num_c b e _ _ (is_from_group b e at x u))) ∙ value_tag b e at (from_group x) u))
  reach_one i (from_code x) u = refl

module _ (b : List ℕ) (e at t : ℕ) (h : t ≡ tag_at b at e) where
  pub component_some : (p n : ℕ) → t ≡ 1 → p ≡ skip (le_c 1) b at e → n ≡ count_at b p e → Says (opt_c num_c) b e at (λ (o : Option ℕ). o) (Some n)
  component_some p n i j k None u = absurd (omega (arith, is_none num_c b e at u, tag_read b at e t h 1 i (omega arith)))
  component_some p n i j k (Some v) u =
      let z : n ≡ v = number_is b e n p (at + 1) v k (tag_past b at e t h 1 i (omega arith) p j) (is_some num_c b e at v u).1 in
      rw z

  pub component_none : (t ≡ 1 → ⊥) → Says (opt_c num_c) b e at (λ (o : Option ℕ). o) None
  component_none i None u = refl
  component_none i (Some v) u =
      let m = is_some num_c b e at v u in
      absurd (i (sym (tag_within b at e t h (is_in num_c b e (at + 1) v m.1)) ∙ m.0))

pub spot_is : (room : ℕ) (v : ElementPlan) (n : ℕ) (o : Option ℕ) (r : ℕ) → n ≡ v.element → o ≡ v.component → r ≡ reach_of room v.value → record { element = n; component = o; reach = r } ≡ spot_of room v
spot_is room v n o r h i j = rw (h, i, j)

pairs_before : {A : Type 0} (u : A → Bool) (f : A → A → Bool) (es : List A) → any_before (λ ys y. pick (u y) true (any_of (f y) ys)) es ≡ pairs u f es
unfolding any_before pairs
pairs_before u f [] = refl
pairs_before u f (x ∷ es) = rw (pairs_before u f es)

pub spots_fail : (kind step room : ℕ) (es : List ElementPlan) → any_before (fails kind step room) es ≡ wrong_spots kind step room es
unfolding wrong_spots
spots_fail kind step room es = pairs_before (wrong_spot_of step room) (clash_of kind step room) es

module _ (b : List ℕ) (e p m q kind step room : ℕ) (x : Spot) (a : Bool) (h : Says element_plan_c b e p (spot_of room) x) (i : a ≡ wrong_spot step x) where
  pub spot_alone : a ≡ true → SaysBefore element_plan_c b e p m q (fails kind step room) a
  spot_alone k ws w v l = let y : wrong_spot step (spot_of room v) ≡ true = ap (wrong_spot step) (sym (h v l)) ∙ (sym i ∙ k) in rw (k, y)

  pub spot_then : a ≡ false → (c : Bool) → SaysRest element_plan_c b e m q (any_of (λ (v : ElementPlan). clash kind step x (spot_of room v))) c → SaysBefore element_plan_c b e p m q (fails kind step room) c
  spot_then k c s ws w v l =
      let y : wrong_spot step (spot_of room v) ≡ false = ap (wrong_spot step) (sym (h v l)) ∙ (sym i ∙ k) in
      let z : x ≡ spot_of room v = h v l in
      rw y (s ws w ∙ rw z)

-- ---- what fills a planned segment
module _ (b : List ℕ) (e at t : ℕ) (h : t ≡ tag_at b at e) where
  pub source_repeat : (p n : ℕ) → t ≡ 2 → p ≡ skip (le_c 1) b at e → n ≡ count_at b p e → (v : Source) → Is source_c b e at v → v ≡ from_repeat n
  source_repeat p n i j k from_envelope u = absurd (omega (arith, source_tag b e at from_envelope u, tag_read b at e t h 2 i (omega arith)))
  source_repeat p n i j k (from_row x) u = absurd (omega (arith, source_tag b e at (from_row x) u, tag_read b at e t h 2 i (omega arith)))
  source_repeat p n i j k (from_repeat x) u =
      let z : n ≡ x = number_is b e n p (at + 1) x k (tag_past b at e t h 2 i (omega arith) p j) (is_from_repeat b e at x u) in
      rw z

  pub source_row : t ≡ 1 → (j : Job) → Says source_c b e at (filled_of j) Row
  source_row i j from_envelope u = absurd (omega (arith, source_tag b e at from_envelope u, tag_read b at e t h 1 i (omega arith)))
  source_row i j (from_row x) u = refl
  source_row i j (from_repeat x) u = absurd (omega (arith, source_tag b e at (from_repeat x) u, tag_read b at e t h 1 i (omega arith)))

  pub source_envelope : (t ≡ 2 → ⊥) → (t ≡ 1 → ⊥) → (v : Source) → Is source_c b e at v → v ≡ from_envelope
  source_envelope i j from_envelope u = refl
  source_envelope i j (from_row x) u = absurd (j (sym (tag_within b at e t h (is_in num_c b e _ _ (is_from_row b e at x u))) ∙ source_tag b e at (from_row x) u))
  source_envelope i j (from_repeat x) u = absurd (i (sym (tag_within b at e t h (is_in num_c b e _ _ (is_from_repeat b e at x u))) ∙ source_tag b e at (from_repeat x) u))

filled_is : (j : Job) (s : Source) (es : List ElementPlan) → wrong_spots (kind_by (filled_of j s)) (step_by (filled_of j s)) (room_by (filled_of j s)) es ≡ wrong_spots (kind_of s) (step_in j s) (room_in j s) es
filled_is j from_envelope es = refl
filled_is j (from_row t) es = refl
filled_is j (from_repeat t) es = refl

pub segment_is : (j : Job) (v : SegmentPlan) (f : Filled) (t : Bool) → t ≡ wrong_spots (kind_by f) (step_by f) (room_by f) v.elements → f ≡ filled_of j v.source → t ≡ wrong_segment j v
unfolding wrong_segment
segment_is j v f t h i = h ∙ rw i (filled_is j v.source v.elements)

-- ---- two places
pub clash_is : (kind step : ℕ) (x y : Spot) (m p r : Bool) → m ≡ meet step x y → p ≡ misplaced kind m x y → r ≡ pick p true (pick m (mixed x y) false) → r ≡ clash kind step x y
unfolding clash
clash_is kind step x y m p r h i k = both _ _ _ _ _ k (i ∙ rw h) (only _ _ (rw h))
