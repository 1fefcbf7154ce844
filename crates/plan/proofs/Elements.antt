-- Laws of the definitions of specs/Elements, and words that only proofs use.
use mathlib.Core.Path.{refl}
use Prim.Native.Nat.{ℕ, zero, suc, ◌+◌, ◌≤◌, ◌<◌}
use Rattle.std.specs.Prelude.{◌≡◌, length, get_or, drop}
use mathlib.Core.List.{List, [], ◌∷◌}
use Rattle.std.proofs.Common.{arith, add-one, drop-cons}
use Rattle.codec.specs.Codec.{Codec, list_c}
use Rattle.codec.specs.Skip.{skip, steps, Is}
use Rattle.codec.specs.Field.{Stands}
use Rattle.codec.proofs.Field.{stands_at, is_list}
use Rattle.format.specs.Plan.{ElementPlan as ElementPlanIn, element_plan_c}
use Rattle.format.specs.NoElement.{no_element_plan}
use Rattle.format.specs.Sections.{layout_start}
use Rattle.plan.specs.declared.answers.ElementPlan.{ElementPlan}
use Rattle.plan.specs.Answers.{ElementRead}
use Rattle.plan.specs.Index.{PlanIndexed}
use Rattle.plan.specs.Elements.{Run, Elements, ElementStep}

module _ {A : Type 0} (C : Codec A) (b : List ℕ) (e : ℕ) where
  run_items : (vs : List A) (p : ℕ) → ((i : ℕ) (d : A) → i < length vs → Is C b e (steps C b e i p) (get_or vs i d)) → Run C b e p vs
  unfolding Run steps
  run_items [] p h = tt
  run_items (v ∷ vs) p h = (h 0 v (omega arith), run_items vs (skip C b p e) (λ i d q. h (suc i) d (omega arith)))

  pub run_none : (p : ℕ) → Run C b e p []
  unfolding Run
  run_none p = tt

  -- the items of a list stand behind its count
  pub run_list : (at : ℕ) (vs : List A) → Is (list_c C) b e at vs → Run C b e (at + 4) vs
  run_list at vs h = run_items vs (at + 4) (is_list C b e at vs h).item

  run_first : (p : ℕ) (v : A) (vs : List A) → Run C b e p (v ∷ vs) → Is C b e p v × Run C b e (skip C b p e) vs
  unfolding Run
  run_first p v vs h = h

  -- item k stands where the rest from k on stands
  pub run_here : (p k : ℕ) (vs : List A) (d : A) → k < length vs → Run C b e p (drop k vs) → Is C b e p (get_or vs k d)
  run_here p k vs d q h = (run_first p _ _ (rw (drop-cons vs k d q) at h)).0

  -- behind it stands the rest from k + 1 on
  pub run_next : (p k q : ℕ) (vs : List A) (d : A) → k < length vs → q ≡ skip C b p e → Run C b e p (drop k vs) → Run C b e q (drop (k + 1) vs)
  run_next p k q vs d m w h = rw (w, add-one) (run_first p _ _ (rw (drop-cons vs k d m) at h)).1

  -- where an item is left, one stands at the place
  pub run_stands : e ≤ length b → (p k : ℕ) (vs : List A) (d : A) → k < length vs → Run C b e p (drop k vs) → Stands C b p
  run_stands m p k vs d q h = stands_at C b p p e _ refl m (run_here p k vs d q h)

  -- k steps lead to item k
  pub run_steps : (k p : ℕ) (vs : List A) → k ≤ length vs → Run C b e p vs → Run C b e (steps C b e k p) (drop k vs)
  unfolding Run steps
  run_steps zero p vs q h = h
  run_steps (suc k) p [] q h = absurd (omega arith)
  run_steps (suc k) p (v ∷ vs) q h = run_steps k (skip C b p e) vs (omega arith) h.1

-- ---- the planned elements of a segment, from the place p on

module _ (b idx : List ℕ) (x : PlanIndexed b idx) (p k : ℕ) (vs : List ElementPlanIn) (q : k < length vs) (h : Elements b p (drop k vs)) where
  -- what read::element_at requires
  pub element_stands : Stands element_plan_c b p
  element_stands = run_stands element_plan_c b (layout_start b) x.plan_end p k vs no_element_plan q h

  -- what it ensures, of element k
  pub element_step : (r : ElementPlan) → ((e : ℕ) (v : ElementPlanIn) → e ≤ length b → Is element_plan_c b e p v → ElementRead b e p v r) → ElementStep b k vs r
  element_step r f =
      let g : ElementRead b (layout_start b) p (get_or vs k no_element_plan) r = f (layout_start b) _ x.plan_end (run_here element_plan_c b (layout_start b) p k vs no_element_plan q h) in
      record { plan = g.plan; rest = run_next element_plan_c b (layout_start b) p k r.next vs no_element_plan q g.next h; within = g.within }
