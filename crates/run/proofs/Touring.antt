-- The whole walk: the instances of the roots, from place k on.
use Prim.Native.Nat.{ℕ, ◌+◌, ◌≤◌, ◌<◌}
use mathlib.Core.Path.{◌≡◌, refl, sym, ap, ◌∙◌}
use mathlib.Core.List.{List, ◌++◌}
use native.Mathlib.Omega.{arith}
use lib.ListN.{length, get_or, drop}
use Rattle.format.specs.Job.{Job}
use Rattle.format.specs.Passed.{Passed}
use Rattle.format.specs.Sections.{job_of}
use Rattle.lent.specs.Fit.{cap}
use Rattle.nest.specs.Lists.{each}
use Rattle.nest.specs.OfJob.{outline_of}
use Rattle.nest.specs.OutlineAt.{outline_at}
use Rattle.nest.proofs.Bridge.{loop_count_is, roots_is}
use Rattle.nest.proofs.Scan.{each_at, each_past}
use Rattle.walk.specs.declared.Context.{Context as Kept}
use Rattle.walk.specs.Instances.{outside}
use Rattle.walk.specs.Contexts.{context_by, kept_outside}
use Rattle.walk.specs.Tour.{Step, segments_in, visits, tour_to, tour}
use Rattle.walk.proofs.TourLaws.{tour_roots}
use Rattle.walk.proofs.Counts.{segments_append}
use Rattle.walk.proofs.ContextLaws.{stands_outside}
use Rattle.walk.proofs.NestedLaws.{sound_outside}
use Rattle.emit.specs.declared.state.State.{State}
use Rattle.emit.specs.Fold.{steps_out}
use Rattle.emit.specs.Did.{state_of, Did, Small}
use Rattle.emit.proofs.Did.{Fit}
use Rattle.run.specs.declared.Visited.{Visited}
use Rattle.run.specs.Went.{Walks, Went}
use Rattle.nest.proofs.Small.{root_small}
use Rattle.run.proofs.Along.{Far, far_none, far_next, far_end}

-- a loop of the list of roots, outside of all loops
pub walks_root : {b : List ℕ} {s : State} (c : Kept) (k l : ℕ) → c ≡ kept_outside → Passed b → Small s → k < length (job_of b).spec.roots → l ≡ get_or (job_of b).spec.roots k 0
    → Walks (outline_at b) s l c
walks_root {b} c k l e w h q y = record {
  small = h;
  sound = rw (e, stands_outside) (sound_outside (outline_at b));
  loop = root_small b w k _ l refl q y;
}

module _ (j : Job) (h : ℕ) where
  abbrev one : ℕ → List Step
  one l = visits (outline_of j) h l outside

  -- roots below k are done
  abbrev pub RootsTo : ℕ → (s t : State) (d d₁ g g₁ f f₁ p p₁ : List ℕ) → Type 0
  RootsTo k = Far j (tour_to (outline_of j) h) (each one (drop k (outline_of j).roots))

  pub tour_none : {s : State} {d g f p : List ℕ} → Small s → RootsTo 0 s s d d g g f f p p
  tour_none {s = s} q = rw (tour_roots (outline_of j) h) (far_none j (each one (outline_of j).roots) s q)

  module _ {s t : State} {d d₁ g g₁ f f₁ p p₁ : List ℕ} (count k : ℕ) (e : count ≡ length j.spec.roots) (a : RootsTo k s t d d₁ g g₁ f f₁ p p₁) where
    pub tour_end : h ≡ length j.spec.loops → count ≤ k → Did (steps_out j (tour (outline_of j)) (state_of s)) s t d d₁ g g₁ f f₁ p p₁
    tour_end z b =
        let q : length (outline_of j).roots ≤ k = rw (roots_is j) (omega (arith, e, b)) in
        rw (loop_count_is j, ← z) (far_end j (tour_to (outline_of j) h) (rw (each_past one (outline_of j).roots k q) at a))

    module _ (l : ℕ) (c : Kept) (b : k < count) (y : l ≡ get_or j.spec.roots k 0) (o : c ≡ kept_outside) where
      split : Far j (tour_to (outline_of j) h) (visits (outline_of j) h l (context_by c) ++ each one (drop (k + 1) (outline_of j).roots)) s t d d₁ g g₁ f f₁ p p₁
      split =
          let q : k < length (outline_of j).roots = rw (roots_is j) (omega (arith, e, b)) in
          let z : get_or (outline_of j).roots k 0 ≡ l = ap (λ (xs : List ℕ). get_or xs k 0) (roots_is j) ∙ sym y in
          rw (o, stands_outside) (rw (each_at one (outline_of j).roots k 0 q, z) at a)

      pub root_within : h ≡ length j.spec.loops → segments_in (tour (outline_of j)) < cap → segments_in (visits (outline_of j) h l (context_by c)) < cap
      root_within z r =
          let q : segments_in (tour_to (outline_of j) h) < cap = rw (loop_count_is j, ← z) at r in
          omega (
            arith,
            ap segments_in split.all,
            segments_append split.done (visits (outline_of j) h l (context_by c) ++ each one (drop (k + 1) (outline_of j).roots)),
            segments_append (visits (outline_of j) h l (context_by c)) (each one (drop (k + 1) (outline_of j).roots)),
          )

      pub tour_next : {u : State} {v : Visited} {d₂ g₂ f₂ p₂ : List ℕ} {n : ℕ} → Went j (visits (outline_of j) h l (context_by c)) n t u v d₁ d₂ g₁ g₂ f₁ f₂ p₁ p₂ → Fit d g f p
          → RootsTo (k + 1) s u d d₂ g g₂ f f₂ p p₂
      tour_next w fit = far_next j (tour_to (outline_of j) h) (visits (outline_of j) h l (context_by c)) _ fit split w.took.did
