-- Steps taken by a loop: those done so far, and those still to come.
use Prim.Native.Nat.{ℕ, ◌+◌, ◌<◌}
use mathlib.Core.Path.{◌≡◌, refl, sym, ◌∙◌}
use mathlib.Core.List.{List, [], ◌++◌, map, append_assoc, append-nil}
use native.Mathlib.Omega.{arith}
use lib.ListN.{length, length-map}
use Rattle.format.specs.Job.{Job}
use Rattle.lent.specs.Fit.{cap}
use Rattle.walk.specs.Tour.{Step, segments_in}
use Rattle.walk.proofs.Counts.{segments_append}
use Rattle.emit.specs.declared.state.State.{State}
use Rattle.emit.specs.declared.state.Taken.{Taken}
use Rattle.emit.specs.Fold.{steps_out}
use Rattle.emit.specs.Did.{state_of, Did, Small, Took}
use Rattle.emit.proofs.Did.{Fit}
use Rattle.emit.proofs.DidLaws.{did_nothing, did_small}
use Rattle.emit.proofs.TookLaws.{steps_none, did_steps}
use Rattle.run.specs.Went.{Went}

-- a list is as long as what is made of it
pub marks_long : (X Y : Type 0) (f : X → Y) (l : List X) (n : ℕ) → length (map f l) ≡ n → length l ≡ n
marks_long X Y f l n e = sym (length-map l f) ∙ e

-- ---- of the steps `whole` those of `rest` are still to come

pub record Far (j : Job) (whole rest : List Step) (s t : State) (d d₁ g g₁ f f₁ p p₁ : List ℕ) : Type 0 where
  pub done : List Step
  pub did : Did (steps_out j done (state_of s)) s t d d₁ g g₁ f f₁ p p₁
  pub all : whole ≡ done ++ rest

pub far_none : (j : Job) (whole : List Step) (s : State) {d g f p : List ℕ} → Small s → Far j whole whole s s d d g g f f p p
far_none j whole s h = record { done = []; did = rw (steps_none j (state_of s)) (did_nothing s h); all = refl }

pub far_next : {s t u : State} {d d₁ d₂ g g₁ g₂ f f₁ f₂ p p₁ p₂ : List ℕ} (j : Job) (whole xs rest : List Step) → Fit d g f p
    → Far j whole (xs ++ rest) s t d d₁ g g₁ f f₁ p p₁ → Did (steps_out j xs (state_of t)) t u d₁ d₂ g₁ g₂ f₁ f₂ p₁ p₂ → Far j whole rest s u d d₂ g g₂ f f₂ p p₂
far_next j whole xs rest h x y = record { done = x.done ++ xs; did = did_steps j x.done xs h x.did y; all = x.all ∙ sym (append_assoc x.done xs rest) }

pub far_end : {s t : State} {d d₁ g g₁ f f₁ p p₁ : List ℕ} (j : Job) (whole : List Step)
    → Far j whole [] s t d d₁ g g₁ f f₁ p p₁ → Did (steps_out j whole (state_of s)) s t d d₁ g g₁ f f₁ p p₁
far_end j whole x = rw (x.all ∙ append-nil x.done) x.did

pub far_small : {j : Job} {whole rest : List Step} {s t : State} {d d₁ g g₁ f f₁ p p₁ : List ℕ} → Far j whole rest s t d d₁ g g₁ f f₁ p p₁ → Small t
far_small x = did_small x.did

-- ---- with the segments and the instances counted: `left` instances of `total` are still to come

pub record Along (j : Job) (whole : List Step) (total : ℕ) (rest : List Step) (left : ℕ) (s t : State) (w n : ℕ) (d d₁ g g₁ f f₁ p p₁ : List ℕ) : Type 0 where
  pub far : Far j whole rest s t d d₁ g g₁ f f₁ p p₁
  pub written : w + segments_in rest ≡ segments_in whole
  pub instances : n + left ≡ total

pub along_none : (j : Job) (whole : List Step) (total : ℕ) (s : State) {d g f p : List ℕ} → Small s → Along j whole total whole total s s 0 0 d d g g f f p p
along_none j whole total s h = record { far = far_none j whole s h; written = omega arith; instances = omega arith }

module _ {j : Job} {whole : List Step} {total : ℕ} {s t : State} {w n : ℕ} {d d₁ g g₁ f f₁ p p₁ : List ℕ} where
  pub along_next : {r : Taken} {d₂ g₂ f₂ p₂ : List ℕ} (xs rest : List Step) (m left : ℕ) → Fit d g f p → Along j whole total (xs ++ rest) (m + left) s t w n d d₁ g g₁ f f₁ p p₁
      → Took j xs t r d₁ d₂ g₁ g₂ f₁ f₂ p₁ p₂ → Along j whole total rest left s r.state (w + r.written) (n + m) d d₂ g g₂ f f₂ p p₂
  along_next xs rest m left h a x = record {
    far = far_next j whole xs rest h a.far x.did;
    written = omega (arith, a.written, segments_append xs rest, x.written);
    instances = omega (arith, a.instances);
  }

  pub along_end : Along j whole total [] 0 s t w n d d₁ g g₁ f f₁ p p₁
      → Went j whole total s t (record { written = w; instances = n }) d d₁ g g₁ f f₁ p p₁
  unfolding segments_in
  along_end a = record { took = record { did = far_end j whole a.far; written = omega (arith, a.written) }; instances = omega (arith, a.instances) }

  -- the next steps are within the bound
  pub along_room : (xs rest : List Step) (left : ℕ) → Along j whole total (xs ++ rest) left s t w n d d₁ g g₁ f f₁ p p₁ → segments_in whole < cap → w + segments_in xs < cap
  along_room xs rest left a h = omega (arith, a.written, segments_append xs rest)
