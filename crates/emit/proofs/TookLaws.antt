-- Steps taken one after the other.
use Prim.Native.Nat.{ℕ}
use mathlib.Core.Path.{◌≡◌, refl, sym, ap, ◌∙◌}
use mathlib.Core.Bool.{Bool}
use mathlib.Core.List.{List, [], ◌∷◌, ◌++◌, append_assoc, append-nil}
use Rattle.format.specs.Job.{Job}
use Rattle.nest.specs.OfJob.{outline_of}
use Rattle.walk.specs.Tour.{Step, stop, opener, row_segment, fill, chunk, closer, segments_in}
use Rattle.emit.specs.declared.state.State.{State}
use Rattle.emit.specs.Fold as F
use Rattle.emit.specs.Fold.{Out, quiet, and_then, stop_out, opener_out, row_out, fill_out, chunk_out, closer_out, step_out, steps_out}
use Rattle.emit.specs.Did.{state_of, Did, Small, Took}
use Rattle.emit.proofs.Did.{Fit}
use Rattle.emit.proofs.DidLaws.{did_then, did_nothing}

-- ---- the fold

pub steps_none : (j : Job) (s : F.State) → steps_out j [] s ≡ quiet s
unfolding steps_out
steps_none j s = refl

-- the lists of three, grouped either way
grouped : (a b c : Out) → and_then (and_then a (λ (s : F.State). b)) (λ (s : F.State). c) ≡ and_then a (λ (s : F.State). and_then b (λ (s : F.State). c))
grouped a b c = rw (append_assoc a.bytes b.bytes c.bytes, append_assoc a.segments b.segments c.segments, append_assoc a.findings b.findings c.findings, append_assoc a.stops b.stops c.stops) refl

pub steps_append : (j : Job) (xs ys : List Step) (s : F.State) → steps_out j (xs ++ ys) s ≡ and_then (steps_out j xs s) (steps_out j ys)
unfolding steps_out
steps_append j [] ys s = refl
steps_append j (x ∷ xs) ys s =
    let a = step_out j x s in
    let b = steps_out j xs a.state in
    ap (λ (o : Out). and_then a (λ (z : F.State). o)) (steps_append j xs ys a.state) ∙ sym (grouped a b (steps_out j ys b.state))

pub steps_one : (j : Job) (x : Step) (s : F.State) → steps_out j (x ∷ []) s ≡ step_out j x s
unfolding steps_out
steps_one j x s = let a = step_out j x s in rw (append-nil a.bytes, append-nil a.segments, append-nil a.findings, append-nil a.stops) refl

-- ---- one step

pub step_stop : (j : Job) (l t r : ℕ) (s : F.State) → step_out j (stop l t r) s ≡ stop_out (outline_of j) l t r s
unfolding step_out
step_stop j l t r s = refl

pub step_opener : (j : Job) (l : ℕ) (s : F.State) → step_out j (opener l) s ≡ opener_out j l s
unfolding step_out
step_opener j l s = refl

pub step_row : (j : Job) (l i t r : ℕ) (s : F.State) → step_out j (row_segment l i t r) s ≡ row_out j l i t r s
unfolding step_out
step_row j l i t r s = refl

pub step_fill : (j : Job) (l i t k r : ℕ) (s : F.State) → step_out j (fill l i t k r) s ≡ fill_out j l i t k r s
unfolding step_out
step_fill j l i t k r s = refl

pub step_chunk : (j : Job) (l i t : ℕ) (rs : List ℕ) (s : F.State) → step_out j (chunk l i t rs) s ≡ chunk_out j l i t rs s
unfolding step_out
step_chunk j l i t rs s = refl

pub step_closer : (j : Job) (l : ℕ) (b : Bool) (n m : ℕ) (s : F.State) → step_out j (closer l b n m) s ≡ closer_out j l b n m s
unfolding step_out
step_closer j l b n m s = refl

-- ---- what code did

pub did_steps : {s r t : State} {d d₁ d₂ g g₁ g₂ f f₁ f₂ p p₁ p₂ : List ℕ} (j : Job) (xs ys : List Step) → Fit d g f p
    → Did (steps_out j xs (state_of s)) s r d d₁ g g₁ f f₁ p p₁ → Did (steps_out j ys (state_of r)) r t d₁ d₂ g₁ g₂ f₁ f₂ p₁ p₂ → Did (steps_out j (xs ++ ys) (state_of s)) s t d d₂ g g₂ f f₂ p p₂
did_steps {s = s} j xs ys h x y = rw (steps_append j xs ys (state_of s)) (did_then (steps_out j xs (state_of s)) (steps_out j ys) h x y)

pub did_step : {s r : State} {d d₁ g g₁ f f₁ p p₁ : List ℕ} (j : Job) (x : Step) → Did (step_out j x (state_of s)) s r d d₁ g g₁ f f₁ p p₁ → Did (steps_out j (x ∷ []) (state_of s)) s r d d₁ g g₁ f f₁ p p₁
did_step {s = s} j x y = rw (steps_one j x (state_of s)) y

-- no step; one step, which writes so many segments; some steps and then others
pub took_none : (j : Job) (s : State) {d g f p : List ℕ} → Small s → Took j [] s (record { state = s; written = 0 }) d d g g f f p p
unfolding segments_in
took_none j s h = record { did = rw (steps_none j (state_of s)) (did_nothing s h); written = refl }

pub took_one : {s r : State} {d d₁ g g₁ f f₁ p p₁ : List ℕ} (j : Job) (x : Step) (n : ℕ) → n ≡ segments_in (x ∷ []) → Did (step_out j x (state_of s)) s r d d₁ g g₁ f f₁ p p₁
    → Took j (x ∷ []) s (record { state = r; written = n }) d d₁ g g₁ f f₁ p p₁
took_one j x n e y = record { did = did_step j x y; written = e }
