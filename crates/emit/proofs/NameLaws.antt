-- Identifiers: those of a job that passed have three bytes at most (refusal 5), and so they are numbers.
use Prim.Native.Nat.{ℕ, suc, ◌+◌, ◌*◌, ◌≤◌, ◌<◌}
use mathlib.Core.Path.{◌≡◌, refl, ap}
use mathlib.Core.Bool.{Bool, true, false, not}
use mathlib.Core.List.{List, [], ◌∷◌}
use native.Mathlib.Omega.{arith}
use native.Mathlib.Numerals.{add-one}
use lib.ListN.{length, get_or, take, drop, length-take, length-drop, get_or-eq_default}
use lib.Seq.{drop-cons}
use lib.Dec.{leb, ltb}
use borrow.Author.Tests.{leb-true, ltb-true, ltb-false}
use Rattle.codec.specs.Codec.{pick}
use Rattle.codec.proofs.Limits.{none_of, none_in}
use Rattle.codec.specs.Limits.{any_of}
use Rattle.format.specs.Spec.{Loop, no_loop}
use Rattle.format.specs.Sections.{job_of}
use Rattle.format.specs.Refusal.{identifier, unnamed, unfit, unfit_spec, unfit_loop}
use Rattle.format.specs.Passed.{Passed}
use Rattle.format.specs.Ask.{loop_of}
use Rattle.nest.specs.Finding.{number_from}
use Rattle.spec.specs.declared.ids.Stretch.{Stretch}
use Rattle.spec.specs.Answers.{stretch_of, Holds}

-- ---- how long they are

-- what holds of each item that fails a test holds of every item, and of the one past the last, if none passes it
pub of_item_lem : {A : Type 0} (f : A → Bool) (P : A → Type 0) (d : A) (xs : List A) → any_of f xs ≡ false → P d → ((x : A) → f x ≡ false → P x) → (i : ℕ) → P (get_or xs i d)
of_item_lem f P d xs h z g i = go (ltb i (length xs)) refl
  where
    go : (t : Bool) → ltb i (length xs) ≡ t → P (get_or xs i d)
    go true q = g _ (none_in f xs h i d (ltb-true _ _ q))
    go false q = rw (get_or-eq_default xs d {n = i} (ltb-false _ _ q)) z

named_short : (s : List ℕ) → unnamed s ≡ false → length s ≤ 3
unfolding unnamed identifier
named_short s h = go (leb 2 (length s)) (leb (length s) 3) _ refl h
  where
    go : (t v u : Bool) → leb (length s) 3 ≡ v → not (pick (pick t v false) u false) ≡ false → length s ≤ 3
    go t true u q r = leb-true _ _ q
    go true false u q r = absurd (let z : ◌≡◌ {A = ℕ} 0 1 = cc in omega arith)
    go false false u q r = absurd (let z : ◌≡◌ {A = ℕ} 0 1 = cc in omega arith)

module _ (b : List ℕ) (w : Passed b) where
  loops_fit : any_of unfit_loop (job_of b).spec.loops ≡ false
  unfolding unfit unfit_spec
  loops_fit = (none_of _ _ (none_of _ _ w.fit).0).0

  pub trigger_short : (l : ℕ) → length (loop_of (job_of b) l).trigger ≤ 3
  unfolding loop_of unfit_loop
  trigger_short = of_item_lem unfit_loop (λ (x : Loop). length x.trigger ≤ 3) no_loop (job_of b).spec.loops loops_fit (omega arith) (λ x h. named_short x.trigger (none_of _ _ h).0)

  pub name_short : (l k : ℕ) → length (get_or (loop_of (job_of b) l).occurrences k []) ≤ 3
  unfolding loop_of unfit_loop
  name_short l k =
      of_item_lem unfit_loop (λ (x : Loop). length (get_or x.occurrences k []) ≤ 3) no_loop (job_of b).spec.loops loops_fit (omega arith)
      (λ x h. of_item_lem unnamed (λ (s : List ℕ). length s ≤ 3) [] x.occurrences (none_of _ _ (none_of _ _ h).1).0 (omega arith) named_short k) l

-- a stretch within the job is as long as its bytes
pub holds_length : (b : List ℕ) (s : Stretch) (v : List ℕ) → Holds b s v → s.len ≡ length v
unfolding stretch_of
holds_length b s v h =
    let e : length (take s.len (drop s.start b)) ≡ length v = ap length h.bytes in
    let m = length-drop s.start b in
    let n = length-take s.len (drop s.start b) in
    omega (arith, h.within, e, m, n)

-- ---- one as a number, byte by byte

stretch_next : (b : List ℕ) (start n : ℕ) → start < length b → take (suc n) (drop start b) ≡ get_or b start 0 ∷ take n (drop (start + 1) b)
stretch_next b start n h = rw (drop-cons b start 0 h, add-one)

module _ (b : List ℕ) (s : Stretch) (h : s.start + s.len ≤ length b) where
  pub name_none : s.len ≡ 0 → 0 ≡ number_from 0 (stretch_of b s)
  unfolding stretch_of
  name_none e = rw e

  pub name_one : s.len ≡ 1 → get_or b s.start 0 ≡ number_from 0 (stretch_of b s)
  unfolding stretch_of
  name_one e =
      let k : s.start < length b = omega arith in
      rw (e, stretch_next b s.start 0 k) (omega arith)

  pub name_two : s.len ≡ 2 → get_or b s.start 0 * 256 + get_or b (s.start + 1) 0 ≡ number_from 0 (stretch_of b s)
  unfolding stretch_of
  name_two e =
      let k : s.start < length b = omega arith in
      let l : s.start + 1 < length b = omega arith in
      rw (e, stretch_next b s.start 1 k, stretch_next b (s.start + 1) 0 l) (omega arith)

  pub name_three : s.len ≡ 3 → (get_or b s.start 0 * 256 + get_or b (s.start + 1) 0) * 256 + get_or b (s.start + 2) 0 ≡ number_from 0 (stretch_of b s)
  unfolding stretch_of
  name_three e =
      let k : s.start < length b = omega arith in
      let l : s.start + 1 < length b = omega arith in
      let m : s.start + 1 + 1 < length b = omega arith in
      let o : s.start + 1 + 1 ≡ s.start + 2 = omega arith in
      rw (e, stretch_next b s.start 2 k, stretch_next b (s.start + 1) 1 l, stretch_next b (s.start + 1 + 1) 0 m, o) (omega arith)
