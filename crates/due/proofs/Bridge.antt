-- What the accessors of a job say of its outline: cells, the layout, and whether a loop is required.
use Prim.Native.Nat.{ℕ, zero, suc, ◌≤◌, ◌<◌}
use mathlib.Core.Path.{◌≡◌, refl, ap}
use mathlib.Core.Bool.{Bool, true, false}
use mathlib.Core.List.{List, [], ◌∷◌, map}
use native.Mathlib.Omega.{arith}
use lib.ListN.{length, get_or, get_or-eq_default}
use lib.Dec.{ltb}
use borrow.Author.Tests.{ltb-true, ltb-false, leb-false}
use Rattle.codec.proofs.Limits.{none_of, none_in}
use Rattle.format.specs.Spec as S
use Rattle.format.specs.Job.{Job}
use Rattle.format.specs.Sections.{job_of}
use Rattle.format.specs.Refusal.{tangled, tangled_loops, outside_loop, outside}
use Rattle.format.specs.Passed.{Passed}
use Rattle.format.proofs.Passed.{few}
use Rattle.format.specs.Ask as A
use Rattle.spec.specs.Usage.{is_required}
use Rattle.nest.specs.Outline.{no_loop, loop_of}
use Rattle.nest.specs.OfJob.{outline_of, loop_in, group_table, repeat_table, same_in, same_chunk_in, filled_in}

module _ (j : Job) where
  pub filled_is : (l i t r : ℕ) → (outline_of j).filled l i t r ≡ filled_in j t (A.planned_of j l i) r
  unfolding outline_of
  filled_is l i t r = refl

  pub group_is : (l a b : ℕ) → (outline_of j).same_group l a b ≡ same_in j (group_table (A.plan_of j l).instances) (A.group_columns_of j l) a b
  unfolding outline_of
  group_is l a b = refl

  pub chunk_is : (l i a b : ℕ) → (outline_of j).same_chunk l i a b ≡ same_chunk_in j (repeat_table (A.planned_of j l i).source) (A.planned_of j l i) a b
  unfolding outline_of
  chunk_is l i a b = refl

  pub forced_is : (l i : ℕ) → (outline_of j).forced l i ≡ A.forced_of j l i
  unfolding outline_of
  forced_is l i = refl

  -- a loop that is not there is not required
  pub required_is : (l : ℕ) → l < length j.spec.loops → (loop_of (outline_of j) l).required ≡ is_required (A.loop_of j l).usage
  unfolding outline_of loop_of A.loop_of
  required_is l h = go j.spec.loops l h
    where
      go : (ls : List S.Loop) (l : ℕ) → l < length ls → (get_or (map loop_in ls) l no_loop).required ≡ is_required (get_or ls l S.no_loop).usage
      go [] l h = absurd (omega arith)
      go (x ∷ ls) zero h = refl
      go (x ∷ ls) (suc l) h = go ls l (omega arith)

  pub required_not : (l : ℕ) → length j.spec.loops ≤ l → (loop_of (outline_of j) l).required ≡ false
  unfolding outline_of loop_of
  required_not l h = go j.spec.loops l h
    where
      go : (ls : List S.Loop) (l : ℕ) → length ls ≤ l → (get_or (map loop_in ls) l no_loop).required ≡ false
      go [] l h = refl
      go (x ∷ ls) zero h = absurd (omega arith)
      go (x ∷ ls) (suc l) h = go ls l (omega arith)

-- ---- the children of a loop have numbers below 32
pub child_small : (b : List ℕ) → Passed b → (l k n m : ℕ) → n ≡ length (A.loop_of (job_of b) l).children → k < n → m ≡ get_or (A.loop_of (job_of b) l).children k 0 → m < 32
unfolding A.loop_of tangled tangled_loops outside_loop outside
child_small b w l k n m c h e = rw e (go (ltb l (length (job_of b).spec.loops)) refl (rw (← c) h))
  where
    go : (u : Bool) → ltb l (length (job_of b).spec.loops) ≡ u → k < length (get_or (job_of b).spec.loops l S.no_loop).children → get_or (get_or (job_of b).spec.loops l S.no_loop).children k 0 < 32
    go true q i =
        let x = none_in (outside_loop (length (job_of b).spec.loops)) (job_of b).spec.loops (none_of _ _ (none_of _ _ w.forest).0).0 l S.no_loop (ltb-true _ _ q) in
        let y : get_or (get_or (job_of b).spec.loops l S.no_loop).children k 0 < length (job_of b).spec.loops = leb-false _ _ (none_in (outside (length (job_of b).spec.loops)) _ (none_of _ _ (none_of _ _ x).1).0 k 0 i) in
        omega (arith, y, (few (job_of b) w.limits).loops)
    go false q i =
        let z : length (get_or (job_of b).spec.loops l S.no_loop).children ≡ 0 = ap (λ (s : S.Loop). length s.children) (get_or-eq_default (job_of b).spec.loops S.no_loop {n = l} (ltb-false _ _ q)) in
        absurd (omega (arith, z, i))
