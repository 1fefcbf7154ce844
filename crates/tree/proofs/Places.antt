-- The places of the loops and of their children: filled in one after the other, and looked up.
use Prim.Native.Nat.{ℕ, ◌+◌, ◌≤◌, ◌<◌}
use mathlib.Core.Path.{◌≡◌, refl, sym, ◌∙◌}
use mathlib.Core.List.{List}
use mathlib.Core.Bool.{Bool, true, false}
use native.Mathlib.Omega.{arith}
use lib.ListN.{length, get_or, set, length-set}
use lib.Seq.{get_or-set_same, get_or-set_other}
use lib.Dec.{ltb}
use borrow.Author.Tests.{ltb-true, ltb-false}
use Rattle.codec.specs.Codec.{le_c, list_c}
use Rattle.codec.specs.Forms.{num_c}
use Rattle.codec.specs.Skip.{skip, steps, count_at}
use Rattle.codec.proofs.Skip.{steps_last, skip_map, skip_pair}
use Rattle.format.specs.Fields.{loop_children}
use Rattle.format.specs.Spec.{loop_c}
use Rattle.tree.specs.Parts.{Placed}

module _ (b : List ℕ) (e at : ℕ) (ps : List (ℕ × ℕ)) (i : ℕ) (d : Placed b e at ps) (h : i < length ps) (k : i < count_at b at e) where
  pub placed_at : (get_or ps i (0, 0)).0 ≡ steps loop_c b e i (skip (le_c 4) b at e)
  placed_at = (d i h k).0

-- a loop ends where its children do
loop_end_lem : (b : List ℕ) (e p : ℕ) → skip (list_c num_c) b (loop_children b e p) e ≡ skip loop_c b p e
unfolding loop_c
loop_end_lem b e p = simp (skip_map, skip_pair)

-- k loops are in, and p is the next
pub record Filling (b : List ℕ) (e at p k : ℕ) (ps : List (ℕ × ℕ)) : Type 0 where
  pub next : p ≡ steps loop_c b e k (skip (le_c 4) b at e)
  pub kept : (i : ℕ) → i < k → i < length ps → ((get_or ps i (0, 0)).0 ≡ steps loop_c b e i (skip (le_c 4) b at e)) × ((get_or ps i (0, 0)).1 ≡ loop_children b e (steps loop_c b e i (skip (le_c 4) b at e)))

module _ (b : List ℕ) (e at : ℕ) where
  pub filling_start : (p : ℕ) (ps : List (ℕ × ℕ)) → p ≡ skip (le_c 4) b at e → Filling b e at p 0 ps
  unfolding steps
  filling_start p ps h = record { next = h; kept = λ i l m. absurd (omega (arith, l)) }

  pub filling_again : (p k c q : ℕ) (ps : List (ℕ × ℕ)) → Filling b e at p k ps → k < length ps → c ≡ loop_children b e p → q ≡ skip (list_c num_c) b c e → Filling b e at q (k + 1) (set ps k (p, c))
  filling_again p k c q ps d h u i = record {
    next = i ∙ rw (u, loop_end_lem b e p, d.next) (sym (steps_last loop_c b e k (skip (le_c 4) b at e)));
    kept = λ j l m. go j l (omega (arith, m, length-set ps k (p, c))) (ltb j k) refl;
  }
    where
      go : (j : ℕ) → j < k + 1 → j < length ps → (t : Bool) → ltb j k ≡ t → ((get_or (set ps k (p, c)) j (0, 0)).0 ≡ steps loop_c b e j (skip (le_c 4) b at e)) × ((get_or (set ps k (p, c)) j (0, 0)).1 ≡ loop_children b e (steps loop_c b e j (skip (le_c 4) b at e)))
      go j l n true w =
          let m : j < k = ltb-true _ _ w in
          rw (get_or-set_other ps k j (p, c) (0, 0) (λ z. omega (arith, z, m))) (d.kept j m n)
      go j l n false w =
          let m : k ≤ j = ltb-false _ _ w in
          let z : j ≡ k = omega (arith, m, l) in
          rw (z, get_or-set_same ps k (p, c) (0, 0) h) (d.next, u ∙ rw (← d.next))
