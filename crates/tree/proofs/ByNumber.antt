-- Tests of the loops by their numbers: n loops are there, the first k were met, and p is the place of the next.
use Prim.Native.Nat.{ℕ, ◌+◌, ◌-◌, ◌^◌, ◌≤◌, ◌<◌}
use mathlib.Core.Path.{◌≡◌, refl}
use mathlib.Core.List.{List, [], ◌∷◌}
use mathlib.Core.Bool.{Bool, true, false}
use native.Mathlib.Omega.{arith}
use Rattle.codec.specs.Codec.{le_c, list_c}
use Rattle.codec.specs.Forms.{num_c}
use Rattle.codec.specs.Limits.{any_of}
use Rattle.codec.specs.Skip.{skip, steps, count_at}
use Rattle.codec.proofs.Skip.{steps_last}
use Rattle.format.specs.Fields.{loop_children}
use Rattle.format.proofs.Fields.{is_loop}
use Rattle.format.specs.Spec.{Loop, loop_c}
use Rattle.format.specs.Words.{any_from}
use lib.Dec.{ltb}
use borrow.Author.Tests.{ltb-true, ltb-false}
use Rattle.std.proofs.Common.{subst}
use Rattle.says.specs.Says.{Says, NotFound, Found}
use Rattle.says.proofs.Walk.{says_at}
use Rattle.says.proofs.Behind.{NoneUpTo, from_start, from_again, from_found, from_none}
use Rattle.tree.specs.Parts.{LoopAt}

abbrev pub Upto : List ℕ → ℕ → ℕ → (ℕ → Loop → Bool) → ℕ → ℕ → Type 0
Upto b e at f n k = NoneUpTo loop_c b e at f k (n - k) (steps loop_c b e k (skip (le_c 4) b at e))

module _ (b : List ℕ) (e at : ℕ) (f : ℕ → Loop → Bool) (n : ℕ) (h : n ≡ count_at b at e) where
  pub upto_start : Upto b e at f n 0
  unfolding steps
  upto_start = let z : n - 0 ≡ n = omega arith in rw z (from_start loop_c b e at f n _ h refl)

  pub upto_again : (k p : ℕ) (r : Bool) → Upto b e at f n k → k < n → (k < count_at b at e → p ≡ steps loop_c b e k (skip (le_c 4) b at e)) → Says loop_c b e p (f k) r → r ≡ false → Upto b e at f n (k + 1)
  upto_again k p r d l i s q =
      let z : n - (k + 1) ≡ n - k - 1 = omega arith in
      let j : p ≡ steps loop_c b e k (skip (le_c 4) b at e) = i (omega (arith, l, h)) in
      rw z (from_again loop_c b e at f k (n - k) _ (steps loop_c b e (k + 1) (skip (le_c 4) b at e)) r d (omega (arith, l)) (steps_last loop_c b e k _) (rw j at s) q)

  pub upto_found : (k p : ℕ) (r : Bool) → Upto b e at f n k → k < n → (k < count_at b at e → p ≡ steps loop_c b e k (skip (le_c 4) b at e)) → Says loop_c b e p (f k) r → r ≡ true → Says (list_c loop_c) b e at (any_from f 0) true
  upto_found k p r d l i s q =
      let j : p ≡ steps loop_c b e k (skip (le_c 4) b at e) = i (omega (arith, l, h)) in
      from_found loop_c b e at f k (n - k) _ r d (omega (arith, l)) (rw j at s) q

  pub upto_none : (k : ℕ) → Upto b e at f n k → n ≤ k → Says (list_c loop_c) b e at (any_from f 0) false
  upto_none k d l = from_none loop_c b e at f k (n - k) _ d (omega (arith, l))

pub loop_at : (b : List ℕ) (e at n k : ℕ) → n ≡ count_at b at e → (p q : ℕ) → k < n → (k < count_at b at e → p ≡ steps loop_c b e k (skip (le_c 4) b at e))
    → (k < count_at b at e → q ≡ loop_children b e (steps loop_c b e k (skip (le_c 4) b at e))) → p < 2 ^ 64 → q < 2 ^ 64 → LoopAt b e at k p q
loop_at b e at n k h p q l i j x y =
    let m : k < count_at b at e = omega (arith, l, h) in
    record { number = m; place = i m; below = rw (i m) (j m); room = (x, y) }

-- a test that does not ask for the number
pub any_each : {A : Type 0} (f : A → Bool) (k : ℕ) (vs : List A) → any_from (λ i. f) k vs ≡ any_of f vs
unfolding any_from any_of
any_each f k [] = refl
any_each f k (x ∷ xs) = rw (any_each f (k + 1) xs)

-- the children of the loop at p stand at q
pub below_test : {B : Type 0} (b : List ℕ) (e p q : ℕ) (g : List ℕ → B) (r : B) → q ≡ loop_children b e p → Says (list_c num_c) b e q g r → Says loop_c b e p (λ v. g v.children) r
below_test b e p q g r i s v m = says_at (list_c num_c) b e q _ g r v.children s (is_loop b e p v m).children i

-- ---- which loops are asked, whatever stands there: t is told a number, and the places of the loop and of its children
abbrev pub TestAt : List ℕ → ℕ → (ℕ → ℕ → ℕ → Bool → Type 0) → ℕ → ℕ → Bool → Type 0
TestAt b e t k p = t k p (loop_children b e p)

-- the first k are, and none of them is found
pub record Asked (b : List ℕ) (e at : ℕ) (t : ℕ → ℕ → ℕ → Bool → Type 0) (k : ℕ) : Type 0 where
  pub clear : NotFound loop_c b e (TestAt b e t) k (skip (le_c 4) b at e)

module _ (b : List ℕ) (e at : ℕ) (t : ℕ → ℕ → ℕ → Bool → Type 0) (n : ℕ) (h : n ≡ count_at b at e) where
  told_at : (k p q : ℕ) (r x : Bool) → k < n → (k < count_at b at e → p ≡ steps loop_c b e k (skip (le_c 4) b at e))
      → (k < count_at b at e → q ≡ loop_children b e (steps loop_c b e k (skip (le_c 4) b at e))) → t k p q r → r ≡ x → TestAt b e t k (steps loop_c b e k (skip (le_c 4) b at e)) x
  told_at k p q r x l i j u v =
      let m : k < count_at b at e = omega (arith, l, h) in
      subst (λ y. t k (steps loop_c b e k (skip (le_c 4) b at e)) y x) (j m) (subst (λ y. t k y q x) (i m) (subst (λ y. t k p q y) v u))

  pub asked_again : (k p q : ℕ) (r : Bool) → Asked b e at t k → k < n → (k < count_at b at e → p ≡ steps loop_c b e k (skip (le_c 4) b at e))
      → (k < count_at b at e → q ≡ loop_children b e (steps loop_c b e k (skip (le_c 4) b at e))) → t k p q r → r ≡ false → Asked b e at t (k + 1)
  asked_again k p q r d l i j u v = record { clear = λ x y. go x (omega (arith, y)) (ltb x k) refl }
    where
      go : (x : ℕ) → x ≤ k → (z : Bool) → ltb x k ≡ z → TestAt b e t x (steps loop_c b e x (skip (le_c 4) b at e)) false
      go x m true w = d.clear x (ltb-true _ _ w)
      go x m false w =
          let o : k ≤ x = ltb-false _ _ w in
          let z : k ≡ x = omega (arith, m, o) in
          subst (λ y. TestAt b e t y (steps loop_c b e y (skip (le_c 4) b at e)) false) z (told_at k p q r false l i j u v)

  pub asked_found : (k p q : ℕ) (r : Bool) → Asked b e at t k → k < n → (k < count_at b at e → p ≡ steps loop_c b e k (skip (le_c 4) b at e))
      → (k < count_at b at e → q ≡ loop_children b e (steps loop_c b e k (skip (le_c 4) b at e))) → t k p q r → r ≡ true → Found loop_c b e (TestAt b e t) (count_at b at e) (skip (le_c 4) b at e)
  asked_found k p q r d l i j u v = record { number = k; below = omega (arith, l, h); yes = told_at k p q r true l i j u v; first = d.clear }

  pub asked_none : (k : ℕ) → Asked b e at t k → n ≤ k → NotFound loop_c b e (TestAt b e t) (count_at b at e) (skip (le_c 4) b at e)
  asked_none k d l i m = d.clear i (omega (arith, m, l, h))
