-- Walks whatever stands there: which places were asked, and what a place told.
use Prim.Native.Nat.{ℕ, suc, ◌+◌, ◌≤◌, ◌<◌}
use mathlib.Core.Path.{◌≡◌, refl, sym, ◌∙◌}
use mathlib.Core.List.{List}
use mathlib.Core.Bool.{Bool, true, false}
use native.Mathlib.Omega.{arith}
use lib.Dec.{ltb}
use borrow.Author.Tests.{ltb-true, ltb-false}
use Rattle.std.specs.Prelude.{Option, Some, None, is_some, not}
use Rattle.std.proofs.Common.{subst}
use Rattle.codec.specs.Codec.{Codec}
use Rattle.codec.specs.Skip.{skip, steps}
use Rattle.codec.proofs.Skip.{steps_last}
use Rattle.says.specs.Says.{NotFound, Found, Searched, SearchedTo, Passed, Stopped, Walked}

-- k places are asked, none of them found, and q is the next
pub record Asking {A : Type 0} (C : Codec A) (b : List ℕ) (e : ℕ) (u : ℕ → ℕ → Bool → Type 0) (p k q : ℕ) : Type 0 where
  pub next : q ≡ steps C b e k p
  pub clear : NotFound C b e u k p

module _ {A : Type 0} (C : Codec A) (b : List ℕ) (e : ℕ) (u : ℕ → ℕ → Bool → Type 0) (p : ℕ) where
  pub asking_start : (q : ℕ) → q ≡ p → Asking C b e u p 0 q
  unfolding steps
  asking_start q h = record { next = h; clear = λ i l. absurd (omega (arith, l)) }

  pub asking_again : (k q r : ℕ) (x : Bool) → Asking C b e u p k q → u k q x → x ≡ false → r ≡ skip C b q e → Asking C b e u p (k + 1) r
  asking_again k q r x d t i h = record {
    next = h ∙ rw d.next (sym (steps_last C b e k p));
    clear = λ j l. go j (omega (arith, l)) (ltb j k) refl;
  }
    where
      here : u k (steps C b e k p) false
      here = subst (λ z. u k z false) d.next (subst (λ y. u k q y) i t)

      go : (j : ℕ) → j ≤ k → (y : Bool) → ltb j k ≡ y → u j (steps C b e j p) false
      go j l true w = d.clear j (ltb-true _ _ w)
      go j l false w =
          let m : k ≤ j = ltb-false _ _ w in
          let z : k ≡ j = omega (arith, m, l) in
          subst (λ y. u y (steps C b e y p) false) z here

  pub asking_found : (n k q : ℕ) (x : Bool) → Asking C b e u p k q → k < n → u k q x → x ≡ true → Found C b e u n p
  asking_found n k q x d h t i = record { number = k; below = h; yes = subst (λ z. u k z true) d.next (subst (λ y. u k q y) i t); first = d.clear }

  pub asking_none : (n k q : ℕ) → Asking C b e u p k q → n ≤ k → NotFound C b e u n p
  asking_none n k q d h i l = d.clear i (omega (arith, l, h))

  pub asking_end : (n k q : ℕ) → Asking C b e u p k q → k ≡ n → SearchedTo C b e u n p (Some q)
  asking_end n k q d h = (rw (← h) d.next, asking_none n k q d (omega (arith, h)))

  -- whether some place is left is whether none is found
  pub told_found : (n : ℕ) (r : Option ℕ) (x : Bool) → SearchedTo C b e u n p r → is_some r ≡ not x → Searched C b e u n p x
  told_found n None true d h = d
  told_found n None false d h = absurd (let z : ◌≡◌ {A = ℕ} 0 1 = cc in omega arith)
  told_found n (Some q) true d h = absurd (let z : ◌≡◌ {A = ℕ} 0 1 = cc in omega arith)
  told_found n (Some q) false d h = d.1

-- what is said of each answer
pub searched_as : {A : Type 0} (C : Codec A) (b : List ℕ) (e : ℕ) (u w : ℕ → ℕ → Bool → Type 0) (n p : ℕ) (r : Bool) → Searched C b e u n p r → ((k q : ℕ) (x : Bool) → u k q x → w k q x) → Searched C b e w n p r
searched_as C b e u w n p true d h = record { number = d.number; below = d.below; yes = h _ _ _ d.yes; first = λ i l. h _ _ _ (d.first i l) }
searched_as C b e u w n p false d h = λ i l. h _ _ _ (d i l)

-- ---- tests that step
module _ (t : ℕ → Option ℕ → Type 0) (p : ℕ) where
  pub passed_start : (q : ℕ) → q ≡ p → Passed t 0 p q
  unfolding Passed
  passed_start q h = h

  pub passed_again : (k q r : ℕ) (x : Option ℕ) → Passed t k p q → t q x → x ≡ Some r → Passed t (k + 1) p r
  unfolding Passed
  passed_again k q r x d h i = let z : k + 1 ≡ suc k = omega arith in rw z (q, (d, subst (λ y. t q y) i h))

  pub passed_found : (n k q : ℕ) (x : Option ℕ) → Passed t k p q → k < n → t q x → x ≡ None → Stopped t n p
  passed_found n k q x d l h i = record { number = k; below = l; place = q; passed = d; found = subst (λ y. t q y) i h }

  pub passed_end : (n k q : ℕ) → Passed t k p q → k ≡ n → Passed t n p q
  passed_end n k q d h = subst (λ (z : ℕ). Passed t z p q) h d
