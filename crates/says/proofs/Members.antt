-- Numbers of a list that stand there again, further on.
use Prim.Native.Nat.{ℕ, zero, suc, ◌+◌, ◌-◌, ◌<◌}
use mathlib.Core.Path.{◌≡◌, refl, sym, ap}
use mathlib.Core.List.{List, [], ◌∷◌}
use mathlib.Core.Bool.{Bool, true, false, ◌||◌}
use native.Mathlib.Omega.{arith}
use Rattle.std.specs.List.{list_any}
use lib.ListN.{length, get_or, take, drop, length-drop}
use lib.Seq.{drop-cons}
use lib.Dec.{eqb}
use borrow.Author.Tests.{eq-eqb, ne_eqb, eqb-true, eqb-false}
use Rattle.codec.specs.Codec.{pick}
use Rattle.format.specs.Words.{member_of}

contained : (x : ℕ) (xs : List ℕ) → list_any (λ y. eqb y x) xs ≡ member_of x xs
unfolding member_of
contained x [] = refl
contained x (y ∷ ys) = rw (swapped x y, contained x ys) (go (eqb x y) (member_of x ys))
  where
    swapped : (x y : ℕ) → eqb y x ≡ eqb x y
    swapped x y = go (eqb x y) refl
      where
        go : (t : Bool) → eqb x y ≡ t → eqb y x ≡ t
        go true p = eq-eqb y x (sym (eqb-true x y p))
        go false p = ne_eqb y x (λ q. eqb-false x y p (sym q))

    go : (t u : Bool) → (t || u) ≡ pick t true u
    go true u = refl
    go false u = refl

whole : (n : ℕ) (xs : List ℕ) → n ≡ length xs → take n xs ≡ xs
whole zero [] h = refl
whole (suc n) [] h = absurd (omega (arith, h))
whole zero (x ∷ xs) h = absurd (omega (arith, h))
whole (suc n) (x ∷ xs) h = ap (λ ys. x ∷ ys) (whole n xs (omega (arith, h)))

-- a search from item i on
pub behind : (x i : ℕ) (xs : List ℕ) → list_any (λ y. eqb y x) (take (length xs - i) (drop i xs)) ≡ member_of x (drop i xs)
behind x i xs = rw (whole (length xs - i) (drop i xs) (sym (length-drop i xs))) (contained x (drop i xs))

pub next : (xs : List ℕ) (i : ℕ) → i < length xs → drop i xs ≡ get_or xs i 0 ∷ drop (i + 1) xs
next xs i l = let z : i + 1 ≡ suc i = omega arith in rw z (drop-cons xs i 0 l)
