-- A finding's record tells which finding it is.
use Prim.Native.Nat.{ℕ, zero, suc, ◌+◌, ◌-◌, ◌*◌, ◌≤◌, ◌<◌}
use mathlib.Core.Path.{◌≡◌, refl, sym, ap, ap₂, ◌∙◌}
use mathlib.Core.Bool.{cond}
use mathlib.Core.List.{List, [], ◌∷◌, ◌++◌}
use native.Mathlib.Numerals.{sub-one}
use native.Mathlib.Omega.{arith}
use native.Mathlib.Decide.{dec_lt}
use Rattle.std.specs.Prelude.{Option, None, Some}
use lib.ListN.{length, take, drop, get_or, length-drop, take-append-drop}
use lib.Dec.{eqb, leb}
use borrow.Author.Tests.{ne_eqb}
use Rattle.nest.specs.Lists.{All}
use Rattle.nest.specs.Finding.{Origin, cell, field, Place, Finding, duplicate, missing, mismatch, out_of_order, delimiter, not_writable, number_from, or_zero, record_of}
use Rattle.nest.proofs.Finding.{identifier_of, Byte, Named}
use Rattle.nest.proofs.Alls.{all_drop}

-- ---- bytes as a number

number_append : (n : ℕ) (xs ys : List ℕ) → number_from n (xs ++ ys) ≡ number_from (number_from n xs) ys
number_append n [] ys = refl
number_append n (x ∷ xs) ys = number_append (n * 256 + x) xs ys

number_grows : (n : ℕ) (xs : List ℕ) → n ≤ number_from n xs
number_grows n [] = omega arith
number_grows n (x ∷ xs) = omega (arith, number_grows (n * 256 + x) xs)

number_same : (m n : ℕ) (xs ys : List ℕ) → All Byte xs → All Byte ys → length xs ≡ length ys → number_from m xs ≡ number_from n ys → (m ≡ n) × (xs ≡ ys)
number_same m n [] [] h k l e = (e, refl)
number_same m n [] (y ∷ ys) h k l e = absurd (omega (arith, l))
number_same m n (x ∷ xs) [] h k l e = absurd (omega (arith, l))
number_same m n (x ∷ xs) (y ∷ ys) h k l e = go (number_same (m * 256 + x) (n * 256 + y) xs ys h.1 k.1 (omega (arith, l)) e)
  where
    go : (m * 256 + x ≡ n * 256 + y) × (xs ≡ ys) → (m ≡ n) × (x ∷ xs ≡ y ∷ ys)
    go (p, q) =
        let same : m ≡ n = omega (arith, p, h.0.1, k.0.1) in
        let here : x ≡ y = omega (arith, p, same) in
        (same, ap₂ {C = List ℕ} ◌∷◌ here q)

-- a longer list of bytes is another number
longer : (xs ys : List ℕ) → All Byte xs → All Byte ys → length xs < length ys → number_from 0 xs ≡ number_from 0 ys → ⊥
longer xs ys h k l e = go (length ys - length xs) refl
  where
    more : ℕ → ℕ
    more n = number_from 0 (take n ys)

    high : (n : ℕ) (zs : List ℕ) → 0 < n → 0 < length zs → All Byte zs → 0 < number_from 0 (take n zs)
    high zero zs p q b = absurd (omega arith)
    high (suc n) [] p q b = absurd (omega arith)
    high (suc n) (z ∷ zs) p q b = omega (arith, number_grows (0 * 256 + z) (take n zs), b.0.0)

    go : (n : ℕ) → length ys - length xs ≡ n → ⊥
    go n q =
        let cut : number_from 0 ys ≡ number_from (more n) (drop n ys) = ap (number_from 0) (sym (take-append-drop n ys)) ∙ number_append 0 (take n ys) (drop n ys) in
        let size : length xs ≡ length (drop n ys) = omega (arith, length-drop n ys, q, l) in
        let z : 0 ≡ more n = (number_same 0 (more n) xs (drop n ys) h (all_drop Byte n ys k) size (e ∙ cut)).0 in
        omega (arith, z, high n ys (omega (arith, q, l)) (omega (arith, l)) k)

pub number_injective : (xs ys : List ℕ) → All Byte xs → All Byte ys → number_from 0 xs ≡ number_from 0 ys → xs ≡ ys
number_injective xs ys h k e = go (dec_lt (length xs) (length ys)) (dec_lt (length ys) (length xs))
  where
    go : Dec (length xs < length ys) → Dec (length ys < length xs) → xs ≡ ys
    go (yes l) d = absurd (longer xs ys h k l e)
    go (no l) (yes m) = absurd (longer ys xs k h m (sym e))
    go (no l) (no m) = (number_same 0 0 xs ys h k (omega arith) e).1

-- ---- from a record back to its finding

module _ (name words : List ℕ) where
  abbrev w : ℕ → ℕ
  w i = get_or words i 0

  abbrev origin : Origin
  origin = cond (eqb (w 1) 0) (cell (w 2) (w 3) (w 4)) (field (w 2))

  abbrev place : Place
  place = record { identifier = name; element = w 6; component = cond (eqb (w 7) 0) None (Some (w 7 - 1)) }

  abbrev finding : Finding
  finding =
      get_or (
      duplicate (w 1) (w 2) (w 3) (w 4)
      ∷ missing (w 1) (w 2) (w 3) (cond (eqb (w 4) 0) None (Some (w 5)))
      ∷ mismatch (w 1) (w 2) (w 3) (w 4) (w 5) (w 6) (w 7)
      ∷ out_of_order (w 1) (w 2) (w 3) (w 4) (w 5)
      ∷ delimiter origin place (w 8) (w 9)
      ∷ not_writable origin place (w 8)
      ∷ []
      ) (w 0) (duplicate 0 0 0 0)

  abbrev name_number : ℕ
  name_number = cond (leb 4 (w 0)) (w 5) 0

component_back : (x : Option ℕ) → cond (eqb (or_zero x) 0) None (Some (or_zero x - 1)) ≡ x
component_back None = refl
component_back (Some c) = rw (ne_eqb (suc c) 0 (λ z. omega (arith, z)), sub-one)

back : (f : Finding) → finding (identifier_of f) (record_of f) ≡ f
unfolding record_of
back (duplicate t r k f) = refl
back (missing t r u None) = refl
back (missing t r u (Some v)) = refl
back (mismatch t r a v u p e) = refl
back (out_of_order t r a v h) = refl
back (delimiter (cell t r c) p b role) = ap (λ x. delimiter (cell t r c) (record { identifier = p.identifier; element = p.element; component = x }) b role) (component_back p.component)
back (delimiter (field f) p b role) = ap (λ x. delimiter (field f) (record { identifier = p.identifier; element = p.element; component = x }) b role) (component_back p.component)
back (not_writable (cell t r c) p reason) = ap (λ x. not_writable (cell t r c) (record { identifier = p.identifier; element = p.element; component = x }) reason) (component_back p.component)
back (not_writable (field f) p reason) = ap (λ x. not_writable (field f) (record { identifier = p.identifier; element = p.element; component = x }) reason) (component_back p.component)

name_back : (f : Finding) → name_number (identifier_of f) (record_of f) ≡ number_from 0 (identifier_of f)
unfolding record_of
name_back (duplicate t r k f) = refl
name_back (missing t r u None) = refl
name_back (missing t r u (Some v)) = refl
name_back (mismatch t r a v u p e) = refl
name_back (out_of_order t r a v h) = refl
name_back (delimiter (cell t r c) p b role) = refl
name_back (delimiter (field f) p b role) = refl
name_back (not_writable (cell t r c) p reason) = refl
name_back (not_writable (field f) p reason) = refl

-- two different findings have different records
pub record-injective : (f g : Finding) → Named f → Named g → record_of f ≡ record_of g → f ≡ g
record-injective f g h k e =
    let numbers : number_from 0 (identifier_of f) ≡ number_from 0 (identifier_of g) = sym (name_back f) ∙ ap (name_number (identifier_of f)) e ∙ name_back g in
    let names : identifier_of f ≡ identifier_of g = number_injective (identifier_of f) (identifier_of g) h k numbers in
    sym (back f) ∙ ap₂ finding names e ∙ back g

pub record-length : (f : Finding) → length (record_of f) ≡ 10
unfolding record_of
record-length (duplicate t r k f) = refl
record-length (missing t r u None) = refl
record-length (missing t r u (Some v)) = refl
record-length (mismatch t r a v u p e) = refl
record-length (out_of_order t r a v h) = refl
record-length (delimiter (cell t r c) p b role) = refl
record-length (delimiter (field f) p b role) = refl
record-length (not_writable (cell t r c) p reason) = refl
record-length (not_writable (field f) p reason) = refl
