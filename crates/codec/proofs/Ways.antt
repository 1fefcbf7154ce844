-- The definitions that contracts of the smallest readers cite, and the ways that the code takes.
use Rattle.std.specs.Prelude.{ℕ, zero, suc, ◌+◌, ◌*◌, ◌^◌, ◌≤◌, ◌<◌, ◌≡◌, List, Bool, ltb, eqb, Option, None, Some}
use Rattle.std.specs.Option.{option_eq}
use Rattle.std.proofs.lemmas.Option.{none-some, same_Some}
use Rattle.std.proofs.Math.Path.{refl}
use Rattle.std.proofs.Common.{sym, ◌∙◌, eqb-true, zero-mul, suc-mul, add-zero, mul-le-mul_left}
use Rattle.std.proofs.Math.Bool.{true, false, true≢false}
use native.Mathlib.Omega.{arith}
use Rattle.std.proofs.Math.ListN.{get_or}
use Rattle.std.proofs.Math.Dec.{leb, leb-suc-suc}
use borrow.Author.Tests.{le-leb, lt-leb, leb-true, leb-false, eq-eqb, ne_eqb, lt-ltb, le-ltb}
use Rattle.codec.specs.Codec.{Codec, Cases, units_c, pick, le_c, le, unit_c, enum_c, ◌⊕◌, end_c, list_c}
use Rattle.codec.specs.Skip.{skip, steps, count_at, tag_at, case_of, case_end}
use Rattle.codec.proofs.Skip.{skip_le, skip_short, steps_end, skip_list, skip_map, skip_enum, skip_no_case, skip_unit, skip_case_0, skip_case_suc, skip_case_end, skip_case, value_le, value_short}
use Rattle.codec.specs.Forms.{flag_c, opt_c}

-- the end of an option, where its value ends at p if it has one
unfoldable pub opt_end : List ℕ → ℕ → ℕ → ℕ → ℕ
opt_end b at e p = pick (eqb (tag_at b at e) 0) (at + 1) (pick (eqb (tag_at b at e) 1) p (e + 1))

module _ (b : List ℕ) (at e : ℕ) where
  pub tag_in : at < e → tag_at b at e ≡ get_or b at 0
  unfolding tag_at
  tag_in h = let q : at + 1 ≤ e = omega arith in simp (le-leb _ _ q)

  pub tag_out : e ≤ at → tag_at b at e ≡ 256
  unfolding tag_at
  tag_out h = let q : e < at + 1 = omega arith in simp (lt-leb _ _ q)

pub skip_opt : {A : Type 0} (C : Codec A) (b : List ℕ) (at e : ℕ) → skip (opt_c C) b at e ≡ opt_end b at e (skip C b (skip (le_c 1) b at e) e)
unfolding opt_c opt_end
skip_opt C b at e = skip_map _ _ _ _ _ _ _ _ ∙ go (leb (at + 1) e) refl
  where
    inside : (t : ℕ) → at < e → get_or b at 0 ≡ t → skip_case (unit_c ⊕ C ⊕ end_c) t b (at + 1) e ≡ pick (eqb t 0) (at + 1) (pick (eqb t 1) (skip C b (at + 1) e) (e + 1))
    inside zero h q = skip_case_0 _ _ _ _ _ ∙ skip_unit b (at + 1) e (omega arith)
    inside (suc zero) h q = skip_case_suc _ _ _ _ _ 0 ∙ skip_case_0 _ _ _ _ _
    inside (suc (suc n)) h q = skip_case_suc _ _ _ _ _ (suc n) ∙ skip_case_suc _ _ _ _ _ n ∙ skip_case_end n b (at + 1) e ∙ sym (simp (ne_eqb (suc (suc n)) 0 (omega arith), ne_eqb (suc (suc n)) 1 (omega arith)))

    go : (t : Bool) → leb (at + 1) e ≡ t → skip (enum_c (unit_c ⊕ C ⊕ end_c)) b at e ≡ opt_end b at e (skip C b (skip (le_c 1) b at e) e)
    go true q =
        let q' : at + 1 ≤ e = leb-true (at + 1) e q in
        let h : at < e = omega arith in
        skip_enum _ b at e h ∙ inside (get_or b at 0) h refl ∙ sym (simp (tag_in b at e h, skip_le 1 b at e q'))
    go false q =
        let q' : e < at + 1 = leb-false (at + 1) e q in
        let h : e ≤ at = omega arith in
        skip_no_case _ b at e h ∙ sym (simp (tag_out b at e h))

-- numbers of w bytes, n of them from the place p
pub steps_fixed : (w : ℕ) (b : List ℕ) (e n p : ℕ) → p ≤ e → p + n * w ≤ e → steps (le_c w) b e n p ≡ p + n * w
unfolding steps
steps_fixed w b e zero p h q = simp (zero-mul, add-zero)
steps_fixed w b e (suc n) p h q =
    let m : suc n * w ≡ n * w + w = suc-mul n w in
    let k : p + w + n * w ≡ p + suc n * w = omega arith in
    let i : skip (le_c w) b p e ≡ p + w = skip_le w b p e (omega arith) in
    rw i (steps_fixed w b e n (p + w) (omega arith) (omega arith) ∙ k)

pub steps_short : (w : ℕ) (b : List ℕ) (e n p : ℕ) → p ≤ e → e < p + n * w → steps (le_c w) b e n p ≡ e + 1
unfolding steps
steps_short w b e zero p h q = absurd (let z : zero * w ≡ 0 = zero-mul w in omega arith)
steps_short w b e (suc n) p h q = go (leb (p + w) e) refl (steps_short w b e n (p + w))
  where
    m : suc n * w ≡ n * w + w
    m = suc-mul n w

    go : (t : Bool) → leb (p + w) e ≡ t → (p + w ≤ e → e < p + w + n * w → steps (le_c w) b e n (p + w) ≡ e + 1) → steps (le_c w) b e n (skip (le_c w) b p e) ≡ e + 1
    go true r ih =
        let s : p + w ≤ e = leb-true _ _ r in
        rw (skip_le w b p e s) (ih s (omega (arith, m)))
    go false r ih = rw (skip_short w b p e (leb-false _ _ r)) (steps_end (le_c w) b e n)

module _ (b : List ℕ) (at e : ℕ) where
  pub tag_case : (t : ℕ) → tag_at b at e ≡ t → t < 256 → at < e
  unfolding tag_at
  tag_case t h k = go (leb (at + 1) e) refl (rw h k)
    where
      go : (t : Bool) → leb (at + 1) e ≡ t → pick t (get_or b at 0) 256 < 256 → at < e
      go true q k = let r : at + 1 ≤ e = leb-true (at + 1) e q in omega arith
      go false q k = absurd (omega arith)

  -- t is the mark of the case
  module _ (t : ℕ) (h : t ≡ tag_at b at e) where
    pub tag_read : (k : ℕ) → t ≡ k → k < 256 → get_or b at 0 ≡ k
    tag_read k i l = sym (tag_in b at e (tag_case k (sym h ∙ i) l)) ∙ sym h ∙ i

    pub tag_past : (k : ℕ) → t ≡ k → k < 256 → (p : ℕ) → p ≡ skip (le_c 1) b at e → p ≡ at + 1
    tag_past k i l p j = let m : at < e = tag_case k (sym h ∙ i) l in j ∙ skip_le 1 b at e (omega arith)

    pub tag_within : at + 1 ≤ e → get_or b at 0 ≡ t
    tag_within l = sym (h ∙ tag_in b at e (omega arith))

  -- the byte of a case as an option: r is what was read
  pub case_here : at < e → case_of b at e ≡ Some (get_or b at 0)
  unfolding case_of
  case_here h = let q : at + 1 ≤ e = omega arith in simp (le-leb _ _ q, tag_in b at e h)

  pub case_gone : e ≤ at → case_of b at e ≡ None
  unfolding case_of
  case_gone h = let q : e < at + 1 = omega arith in simp (lt-leb _ _ q)

  module _ (r : Option ℕ) (h : r ≡ case_of b at e) where
    by_end : {G : Type 0} → (at < e → r ≡ Some (tag_at b at e) → G) → (e ≤ at → r ≡ None → G) → G
    by_end {G} f g = go (leb (at + 1) e) refl
      where
        go : (t : Bool) → leb (at + 1) e ≡ t → G
        go true q =
            let q' : at + 1 ≤ e = leb-true (at + 1) e q in
            let l : at < e = omega arith in
            f l (h ∙ case_here l ∙ rw (tag_in b at e l))
        go false q =
            let q' : e < at + 1 = leb-false (at + 1) e q in
            let l : e ≤ at = omega arith in
            g l (h ∙ case_gone l)

    pub case_before : (t : ℕ) → r ≡ Some t → at < e
    case_before t i = by_end (λ l j. l) (λ l j. absurd (none-some _ (sym j ∙ i)))

    pub case_behind : (t : ℕ) → r ≡ Some t → at + 1 ≡ skip (le_c 1) b at e
    case_behind t i = let l : at < e = case_before t i in sym (skip_le 1 b at e (omega arith))

    pub case_some : (t : ℕ) → r ≡ Some t → t ≡ tag_at b at e
    unfolding tag_at
    case_some t i = by_end (λ l j. same_Some _ _ (sym i ∙ j)) (λ l j. absurd (none-some _ (sym j ∙ i)))

    pub case_none : r ≡ None → 256 ≡ tag_at b at e
    case_none i = by_end (λ l j. absurd (none-some _ (sym i ∙ j))) (λ l j. sym (tag_out b at e l))

    -- whether it is t
    module _ (u : Bool) (t : ℕ) (k : u ≡ option_eq eqb r (Some t)) where
      pub case_is : u ≡ true → t ≡ tag_at b at e
      case_is i = by_end (λ l j. sym (eqb-true _ _ (sym (rw j at k) ∙ i))) (λ l j. absurd (true≢false (sym i ∙ rw j at k)))

      pub case_not : u ≡ false → t < 256 → tag_at b at e ≡ t → ⊥
      case_not i l m = by_end (λ n j. absurd (true≢false (sym (eq-eqb (tag_at b at e) t m) ∙ sym (rw j at k) ∙ i))) (λ n j. omega (arith, tag_out b at e n))

  pub count_short : e < at + 4 → count_at b at e ≡ 0
  unfolding count_at
  count_short h = value_short 4 b at e h

  pub count_is : at + 4 ≤ e → count_at b at e ≡ le 4 b at
  unfolding count_at
  count_is h = value_le 4 b at e h

  pub opt_none : (p : ℕ) → tag_at b at e ≡ 0 → opt_end b at e p ≡ at + 1
  unfolding opt_end
  opt_none p h = rw h

  pub opt_some : (p : ℕ) → tag_at b at e ≡ 1 → opt_end b at e p ≡ p
  unfolding opt_end
  opt_some p h = rw h

  pub opt_bad : (p : ℕ) → (tag_at b at e ≡ 0 → ⊥) → (tag_at b at e ≡ 1 → ⊥) → opt_end b at e p ≡ e + 1
  unfolding opt_end
  opt_bad p h k = simp (ne_eqb _ _ h, ne_eqb _ _ k)

  -- a list of numbers of w bytes; its count is n, its numbers begin at p
  pub list_past : {A : Type 0} (C : Codec A) → e < skip (le_c 4) b at e → skip (list_c C) b at e ≡ e + 1
  unfolding steps
  list_past C h = skip_list C b e at ∙ go (leb (at + 4) e) refl
    where
      go : (t : Bool) → leb (at + 4) e ≡ t → steps C b e (count_at b at e) (skip (le_c 4) b at e) ≡ e + 1
      go true q = let r : at + 4 ≤ e = leb-true (at + 4) e q in absurd (omega (arith, skip_le 4 b at e r))
      go false q = let r : e < at + 4 = leb-false (at + 4) e q in rw (count_short r, skip_short 4 b at e r)

  pub les_short : (w n p : ℕ) → n ≡ count_at b at e → p ≡ skip (le_c 4) b at e → p ≤ e → e < p + n * w → skip (list_c (le_c w)) b at e ≡ e + 1
  les_short w n p i j h k = skip_list (le_c w) b e at ∙ rw (← i, ← j) (steps_short w b e n p h k)

  pub les_fit : (w n p : ℕ) → n ≡ count_at b at e → p ≡ skip (le_c 4) b at e → p ≤ e → p + n * w ≤ e → skip (list_c (le_c w)) b at e ≡ p + n * w
  les_fit w n p i j h k = skip_list (le_c w) b e at ∙ rw (← i, ← j) (steps_fixed w b e n p h k)

pub mul_small : (n w : ℕ) → n < 4294967296 → w < 256 → n * w < 2 ^ 64
mul_small n w h k = let q : n * w ≤ n * 256 = mul-le-mul_left n (omega arith) in omega arith

-- ---- enums
module _ {A : Type 0} (C : Cases A) (b : List ℕ) (at e : ℕ) where
  pub skip_tag : (k : ℕ) → tag_at b at e ≡ k → k < 256 → skip (enum_c C) b at e ≡ skip_case C k b (skip (le_c 1) b at e) e
  skip_tag k h q =
      let i : at < e = tag_case b at e k h q in
      let j : get_or b at 0 ≡ k = sym (tag_in b at e i) ∙ h in
      skip_enum C b at e i ∙ rw (j, skip_le 1 b at e (omega arith))

  pub skip_above : C.cases ≤ tag_at b at e → skip (enum_c C) b at e ≡ e + 1
  unfolding skip_case
  skip_above h = go (leb (at + 1) e) refl
    where
      go : (t : Bool) → leb (at + 1) e ≡ t → skip (enum_c C) b at e ≡ e + 1
      go true q =
          let q' : at + 1 ≤ e = leb-true (at + 1) e q in
          let i : at < e = omega arith in
          let j : C.cases ≤ get_or b at 0 = rw (tag_in b at e i) at h in
          skip_enum C b at e i ∙ rw (C.above (get_or b at 0) b (at + 1) e j)
      go false q =
          let q' : e < at + 1 = leb-false (at + 1) e q in
          skip_no_case C b at e (omega arith)

pub case_in : (b : List ℕ) (at e n : ℕ) → tag_at b at e < n → case_end b at e n ≡ at + 1
unfolding case_end
case_in b at e n h = simp (lt-ltb _ _ h)

pub case_out : (b : List ℕ) (at e n : ℕ) → n ≤ tag_at b at e → case_end b at e n ≡ e + 1
unfolding case_end
case_out b at e n h = simp (le-ltb _ _ h)

skip_units : (n k : ℕ) (b : List ℕ) (p e : ℕ) → p ≤ e → skip_case (units_c n) k b p e ≡ pick (ltb k n) p (e + 1)
skip_units zero k b p e h = skip_case_end k b p e ∙ sym (simp (le-ltb k 0 (omega arith)))
skip_units (suc n) zero b p e h = skip_case_0 unit_c (units_c n) b p e ∙ skip_unit b p e h ∙ sym (simp (lt-ltb 0 (suc n) (omega arith)))
skip_units (suc n) (suc k) b p e h = skip_case_suc unit_c (units_c n) b p e k ∙ skip_units n k b p e h ∙ sym (simp leb-suc-suc)

pub skip_plain : (n : ℕ) (b : List ℕ) (at e : ℕ) → n ≤ 256 → skip (enum_c (units_c n)) b at e ≡ case_end b at e n
unfolding case_end
skip_plain n b at e m = go (leb (at + 1) e) refl
  where
    go : (t : Bool) → leb (at + 1) e ≡ t → skip (enum_c (units_c n)) b at e ≡ case_end b at e n
    go true q =
        let q' : at + 1 ≤ e = leb-true (at + 1) e q in
        let h : at < e = omega arith in
        skip_enum (units_c n) b at e h ∙ skip_units n (get_or b at 0) b (at + 1) e q' ∙ sym (rw (tag_in b at e h))
    go false q =
        let q' : e < at + 1 = leb-false (at + 1) e q in
        let h : e ≤ at = omega arith in
        skip_no_case (units_c n) b at e h ∙ sym (rw (tag_out b at e h) (simp (le-ltb 256 n m)))

pub skip_flag : (b : List ℕ) (at e : ℕ) → skip flag_c b at e ≡ case_end b at e 2
unfolding flag_c
skip_flag b at e = skip_map _ _ _ _ _ _ _ _ ∙ skip_plain 2 b at e (omega arith)

pub le_four : (b : List ℕ) (at : ℕ) → le 4 b at ≡ get_or b at 0 + 256 * (get_or b (at + 1) 0 + 256 * (get_or b (at + 2) 0 + 256 * get_or b (at + 3) 0))
unfolding le
le_four b at =
    let two : at + 1 + 1 ≡ at + 2 = omega arith in
    let three : at + 2 + 1 ≡ at + 3 = omega arith in
    rw (two, three) (omega arith)

pub le_eight : (b : List ℕ) (at : ℕ) → le 8 b at ≡ le 4 b at + 4294967296 * le 4 b (at + 4)
unfolding le
le_eight b at =
    let four : at + 1 + 1 + 1 + 1 ≡ at + 4 = omega arith in
    rw four (omega arith)

pub le_sixteen : (b : List ℕ) (at : ℕ) → le 16 b at ≡ le 8 b at + 18446744073709551616 * le 8 b (at + 8)
unfolding le
le_sixteen b at =
    let eight : at + 1 + 1 + 1 + 1 + 1 + 1 + 1 + 1 ≡ at + 8 = omega arith in
    rw eight (omega arith)
