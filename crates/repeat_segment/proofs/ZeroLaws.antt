-- A part at element 0: there is one where a planned element is at 0, for the first row already.
use Prim.Native.Nat.{ℕ, zero, suc, ◌+◌, ◌≤◌, ◌<◌}
use mathlib.Core.Path.{◌≡◌, refl, sym, ap, ◌∙◌}
use mathlib.Core.Bool.{Bool, true, false, false≢true}
use mathlib.Core.List.{List, [], ◌∷◌, ◌++◌}
use native.Mathlib.Omega.{arith}
use Rattle.std.specs.Prelude.{Option, None, Some}
use lib.Dec.{ltb}
use lib.ListN.{length, get_or, take}
use borrow.Author.Tests.{lt-ltb, le-ltb, ltb-true}
use Rattle.format.specs.Plan.{ElementPlan}
use Rattle.format.specs.NoElement.{no_element_plan}
use Rattle.format.specs.Ask.{on}
use Rattle.segment.specs.Parts.{Part, pick}
use Rattle.segment.specs.Calls.{zero_free}
use Rattle.plan.specs.declared.answers.ElementPlan.{ElementPlan as Element}
use Rattle.plan.specs.Answers.{element_of}
use Rattle.emit.specs.Puts.{part_at, chunk_put}
use Rattle.repeat_segment.specs.declared.planned.Planned.{Planned}
use Rattle.repeat_segment.specs.Planned.{plans_of, Of}
use Rattle.repeat_segment.proofs.PlannedLaws.{Along, Read}
use Rattle.repeat_segment.specs.Places.{place_in, text_in, element_put, row_puts, parts_from, parts_of, all_above}
use Rattle.repeat_segment.proofs.Steps.{take_next, take_end, along_first, row_cons}
use Rattle.repeat_segment.proofs.PlaceLaws.{element_parts, place_first, place_behind}

abbrev both : Bool → Bool → Bool
both true t = t
both false t = false

zero_append : (xs ys : List Part) → zero_free (xs ++ ys) ≡ both (zero_free xs) (zero_free ys)
unfolding zero_free
zero_append [] ys = refl
zero_append (x ∷ xs) ys = go (ltb 0 x.element) (zero_append xs ys)
  where
    go : (t : Bool) → zero_free (xs ++ ys) ≡ both (zero_free xs) (zero_free ys) → pick t (zero_free (xs ++ ys)) false ≡ both (pick t (zero_free xs) false) (zero_free ys)
    go true ih = ih
    go false ih = refl

-- ---- the parts

module _ (b : List ℕ) (s : Planned) where
  element_first : (r : ℕ) (x : ElementPlan) → zero_free (element_put b s 0 r x).parts ≡ pick (ltb 0 x.element) true false
  unfolding zero_free
  element_first r x = rw (element_parts b s 0 r x, place_first s.step x) refl

  element_later : (k r : ℕ) (x : ElementPlan) → 0 < x.element → zero_free (element_put b s k r x).parts ≡ true
  unfolding zero_free
  element_later k r x h = rw (element_parts b s k r x) (go (place_in s.step k x) refl)
    where
      go : (o : Option ℕ) → place_in s.step k x ≡ o → zero_free (on o (λ e. part_at e x.component (text_in b s e r x).text ∷ []) []) ≡ true
      go None e = refl
      go (Some m) e = let q = place_behind s.step k m x e in rw (lt-ltb 0 m (omega arith)) refl

  row_first : (r : ℕ) (xs : List ElementPlan) → zero_free (row_puts b s 0 r xs).parts ≡ all_above xs
  unfolding row_puts chunk_put zero_free all_above
  row_first r [] = refl
  row_first r (x ∷ xs) = ap zero_free (row_cons b s 0 r x xs) ∙ zero_append (element_put b s 0 r x).parts (row_puts b s 0 r xs).parts ∙ rw (element_first r x, row_first r xs) (go (ltb 0 x.element))
    where
      go : (t : Bool) → both (pick t true false) (all_above xs) ≡ pick t (all_above xs) false
      go true = refl
      go false = refl

  row_later : (k r : ℕ) (xs : List ElementPlan) → all_above xs ≡ true → zero_free (row_puts b s k r xs).parts ≡ true
  unfolding row_puts chunk_put zero_free all_above
  row_later k r [] h = refl
  row_later k r (x ∷ xs) h = go (ltb 0 x.element) refl h (row_later k r xs)
    where
      go : (t : Bool) → ltb 0 x.element ≡ t → pick t (all_above xs) false ≡ true → (all_above xs ≡ true → zero_free (row_puts b s k r xs).parts ≡ true) → zero_free (row_puts b s k r (x ∷ xs)).parts ≡ true
      go true e q ih = ap zero_free (row_cons b s k r x xs) ∙ zero_append (element_put b s k r x).parts (row_puts b s k r xs).parts ∙ rw (element_later k r x (ltb-true _ _ e), ih q) refl
      go false e q ih = absurd (false≢true q)

  module _ (rows : List ℕ) (xs : List ElementPlan) where
    rows_later : (n k : ℕ) → all_above xs ≡ true → zero_free (parts_from b s rows k n xs) ≡ true
    unfolding parts_from zero_free
    rows_later zero k h = refl
    rows_later (suc n) k h = zero_append (row_puts b s k (get_or rows k 0) xs).parts (parts_from b s rows (k + 1) n xs) ∙ rw (row_later k (get_or rows k 0) xs h, rows_later n (k + 1) h) refl

    chunk_zero : (n : ℕ) → zero_free (parts_from b s rows 0 (suc n) xs) ≡ all_above xs
    unfolding parts_from
    chunk_zero n = zero_append (row_puts b s 0 (get_or rows 0 0) xs).parts (parts_from b s rows 1 n xs) ∙ rw (row_first (get_or rows 0 0) xs) (go (all_above xs) refl)
      where
        go : (t : Bool) → all_above xs ≡ t → both t (zero_free (parts_from b s rows 1 n xs)) ≡ t
        go true e = rows_later n 1 e
        go false e = refl

  pub zero_none : (count : ℕ) → count ≡ 0 → (rows : List ℕ) → true ≡ zero_free (parts_of b s rows count)
  unfolding parts_from zero_free
  zero_none count e rows = rw e refl

  pub zero_some : (count : ℕ) {t : Bool} → (count ≡ 0 → ⊥) → t ≡ all_above (plans_of b s) → (rows : List ℕ) → t ≡ zero_free (parts_of b s rows count)
  zero_some zero h e rows = absurd (h refl)
  zero_some (suc n) h e rows = e ∙ sym (chunk_zero rows (plans_of b s) n)

-- ---- the planned elements one by one

above_snoc : (xs : List ElementPlan) (x : ElementPlan) → all_above xs ≡ true → all_above (xs ++ (x ∷ [])) ≡ ltb 0 x.element
unfolding all_above
above_snoc [] x h = go (ltb 0 x.element)
  where
    go : (t : Bool) → pick t true false ≡ t
    go true = refl
    go false = refl
above_snoc (y ∷ xs) x h = go (ltb 0 y.element) h (above_snoc xs x)
  where
    go : (t : Bool) → pick t (all_above xs) false ≡ true → (all_above xs ≡ true → all_above (xs ++ (x ∷ [])) ≡ ltb 0 x.element) → pick t (all_above (xs ++ (x ∷ []))) false ≡ ltb 0 x.element
    go true h ih = ih h
    go false h ih = absurd (false≢true h)

low_at : (xs : List ElementPlan) (i : ℕ) → i < length xs → (get_or xs i no_element_plan).element ≡ 0 → all_above xs ≡ false
unfolding all_above
low_at [] i h z = absurd (omega arith)
low_at (x ∷ xs) zero h z = let q : x.element ≤ 0 = omega arith in rw (le-ltb 0 x.element q) refl
low_at (x ∷ xs) (suc i) h z = go (ltb 0 x.element) (low_at xs i (omega arith) z)
  where
    go : (t : Bool) → all_above xs ≡ false → pick t (all_above xs) false ≡ false
    go true ih = ih
    go false ih = refl

pub record AboveSoFar (b : List ℕ) (s : Planned) (at i : ℕ) : Type 0 where
  pub along : Along b s at i
  pub above : all_above (take i (plans_of b s)) ≡ true

module _ (b : List ℕ) (s : Planned) (o : Of b s) where
  pub above_start : AboveSoFar b s s.first 0
  unfolding all_above
  above_start = record { along = along_first b s o; above = refl }

  pub above_next : {at i : ℕ} (e : Element) → i < s.count → AboveSoFar b s at i → Read b s i e → (e.element ≡ 0 → ⊥) → AboveSoFar b s e.next (i + 1)
  above_next {at} {i} e h w q z =
      let p : 0 < e.element = omega arith in
      record { along = q.along; above = rw (take_next b s o at i w.along h e q) (above_snoc (take i (plans_of b s)) (element_of b e) w.above ∙ lt-ltb 0 e.element p) }

  pub above_end : {at i : ℕ} → s.count ≤ i → AboveSoFar b s at i → true ≡ all_above (plans_of b s)
  above_end {at} {i} h w = sym (rw (take_end b s o i h) at w.above)

  pub above_not : {i : ℕ} (e : Element) → i < s.count → Read b s i e → e.element ≡ 0 → false ≡ all_above (plans_of b s)
  above_not {i} e h q z =
      let y : (get_or (plans_of b s) i no_element_plan).element ≡ e.element = ap (λ (x : ElementPlan). x.element) (sym q.plan) in
      sym (low_at (plans_of b s) i (rw (← o.counted) h) (y ∙ z))
