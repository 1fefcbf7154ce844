-- The highest number of a filled part, planned element by planned element and row by row.
use Prim.Native.Nat.{ℕ, zero, suc, ◌+◌, ◌-◌, ◌≤◌, ◌<◌, max}
use mathlib.Core.Path.{◌≡◌, refl, sym, ap, ◌∙◌}
use mathlib.Core.Bool.{Bool, true, false}
use mathlib.Core.List.{List, [], ◌∷◌, ◌++◌, append_assoc, append-nil}
use native.Mathlib.Omega.{arith}
use native.Mathlib.Nat.{max-zero}
use Rattle.std.specs.Prelude.{Option, None, Some}
use lib.ListN.{get_or, take}
use borrow.Author.Tests.{ne_eqb}
use Rattle.format.specs.Plan.{ElementPlan}
use Rattle.format.specs.Ask.{on}
use Rattle.segment.specs.Parts.{Part, pick, is_empty, highest}
use Rattle.segment.proofs.Rows.{not_counted}
use Rattle.plan.specs.declared.answers.ElementPlan.{ElementPlan as Element}
use Rattle.plan.specs.Answers.{element_of}
use Rattle.emit.specs.Puts.{Put, and_put, part_at, chunk_put}
use Rattle.emit.proofs.PutLaws.{highest_append}
use Rattle.repeat_segment.specs.declared.planned.Planned.{Planned}
use Rattle.repeat_segment.specs.Planned.{plans_of, Of}
use Rattle.repeat_segment.proofs.PlannedLaws.{Along, Read}
use Rattle.repeat_segment.specs.Places.{place_in, text_in, element_put, row_puts, parts_from, parts_of, number_by, Lowest}
use Rattle.repeat_segment.proofs.Steps.{take_next, take_end, along_first, row_none, row_snoc}
use Rattle.repeat_segment.proofs.PlaceLaws.{element_parts, one_row}

-- ---- one element of one row

module _ (b : List ℕ) (s : Planned) (q : Option ℕ) (k r : ℕ) (x : ElementPlan) where
  pub high_nowhere : place_in s.step k x ≡ None → 0 ≡ highest (number_by q) (element_put b s k r x).parts
  unfolding highest
  high_nowhere h = rw (element_parts b s k r x, h) refl

  pub high_there : (m n : ℕ) → place_in s.step k x ≡ Some m → ((text : List ℕ) → n ≡ number_by q (part_at m x.component text))
      → pick (is_empty (text_in b s m r x).text) 0 n ≡ highest (number_by q) (element_put b s k r x).parts
  unfolding highest
  high_there m n h e = rw (element_parts b s k r x, h, ← e (text_in b s m r x).text, max-zero (pick (is_empty (text_in b s m r x).text) 0 n)) refl

-- at another element nothing counts
pub high_elsewhere : (b : List ℕ) (s : Planned) (p k r : ℕ) (x : ElementPlan) → (place_in s.step k x ≡ Some p → ⊥) → highest (number_by (Some p)) (element_put b s k r x).parts ≡ 0
unfolding highest
high_elsewhere b s p k r x h = rw (element_parts b s k r x) (go (place_in s.step k x) refl)
  where
    go : (o : Option ℕ) → place_in s.step k x ≡ o → highest (number_by (Some p)) (on o (λ e. part_at e x.component (text_in b s e r x).text ∷ []) []) ≡ 0
    go None e = refl
    go (Some m) e = rw (ne_eqb m p (λ z. h (e ∙ ap Some z))) (not_counted (is_empty (text_in b s m r x).text) 0)

pub filled_none : (text : List ℕ) (n : ℕ) → n ≡ 0 → 0 ≡ pick (is_empty text) 0 n
filled_none text n h = rw h (go (is_empty text))
  where
    go : (t : Bool) → ◌≡◌ {A = ℕ} 0 (pick t 0 0)
    go true = refl
    go false = refl

-- ---- rows

module _ (b : List ℕ) (s : Planned) (rows : List ℕ) where
  one_of_row : (k : ℕ) (x : ElementPlan) → (row_puts b s k (get_or rows k 0) (x ∷ [])).parts ≡ (element_put b s k (get_or rows k 0) x).parts
  one_of_row k x = ap (λ (p : Put). p.parts) (row_snoc b s k (get_or rows k 0) [] x) ∙ nil k x
    where
      nil : (k : ℕ) (x : ElementPlan) → (and_put (row_puts b s k (get_or rows k 0) []) (element_put b s k (get_or rows k 0) x)).parts ≡ (element_put b s k (get_or rows k 0) x).parts
      nil k x = rw (row_none b s k (get_or rows k 0)) refl

  pub from_append : (n m k : ℕ) (xs : List ElementPlan) → parts_from b s rows k (n + m) xs ≡ parts_from b s rows k n xs ++ parts_from b s rows (k + n) m xs
  unfolding parts_from
  from_append zero m k xs = let z : k + 0 ≡ k = omega arith in let y : 0 + m ≡ m = omega arith in rw (z, y) refl
  from_append (suc n) m k xs =
      let z : k + suc n ≡ k + 1 + n = omega arith in
      let y : suc n + m ≡ suc (n + m) = omega arith in
      rw (y, z) (ap (λ (l : List Part). (row_puts b s k (get_or rows k 0) xs).parts ++ l) (from_append n m (k + 1) xs)
      ∙ sym (append_assoc (row_puts b s k (get_or rows k 0) xs).parts (parts_from b s rows (k + 1) n xs) (parts_from b s rows (k + 1 + n) m xs)))

  from_one : (k : ℕ) (x : ElementPlan) → parts_from b s rows k 1 (x ∷ []) ≡ (element_put b s k (get_or rows k 0) x).parts
  unfolding parts_from
  from_one k x = append-nil _ ∙ one_of_row k x

  module _ (q : Option ℕ) (x : ElementPlan) where
    pub rows_start : (k : ℕ) → 0 ≡ highest (number_by q) (parts_from b s rows k (k - k) (x ∷ []))
    unfolding parts_from highest
    rows_start k = let z : k - k ≡ 0 = omega arith in rw z refl

    pub rows_next : (from k best v row : ℕ) → from ≤ k → row ≡ get_or rows k 0 → best ≡ highest (number_by q) (parts_from b s rows from (k - from) (x ∷ [])) → v ≡ highest (number_by q) (element_put b s k row x).parts
        → max best v ≡ highest (number_by q) (parts_from b s rows from (k + 1 - from) (x ∷ []))
    rows_next from k best v row h r e f =
        let n : k + 1 - from ≡ (k - from) + 1 = omega arith in
        let m : from + (k - from) ≡ k = omega arith in
        rw (n, from_append (k - from) 1 from (x ∷ []), highest_append (number_by q) (parts_from b s rows from (k - from) (x ∷ [])) (parts_from b s rows (from + (k - from)) 1 (x ∷ [])), m, from_one k x, e, f, r) refl

  -- ---- one row at most stands there

  none_stand : (p : ℕ) (x : ElementPlan) (n k : ℕ) → ((m : ℕ) → k ≤ m → m < k + n → place_in s.step m x ≡ Some p → ⊥) → highest (number_by (Some p)) (parts_from b s rows k n (x ∷ [])) ≡ 0
  unfolding parts_from highest
  none_stand p x zero k h = refl
  none_stand p x (suc n) k h =
      rw (highest_append (number_by (Some p)) (row_puts b s k (get_or rows k 0) (x ∷ [])).parts (parts_from b s rows (k + 1) n (x ∷ [])), one_of_row k x, high_elsewhere b s p k (get_or rows k 0) x (h k (omega arith) (omega arith)), none_stand p x n (k + 1) (λ m i j. h m (omega arith) (omega arith))) refl

  pub high_past : (p : ℕ) (x : ElementPlan) (count k : ℕ) → count ≤ 256 → Lowest s.step p k x → count ≤ k → 0 ≡ highest (number_by (Some p)) (parts_from b s rows 0 count (x ∷ []))
  high_past p x count k c l h = sym (none_stand p x count 0 (λ m _ z y. l.below m (omega arith) (omega arith) y))

  pub high_one : (p : ℕ) (x : ElementPlan) (count k v : ℕ) → count ≤ 256 → 0 < s.step → Lowest s.step p k x → k < count → v ≡ highest (number_by (Some p)) (parts_from b s rows k (k + 1 - k) (x ∷ []))
      → v ≡ highest (number_by (Some p)) (parts_from b s rows 0 count (x ∷ []))
  high_one p x count k v c z l h e =
      let g = number_by (Some p) in
      let n : count ≡ k + (1 + (count - k - 1)) = omega arith in
      let one : k + 1 - k ≡ 1 = omega arith in
      let at : 0 + k ≡ k = omega arith in
      let low : highest g (parts_from b s rows 0 k (x ∷ [])) ≡ 0 = none_stand p x k 0 (λ m _ y w. l.below m (omega arith) (omega arith) w) in
      let high : highest g (parts_from b s rows (k + 1) (count - k - 1) (x ∷ [])) ≡ 0 = none_stand p x (count - k - 1) (k + 1) (λ m y w u. let same : m ≡ k = one_row s.step k m p x z (l.stands (omega arith)) u in omega arith) in
      let split : highest g (parts_from b s rows 0 (k + (1 + (count - k - 1))) (x ∷ [])) ≡ max (highest g (parts_from b s rows 0 k (x ∷ []))) (max (highest g (parts_from b s rows k 1 (x ∷ []))) (highest g (parts_from b s rows (k + 1) (count - k - 1) (x ∷ []))))
      = rw (from_append k (1 + (count - k - 1)) 0 (x ∷ []), highest_append g (parts_from b s rows 0 k (x ∷ [])) (parts_from b s rows (0 + k) (1 + (count - k - 1)) (x ∷ [])), at, from_append 1 (count - k - 1) k (x ∷ []), highest_append g (parts_from b s rows k 1 (x ∷ [])) (parts_from b s rows (k + 1) (count - k - 1) (x ∷ []))) refl in
      let v' : v ≡ highest g (parts_from b s rows k 1 (x ∷ [])) = rw one at e in
      let w : highest g (parts_from b s rows 0 count (x ∷ [])) ≡ highest g (parts_from b s rows 0 (k + (1 + (count - k - 1))) (x ∷ [])) = ap (λ (m : ℕ). highest g (parts_from b s rows 0 m (x ∷ []))) n in
      sym (w ∙ split ∙ rw (low, high, ← v') (omega arith))

  -- ---- planned elements

  pub elements_snoc : (g : Part → ℕ) (xs : List ElementPlan) (x : ElementPlan) (n k : ℕ) → highest g (parts_from b s rows k n (xs ++ (x ∷ []))) ≡ max (highest g (parts_from b s rows k n xs)) (highest g (parts_from b s rows k n (x ∷ [])))
  unfolding parts_from highest
  elements_snoc g xs x zero k = refl
  elements_snoc g xs x (suc n) k =
      let row = row_puts b s k (get_or rows k 0) in
      let e : (row (xs ++ (x ∷ []))).parts ≡ (row xs).parts ++ (element_put b s k (get_or rows k 0) x).parts = ap (λ (p : Put). p.parts) (row_snoc b s k (get_or rows k 0) xs x) in
      rw (
        e,
        one_of_row k x,
        highest_append g ((row xs).parts ++ (element_put b s k (get_or rows k 0) x).parts) (parts_from b s rows (k + 1) n (xs ++ (x ∷ []))),
        highest_append g (row xs).parts (element_put b s k (get_or rows k 0) x).parts,
        elements_snoc g xs x n (k + 1),
        highest_append g (row xs).parts (parts_from b s rows (k + 1) n xs),
        highest_append g (element_put b s k (get_or rows k 0) x).parts (parts_from b s rows (k + 1) n (x ∷ [])),
      ) (omega arith)

  from_nothing : (g : Part → ℕ) (n k : ℕ) → highest g (parts_from b s rows k n []) ≡ 0
  unfolding parts_from highest row_puts chunk_put
  from_nothing g zero k = refl
  from_nothing g (suc n) k = from_nothing g n (k + 1)

pub record HighSoFar (b : List ℕ) (s : Planned) (rows : List ℕ) (count : ℕ) (q : Option ℕ) (at i best : ℕ) : Type 0 where
  pub along : Along b s at i
  pub high : best ≡ highest (number_by q) (parts_from b s rows 0 count (take i (plans_of b s)))

module _ (b : List ℕ) (s : Planned) (o : Of b s) (rows : List ℕ) (count : ℕ) (q : Option ℕ) where
  pub high_start : HighSoFar b s rows count q s.first 0 0
  high_start = record { along = along_first b s o; high = sym (from_nothing b s rows (number_by q) count 0) }

  pub high_next : {at i best : ℕ} (e : Element) (v : ℕ) → i < s.count → HighSoFar b s rows count q at i best → Read b s i e → v ≡ highest (number_by q) (parts_from b s rows 0 count (element_of b e ∷ []))
      → HighSoFar b s rows count q e.next (i + 1) (max best v)
  high_next {at} {i} {best} e v h w r f = record {
    along = r.along;
    high = rw (take_next b s o at i w.along h e r, elements_snoc b s rows (number_by q) (take i (plans_of b s)) (element_of b e) count 0, ← f, ← w.high) refl;
  }

  pub high_end : {at i best : ℕ} → s.count ≤ i → HighSoFar b s rows count q at i best → best ≡ highest (number_by q) (parts_of b s rows count)
  high_end {i = i} h w = rw (take_end b s o i h) at w.high

-- counted from 0
pub high_whole : {v : ℕ} (b : List ℕ) (s : Planned) (rows : List ℕ) (q : Option ℕ) (count : ℕ) (xs : List ElementPlan) → v ≡ highest (number_by q) (parts_from b s rows 0 (count - 0) xs) → v ≡ highest (number_by q) (parts_from b s rows 0 count xs)
high_whole b s rows q count xs h = let z : count - 0 ≡ count = omega arith in rw z at h
