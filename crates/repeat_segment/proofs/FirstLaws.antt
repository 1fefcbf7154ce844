-- The first part at a place: by the lowest row number, then by the first planned element.
use Prim.Native.Nat.{ℕ, zero, suc, ◌+◌, ◌≤◌, ◌<◌}
use mathlib.Core.Path.{◌≡◌, refl, ap, ◌∙◌}
use mathlib.Core.Bool.{Bool, true, false, false≢true}
use mathlib.Core.List.{List, [], ◌∷◌, ◌++◌}
use native.Mathlib.Omega.{arith}
use Rattle.std.specs.Prelude.{Option, None, Some}
use Rattle.std.specs.Option.{option_eq}
use lib.Dec.{eqb, ltb}
use lib.ListN.{get_or, take}
use borrow.Author.Tests.{eq-eqb, ne_eqb, eqb-true, eqb-false, lt-ltb, le-ltb, ltb-true, ltb-false}
use Rattle.format.specs.Plan.{ElementPlan}
use Rattle.format.specs.Ask.{on}
use Rattle.segment.specs.Parts.{Part, pick, rank}
use Rattle.segment.specs.Calls.{stands_at, first_at, or_text, repeat_text}
use Rattle.plan.specs.declared.answers.ElementPlan.{ElementPlan as Element}
use Rattle.plan.specs.Answers.{element_of}
use Rattle.nest.specs.Finding.{or_zero}
use Rattle.emit.specs.Puts.{Put, part_at, chunk_put}
use Rattle.repeat_segment.specs.declared.planned.Planned.{Planned}
use Rattle.repeat_segment.specs.declared.scan.First.{First}
use Rattle.repeat_segment.specs.Planned.{plans_of, Of}
use Rattle.repeat_segment.proofs.PlannedLaws.{Along, Read}
use Rattle.repeat_segment.specs.Places.{place_in, text_in, element_put, row_puts, parts_from, parts_of, Earlier, taken, kept, found_text}
use Rattle.repeat_segment.proofs.Steps.{take_next, take_end, along_first, row_snoc}
use Rattle.repeat_segment.proofs.PlaceLaws.{element_parts}

-- components are equal where their ranks are
pub rank_same : (c d : Option ℕ) → option_eq eqb c d ≡ true → rank c ≡ rank d
rank_same None None e = refl
rank_same None (Some d) e = absurd (false≢true e)
rank_same (Some c) None e = absurd (false≢true e)
rank_same (Some c) (Some d) e = ap suc (eqb-true c d e)

pub same_rank : (c d : Option ℕ) → rank c ≡ rank d → option_eq eqb c d ≡ true
same_rank None None e = refl
same_rank None (Some d) e = absurd (omega (arith, e))
same_rank (Some c) None e = absurd (omega (arith, e))
same_rank (Some c) (Some d) e = eq-eqb c d (omega (arith, e))

-- a component as findings have it is its rank
pub word_rank : (c : Option ℕ) → or_zero c ≡ rank c
word_rank None = refl
word_rank (Some c) = refl

module _ (p r : ℕ) where
  pub first_behind : (xs ys : List Part) → first_at p r xs ≡ None → first_at p r (xs ++ ys) ≡ first_at p r ys
  unfolding first_at
  first_behind [] ys h = refl
  first_behind (x ∷ xs) ys h = go (stands_at p r x) h (first_behind xs ys)
    where
      go : (t : Bool) → pick t (Some x.text) (first_at p r xs) ≡ None → (first_at p r xs ≡ None → first_at p r (xs ++ ys) ≡ first_at p r ys) → pick t (Some x.text) (first_at p r (xs ++ ys)) ≡ first_at p r ys
      go true h ih = absurd (let z : ◌≡◌ {A = ℕ} 1 0 = ap (λ (o : Option (List ℕ)). on o (λ x. 1) 0) h in omega arith)
      go false h ih = ih h

  pub first_before : (xs ys : List Part) (text : List ℕ) → first_at p r xs ≡ Some text → first_at p r (xs ++ ys) ≡ Some text
  unfolding first_at
  first_before [] ys text h = absurd (let z : ◌≡◌ {A = ℕ} 0 1 = ap (λ (o : Option (List ℕ)). on o (λ x. 1) 0) h in omega arith)
  first_before (x ∷ xs) ys text h = go (stands_at p r x) h (first_before xs ys text)
    where
      go : (t : Bool) → pick t (Some x.text) (first_at p r xs) ≡ Some text → (first_at p r xs ≡ Some text → first_at p r (xs ++ ys) ≡ Some text) → pick t (Some x.text) (first_at p r (xs ++ ys)) ≡ Some text
      go true h ih = h
      go false h ih = ih h

  module _ (b : List ℕ) (s : Planned) (k row : ℕ) (x : ElementPlan) where
    pub element_stands : place_in s.step k x ≡ Some p → rank x.component ≡ r → first_at p r (element_put b s k row x).parts ≡ Some (text_in b s p row x).text
    unfolding first_at stands_at
    element_stands h i = rw (element_parts b s k row x, h, eq-eqb p p refl, eq-eqb (rank x.component) r i) refl

    pub element_elsewhere : (place_in s.step k x ≡ Some p → rank x.component ≡ r → ⊥) → first_at p r (element_put b s k row x).parts ≡ None
    unfolding first_at stands_at
    element_elsewhere h = rw (element_parts b s k row x) (go (place_in s.step k x) refl)
      where
        ranks : (e : ℕ) (t : Bool) → place_in s.step k x ≡ Some e → e ≡ p → eqb (rank x.component) r ≡ t → pick t (Some (text_in b s e row x).text) None ≡ None
        ranks e true q z y = absurd (h (q ∙ ap Some z) (eqb-true _ _ y))
        ranks e false q z y = refl

        places : (e : ℕ) (t : Bool) → place_in s.step k x ≡ Some e → eqb e p ≡ t → pick (pick t (eqb (rank x.component) r) false) (Some (text_in b s e row x).text) None ≡ None
        places e true q y = ranks e (eqb (rank x.component) r) q (eqb-true _ _ y) refl
        places e false q y = refl

        go : (o : Option ℕ) → place_in s.step k x ≡ o → first_at p r (on o (λ e. part_at e x.component (text_in b s e row x).text ∷ []) []) ≡ None
        go None q = refl
        go (Some e) q = places e (eqb e p) q refl

  -- ---- rows

  module _ (b : List ℕ) (s : Planned) (rows : List ℕ) (xs : List ElementPlan) where
    pub rows_none : (n k : ℕ) → ((m : ℕ) → k ≤ m → m < k + n → first_at p r (row_puts b s m (get_or rows m 0) xs).parts ≡ None) → first_at p r (parts_from b s rows k n xs) ≡ None
    unfolding parts_from first_at
    rows_none zero k h = refl
    rows_none (suc n) k h = first_behind (row_puts b s k (get_or rows k 0) xs).parts (parts_from b s rows (k + 1) n xs) (h k (omega arith) (omega arith)) ∙ rows_none n (k + 1) (λ m i j. h m (omega arith) (omega arith))

    pub rows_first : (n k row : ℕ) (text : List ℕ) → k ≤ row → row < k + n → ((m : ℕ) → k ≤ m → m < row → first_at p r (row_puts b s m (get_or rows m 0) xs).parts ≡ None)
        → first_at p r (row_puts b s row (get_or rows row 0) xs).parts ≡ Some text → first_at p r (parts_from b s rows k n xs) ≡ Some text
    unfolding parts_from
    rows_first zero k row text h i f e = absurd (omega arith)
    rows_first (suc n) k row text h i f e = go (eqb k row) refl (λ a c g. rows_first n (k + 1) row text a c g e)
      where
        go : (t : Bool) → eqb k row ≡ t
            → (k + 1 ≤ row → row < k + 1 + n → ((m : ℕ) → k + 1 ≤ m → m < row → first_at p r (row_puts b s m (get_or rows m 0) xs).parts ≡ None) → first_at p r (parts_from b s rows (k + 1) n xs) ≡ Some text) → first_at p r ((row_puts b s k (get_or rows k 0) xs).parts ++ parts_from b s rows (k + 1) n xs) ≡ Some text
        go true q ih = let z : k ≡ row = eqb-true _ _ q in first_before (row_puts b s k (get_or rows k 0) xs).parts _ text (rw z e)
        go false q ih =
            let z : k ≡ row → ⊥ = eqb-false _ _ q in
            first_behind (row_puts b s k (get_or rows k 0) xs).parts _ (f k (omega arith) (omega arith)) ∙ ih (omega arith) (omega arith) (λ m a c. f m (omega arith) c)

-- ---- the planned elements one by one

pub record FirstSoFar (b : List ℕ) (s : Planned) (count p r : ℕ) (f : First) (at i : ℕ) : Type 0 where
  pub along : Along b s at i
  pub low : f.row ≤ count
  pub before : (rows : List ℕ) (m : ℕ) → m < f.row → first_at p r (row_puts b s m (get_or rows m 0) (take i (plans_of b s))).parts ≡ None
  pub found : (rows : List ℕ) → f.row < count → first_at p r (row_puts b s f.row (get_or rows f.row 0) (take i (plans_of b s))).parts ≡ Some (text_in b s p (get_or rows f.row 0) (element_of b f.plan)).text

module _ (b : List ℕ) (s : Planned) (o : Of b s) (count p r : ℕ) (c : count ≤ 256) where
  pub first_start : (f : First) → f.row ≡ count → FirstSoFar b s count p r f s.first 0
  unfolding row_puts chunk_put first_at
  first_start f e = record { along = along_first b s o; low = omega arith; before = λ rows m h. refl; found = λ rows h. absurd (omega arith) }

  row_next : (at i : ℕ) (e : Element) → i < s.count → Along b s at i → Read b s i e → (rows : List ℕ) (m : ℕ)
      → first_at p r (row_puts b s m (get_or rows m 0) (take (i + 1) (plans_of b s))).parts
      ≡ first_at p r ((row_puts b s m (get_or rows m 0) (take i (plans_of b s))).parts ++ (element_put b s m (get_or rows m 0) (element_of b e)).parts)
  row_next at i e h a q rows m =
      ap (λ (xs : List ElementPlan). first_at p r (row_puts b s m (get_or rows m 0) xs).parts) (take_next b s o at i a h e q)
      ∙ ap (λ (x : Put). first_at p r x.parts) (row_snoc b s m (get_or rows m 0) (take i (plans_of b s)) (element_of b e))

  pub first_next : {f g : First} {at i : ℕ} (e : Element) → i < s.count → FirstSoFar b s count p r f at i → Read b s i e → Earlier s.step p r b f e g → FirstSoFar b s count p r g e.next (i + 1)
  first_next {f} {g} {at} {i} e h w q (taken k less same low) = record {
    along = q.along;
    low = omega (arith, w.low);
    before = λ rows m z. row_next at i e h w.along q rows m ∙ first_behind p r _ _ (w.before rows m (omega arith)) ∙ element_elsewhere p r b s m (get_or rows m 0) (element_of b e) (λ y _. low.below m z (omega (arith, w.low)) y);
    found = λ rows z. row_next at i e h w.along q rows k ∙ first_behind p r _ _ (w.before rows k less) ∙ element_stands p r b s k (get_or rows k 0) (element_of b e) (low.stands (omega (arith, w.low))) same;
  }
  first_next {f} {g} {at} {i} e h w q (kept none-lower) = record {
    along = q.along;
    low = w.low;
    before = λ rows m z. row_next at i e h w.along q rows m ∙ first_behind p r _ _ (w.before rows m z) ∙ element_elsewhere p r b s m (get_or rows m 0) (element_of b e) (λ y v. none-lower m z (omega (arith, w.low)) y v);
    found = λ rows z. row_next at i e h w.along q rows f.row ∙ first_before p r _ _ _ (w.found rows z);
  }

  pub first_end : {f : First} {at i : ℕ} → s.count ≤ i → FirstSoFar b s count p r f at i → (rows : List ℕ) → first_at p r (parts_of b s rows count) ≡ found_text b s rows count p f
  first_end {f} {at} {i} h w rows = go (ltb f.row count) refl
    where
      all : take i (plans_of b s) ≡ plans_of b s
      all = take_end b s o i h

      before : (m : ℕ) → m < f.row → first_at p r (row_puts b s m (get_or rows m 0) (plans_of b s)).parts ≡ None
      before m z = rw all at (w.before rows m z)

      go : (t : Bool) → ltb f.row count ≡ t → first_at p r (parts_of b s rows count) ≡ pick t (Some (text_in b s p (get_or rows f.row 0) (element_of b f.plan)).text) None
      go true q = rows_first p r b s rows (plans_of b s) count 0 f.row (text_in b s p (get_or rows f.row 0) (element_of b f.plan)).text (omega arith) (omega (arith, ltb-true f.row count q)) (λ m _ z. before m z) (rw all at (w.found rows (ltb-true f.row count q)))
      go false q = rows_none p r b s rows (plans_of b s) count 0 (λ m _ z. before m (omega (arith, ltb-false f.row count q)))

-- ---- texts

pub found_is : (b : List ℕ) (s : Planned) (rows : List ℕ) (count p : ℕ) (f : First) → f.row < count → found_text b s rows count p f ≡ Some (text_in b s p (get_or rows f.row 0) (element_of b f.plan)).text
found_is b s rows count p f h = rw (lt-ltb f.row count h) refl

pub found_not : (b : List ℕ) (s : Planned) (rows : List ℕ) (count p : ℕ) (f : First) → count ≤ f.row → found_text b s rows count p f ≡ None
found_not b s rows count p f h = rw (le-ltb f.row count h) refl

module _ (parts : List Part) (p : ℕ) where
  pub ranked_is : (r : ℕ) {text : List ℕ} → first_at p r parts ≡ Some text → text ≡ or_text (first_at p r parts) []
  ranked_is r h = rw h refl

  pub ranked_not : (r : ℕ) → first_at p r parts ≡ None → [] ≡ or_text (first_at p r parts) []
  ranked_not r h = rw h refl

  pub first_plain : {text : List ℕ} → first_at p 0 parts ≡ Some text → text ≡ repeat_text parts p 1
  unfolding repeat_text
  first_plain h = rw h refl

  pub first_ranked : {text : List ℕ} → first_at p 0 parts ≡ None → text ≡ or_text (first_at p 2 parts) [] → text ≡ repeat_text parts p 1
  unfolding repeat_text
  first_ranked h e = rw h e

  pub later_ranked : {text : List ℕ} (c n : ℕ) → (c ≡ 1 → ⊥) → n ≡ suc c → text ≡ or_text (first_at p n parts) [] → text ≡ repeat_text parts p c
  unfolding repeat_text
  later_ranked c n h q e = rw (ne_eqb c 1 h, ← q) e
