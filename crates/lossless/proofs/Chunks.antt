-- A due repeat segment of a complete plan is read in full.
use Prim.Native.Nat.{ℕ, zero, suc, ◌+◌, ◌*◌, ◌≤◌, ◌<◌, max}
use mathlib.Core.Path.{◌≡◌, refl, sym, ◌∙◌, subst}
use mathlib.Core.Logic.{◌≢◌, ◌⊎◌, inl, inr}
use mathlib.Core.Bool.{false}
use mathlib.Core.List.{List, [], ◌∷◌, ◌++◌}
use native.Mathlib.Omega.{arith}
use native.Mathlib.Nat.{add-zero, zero-mul}
use lib.ListN.{length}
use lib.Dec.{eqb}
use borrow.Author.Tests.{ne_eqb}
use Rattle.format.specs.Plan.{Source, from_repeat, Value, from_column, from_group, from_code, ElementPlan}
use Rattle.format.specs.Job.{Job}
use Rattle.format.specs.Ask.{step_of, capacity_of}
use Rattle.segment.specs.Parts.{Part, sorted}
use Rattle.segment.proofs.Sorted.{sorted_all, sorted_rises}
use Rattle.nest.specs.Lists.{All, some_of}
use Rattle.nest.proofs.Alls.{all_append, all_weaker}
use Rattle.emit.specs.Puts.{part_at, put_all, put_cell, chunk_value, chunk_put, chunk_puts}
use Rattle.emit.specs.Fold.{separators_of}
use Rattle.complete.specs.Complete.{Pairs, Each2, PlanStarts, reach, element_of, PlacesApart, OwnApart, Unmixed, Clear, CodeClear}
use Rattle.lossless.specs.Due.{text_of_cell, chunk_cell, chunk_row, chunk_cells}
use Rattle.lossless.specs.Separators.{holds_separator}
use Rattle.lossless.proofs.Words.{none_all, none_append, In, all_in, in_all}
use Rattle.lossless.proofs.Marks.{held_not}
use Rattle.lossless.proofs.Fine.{NotAt, SameKind, Starts, own_text, own_sorted, kinds, kinds_sorted, Fine, clear_free}

-- a part stands where an element is planned for row number k of a full chunk
pub record StandsIn (j : Job) (t : ℕ) (e : ElementPlan) (k : ℕ) (y : Part) : Type 0 where
  pub element : y.element ≡ element_of j (from_repeat t) e k
  pub component : y.component ≡ e.component
  pub within : k < reach j (from_repeat t) e.value

-- the places of a and b in different rows differ
abbrev Crosswise : Job → ℕ → ElementPlan → ElementPlan → Type 0
Crosswise j t a b = (k n : ℕ) → k < n → k < reach j (from_repeat t) a.value → n < reach j (from_repeat t) b.value → element_of j (from_repeat t) a k ≡ element_of j (from_repeat t) b n → a.component ≢ b.component

pairs_append : {A : Type 0} (R : A → A → Type 0) (xs ys : List A) → Pairs R xs → Pairs R ys → All (λ x. All (R x) ys) xs → Pairs R (xs ++ ys)
pairs_append R [] ys h k c = k
pairs_append R (x ∷ xs) ys h k c = (all_append (R x) xs ys h.0 c.0, pairs_append R xs ys h.1 k c.1)

-- two members of a list: one and the same, or one before the other
two_of : {A : Type 0} (R : A → A → Type 0) (xs : List A) → Pairs R xs → (a b : A) → In a xs → In b xs → (a ≡ b) ⊎ (R a b ⊎ R b a)
two_of R [] h a b i k = absurd i
two_of R (x ∷ xs) h a b (inl e) (inl q) = inl (e ∙ sym q)
two_of R (x ∷ xs) h a b (inl e) (inr k) = inr (inl (rw e (all_in (R x) xs h.0 b k)))
two_of R (x ∷ xs) h a b (inr i) (inl q) = inr (inr (rw q (all_in (R x) xs h.0 a i)))
two_of R (x ∷ xs) h a b (inr i) (inr k) = two_of R xs h.1 a b i k

crosswise : (j : Job) (t : ℕ) (es : List ElementPlan) → Pairs (PlacesApart j (from_repeat t)) es → All (OwnApart j (from_repeat t)) es → Each2 (Crosswise j t) es
crosswise j t es h own = in_all _ es (λ a i. in_all _ es (λ b m. go a b i (two_of (PlacesApart j (from_repeat t)) es h a b i m)))
  where
    go : (a b : ElementPlan) → In a es → (a ≡ b) ⊎ (PlacesApart j (from_repeat t) a b ⊎ PlacesApart j (from_repeat t) b a) → Crosswise j t a b
    go a b i (inl e) k n l p q z c =
        let o = all_in (OwnApart j (from_repeat t)) es own a i k n p (rw e q) (z ∙ rw e) in
        omega (arith, l, o)
    go a b i (inr (inl f)) k n l p q z c = f k n p q z c
    go a b i (inr (inr f)) k n l p q z c = f n k q p (sym z) (sym c)

module _ (j : Job) (id : List ℕ) (t : ℕ) where
  abbrev S : Source
  S = from_repeat t

  abbrev room : ℕ
  room = max 1 (capacity_of j t)

  abbrev row_parts : ℕ → ℕ → List ElementPlan → List Part
  row_parts k r es = (put_all (λ (p : ElementPlan). chunk_value j id t (step_of j t) k r p p.value) es).parts

  abbrev parts_of : ℕ → List ElementPlan → List ℕ → List Part
  parts_of k es rs = (chunk_puts j id t (step_of j t) k es rs).parts

  -- ---- what a planned element gives row number k: a part at its place, or none

  value_so : (Q : List Part → Type 0) (k r : ℕ) → k < room → (e : ElementPlan) → Q [] → ((text : List ℕ) → StandsIn j t e k (part_at (e.element + k * step_of j t) e.component text) → Q (part_at (e.element + k * step_of j t) e.component text ∷ []))
      → Q (chunk_value j id t (step_of j t) k r e e.value).parts
  unfolding put_cell
  value_so Q zero r h e nil one = go e.value refl
    where
      here : e.element + 0 * step_of j t ≡ e.element
      here = rw zero-mul (add-zero e.element)

      moved : (text : List ℕ) → 0 < reach j S e.value → Q (part_at e.element e.component text ∷ [])
      moved text w = subst (λ n. Q (part_at n e.component text ∷ [])) here (one text (record { element = refl; component = refl; within = w }))

      go : (v : Value) → e.value ≡ v → Q (chunk_value j id t (step_of j t) 0 r e v).parts
      go (from_column c) q = moved (text_of_cell j id e.element e.component t c r) (rw q (omega arith))
      go (from_group c) q = one (text_of_cell j id (e.element + 0 * step_of j t) e.component t c r) (record { element = refl; component = refl; within = rw q (omega arith) })
      go (from_code code) q = moved code (rw q (omega arith))
  value_so Q (suc k) r h e nil one = go e.value refl
    where
      later : eqb (suc k) 0 ≡ false
      later = ne_eqb (suc k) 0 (λ e. omega arith)

      go : (v : Value) → e.value ≡ v → Q (chunk_value j id t (step_of j t) (suc k) r e v).parts
      go (from_column c) q = rw later nil
      go (from_group c) q = one (text_of_cell j id (e.element + suc k * step_of j t) e.component t c r) (record { element = refl; component = refl; within = rw q h })
      go (from_code code) q = rw later nil

  -- ---- what is so of every part at a planned place is so of the chunk's

  row_all : (Q : Part → Type 0) (k r : ℕ) → k < room → (es : List ElementPlan) → All (λ e. (y : Part) → StandsIn j t e k y → Q y) es → All Q (row_parts k r es)
  row_all Q k r h [] f = tt
  row_all Q k r h (e ∷ es) f =
      all_append Q (chunk_value j id t (step_of j t) k r e e.value).parts (row_parts k r es)
      (value_so (All Q) k r h e tt (λ text p. (f.0 (part_at (e.element + k * step_of j t) e.component text) p, tt))) (row_all Q k r h es f.1)

  parts_all : (Q : Part → Type 0) (k : ℕ) (es : List ElementPlan) (rs : List ℕ) → k + length rs ≤ room → All (λ e. (n : ℕ) → k ≤ n → (y : Part) → StandsIn j t e n y → Q y) es → All Q (parts_of k es rs)
  unfolding chunk_puts chunk_put
  parts_all Q k es [] h f = tt
  parts_all Q k es (r ∷ rs) h f =
      all_append Q (row_parts k r es) (parts_of (k + 1) es rs)
      (row_all Q k r (omega arith) es (all_weaker _ _ es (λ e g. g k (omega arith)) f))
      (parts_all Q (k + 1) es rs (omega arith) (all_weaker _ _ es (λ e g n l. g n (omega arith)) f))

  -- ---- their places differ

  row_apart : (k r : ℕ) → k < room → (es : List ElementPlan) → Pairs (PlacesApart j S) es → Pairs NotAt (row_parts k r es)
  row_apart k r h [] f = tt
  row_apart k r h (e ∷ es) f =
      pairs_append NotAt (chunk_value j id t (step_of j t) k r e e.value).parts (row_parts k r es)
      (value_so (Pairs NotAt) k r h e tt (λ text p. (tt, tt))) (row_apart k r h es f.1)
      (value_so (All (λ x. All (NotAt x) (row_parts k r es))) k r h e tt (λ text p. (behind text p, tt)))
    where
      behind : (text : List ℕ) → StandsIn j t e k (part_at (e.element + k * step_of j t) e.component text)
          → All (NotAt (part_at (e.element + k * step_of j t) e.component text)) (row_parts k r es)
      behind text p =
          row_all (NotAt (part_at (e.element + k * step_of j t) e.component text)) k r h es
          (all_weaker _ _ es (λ b g y q z c. g k k p.within q.within (z ∙ q.element) (c ∙ q.component)) f.0)

  parts_apart : (k : ℕ) (es : List ElementPlan) (rs : List ℕ) → k + length rs ≤ room → Pairs (PlacesApart j S) es → Each2 (Crosswise j t) es → Pairs NotAt (parts_of k es rs)
  unfolding chunk_puts chunk_put
  parts_apart k es [] h f c = tt
  parts_apart k es (r ∷ rs) h f c =
      pairs_append NotAt (row_parts k r es) (parts_of (k + 1) es rs) (row_apart k r (omega arith) es f) (parts_apart (k + 1) es rs (omega arith) f c)
      (row_all (λ x. All (NotAt x) (parts_of (k + 1) es rs)) k r (omega arith) es
      (all_weaker _ _ es (λ a g x p. parts_all (NotAt x) (k + 1) es rs (omega arith)
      (all_weaker _ _ es (λ b u n l y q z d. u k n (omega arith) p.within q.within (sym p.element ∙ z ∙ q.element) (sym p.component ∙ d ∙ q.component)) g)) c))

  parts_kinds : (es : List ElementPlan) (rs : List ℕ) → length rs ≤ room → Each2 (Unmixed j S) es → Each2 SameKind (parts_of 0 es rs)
  parts_kinds es rs h u =
      parts_all (λ x. All (SameKind x) (parts_of 0 es rs)) 0 es rs (omega arith)
      (all_weaker _ _ es (λ a g k l x p. parts_all (SameKind x) 0 es rs (omega arith)
      (all_weaker _ _ es (λ b v n m y q z d. q.component ∙ v k n p.within q.within (sym p.element ∙ z ∙ q.element) (sym p.component ∙ d)) g)) u)

  parts_start : (es : List ElementPlan) (rs : List ℕ) → length rs ≤ room → All PlanStarts es → All Starts (parts_of 0 es rs)
  parts_start es rs h s = parts_all Starts 0 es rs (omega arith) (all_weaker _ _ es (λ e k n l y p. (rw p.element (omega (arith, k.element)), rw p.component k.component)) s)

  -- ---- their texts

  value_clear : (k r : ℕ) (e : ElementPlan) (v : Value) → CodeClear j v → some_of (holds_separator j) (chunk_cell j id t (step_of j t) k r e v) ≡ false
      → All (λ (y : Part). Clear j y.text) (chunk_value j id t (step_of j t) k r e v).parts
  unfolding put_cell
  value_clear zero r e (from_column c) k h = (held_not j _ (none_all (holds_separator j) (chunk_cell j id t (step_of j t) 0 r e (from_column c)) h).0, tt)
  value_clear (suc n) r e (from_column c) k h = rw (ne_eqb (suc n) 0 (λ e. omega arith)) tt
  value_clear n r e (from_group c) k h = (held_not j _ (none_all (holds_separator j) (chunk_cell j id t (step_of j t) n r e (from_group c)) h).0, tt)
  value_clear zero r e (from_code code) k h = (k, tt)
  value_clear (suc n) r e (from_code code) k h = rw (ne_eqb (suc n) 0 (λ e. omega arith)) tt

  row_clear : (k r : ℕ) (es : List ElementPlan) → All (λ (e : ElementPlan). CodeClear j e.value) es → some_of (holds_separator j) (chunk_row j id t (step_of j t) k r es) ≡ false
      → All (λ (y : Part). Clear j y.text) (row_parts k r es)
  row_clear k r [] c h = tt
  row_clear k r (e ∷ es) c h =
      let q = none_append (holds_separator j) (chunk_cell j id t (step_of j t) k r e e.value) (chunk_row j id t (step_of j t) k r es) h in
      all_append _ (chunk_value j id t (step_of j t) k r e e.value).parts (row_parts k r es) (value_clear k r e e.value c.0 q.0) (row_clear k r es c.1 q.1)

  parts_clear : (k : ℕ) (es : List ElementPlan) (rs : List ℕ) → All (λ (e : ElementPlan). CodeClear j e.value) es → some_of (holds_separator j) (chunk_cells j id t (step_of j t) k es rs) ≡ false
      → All (λ (y : Part). Clear j y.text) (parts_of k es rs)
  unfolding chunk_puts chunk_put
  parts_clear k es [] c h = tt
  parts_clear k es (r ∷ rs) c h =
      let q = none_append (holds_separator j) (chunk_row j id t (step_of j t) k r es) (chunk_cells j id t (step_of j t) (k + 1) es rs) h in
      all_append _ (row_parts k r es) (parts_of (k + 1) es rs) (row_clear k r es c q.0) (parts_clear (k + 1) es rs c q.1)

  -- ---- identifier and parts of a repeat segment

  pub chunk_fine : (es : List ElementPlan) (rs : List ℕ) → length rs ≤ room → (id ≢ []) × Clear j id → All PlanStarts es
      → Pairs (PlacesApart j S) es → All (OwnApart j S) es → Each2 (Unmixed j S) es → All (λ (e : ElementPlan). CodeClear j e.value) es
      → some_of (holds_separator j) (chunk_cells j id t (step_of j t) 0 es rs) ≡ false → Fine (separators_of j) (record { id = id; parts = sorted (parts_of 0 es rs) })
  chunk_fine es rs l n starts apart own unmixed codes h =
      let parts = parts_of 0 es rs in
      let begin = parts_start es rs l starts in
      record {
        free = clear_free j id (sorted parts) n (sorted_rises 1 parts (all_weaker _ _ parts (λ y s. s.0) begin)) (sorted_all _ parts (parts_clear 0 es rs codes h));
        one_kind = kinds_sorted parts (kinds parts (parts_kinds es rs l unmixed));
        own = own_sorted parts (own_text parts (parts_apart 0 es rs (omega arith) apart (crosswise j t es apart own)));
        starts = sorted_all Starts parts begin;
      }
