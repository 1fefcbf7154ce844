-- Parts that come in order, and what is written of them.
use Prim.Native.Nat.{ℕ, ◌+◌, ◌≤◌, ◌<◌}
use mathlib.Core.Path.{◌≡◌, refl, ap, ◌∙◌}
use mathlib.Core.List.{List, [], ◌∷◌, ◌++◌, append-nil}
use native.Mathlib.Omega.{arith}
use Rattle.std.specs.Prelude.{None, Some, Option}
use lib.ListN.{length, get_or, take}
use borrow.Author.Tests.{ne_eqb, lt-ltb}
use Rattle.lent.specs.Fit.{cap, Stored}
use Rattle.lent.specs.Window.{stretch}
use Rattle.lent.proofs.Laws.{stored_length}
use Rattle.format.specs.Plan.{ElementPlan}
use Rattle.segment.specs.declared.Separators.{Separators}
use Rattle.segment.specs.declared.Pen.{Pen}
use Rattle.segment.specs.Parts.{Part, component_of, insert, sorted, joined}
use Rattle.segment.specs.Pen.{placed, Penned}
use Rattle.segment.specs.Values.{opened, closing}
use Rattle.segment.specs.Calls as Calls
use Rattle.segment.proofs.Fed.{fed_stored}
use Rattle.plan.specs.declared.answers.ElementPlan.{ElementPlan as Element}
use Rattle.plan.specs.Answers.{element_of}
use Rattle.emit.specs.Puts.{Put}
use Rattle.repeat_segment.specs.declared.planned.Planned.{Planned}
use Rattle.repeat_segment.specs.Planned.{plans_of, id_of, Of}
use Rattle.repeat_segment.proofs.PlannedLaws.{Along, Read}
use Rattle.repeat_segment.specs.Places.{place_in, text_in, element_put, row_puts, parts_from, parts_of}
use Rattle.repeat_segment.specs.Order.{Rises, Ends, Ordered, Fed, done, part}
use Rattle.repeat_segment.proofs.Steps.{take_next, take_end, along_first, row_none, row_snoc}
use Rattle.repeat_segment.proofs.PlaceLaws.{element_parts}
use Rattle.repeat_segment.proofs.HighLaws.{from_append}
use Rattle.repeat_segment.proofs.JoinLaws.{named}

-- ---- one list behind the other

rises_append : (q l m : ℕ) (xs ys : List Part) → Rises q xs l → Rises l ys m → Rises q (xs ++ ys) m
rises_append q l m [] ys h k = rw h k
rises_append q l m (x ∷ xs) ys h k = (h.0, h.1, rises_append x.element l m xs ys h.2 k)

fed_append : {s : Separators} {xs ys : List Part} {pen t u : Pen} {d d₁ d₂ : List ℕ} → Fed s xs pen d t d₁ → Fed s ys t d₁ u d₂ → Fed s (xs ++ ys) pen d u d₂
fed_append done g = g
fed_append (part w f) g = part w (fed_append f g)

fed_length : {s : Separators} {xs : List Part} {pen t : Pen} {d d₁ : List ℕ} → Fed s xs pen d t d₁ → length d₁ ≡ length d
fed_length done = refl
fed_length (part w f) = fed_length f ∙ stored_length _ w.stored

-- ---- one planned element

module _ (b : List ℕ) (s : Planned) (k r : ℕ) (x : ElementPlan) where
  pub rises_nowhere : (q : ℕ) → place_in s.step k x ≡ None → Rises q (element_put b s k r x).parts q
  rises_nowhere q h = rw (element_parts b s k r x, h) refl

  pub rises_there : (q m : ℕ) → place_in s.step k x ≡ Some m → q < m → x.component ≡ None → Rises q (element_put b s k r x).parts m
  rises_there q m h i c = rw (element_parts b s k r x, h) (i, c, refl)

  pub fed_nowhere : {sep : Separators} {pen : Pen} {d : List ℕ} → place_in s.step k x ≡ None → Fed sep (element_put b s k r x).parts pen d pen d
  fed_nowhere h = rw (element_parts b s k r x, h) done

  pub fed_there : {sep : Separators} {pen t : Pen} {d d₁ : List ℕ} (m : ℕ) → place_in s.step k x ≡ Some m
      → Penned (placed sep pen m 1 (text_in b s m r x).text) pen.at t d d₁ → Fed sep (element_put b s k r x).parts pen d t d₁
  fed_there m h w = rw (element_parts b s k r x, h) (part w done)

-- ---- the planned elements of a row

pub record RisesSoFar (b : List ℕ) (s : Planned) (k from last at i : ℕ) : Type 0 where
  pub along : Along b s at i
  pub rises : (row : ℕ) → Rises from (row_puts b s k row (take i (plans_of b s))).parts last

pub record FedSoFar (b : List ℕ) (s : Planned) (k r : ℕ) (sep : Separators) (pen : Pen) (d : List ℕ) (t : Pen) (d₁ : List ℕ) (at i : ℕ) : Type 0 where
  pub along : Along b s at i
  pub fed : Fed sep (row_puts b s k r (take i (plans_of b s))).parts pen d t d₁

row_parts_lem : (b : List ℕ) (s : Planned) (k r : ℕ) (xs : List ElementPlan) (x : ElementPlan) → (row_puts b s k r (xs ++ (x ∷ []))).parts ≡ (row_puts b s k r xs).parts ++ (element_put b s k r x).parts
row_parts_lem b s k r xs x = ap (λ (p : Put). p.parts) (row_snoc b s k r xs x)

module _ (b : List ℕ) (s : Planned) (o : Of b s) (k : ℕ) where
  no_parts : (r : ℕ) → (row_puts b s k r (take 0 (plans_of b s))).parts ≡ []
  no_parts r = rw (row_none b s k r) refl

  pub rises_start : (from : ℕ) → RisesSoFar b s k from from s.first 0
  rises_start from = record { along = along_first b s o; rises = λ row. rw (no_parts row) refl }

  pub rises_next : {from last at i m : ℕ} (e : Element) (n : Option ℕ) → n ≡ Some m → i < s.count → RisesSoFar b s k from last at i → Read b s i e
      → ((row : ℕ) → Ends last (element_put b s k row (element_of b e)).parts n) → RisesSoFar b s k from m e.next (i + 1)
  rises_next {from} {last} {at} {i} {m} e n z h w q f = record {
    along = q.along;
    rises = λ row.
        let g : Rises last (element_put b s k row (element_of b e)).parts m = rw z at (f row) in
        rw (take_next b s o at i w.along h e q, row_parts_lem b s k row (take i (plans_of b s)) (element_of b e))
        (rises_append from last m (row_puts b s k row (take i (plans_of b s))).parts (element_put b s k row (element_of b e)).parts (w.rises row) g);
  }

  pub rises_end : {from last at i : ℕ} → s.count ≤ i → RisesSoFar b s k from last at i → (row : ℕ) → Rises from (row_puts b s k row (plans_of b s)).parts last
  rises_end {i = i} h w row = rw (take_end b s o i h) at (w.rises row)

  module _ (r : ℕ) {sep : Separators} {pen : Pen} {d : List ℕ} where
    pub fed_start : FedSoFar b s k r sep pen d pen d s.first 0
    fed_start = record { along = along_first b s o; fed = rw (no_parts r) done }

    pub fed_next : {t u : Pen} {d₁ d₂ : List ℕ} {at i : ℕ} (e : Element) → i < s.count → FedSoFar b s k r sep pen d t d₁ at i → Read b s i e
        → Fed sep (element_put b s k r (element_of b e)).parts t d₁ u d₂ → FedSoFar b s k r sep pen d u d₂ e.next (i + 1)
    fed_next {at = at} {i = i} e h w q f = record {
      along = q.along;
      fed = rw (take_next b s o at i w.along h e q, row_parts_lem b s k r (take i (plans_of b s)) (element_of b e)) (fed_append w.fed f);
    }

    pub fed_end : {t : Pen} {d₁ : List ℕ} {at i : ℕ} → s.count ≤ i → FedSoFar b s k r sep pen d t d₁ at i → Fed sep (row_puts b s k r (plans_of b s)).parts pen d t d₁
    fed_end {i = i} h w = rw (take_end b s o i h) at w.fed

    pub fed_long : {t : Pen} {d₁ : List ℕ} {at i : ℕ} → FedSoFar b s k r sep pen d t d₁ at i → length d₁ ≡ length d
    fed_long w = fed_length w.fed

-- ---- the rows

module _ (b : List ℕ) (s : Planned) (rows : List ℕ) (xs : List ElementPlan) where
  no_rows : parts_from b s rows 0 0 xs ≡ []
  unfolding parts_from
  no_rows = refl

  one_row : (k : ℕ) → parts_from b s rows k 1 xs ≡ (row_puts b s k (get_or rows k 0) xs).parts
  unfolding parts_from
  one_row k = append-nil _

  rows_snoc : (k : ℕ) → parts_from b s rows 0 (k + 1) xs ≡ parts_from b s rows 0 k xs ++ (row_puts b s k (get_or rows k 0) xs).parts
  rows_snoc k =
      let z : 0 + k ≡ k = omega arith in
      from_append b s rows k 1 0 xs ∙ rw (z, one_row k) refl

pub record OrderedSoFar (b : List ℕ) (s : Planned) (count last k : ℕ) : Type 0 where
  pub within : k ≤ count
  pub rises : (rows : List ℕ) → Rises 0 (parts_from b s rows 0 k (plans_of b s)) last

module _ (b : List ℕ) (s : Planned) (count : ℕ) where
  pub ordered_start : OrderedSoFar b s count 0 0
  ordered_start = record { within = omega arith; rises = λ rows. rw (no_rows b s rows (plans_of b s)) refl }

  pub ordered_next : {last k m : ℕ} (n : Option ℕ) → n ≡ Some m → k < count → OrderedSoFar b s count last k → ((row : ℕ) → Ends last (row_puts b s k row (plans_of b s)).parts n) → OrderedSoFar b s count m (k + 1)
  ordered_next {last} {k} {m} n e h w f = record {
    within = omega arith;
    rises = λ rows.
        let g : Rises last (row_puts b s k (get_or rows k 0) (plans_of b s)).parts m = rw e at (f (get_or rows k 0)) in
        rw (rows_snoc b s rows (plans_of b s) k) (rises_append 0 last m (parts_from b s rows 0 k (plans_of b s)) (row_puts b s k (get_or rows k 0) (plans_of b s)).parts (w.rises rows) g);
  }

  pub ordered_end : {last k : ℕ} → count ≤ k → OrderedSoFar b s count last k → (rows : List ℕ) → Ordered (parts_of b s rows count)
  ordered_end {last} {k} h w rows = let e : k ≡ count = omega (arith, w.within) in record { last = last; rises = rw e at (w.rises rows) }

abbrev pub RowsSoFar : List ℕ → Planned → List ℕ → ℕ → Separators → Pen → List ℕ → Pen → List ℕ → ℕ → Type 0
RowsSoFar b s rows count sep pen d t d₁ k = (k ≤ count) × (length d₁ ≡ length d) × Fed sep (parts_from b s rows 0 k (plans_of b s)) pen d t d₁

module _ (b : List ℕ) (s : Planned) (rows : List ℕ) (count : ℕ) {sep : Separators} {pen : Pen} {d : List ℕ} where
  pub rows_start : RowsSoFar b s rows count sep pen d pen d 0
  rows_start = (omega arith, refl, rw (no_rows b s rows (plans_of b s)) done)

  pub rows_next : {t u : Pen} {d₁ d₂ : List ℕ} {k : ℕ} (r : ℕ) → k < count → r ≡ get_or rows k 0 → RowsSoFar b s rows count sep pen d t d₁ k
      → Fed sep (row_puts b s k r (plans_of b s)).parts t d₁ u d₂ → RowsSoFar b s rows count sep pen d u d₂ (k + 1)
  rows_next {k = k} r h e w f = (omega arith, fed_length f ∙ w.1, rw (rows_snoc b s rows (plans_of b s) k) (fed_append w.2 (rw e at f)))

  pub rows_end : {t : Pen} {d₁ : List ℕ} {k : ℕ} → count ≤ k → RowsSoFar b s rows count sep pen d t d₁ k → Fed sep (parts_of b s rows count) pen d t d₁
  rows_end {k = k} h w = let e : k ≡ count = omega (arith, w.0) in rw e at w.2

-- ---- parts that rise are sorted already

insert_first : (x : Part) (xs : List Part) (l : ℕ) → Rises x.element xs l → insert x xs ≡ x ∷ xs
unfolding insert
insert_first x [] l h = refl
insert_first x (y ∷ ys) l h = let n : x.element ≡ y.element → ⊥ = λ e. omega (arith, h.0) in rw (ne_eqb x.element y.element n, lt-ltb x.element y.element h.0) refl

sorted_rising : (q l : ℕ) (xs : List Part) → Rises q xs l → sorted xs ≡ xs
unfolding sorted
sorted_rising q l [] h = refl
sorted_rising q l (x ∷ xs) h = rw (sorted_rising x.element l xs h.2) (insert_first x xs l h.2)

-- ---- plain parts that rise come in the order of their places

one_place : (x : Part) → x.component ≡ None → component_of x ≡ 1
one_place x e = rw e

rises_behind : (q c l : ℕ) (xs : List Part) → Rises q xs l → Calls.Rises q c xs
rises_behind q c l [] h = tt
rises_behind q c l (x ∷ xs) h =
    let e = one_place x h.1 in
    ((omega (arith, h.0), omega (arith, e), λ y. absurd (let z : ⊥ = omega (arith, h.0, y) in z)), rises_behind x.element (component_of x + 1) l xs h.2)

rises_first : (l : ℕ) (xs : List Part) → Rises 0 xs l → Calls.Rises 1 1 xs
rises_first l [] h = tt
rises_first l (x ∷ xs) h =
    let e = one_place x h.1 in
    ((omega (arith, h.0), omega (arith, e), λ y. omega (arith, e)), rises_behind x.element (component_of x + 1) l xs h.2)

plain_fed : {s : Separators} {parts : List Part} {pen t : Pen} {d d₁ : List ℕ} (q l : ℕ) → Fed s parts pen d t d₁ → Rises q parts l → Calls.Fed s parts pen d t d₁
plain_fed q l done h = Calls.done
plain_fed {s} q l (part {x = x} {pen = pen} {r = r} {d = d} {d₁ = d₁} w f) h =
    let v : Penned (placed s pen x.element (component_of x) x.text) pen.at r d d₁ = rw (one_place x h.1) w in
    Calls.part v (plain_fed x.element l f h.2)

pub ordered_stored : {d d₁ d₂ d₃ : List ℕ} {at e : ℕ} {pen t : Pen} (sep : Separators) (b : List ℕ) (s : Planned) (parts : List Part) → Of b s → length d ≤ cap → Ordered parts
    → Penned (opened (stretch b s.id.start s.id.len)) at pen d d₁ → Fed sep parts pen d₁ t d₂ → Stored d₂ t.at (closing sep t t.elements) e d₃
    → Stored d at (joined sep (id_of b s) (sorted parts)) e d₃
ordered_stored sep b s parts o h p w f q =
    rw (sorted_rising 0 p.last parts p.rises) (fed_stored sep (id_of b s) parts h (rises_first p.last parts p.rises) (named b s o w) (plain_fed 0 p.last f p.rises) q)
