-- A row segment, group by group in the order of its parts: what is still to come, and what each group takes of it.
use Prim.Native.Nat.{ℕ, zero, suc, ◌+◌, ◌-◌, ◌≤◌, ◌<◌, max}
use mathlib.Core.Path.{◌≡◌, refl, sym, ap, ◌∙◌}
use mathlib.Core.List.{List, [], ◌∷◌, ◌++◌, append-nil}
use mathlib.Core.Bool.{Bool, true, false, true≢false}
use native.Mathlib.Omega.{arith}
use native.Mathlib.Nat.{add-sub_cancel}
use Rattle.std.specs.Prelude.{Option, None, Some}
use lib.ListN.{replicate}
use lib.Dec.{eqb, leb}
use borrow.Author.Tests.{eqb-true, eq-eqb, ne_eqb, lt-ltb, leb-true, leb-false, ltb-true}
use Rattle.segment.specs.declared.Separators.{Separators}
use Rattle.segment.specs.declared.Pen.{Pen}
use Rattle.segment.specs.Joining.{behind, component_bytes}
use Rattle.segment.specs.Parts.{Part, rank, pick, is_empty, or_one, is_plain, component_of, highest, last_element, last_component, here, after, all_plain, first_text, component_text, texts, element_text, elements_from, elements_of, joined}
use Rattle.segment.specs.Pen.{finished}
use Rattle.segment.specs.Values.{closing}
use Rattle.segment.specs.Calls.{stays}
use Rattle.segment.proofs.Pending.{to_come, come_open, come_past, come_close, come_skip}
use Rattle.segment.proofs.Groups.{group_rest, group_start, group_past, Among, among_start, after_finish}

-- a component's rank tells it
pub rank_same : (a b : Option ℕ) → rank a ≡ rank b → a ≡ b
rank_same None None e = refl
rank_same None (Some c) e = absurd (omega arith)
rank_same (Some c) None e = absurd (omega arith)
rank_same (Some c) (Some d) e = let z : c ≡ d = omega arith in ap {B = Option ℕ} Some z

-- ---- the highest number of a filled part

pub highest_head : (f : Part → ℕ) (x : Part) (xs : List Part) → is_empty x.text ≡ false → f x ≤ highest f (x ∷ xs)
unfolding highest
highest_head f x xs e = rw e (omega arith)

pub highest_tail : (f : Part → ℕ) (x : Part) (xs : List Part) → highest f xs ≤ highest f (x ∷ xs)
unfolding highest
highest_tail f x xs = omega arith

-- a part with the number 0 does not count, filled or not
pub not_counted : (t : Bool) (n : ℕ) → max (pick t 0 0) n ≡ n
not_counted true n = omega arith
not_counted false n = omega arith

-- ---- one element: plain or not, it is its components up to the last filled

pub empty_is : (l : List ℕ) → is_empty l ≡ true → l ≡ []
empty_is [] e = refl
empty_is (x ∷ xs) e = absurd (true≢false (sym e))

component_filled : (xs : List Part) (c : ℕ) → is_empty (component_text xs c) ≡ false → c ≤ last_component xs
unfolding component_text
component_filled [] c h = absurd (true≢false h)
component_filled (x ∷ xs) c h = go (eqb (component_of x) c) refl (component_filled xs c) h
  where
    go : (t : Bool) → eqb (component_of x) c ≡ t → (is_empty (component_text xs c) ≡ false → c ≤ last_component xs)
        → is_empty (pick t x.text (component_text xs c)) ≡ false → c ≤ last_component (x ∷ xs)
    go true e ih k = let q : component_of x ≡ c = eqb-true _ _ e in omega (arith, highest_head component_of x xs k)
    go false e ih k = omega (arith, ih k, highest_tail component_of x xs)

-- past the last filled component there is no text
pub component_past : (xs : List Part) (c : ℕ) → last_component xs < c → component_text xs c ≡ []
component_past xs c h = go (is_empty (component_text xs c)) refl
  where
    go : (t : Bool) → is_empty (component_text xs c) ≡ t → component_text xs c ≡ []
    go true e = empty_is (component_text xs c) e
    go false e = let z : ⊥ = omega (arith, component_filled xs c e) in absurd z

plain_first : (xs : List Part) → all_plain xs ≡ true → first_text xs ≡ component_text xs 1
unfolding all_plain first_text component_text
plain_first [] h = refl
plain_first (x ∷ xs) h = go x.component refl h
  where
    go : (o : Option ℕ) → x.component ≡ o → pick (is_plain o) (all_plain xs) false ≡ true → x.text ≡ pick (eqb (or_one x.component) 1) x.text (component_text xs 1)
    go None e k = rw e
    go (Some c) e k = absurd (true≢false (sym k))

plain_last : (xs : List Part) → all_plain xs ≡ true → last_component xs ≤ 1
unfolding all_plain highest
plain_last [] h = omega arith
plain_last (x ∷ xs) h = go x.component refl (plain_last xs) h
  where
    short : (t : Bool) (n : ℕ) → n ≤ 1 → max (pick t 0 1) n ≤ 1
    short true n k = omega arith
    short false n k = omega arith

    go : (o : Option ℕ) → x.component ≡ o → (all_plain xs ≡ true → last_component xs ≤ 1) → pick (is_plain o) (all_plain xs) false ≡ true
        → max (pick (is_empty x.text) 0 (or_one x.component)) (last_component xs) ≤ 1
    go None e ih k = rw e (short (is_empty x.text) (last_component xs) (ih k))
    go (Some c) e ih k = absurd (true≢false (sym k))

single : (s : Separators) (xs : List Part) (k : ℕ) → last_component xs ≡ k → k ≤ 1 → component_text xs 1 ≡ component_bytes s (texts (component_text xs) k 1)
unfolding component_bytes texts behind
single s xs zero e h = component_past xs 1 (omega arith)
single s xs (suc zero) e h = sym (append-nil (component_text xs 1))
single s xs (suc (suc n)) e h = let z : ⊥ = omega arith in absurd z

pub element_text_lem : (s : Separators) (xs : List Part) → element_text s xs ≡ component_bytes s (texts (component_text xs) (last_component xs) 1)
unfolding element_text
element_text_lem s xs = go (all_plain xs) refl
  where
    go : (t : Bool) → all_plain xs ≡ t
        → pick t (first_text xs) (component_bytes s (texts (component_text xs) (last_component xs) 1)) ≡ component_bytes s (texts (component_text xs) (last_component xs) 1)
    go true e = plain_first xs e ∙ single s xs (last_component xs) refl (plain_last xs e)
    go false e = refl

-- ---- which parts reach how far

pub some_filled : (f : Part → ℕ) (p : ℕ) (rest : List Part) → 0 < highest f (here p rest) → p ≤ last_element rest
unfolding here highest
some_filled f p [] h = omega arith
some_filled f p (x ∷ xs) h = go (eqb x.element p) refl (some_filled f p xs) h
  where
    head : (t : Bool) → is_empty x.text ≡ t → x.element ≡ p → (0 < highest f (here p xs) → p ≤ last_element xs)
        → 0 < max (pick t 0 (f x)) (highest f (here p xs)) → p ≤ last_element (x ∷ xs)
    head true e q ih k = omega (arith, ih (omega arith), highest_tail (λ y. y.element) x xs)
    head false e q ih k = omega (arith, highest_head (λ y. y.element) x xs e)

    go : (t : Bool) → eqb x.element p ≡ t → (0 < highest f (here p xs) → p ≤ last_element xs) → 0 < highest f (pick t (x ∷ here p xs) []) → p ≤ last_element (x ∷ xs)
    go true e ih k = head (is_empty x.text) refl (eqb-true _ _ e) ih k
    go false e ih k = let z : ⊥ = omega arith in absurd z

pub after_lower : (p : ℕ) (rest : List Part) → last_element (after p rest) ≤ last_element rest
unfolding after
after_lower p [] = omega arith
after_lower p (x ∷ xs) = go (eqb x.element p) (after_lower p xs)
  where
    go : (t : Bool) → last_element (after p xs) ≤ last_element xs → last_element (pick t (after p xs) (x ∷ xs)) ≤ last_element (x ∷ xs)
    go true ih = omega (arith, highest_tail (λ y. y.element) x xs)
    go false ih = omega arith

-- ---- the elements from p on

pub elements_some : (s : Separators) (last p : ℕ) (rest : List Part) → p ≤ last
    → elements_from s (last + 1 - p) p rest ≡ element_text s (here p rest) ∷ elements_from s (last + 1 - (p + 1)) (p + 1) (after p rest)
unfolding elements_from
elements_some s last p rest h =
    let e : last + 1 - p ≡ suc (last + 1 - (p + 1)) = omega arith in ap (λ (n : ℕ). elements_from s n p rest) e

pub elements_none : (s : Separators) (last p : ℕ) (rest : List Part) → last < p → elements_from s (last + 1 - p) p rest ≡ []
unfolding elements_from
elements_none s last p rest h = let e : last + 1 - p ≡ 0 = omega arith in ap (λ (n : ℕ). elements_from s n p rest) e

-- what is still to come of a row segment whose elements below p are done, of which w stand; `rest` are the parts not used up
abbrev pub row_rest : Separators → ℕ → ℕ → ℕ → List Part → List ℕ
row_rest s last w p rest = to_come s last w p (elements_from s (last + 1 - p) p rest)

-- the pen is on its way: it stands before p, and no filled part is past the last element
pub record Under (last : ℕ) (pen : Pen) (p : ℕ) (rest : List Part) : Type 0 where
  pub below : pen.elements < p
  pub within : pen.elements ≤ last
  pub covers : last_element rest ≤ last

-- after the identifier
pub row_open : (s : Separators) (id : List ℕ) (parts : List Part) → joined s id parts ≡ id ++ row_rest s (last_element parts) 0 1 parts
unfolding joined elements_of
row_open s id parts =
    come_open s id (last_element parts) (elements_from s (last_element parts) 1 parts)
    ∙ ap (λ (n : ℕ). id ++ to_come s (last_element parts) 0 1 (elements_from s n 1 parts)) (sym (add-sub_cancel (last_element parts) 1))

pub under_open : (pen : Pen) (parts : List Part) → pen.elements ≡ 0 → Under (last_element parts) pen 1 parts
under_open pen parts e = record { below = omega arith; within = omega arith; covers = omega arith }

-- the group at element p
abbrev pub group_row : Separators → ℕ → Pen → ℕ → ℕ → List Part → List ℕ
group_row s last pen p c rest =
    group_rest s last (last_component (here p rest)) (component_text (here p rest)) pen p c (elements_from s (last + 1 - (p + 1)) (p + 1) (after p rest))

reach : (last : ℕ) (pen : Pen) (p : ℕ) (rest : List Part) → Under last pen p rest → 0 < last_component (here p rest) → p ≤ last
reach last pen p rest u h = omega (arith, some_filled component_of p rest h, u.covers)

pub row_group : (s : Separators) (last : ℕ) (pen : Pen) (p : ℕ) (rest : List Part) → Under last pen p rest
    → row_rest s last pen.elements p rest ≡ group_row s last pen p 1 rest
row_group s last pen p rest u = go (leb p last) refl
  where
    none_there : (n : ℕ) → (0 < n → ⊥) → n ≡ 0
    none_there zero h = refl
    none_there (suc n) h = absurd (h (omega arith))

    go : (t : Bool) → leb p last ≡ t → row_rest s last pen.elements p rest ≡ group_row s last pen p 1 rest
    go true f =
        let k : p ≤ last = leb-true _ _ f in
        rw (elements_some s last p rest k, element_text_lem s (here p rest))
        (group_start s last (last_component (here p rest)) (component_text (here p rest)) pen p _ u.below k)
    go false f =
        let k : last < p = leb-false _ _ f in
        let k' : last < p + 1 = omega arith in
        let z : last_component (here p rest) ≡ 0 = none_there (last_component (here p rest)) (λ h. omega (arith, reach last pen p rest u h)) in
        rw (elements_none s last p rest k, elements_none s last (p + 1) (after p rest) k')
        (group_past s last (last_component (here p rest)) (component_text (here p rest)) pen p z k)

pub under_group : (last : ℕ) (pen : Pen) (p : ℕ) (rest : List Part) → Under last pen p rest → Among last (last_component (here p rest)) pen p 1
under_group last pen p rest u = among_start last (last_component (here p rest)) pen p u.below u.within (reach last pen p rest u)

pub under_next : (s : Separators) (last : ℕ) (pen pen₁ r : Pen) (p c : ℕ) (rest : List Part) → Under last pen p rest
    → Among last (last_component (here p rest)) pen₁ p c → r.elements ≡ (finished s pen₁ p (last_component (here p rest))).elements → Under last r (p + 1) (after p rest)
under_next s last pen pen₁ r p c rest u a e =
    let h : (r.elements < p + 1) × (r.elements ≤ last) = after_finish s last (last_component (here p rest)) pen₁ r p c a e in
    record { below = h.0; within = h.1; covers = omega (arith, after_lower p rest, u.covers) }

-- an element without parts
row_nothing : (s : Separators) (last w p : ℕ) (rest : List Part) → w < p → element_text s (here p rest) ≡ []
    → row_rest s last w p rest ≡ row_rest s last w (p + 1) (after p rest)
row_nothing s last w p rest h e = go (leb p last) refl
  where
    go : (t : Bool) → leb p last ≡ t → to_come s last w p (elements_from s (last + 1 - p) p rest) ≡ to_come s last w (p + 1) (elements_from s (last + 1 - (p + 1)) (p + 1) (after p rest))
    go true f = let k : p ≤ last = leb-true _ _ f in rw (elements_some s last p rest k, e) (come_skip s last w p _ h k)
    go false f = let k : last < p = leb-false _ _ f in
        let k' : last < p + 1 = omega arith in
        rw (elements_none s last p rest k, elements_none s last (p + 1) (after p rest) k') (come_past s last w p k)

-- ---- from group to group

pub here_same : (p : ℕ) (x : Part) (xs : List Part) → x.element ≡ p → here p (x ∷ xs) ≡ x ∷ here p xs
unfolding here
here_same p x xs h = rw (eq-eqb x.element p h)

pub after_same : (p : ℕ) (x : Part) (xs : List Part) → x.element ≡ p → after p (x ∷ xs) ≡ after p xs
unfolding after
after_same p x xs h = rw (eq-eqb x.element p h)

pub here_other : (p : ℕ) (x : Part) (xs : List Part) → (x.element ≡ p → ⊥) → here p (x ∷ xs) ≡ []
unfolding here
here_other p x xs h = rw (ne_eqb x.element p h)

pub after_other : (p : ℕ) (x : Part) (xs : List Part) → (x.element ≡ p → ⊥) → after p (x ∷ xs) ≡ x ∷ xs
unfolding after
after_other p x xs h = rw (ne_eqb x.element p h)

no_parts : (s : Separators) → element_text s [] ≡ []
unfolding element_text all_plain first_text
no_parts s = refl

-- positions before the next part's element are empty
pub row_jump : (s : Separators) (last w p : ℕ) (x : Part) (xs : List Part) → w < p → p ≤ x.element
    → row_rest s last w p (x ∷ xs) ≡ row_rest s last w x.element (x ∷ xs)
row_jump s last w p x xs h k = go (x.element - p) p h (omega arith)
  where
    go : (n q : ℕ) → w < q → q + n ≡ x.element → row_rest s last w q (x ∷ xs) ≡ row_rest s last w x.element (x ∷ xs)
    go zero q i e = let f : q ≡ x.element = omega arith in ap (λ (j : ℕ). row_rest s last w j (x ∷ xs)) f
    go (suc n) q i e =
        let d : x.element ≡ q → ⊥ = λ f. omega arith in
        row_nothing s last w q (x ∷ xs) i (ap (λ (l : List Part). element_text s l) (here_other q x xs d) ∙ no_parts s)
        ∙ ap (λ (l : List Part). row_rest s last w (q + 1) l) (after_other q x xs d)
        ∙ go n (q + 1) (omega arith) (omega arith)

pub under_jump : (last : ℕ) (pen : Pen) (p q : ℕ) (rest : List Part) → Under last pen p rest → p ≤ q → Under last pen q rest
under_jump last pen p q rest u h = record { below = omega (arith, u.below); within = u.within; covers = u.covers }

pub elements_empty : (s : Separators) (n p : ℕ) (rest : List Part) → stays p rest ≡ true → elements_from s n p rest ≡ replicate n []
unfolding elements_from stays here after
elements_empty s zero p rest h = refl
elements_empty s (suc n) p [] h = rw (no_parts s) (ap (λ (l : List (List ℕ)). [] ∷ l) (elements_empty s n (p + 1) [] refl))
elements_empty s (suc n) p (x ∷ xs) h =
    let q : x.element < p = ltb-true _ _ h in
    let d : x.element ≡ p → ⊥ = λ f. omega arith in
    rw (ne_eqb x.element p d, no_parts s)
    (ap (λ (l : List (List ℕ)). [] ∷ l) (elements_empty s n (p + 1) (x ∷ xs) (lt-ltb x.element (p + 1) (omega arith))))

pub row_close : (s : Separators) (last : ℕ) (pen : Pen) (p : ℕ) (rest : List Part) → Under last pen p rest → stays p rest ≡ true
    → row_rest s last pen.elements p rest ≡ closing s pen last
row_close s last pen p rest u h = rw (elements_empty s (last + 1 - p) p rest h) (come_close s pen last p u.below u.within)
