-- A repeat segment, position by position: its parts are sorted, so each element's texts can be found in the parts as they come.
use Prim.Native.Nat.{ℕ, zero, suc, ◌+◌, ◌-◌, ◌≤◌, ◌<◌, max}
use mathlib.Core.Path.{◌≡◌, refl, sym, ap, ◌∙◌}
use mathlib.Core.List.{List, [], ◌∷◌, ◌++◌}
use mathlib.Core.Bool.{Bool, true, false, true≢false}
use native.Mathlib.Omega.{arith}
use native.Mathlib.Nat.{add-sub_cancel}
use Rattle.std.specs.Prelude.{Option, None, Some}
use lib.ListN.{get_or, replicate}
use lib.Dec.{eqb, ltb, eqb-zero-suc, eqb-suc-zero, eqb-suc-suc}
use borrow.Author.Tests.{eqb-true, eqb-false, eq-eqb, ne_eqb, ltb-true, ltb-false, lt-ltb}
use Rattle.segment.specs.declared.Separators.{Separators}
use Rattle.segment.specs.declared.Pen.{Pen}
use Rattle.segment.specs.Joining.{component_bytes, segment_bytes}
use Rattle.segment.specs.Parts.{Part, pick, is_empty, or_one, component_of, rank, highest, last_element, last_component, here, after, component_text, texts, element_text, elements_from, elements_of, joined, insert, sorted, not_behind}
use Rattle.segment.specs.Values.{closing}
use Rattle.segment.specs.Calls.{stays, stands_at, first_at, or_text, repeat_text, component_in, last_component_at, zero_free}
use Rattle.segment.proofs.Pending.{to_come, come_open, come_close, come_skip}
use Rattle.segment.proofs.Groups.{texts_some, texts_none, texts_same, group_rest, group_start}
use Rattle.std.proofs.Math.Arith.{lt_of_le-ne}
use Rattle.segment.proofs.Rows.{not_counted, highest_head, element_text_lem, elements_empty}
use Rattle.segment.proofs.Sorting.{AllLow, InOrder, sorted_order, stands, sorted_first, sorted_highest, behind_true, behind_false}

-- ---- the texts of element p

unfoldable pub repeat_element : Separators → List Part → ℕ → List ℕ
repeat_element s parts p = component_bytes s (texts (repeat_text parts p) (last_component_at p parts) 1)

-- ---- past an element there is nothing of it

stands_not : (p r : ℕ) (x : Part) → (x.element ≡ p → ⊥) → stands_at p r x ≡ false
unfolding stands_at
stands_not p r x h = rw (ne_eqb x.element p h)

none_at : (p r : ℕ) (x : Part) (xs : List Part) → p < x.element → AllLow x xs → first_at p r xs ≡ None
unfolding first_at
none_at p r x [] h a = refl
none_at p r x (y ∷ ys) h a =
    rw (stands_not p r y (λ e. omega (arith, a.0.elements))) (none_at p r x ys h a.1)

none_high : (p : ℕ) (x : Part) (xs : List Part) → p < x.element → AllLow x xs → highest (component_in p) xs ≡ 0
unfolding highest
none_high p x [] h a = refl
none_high p x (y ∷ ys) h a =
    rw (ne_eqb y.element p (λ e. omega (arith, a.0.elements)), none_high p x ys h a.1) (not_counted (is_empty y.text) 0)

-- behind a part with components no plain part stands
none_plain : (x : Part) (xs : List Part) → 0 < rank x.component → AllLow x xs → first_at x.element 0 xs ≡ None
unfolding first_at
none_plain x [] h a = refl
none_plain x (y ∷ ys) h a = go (stands_at x.element 0 y) refl (none_plain x ys h a.1)
  where
    go : (t : Bool) → stands_at x.element 0 y ≡ t → first_at x.element 0 ys ≡ None → pick t (Some y.text) (first_at x.element 0 ys) ≡ None
    go true e ih =
        let b : (y.element ≡ x.element) × (rank y.component ≡ 0) = stands x.element 0 y e in
        let z : ⊥ = omega (arith, a.0.ranks (sym b.0), b.1) in absurd z
    go false e ih = ih

-- ---- in a list whose places never fall, the parts at p with which it begins are all parts at p

abbrev pub starts_from : ℕ → List Part → Type 0
starts_from p [] = Unit {0}
starts_from p (x ∷ xs) = p ≤ x.element

starts_tail : (p : ℕ) (x : Part) (xs : List Part) → p ≤ x.element → AllLow x xs → starts_from p xs
starts_tail p x [] h a = tt
starts_tail p x (y ∷ ys) h a = omega (arith, a.0.elements)

stands_here : (p r : ℕ) (x : Part) → x.element ≡ p → stands_at p r x ≡ eqb (rank x.component) r
unfolding stands_at
stands_here p r x e = rw (eq-eqb x.element p e)

same_component : (o : Option ℕ) (c : ℕ) → (c ≡ 1 → ⊥) → eqb (or_one o) c ≡ eqb (rank o) (suc c)
same_component None c h = ne_eqb 1 c (λ e. h (sym e)) ∙ sym (eqb-zero-suc c)
same_component (Some d) c h = sym (eqb-suc-suc d c)

here_component : (rest : List Part) (p c : ℕ) → (c ≡ 1 → ⊥) → InOrder rest → starts_from p rest
    → component_text (here p rest) c ≡ or_text (first_at p (suc c) rest) []
unfolding here component_text first_at
here_component [] p c h o q = refl
here_component (x ∷ xs) p c h o q = go (eqb x.element p) refl (here_component xs p c h o.1 (starts_tail p x xs q o.0))
  where
    choose : (t : Bool) → component_text (here p xs) c ≡ or_text (first_at p (suc c) xs) []
        → pick t x.text (component_text (here p xs) c) ≡ or_text (pick t (Some x.text) (first_at p (suc c) xs)) []
    choose true ih = refl
    choose false ih = ih

    go : (t : Bool) → eqb x.element p ≡ t → component_text (here p xs) c ≡ or_text (first_at p (suc c) xs) []
        → component_text (pick t (x ∷ here p xs) []) c ≡ or_text (pick (stands_at p (suc c) x) (Some x.text) (first_at p (suc c) xs)) []
    go true e ih = rw (stands_here p (suc c) x (eqb-true _ _ e), ← same_component x.component c h) (choose (eqb (or_one x.component) c) ih)
    go false e ih =
        let n : p < x.element = lt_of_le-ne q (λ f. eqb-false _ _ e (sym f)) in
        rw (stands_not p (suc c) x (eqb-false _ _ e), none_at p (suc c) x xs n o.0)

here_first : (rest : List Part) (p : ℕ) → InOrder rest → starts_from p rest
    → component_text (here p rest) 1 ≡ or_text (first_at p 0 rest) (or_text (first_at p 2 rest) [])
unfolding here component_text first_at
here_first [] p o q = refl
here_first (x ∷ xs) p o q = go (eqb x.element p) refl (here_first xs p o.1 (starts_tail p x xs q o.0))
  where
    plain_none : x.element ≡ p → 0 < rank x.component → first_at p 0 xs ≡ None
    plain_none e h = ap (λ (n : ℕ). first_at n 0 xs) (sym e) ∙ none_plain x xs h o.0

    one : (t : Bool) (d : ℕ) → eqb d 1 ≡ t → (d ≡ 1 → first_at p 0 xs ≡ None) → component_text (here p xs) 1 ≡ or_text (first_at p 0 xs) (or_text (first_at p 2 xs) [])
        → pick t x.text (component_text (here p xs) 1) ≡ or_text (first_at p 0 xs) (or_text (pick t (Some x.text) (first_at p 2 xs)) [])
    one true d e h ih = rw (h (eqb-true _ _ e))
    one false d e h ih = ih

    kinds : (c : Option ℕ) → x.component ≡ c → x.element ≡ p → component_text (here p xs) 1 ≡ or_text (first_at p 0 xs) (or_text (first_at p 2 xs) [])
        → pick (eqb (or_one c) 1) x.text (component_text (here p xs) 1)
        ≡ or_text (pick (eqb (rank c) 0) (Some x.text) (first_at p 0 xs)) (or_text (pick (eqb (rank c) 2) (Some x.text) (first_at p 2 xs)) [])
    kinds None f e ih = refl
    kinds (Some d) f e ih =
        rw (eqb-suc-zero d, eqb-suc-suc d 1) (one (eqb d 1) d refl (λ i. plain_none e (rw f (omega arith))) ih)

    go : (t : Bool) → eqb x.element p ≡ t → component_text (here p xs) 1 ≡ or_text (first_at p 0 xs) (or_text (first_at p 2 xs) [])
        → component_text (pick t (x ∷ here p xs) []) 1
        ≡ or_text (pick (stands_at p 0 x) (Some x.text) (first_at p 0 xs)) (or_text (pick (stands_at p 2 x) (Some x.text) (first_at p 2 xs)) [])
    go true e ih = rw (stands_here p 0 x (eqb-true _ _ e), stands_here p 2 x (eqb-true _ _ e)) (kinds x.component refl (eqb-true _ _ e) ih)
    go false e ih =
        let n : p < x.element = lt_of_le-ne q (λ f. eqb-false _ _ e (sym f)) in
        rw (stands_not p 0 x (eqb-false _ _ e), stands_not p 2 x (eqb-false _ _ e), none_at p 0 x xs n o.0, none_at p 2 x xs n o.0)

here_text : (rest : List Part) (p c : ℕ) → InOrder rest → starts_from p rest → component_text (here p rest) c ≡ repeat_text rest p c
unfolding repeat_text
here_text rest p c o q = go (eqb c 1) refl
  where
    go : (t : Bool) → eqb c 1 ≡ t → component_text (here p rest) c ≡ or_text (pick t (first_at p 0 rest) None) (or_text (first_at p (suc c) rest) [])
    go true e = let f : c ≡ 1 = eqb-true _ _ e in rw f (here_first rest p o q)
    go false e = here_component rest p c (eqb-false _ _ e) o q

here_last : (rest : List Part) (p : ℕ) → InOrder rest → starts_from p rest → last_component (here p rest) ≡ highest (component_in p) rest
unfolding here highest
here_last [] p o q = refl
here_last (x ∷ xs) p o q = go (eqb x.element p) refl (here_last xs p o.1 (starts_tail p x xs q o.0))
  where
    go : (t : Bool) → eqb x.element p ≡ t → last_component (here p xs) ≡ highest (component_in p) xs
        → last_component (pick t (x ∷ here p xs) []) ≡ max (pick (is_empty x.text) 0 (pick t (component_of x) 0)) (highest (component_in p) xs)
    go true e ih = ap (λ (n : ℕ). max (pick (is_empty x.text) 0 (component_of x)) n) ih
    go false e ih =
        let n : p < x.element = lt_of_le-ne q (λ f. eqb-false _ _ e (sym f)) in
        rw (none_high p x xs n o.0) (sym (not_counted (is_empty x.text) 0))

-- ---- what is used up at p is missed nowhere else

after_first : (rest : List Part) (p q r : ℕ) → (p ≡ q → ⊥) → first_at q r (after p rest) ≡ first_at q r rest
unfolding after first_at
after_first [] p q r h = refl
after_first (x ∷ xs) p q r h = go (eqb x.element p) refl (after_first xs p q r h)
  where
    go : (t : Bool) → eqb x.element p ≡ t → first_at q r (after p xs) ≡ first_at q r xs
        → first_at q r (pick t (after p xs) (x ∷ xs)) ≡ pick (stands_at q r x) (Some x.text) (first_at q r xs)
    go true e ih = rw (stands_not q r x (λ f. h (sym (eqb-true _ _ e) ∙ f))) ih
    go false e ih = refl

after_high : (rest : List Part) (p q : ℕ) → (p ≡ q → ⊥) → highest (component_in q) (after p rest) ≡ highest (component_in q) rest
unfolding after highest
after_high [] p q h = refl
after_high (x ∷ xs) p q h = go (eqb x.element p) refl (after_high xs p q h)
  where
    go : (t : Bool) → eqb x.element p ≡ t → highest (component_in q) (after p xs) ≡ highest (component_in q) xs
        → highest (component_in q) (pick t (after p xs) (x ∷ xs)) ≡ max (pick (is_empty x.text) 0 (component_in q x)) (highest (component_in q) xs)
    go true e ih = ih ∙ rw (ne_eqb x.element q (λ f. h (sym (eqb-true _ _ e) ∙ f))) (sym (not_counted (is_empty x.text) (highest (component_in q) xs)))
    go false e ih = refl

after_order : (p : ℕ) (rest : List Part) → InOrder rest → InOrder (after p rest)
unfolding after
after_order p [] o = tt
after_order p (x ∷ xs) o = go (eqb x.element p) (after_order p xs o.1)
  where
    go : (t : Bool) → InOrder (after p xs) → InOrder (pick t (after p xs) (x ∷ xs))
    go true ih = ih
    go false ih = o

after_starts : (p : ℕ) (rest : List Part) → InOrder rest → starts_from p rest → starts_from (p + 1) (after p rest)
unfolding after
after_starts p [] o q = tt
after_starts p (x ∷ xs) o q = go (eqb x.element p) refl (after_starts p xs o.1 (starts_tail p x xs q o.0))
  where
    go : (t : Bool) → eqb x.element p ≡ t → starts_from (p + 1) (after p xs) → starts_from (p + 1) (pick t (after p xs) (x ∷ xs))
    go true e ih = ih
    go false e ih = let n : p < x.element = lt_of_le-ne q (λ f. eqb-false _ _ e (sym f)) in omega arith

-- ---- the elements of a list whose places never fall

element_same : (s : Separators) (xs ys : List Part) (p : ℕ) → ((r : ℕ) → first_at p r xs ≡ first_at p r ys) → highest (component_in p) xs ≡ highest (component_in p) ys
    → repeat_element s xs p ≡ repeat_element s ys p
unfolding repeat_element repeat_text last_component_at
element_same s xs ys p h e = rw e (ap (λ (l : List (List ℕ)). component_bytes s l)
    (texts_same _ _ (highest (component_in p) ys) 1 (λ c _. rw (h 0, h (suc c)))))

here_element : (s : Separators) (rest : List Part) (p : ℕ) → InOrder rest → starts_from p rest → element_text s (here p rest) ≡ repeat_element s rest p
unfolding repeat_element last_component_at
here_element s rest p o q = element_text_lem s (here p rest)
    ∙ rw (here_last rest p o q) (ap (λ (l : List (List ℕ)). component_bytes s l)
    (texts_same (component_text (here p rest)) (repeat_text rest p) (highest (component_in p) rest) 1 (λ c _. here_text rest p c o q)))

elements_in_order : (s : Separators) (n p : ℕ) (rest : List Part) → InOrder rest → starts_from p rest → elements_from s n p rest ≡ texts (repeat_element s rest) n p
unfolding elements_from texts
elements_in_order s zero p rest o q = refl
elements_in_order s (suc n) p rest o q =
    rw (here_element s rest p o q, elements_in_order s n (p + 1) (after p rest) (after_order p rest o) (after_starts p rest o q))
    (ap (λ (l : List (List ℕ)). repeat_element s rest p ∷ l)
    (texts_same (repeat_element s (after p rest)) (repeat_element s rest) n (p + 1) (λ j i.
    let d : p ≡ j → ⊥ = λ e. omega arith in
    element_same s (after p rest) rest j (λ r. after_first rest p j r d) (after_high rest p j d))))

-- ---- a repeat segment

insert_starts : (x : Part) (ys : List Part) → 1 ≤ x.element → starts_from 1 ys → starts_from 1 (insert x ys)
unfolding insert
insert_starts x [] h q = h
insert_starts x (y ∷ ys) h q = go (not_behind x y)
  where
    go : (t : Bool) → starts_from 1 (pick t (x ∷ y ∷ ys) (y ∷ insert x ys))
    go true = h
    go false = q

sorted_starts : (parts : List Part) → zero_free parts ≡ true → starts_from 1 (sorted parts)
unfolding zero_free sorted
sorted_starts [] h = tt
sorted_starts (x ∷ xs) h = go (ltb 0 x.element) refl (sorted_starts xs) h
  where
    go : (t : Bool) → ltb 0 x.element ≡ t → (zero_free xs ≡ true → starts_from 1 (sorted xs)) → pick t (zero_free xs) false ≡ true → starts_from 1 (insert x (sorted xs))
    go true e ih k = insert_starts x (sorted xs) (ltb-true _ _ e) (ih k)
    go false e ih k = absurd (true≢false (sym k))

-- a list that begins at element 0
abbrev Zero : List Part → Type 0
Zero [] = ⊥
Zero (x ∷ xs) = x.element ≡ 0

insert_zero : (x : Part) (ys : List Part) → x.element ≡ 0 → Zero (insert x ys)
unfolding insert
insert_zero x [] h = h
insert_zero x (y ∷ ys) h = go (not_behind x y) refl
  where
    go : (t : Bool) → not_behind x y ≡ t → Zero (pick t (x ∷ y ∷ ys) (y ∷ insert x ys))
    go true e = h
    go false e = omega (arith, (behind_false x y e).0.elements)

insert_keeps : (x : Part) (ys : List Part) → Zero ys → Zero (insert x ys)
unfolding insert
insert_keeps x [] z = absurd z
insert_keeps x (y ∷ ys) z = go (not_behind x y) refl
  where
    go : (t : Bool) → not_behind x y ≡ t → Zero (pick t (x ∷ y ∷ ys) (y ∷ insert x ys))
    go true e = omega (arith, (behind_true x y e).elements)
    go false e = z

sorted_zero : (parts : List Part) → zero_free parts ≡ false → Zero (sorted parts)
unfolding zero_free sorted
sorted_zero [] h = absurd (true≢false h)
sorted_zero (x ∷ xs) h = go (ltb 0 x.element) refl (sorted_zero xs) h
  where
    go : (t : Bool) → ltb 0 x.element ≡ t → (zero_free xs ≡ false → Zero (sorted xs)) → pick t (zero_free xs) false ≡ false → Zero (insert x (sorted xs))
    go true e ih k = insert_keeps x (sorted xs) (ih k)
    go false e ih k = let q : x.element ≤ 0 = ltb-false _ _ e in insert_zero x (sorted xs) (omega arith)

zero_stays : (xs : List Part) → Zero xs → stays 1 xs ≡ true
unfolding stays
zero_stays [] z = absurd z
zero_stays (x ∷ xs) z = lt-ltb x.element 1 (omega arith)

-- what is still to come of a repeat segment whose elements below p are done, of which w stand
abbrev pub repeat_rest : Separators → ℕ → ℕ → ℕ → List Part → List ℕ
repeat_rest s last w p parts = to_come s last w p (texts (repeat_element s parts) (last + 1 - p) p)

-- after the identifier
pub repeat_open : (s : Separators) (id : List ℕ) (parts : List Part) → zero_free parts ≡ true
    → joined s id (sorted parts) ≡ id ++ repeat_rest s (last_element parts) 0 1 parts
unfolding joined elements_of
repeat_open s id parts h =
    let n : ℕ = last_element parts in
    ap (λ (m : ℕ). segment_bytes s id (elements_from s m 1 (sorted parts))) (sorted_highest (λ x. x.element) parts)
    ∙ ap (λ (l : List (List ℕ)). segment_bytes s id l)
    (elements_in_order s n 1 (sorted parts) (sorted_order parts) (sorted_starts parts h)
    ∙ texts_same (repeat_element s (sorted parts)) (repeat_element s parts) n 1 (λ q _.
    element_same s (sorted parts) parts q (λ r. sorted_first q r parts) (sorted_highest (component_in q) parts)))
    ∙ come_open s id n (texts (repeat_element s parts) n 1)
    ∙ ap (λ (m : ℕ). id ++ to_come s n 0 1 (texts (repeat_element s parts) m 1)) (sym (add-sub_cancel n 1))

-- a part at element 0 stands in front of all others, and nothing but separators is written
pub repeat_stuck : (s : Separators) (id : List ℕ) (pen : Pen) (parts : List Part) → zero_free parts ≡ false → pen.elements ≡ 0
    → joined s id (sorted parts) ≡ id ++ closing s pen (last_element parts)
unfolding joined elements_of
repeat_stuck s id pen parts h e =
    let n : ℕ = last_element parts in
    ap (λ (m : ℕ). segment_bytes s id (elements_from s m 1 (sorted parts))) (sorted_highest (λ x. x.element) parts)
    ∙ ap (λ (l : List (List ℕ)). segment_bytes s id l) (elements_empty s n 1 (sorted parts) (zero_stays (sorted parts) (sorted_zero parts h)))
    ∙ come_open s id n (replicate n [])
    ∙ ap (λ (m : ℕ). id ++ to_come s n 0 1 (replicate m [])) (sym (add-sub_cancel n 1))
    ∙ ap (λ (l : List ℕ). id ++ l) (ap (λ (w : ℕ). to_come s n w 1 (replicate (n + 1 - 1) [])) (sym e) ∙ come_close s pen n 1 (omega arith) (omega arith))

-- the element at position p
abbrev pub group_repeat : Separators → ℕ → Pen → ℕ → ℕ → List Part → List ℕ
group_repeat s last pen p c parts =
    group_rest s last (last_component_at p parts) (repeat_text parts p) pen p c (texts (repeat_element s parts) (last + 1 - (p + 1)) (p + 1))

pub repeat_group : (s : Separators) (last : ℕ) (pen : Pen) (p : ℕ) (parts : List Part) → pen.elements < p → p ≤ last
    → repeat_rest s last pen.elements p parts ≡ group_repeat s last pen p 1 parts
unfolding repeat_element
repeat_group s last pen p parts h k =
    ap (λ (l : List (List ℕ)). to_come s last pen.elements p l) (texts_some (repeat_element s parts) last p k)
    ∙ group_start s last (last_component_at p parts) (repeat_text parts p) pen p (texts (repeat_element s parts) (last + 1 - (p + 1)) (p + 1)) h k

hollow : (s : Separators) (parts : List Part) (p : ℕ) → last_component_at p parts ≡ 0 → repeat_element s parts p ≡ []
unfolding repeat_element texts component_bytes
hollow s parts p e = rw e

-- an element without a filled part
pub repeat_skip : (s : Separators) (last w p : ℕ) (parts : List Part) → w < p → p ≤ last → last_component_at p parts ≡ 0
    → repeat_rest s last w p parts ≡ repeat_rest s last w (p + 1) parts
repeat_skip s last w p parts h k e =
    ap (λ (l : List (List ℕ)). to_come s last w p l) (texts_some (repeat_element s parts) last p k)
    ∙ ap (λ (l : List ℕ). to_come s last w p (l ∷ texts (repeat_element s parts) (last + 1 - (p + 1)) (p + 1))) (hollow s parts p e)
    ∙ come_skip s last w p (texts (repeat_element s parts) (last + 1 - (p + 1)) (p + 1)) h k

pub repeat_close : (s : Separators) (last : ℕ) (pen : Pen) (p : ℕ) (parts : List Part) → pen.elements < p → pen.elements ≤ last → last < p
    → repeat_rest s last pen.elements p parts ≡ closing s pen last
repeat_close s last pen p parts h k j =
    ap (λ (l : List (List ℕ)). to_come s last pen.elements p l) (texts_none (repeat_element s parts) last p j ∙ none_left (last + 1 - p) (omega arith))
    ∙ come_close s pen last p h k
  where
    none_left : (n : ℕ) → n ≡ 0 → ◌≡◌ {A = List (List ℕ)} [] (replicate n [])
    none_left zero e = refl
    none_left (suc n) e = let z : ⊥ = omega arith in absurd z

-- ---- what stands at each place, where places never fall

pub texts_at : (f : ℕ → List ℕ) (n c i : ℕ) → i < n → get_or (texts f n c) i [] ≡ f (c + i)
unfolding texts
texts_at f zero c i h = let z : ⊥ = omega arith in absurd z
texts_at f (suc n) c zero h = let e : c ≡ c + 0 = omega arith in ap f e
texts_at f (suc n) c (suc i) h = let e : c + 1 + i ≡ c + suc i = omega arith in texts_at f n (c + 1) i (omega arith) ∙ ap f e

texts_past : (f : ℕ → List ℕ) (n c i : ℕ) → n ≤ i → get_or (texts f n c) i [] ≡ []
unfolding texts
texts_past f zero c i h = refl
texts_past f (suc n) c zero h = let z : ⊥ = omega arith in absurd z
texts_past f (suc n) c (suc i) h = texts_past f n (c + 1) i (omega arith)

none_past : (q : ℕ) (parts : List Part) → last_element parts < q → highest (component_in q) parts ≡ 0
unfolding highest
none_past q [] h = refl
none_past q (x ∷ xs) h = go (is_empty x.text) (eqb x.element q) refl refl (none_past q xs (omega arith))
  where
    go : (t u : Bool) → is_empty x.text ≡ t → eqb x.element q ≡ u → highest (component_in q) xs ≡ 0 → max (pick t 0 (pick u (component_of x) 0)) (highest (component_in q) xs) ≡ 0
    go true u e f ih = rw ih (omega arith)
    go false true e f ih = let a : x.element ≡ q = eqb-true _ _ f in let z : ⊥ = omega (arith, highest_head (λ y. y.element) x xs e) in absurd z
    go false false e f ih = rw ih (omega arith)

-- an element reads as the text planned at its place; past the end it is empty
pub element_at : (s : Separators) (parts : List Part) (i : ℕ) → InOrder parts → starts_from 1 parts → get_or (elements_of s parts) i [] ≡ repeat_element s parts (1 + i)
unfolding elements_of last_component_at
element_at s parts i o q = ap (λ (l : List (List ℕ)). get_or l i []) (elements_in_order s (last_element parts) 1 parts o q) ∙ go (ltb i (last_element parts)) refl
  where
    go : (t : Bool) → ltb i (last_element parts) ≡ t → get_or (texts (repeat_element s parts) (last_element parts) 1) i [] ≡ repeat_element s parts (1 + i)
    go true e = texts_at (repeat_element s parts) (last_element parts) 1 i (ltb-true _ _ e)
    go false e =
        let h : last_element parts ≤ i = ltb-false _ _ e in
        texts_past (repeat_element s parts) (last_element parts) 1 i h ∙ sym (hollow s parts (1 + i) (none_past (1 + i) parts (omega arith)))
