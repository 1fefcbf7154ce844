-- One element's components, written one after the other: what is still to come of the segment, and what each stroke takes of it.
-- The walk feeds component 1 up to the last filled one, k, of element p, then finishes the element. A plain text is component 1.
use Prim.Native.Nat.{ℕ, zero, suc, ◌+◌, ◌-◌, ◌≤◌, ◌<◌}
use mathlib.Core.Path.{◌≡◌, refl, sym, ap, ◌∙◌}
use mathlib.Core.List.{List, [], ◌∷◌, ◌++◌, append_assoc, append-nil}
use mathlib.Core.Bool.{Bool, true, false}
use native.Mathlib.Omega.{arith}
use lib.Dec.{ltb, leb}
use borrow.Author.Tests.{lt-ltb, le-leb, lt-leb, ltb-true, ltb-false}
use Rattle.segment.specs.declared.Separators.{Separators}
use Rattle.segment.specs.declared.Pen.{Pen}
use Rattle.segment.specs.Joining.{behind, component_bytes}
use Rattle.segment.specs.Parts.{pick, texts}
use Rattle.segment.specs.Pen.{placed, finished}
use Rattle.segment.proofs.Strokes.{finished_some, finished_none}
use Rattle.segment.proofs.Pending.{to_come, come_element, come_past, come_composite, come_skip, inside, inside_step, inside_finish, Room, room_first, room_next}

pub texts_some : (f : ℕ → List ℕ) (k c : ℕ) → c ≤ k → texts f (k + 1 - c) c ≡ f c ∷ texts f (k + 1 - (c + 1)) (c + 1)
unfolding texts
texts_some f k c h = let e : k + 1 - c ≡ suc (k + 1 - (c + 1)) = omega arith in ap (λ (n : ℕ). texts f n c) e

pub texts_none : (f : ℕ → List ℕ) (k c : ℕ) → k < c → texts f (k + 1 - c) c ≡ []
unfolding texts
texts_none f k c h = let e : k + 1 - c ≡ 0 = omega arith in ap (λ (n : ℕ). texts f n c) e

pub texts_same : (f g : ℕ → List ℕ) (n p : ℕ) → ((q : ℕ) → p ≤ q → f q ≡ g q) → texts f n p ≡ texts g n p
unfolding texts
texts_same f g zero p h = refl
texts_same f g (suc n) p h = rw (h p (omega arith)) (ap (λ (l : List (List ℕ)). g p ∷ l) (texts_same f g n (p + 1) (λ q i. h q (omega arith))))

-- element p from component c on, of which f gives the texts up to the k-th, then the elements behind it
unfoldable pub group_rest : Separators → ℕ → ℕ → (ℕ → List ℕ) → Pen → ℕ → ℕ → List (List ℕ) → List ℕ
group_rest s last k f pen p c elements =
    pick (ltb 1 k)
    (inside s k pen p c (texts f (k + 1 - c) c) ++ to_come s last p (p + 1) elements)
    (pick (leb c k) (to_come s last pen.elements p (f c ∷ elements)) (to_come s last pen.elements (p + 1) elements))

-- the pen is on its way in element p: components below c are done
pub record Among (last k : ℕ) (pen : Pen) (p c : ℕ) : Type 0 where
  pub fresh : c ≤ 1 → pen.elements < p
  pub upto : pen.elements ≤ p
  pub room : Room pen p c
  pub within : pen.elements ≤ last
  pub reaches : 0 < k → p ≤ last

pub among_start : (last k : ℕ) (pen : Pen) (p : ℕ) → pen.elements < p → pen.elements ≤ last → (0 < k → p ≤ last) → Among last k pen p 1
among_start last k pen p h i j = record { fresh = λ _. h; upto = omega arith; room = room_first pen p h; within = i; reaches = j }

-- the element begins
pub group_start : (s : Separators) (last k : ℕ) (f : ℕ → List ℕ) (pen : Pen) (p : ℕ) (elements : List (List ℕ)) → pen.elements < p → p ≤ last
    → to_come s last pen.elements p (component_bytes s (texts f k 1) ∷ elements) ≡ group_rest s last k f pen p 1 elements
unfolding group_rest texts component_bytes behind
group_start s last zero f pen p elements h i = come_skip s last pen.elements p elements h i
group_start s last (suc zero) f pen p elements h i = ap (λ (l : List ℕ). to_come s last pen.elements p (l ∷ elements)) (append-nil (f 1))
group_start s last (suc (suc n)) f pen p elements h i =
    rw (lt-ltb 1 (suc (suc n)) (omega arith))
    (come_composite s pen last (suc (suc n)) p (texts f (suc (suc n)) 1) elements h i
    ∙ ap (λ (m : ℕ). inside s (suc (suc n)) pen p 1 (texts f m 1) ++ to_come s last p (p + 1) elements) e)
  where
    e : suc (suc n) ≡ suc (suc n) + 1 - 1
    e = omega arith

-- past the last filled element the texts are empty
pub group_past : (s : Separators) (last k : ℕ) (f : ℕ → List ℕ) (pen : Pen) (p : ℕ) → k ≡ 0 → last < p
    → to_come s last pen.elements p [] ≡ group_rest s last k f pen p 1 []
unfolding group_rest
group_past s last k f pen p e h = rw e (come_past s last pen.elements p h)

-- one component
pub group_next : (s : Separators) (last k : ℕ) (f : ℕ → List ℕ) (pen r : Pen) (p c : ℕ) (elements : List (List ℕ)) → Among last k pen p c → c ≤ k
    → r.elements ≡ (placed s pen p c (f c)).elements → r.components ≡ (placed s pen p c (f c)).components
    → group_rest s last k f pen p c elements ≡ (placed s pen p c (f c)).bytes ++ group_rest s last k f r p (c + 1) elements
unfolding group_rest
group_next s last k f pen r p c elements a h e g = go (ltb 1 k) refl
  where
    one : (n : ℕ) → c ≡ n → n ≡ 1 → to_come s last pen.elements p (f c ∷ elements) ≡ (placed s pen p c (f c)).bytes ++ to_come s last r.elements (p + 1) elements
    one n i j =
        let q : c ≡ 1 = i ∙ j in
        let w : r.elements ≡ (placed s pen p 1 (f c)).elements = e ∙ ap (λ (m : ℕ). (placed s pen p m (f c)).elements) q in
        come_element s pen r last p (f c) elements (a.fresh (omega arith)) (a.reaches (omega (arith, a.room.0))) w
        ∙ ap (λ (m : ℕ). (placed s pen p m (f c)).bytes ++ to_come s last r.elements (p + 1) elements) (sym q)

    go : (t : Bool) → ltb 1 k ≡ t
        → pick t (inside s k pen p c (texts f (k + 1 - c) c) ++ to_come s last p (p + 1) elements)
        (pick (leb c k) (to_come s last pen.elements p (f c ∷ elements)) (to_come s last pen.elements (p + 1) elements))
        ≡ (placed s pen p c (f c)).bytes ++ pick t (inside s k r p (c + 1) (texts f (k + 1 - (c + 1)) (c + 1)) ++ to_come s last p (p + 1) elements)
        (pick (leb (c + 1) k) (to_come s last r.elements p (f (c + 1) ∷ elements)) (to_come s last r.elements (p + 1) elements))
    go true i =
        ap (λ (l : List (List ℕ)). inside s k pen p c l ++ to_come s last p (p + 1) elements) (texts_some f k c h)
        ∙ ap (λ (l : List ℕ). l ++ to_come s last p (p + 1) elements) (inside_step s k pen r p c (f c) (texts f (k + 1 - (c + 1)) (c + 1)) a.room h e g)
        ∙ append_assoc (placed s pen p c (f c)).bytes (inside s k r p (c + 1) (texts f (k + 1 - (c + 1)) (c + 1))) (to_come s last p (p + 1) elements)
    go false i =
        let j : k ≤ 1 = ltb-false _ _ i in
        rw (le-leb c k h, lt-leb (c + 1) k (omega (arith, a.room.0))) (one c refl (omega (arith, a.room.0)))

placed_upto : (s : Separators) (pen : Pen) (p c : ℕ) (text : List ℕ) (n : ℕ) → pen.elements ≤ n → p ≤ n → (placed s pen p c text).elements ≤ n
unfolding placed
placed_upto s pen p c [] n h i = h
placed_upto s pen p c (x ∷ xs) n h i = i

pub among_next : (s : Separators) (last k : ℕ) (pen r : Pen) (p c : ℕ) (text : List ℕ) → Among last k pen p c → c ≤ k
    → r.elements ≡ (placed s pen p c text).elements → r.components ≡ (placed s pen p c text).components → Among last k r p (c + 1)
among_next s last k pen r p c text a h e g = record {
  fresh = λ i. absurd (no i);
  upto = rw e (placed_upto s pen p c text p a.upto (omega arith));
  room = room_next s pen r p c text a.room e g;
  within = rw e (placed_upto s pen p c text last a.within (a.reaches (omega (arith, a.room.0))));
  reaches = a.reaches;
}
  where
    no : c + 1 ≤ 1 → ⊥
    no i = omega (arith, a.room.0)

-- the end of the element
pub group_finish : (s : Separators) (last k : ℕ) (f : ℕ → List ℕ) (pen r : Pen) (p c : ℕ) (elements : List (List ℕ)) → Among last k pen p c → c ≡ k + 1
    → r.elements ≡ (finished s pen p k).elements
    → group_rest s last k f pen p c elements ≡ (finished s pen p k).bytes ++ to_come s last r.elements (p + 1) elements
unfolding group_rest
group_finish s last k f pen r p c elements a q e = rw q (go (ltb 1 k) refl)
  where
    go : (t : Bool) → ltb 1 k ≡ t
        → pick t (inside s k pen p (k + 1) (texts f (k + 1 - (k + 1)) (k + 1)) ++ to_come s last p (p + 1) elements)
        (pick (leb (k + 1) k) (to_come s last pen.elements p (f (k + 1) ∷ elements)) (to_come s last pen.elements (p + 1) elements))
        ≡ (finished s pen p k).bytes ++ to_come s last r.elements (p + 1) elements
    go true i =
        let j : 2 ≤ k = ltb-true _ _ i in
        let w : r.elements ≡ p = e ∙ ap (λ x. x.elements) (finished_some s pen p k j) in
        rw (w, texts_none f k (k + 1) (omega arith), inside_finish s k pen p j)
    go false i =
        let j : k < 2 = omega (arith, ltb-false 1 k i) in
        let w : r.elements ≡ pen.elements = e ∙ ap (λ x. x.elements) (finished_none s pen p k j) in
        rw (w, lt-leb (k + 1) k (omega arith), finished_none s pen p k j)

-- the pen after it stands before the next element, and not past the last
pub after_finish : (s : Separators) (last k : ℕ) (pen r : Pen) (p c : ℕ) → Among last k pen p c → r.elements ≡ (finished s pen p k).elements
    → (r.elements < p + 1) × (r.elements ≤ last)
after_finish s last k pen r p c a e = go (ltb 1 k) refl
  where
    go : (t : Bool) → ltb 1 k ≡ t → (r.elements < p + 1) × (r.elements ≤ last)
    go true i =
        let j : 2 ≤ k = ltb-true _ _ i in
        let w : r.elements ≡ p = e ∙ ap (λ x. x.elements) (finished_some s pen p k j) in
        (omega arith, omega (arith, a.reaches (omega arith)))
    go false i =
        let j : k < 2 = omega (arith, ltb-false 1 k i) in
        let w : r.elements ≡ pen.elements = e ∙ ap (λ x. x.elements) (finished_none s pen p k j) in
        (omega (arith, a.upto), omega (arith, a.within))
