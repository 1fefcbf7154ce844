-- Pending separators: what is still to come of a segment whose places below p are done, and how each stroke of the pen takes its part of it.
use Prim.Native.Nat.{ℕ, zero, suc, ◌+◌, ◌-◌, ◌≤◌, ◌<◌, min}
use mathlib.Core.Path.{◌≡◌, refl, sym, ap, ◌∙◌}
use mathlib.Core.List.{List, [], ◌∷◌, ◌++◌, append-nil, append_assoc}
use native.Mathlib.Omega.{arith}
use native.Mathlib.Numerals.{add-one}
use native.Mathlib.Nat.{sub_self}
use lib.ListN.{replicate, replicate-append-replicate}
use Rattle.segment.specs.declared.Separators.{Separators}
use Rattle.segment.specs.declared.Pen.{Pen}
use Rattle.segment.specs.Joining.{behind, component_bytes, line_feed, segment_bytes}
use Rattle.segment.specs.Pen.{components_in, due, placed, finished, ending}
use Rattle.segment.specs.Values.{closing}
use Rattle.segment.proofs.Strokes.{anew, still, finished_some}

-- ---- separators and texts behind them

-- texts from place p on, where w separators stand and all places below p are done: first the separators of the places done,
-- up to the last that counts, then each text behind its own
unfoldable pub pending : ℕ → ℕ → ℕ → ℕ → List (List ℕ) → List ℕ
pending b last w p texts = replicate (min (p - 1) last - w) b ++ behind b texts

pub replicate_snoc : (n b : ℕ) (l : List ℕ) → replicate n b ++ (b ∷ l) ≡ replicate (suc n) b ++ l
replicate_snoc zero b l = refl
replicate_snoc (suc n) b l = ap (λ (r : List ℕ). b ∷ r) (replicate_snoc n b l)

-- the separators of the places done, with one more
one_more : (last w p : ℕ) → w < p → p ≤ last → suc (min (p - 1) last - w) ≡ p - w
one_more last w p h k = omega arith

done_up_to : (last p : ℕ) → p ≤ last → min (p + 1 - 1) last ≡ p
done_up_to last p k = omega arith

none_left : (last p : ℕ) → p ≤ last → min (p + 1 - 1) last - p ≡ 0
none_left last p k = rw (done_up_to last p k) (sub_self p)

-- a text is written with the separators in front of it
pub pending_write : (b last w p : ℕ) (text : List ℕ) (texts : List (List ℕ)) → w < p → p ≤ last
    → pending b last w p (text ∷ texts) ≡ (replicate (p - w) b ++ text) ++ pending b last p (p + 1) texts
unfolding pending behind
pending_write b last w p text texts h k =
    replicate_snoc (min (p - 1) last - w) b (text ++ behind b texts)
    ∙ ap (λ (n : ℕ). replicate n b ++ (text ++ behind b texts)) (one_more last w p h k)
    ∙ sym (append_assoc (replicate (p - w) b) text (behind b texts))
    ∙ ap (λ (n : ℕ). (replicate (p - w) b ++ text) ++ (replicate n b ++ behind b texts)) (sym (none_left last p k))

-- an empty one leaves its separator pending
pub pending_skip : (b last w p : ℕ) (texts : List (List ℕ)) → w < p → p ≤ last
    → pending b last w p ([] ∷ texts) ≡ pending b last w (p + 1) texts
unfolding pending behind
pending_skip b last w p texts h k =
    replicate_snoc (min (p - 1) last - w) b (behind b texts)
    ∙ ap (λ (n : ℕ). replicate n b ++ behind b texts) (one_more last w p h k ∙ ap (λ (n : ℕ). n - w) (sym (done_up_to last p k)))

-- past the last place nothing is added
pub pending_past : (b last w p : ℕ) → last < p → pending b last w p [] ≡ pending b last w (p + 1) []
unfolding pending
pending_past b last w p h = let e : min (p - 1) last ≡ min (p + 1 - 1) last = omega arith in rw e

-- where all that comes is empty, separators stand up to the last place
pub behind_empty : (b n : ℕ) → behind b (replicate n []) ≡ replicate n b
unfolding behind
behind_empty b zero = refl
behind_empty b (suc n) = ap (λ (r : List ℕ). b ∷ r) (behind_empty b n)

all_places : (last w p : ℕ) → w < p → w ≤ last → min (p - 1) last - w + (last + 1 - p) ≡ last - w
all_places last w p h k = omega arith

none_before : (last : ℕ) → 0 ≡ min (1 - 1) last - 0
none_before last = omega arith

pub pending_close : (b last w p : ℕ) → w < p → w ≤ last → pending b last w p (replicate (last + 1 - p) []) ≡ replicate (last - w) b
unfolding pending
pending_close b last w p h k =
    ap (λ (l : List ℕ). replicate (min (p - 1) last - w) b ++ l) (behind_empty b (last + 1 - p))
    ∙ replicate-append-replicate (min (p - 1) last - w) (last + 1 - p) b
    ∙ ap (λ (n : ℕ). replicate n b) (all_places last w p h k)

-- ---- elements

-- what is still to come of a segment whose elements below p are done, of which w stand
unfoldable pub to_come : Separators → ℕ → ℕ → ℕ → List (List ℕ) → List ℕ
to_come s last w p elements = pending s.element last w p elements ++ ending s

-- after the identifier all is to come
pub come_open : (s : Separators) (id : List ℕ) (last : ℕ) (elements : List (List ℕ)) → segment_bytes s id elements ≡ id ++ to_come s last 0 1 elements
unfolding segment_bytes to_come pending ending
come_open s id last elements = append_assoc id (behind s.element elements) (s.segment ∷ line_feed s.line_break)
    ∙ ap (λ (n : ℕ). id ++ ((replicate n s.element ++ behind s.element elements) ++ (s.segment ∷ line_feed s.line_break))) (none_before last)

-- a plain text
pub come_element : (s : Separators) (pen r : Pen) (last p : ℕ) (text : List ℕ) (elements : List (List ℕ)) → pen.elements < p → p ≤ last
    → r.elements ≡ (placed s pen p 1 text).elements
    → to_come s last pen.elements p (text ∷ elements) ≡ (placed s pen p 1 text).bytes ++ to_come s last r.elements (p + 1) elements
unfolding to_come placed due
come_element s pen r last p [] elements h k e = rw e (ap (λ (l : List ℕ). l ++ ending s) (pending_skip s.element last pen.elements p elements h k))
come_element s pen r last p (x ∷ xs) elements h k e = rw (e, anew pen p h)
    (ap (λ (l : List ℕ). l ++ ending s) (pending_write s.element last pen.elements p (x ∷ xs) elements h k)
    ∙ append_assoc (replicate (p - pen.elements) s.element ++ (x ∷ xs)) (pending s.element last p (p + 1) elements) (ending s)
    ∙ ap (λ (l : List ℕ). (l ++ (x ∷ xs)) ++ (pending s.element last p (p + 1) elements ++ ending s)) (sym (append-nil (replicate (p - pen.elements) s.element))))

-- an empty element
pub come_skip : (s : Separators) (last w p : ℕ) (elements : List (List ℕ)) → w < p → p ≤ last
    → to_come s last w p ([] ∷ elements) ≡ to_come s last w (p + 1) elements
unfolding to_come
come_skip s last w p elements h k = ap (λ (l : List ℕ). l ++ ending s) (pending_skip s.element last w p elements h k)

-- past the last filled element
pub come_past : (s : Separators) (last w p : ℕ) → last < p → to_come s last w p [] ≡ to_come s last w (p + 1) []
unfolding to_come
come_past s last w p h = ap (λ (l : List ℕ). l ++ ending s) (pending_past s.element last w p h)

pub come_close : (s : Separators) (pen : Pen) (last p : ℕ) → pen.elements < p → pen.elements ≤ last
    → to_come s last pen.elements p (replicate (last + 1 - p) []) ≡ closing s pen last
unfolding to_come closing
come_close s pen last p h k = ap (λ (l : List ℕ). l ++ ending s) (pending_close s.element last pen.elements p h k)

-- ---- components

-- what is still to come of components from number c on, where d separators stand: the first has no separator
unfoldable pub components : Separators → ℕ → ℕ → ℕ → List (List ℕ) → List ℕ
components s k d zero texts = []
components s k d (suc zero) texts = component_bytes s texts
components s k d (suc (suc c)) texts = pending s.component (k - 1) d (suc c) texts

components_skip : (s : Separators) (k d c : ℕ) (texts : List (List ℕ)) → 0 < c → d ≤ c - 2 → c ≤ k
    → components s k d c ([] ∷ texts) ≡ components s k d (c + 1) texts
unfolding components component_bytes pending
components_skip s k d zero texts h i j = let z : ⊥ = omega arith in absurd z
components_skip s k d (suc zero) texts h i j =
    let e : 0 ≡ min (1 - 1) (k - 1) - d = omega arith in ap (λ (n : ℕ). replicate n s.component ++ behind s.component texts) e
components_skip s k d (suc (suc c)) texts h i j =
    rw add-one (rw add-one at (pending_skip s.component (k - 1) d (suc c) texts (omega arith) (omega arith)))

components_write : (s : Separators) (k d c : ℕ) (text : List ℕ) (texts : List (List ℕ)) → 0 < c → d ≤ c - 2 → c ≤ k
    → components s k d c (text ∷ texts) ≡ (replicate (c - 1 - d) s.component ++ text) ++ components s k (c - 1) (c + 1) texts
unfolding components component_bytes pending
components_write s k d zero text texts h i j = let z : ⊥ = omega arith in absurd z
components_write s k d (suc zero) text texts h i j =
    let e₁ : 0 ≡ 1 - 1 - d = omega arith in
    let e₂ : 0 ≡ min (1 - 1) (k - 1) - (1 - 1) = omega arith in
    ap (λ (n : ℕ). text ++ (replicate n s.component ++ behind s.component texts)) e₂
    ∙ ap (λ (n : ℕ). (replicate n s.component ++ text) ++ (replicate (min (1 - 1) (k - 1) - (1 - 1)) s.component ++ behind s.component texts)) e₁
components_write s k d (suc (suc c)) text texts h i j =
    let e : suc (suc c) - 1 ≡ suc c = omega arith in
    rw (e, add-one) (rw add-one at (pending_write s.component (k - 1) d (suc c) text texts (omega arith) (omega arith)))

-- what is still to come of element p, whose components below c are done and whose last filled component is k
unfoldable pub inside : Separators → ℕ → Pen → ℕ → ℕ → List (List ℕ) → List ℕ
inside s k pen p c texts = replicate (p - pen.elements) s.element ++ components s k (components_in pen p) c texts

-- a composite element: its components, then the rest
pub come_composite : (s : Separators) (pen : Pen) (last k p : ℕ) (texts elements : List (List ℕ)) → pen.elements < p → p ≤ last
    → to_come s last pen.elements p (component_bytes s texts ∷ elements) ≡ inside s k pen p 1 texts ++ to_come s last p (p + 1) elements
unfolding to_come inside components
come_composite s pen last k p texts elements h i =
    ap (λ (l : List ℕ). l ++ ending s) (pending_write s.element last pen.elements p (component_bytes s texts) elements h i)
    ∙ append_assoc (replicate (p - pen.elements) s.element ++ component_bytes s texts) (pending s.element last p (p + 1) elements) (ending s)

-- fewer component separators stand than the next component needs
abbrev pub Room : Pen → ℕ → ℕ → Type 0
Room pen p c = (0 < c) × (components_in pen p ≤ c - 2)

pub room_first : (pen : Pen) (p : ℕ) → pen.elements < p → Room pen p 1
room_first pen p h = rw (anew pen p h) (omega arith, omega arith)

same_in_lem : (pen r : Pen) (p : ℕ) → r.elements ≡ pen.elements → r.components ≡ pen.components → components_in r p ≡ components_in pen p
same_in_lem pen r p e f = rw (e, f)

new_in : (r : Pen) (p d : ℕ) → r.elements ≡ p → r.components ≡ d → components_in r p ≡ d
new_in r p d e f = still r p (rw e (omega arith)) ∙ f

-- one component
pub inside_step : (s : Separators) (k : ℕ) (pen r : Pen) (p c : ℕ) (text : List ℕ) (texts : List (List ℕ)) → Room pen p c → c ≤ k
    → r.elements ≡ (placed s pen p c text).elements → r.components ≡ (placed s pen p c text).components
    → inside s k pen p c (text ∷ texts) ≡ (placed s pen p c text).bytes ++ inside s k r p (c + 1) texts
unfolding inside placed due
inside_step s k pen r p c [] texts h i e f =
    rw (same_in_lem pen r p e f, e)
    (ap (λ (l : List ℕ). replicate (p - pen.elements) s.element ++ l) (components_skip s k (components_in pen p) c texts h.0 h.1 i))
inside_step s k pen r p c (x ∷ xs) texts h i e f =
    let d : ℕ = components_in pen p in
    rw (new_in r p (c - 1) e f, e, sub_self p)
    (ap (λ (l : List ℕ). replicate (p - pen.elements) s.element ++ l) (components_write s k d c (x ∷ xs) texts h.0 h.1 i)
    ∙ sym (append_assoc (replicate (p - pen.elements) s.element) (replicate (c - 1 - d) s.component ++ (x ∷ xs)) (components s k (c - 1) (c + 1) texts))
    ∙ ap (λ (l : List ℕ). l ++ components s k (c - 1) (c + 1) texts)
    (sym (append_assoc (replicate (p - pen.elements) s.element) (replicate (c - 1 - d) s.component) (x ∷ xs))))

pub room_next : (s : Separators) (pen r : Pen) (p c : ℕ) (text : List ℕ) → Room pen p c
    → r.elements ≡ (placed s pen p c text).elements → r.components ≡ (placed s pen p c text).components → Room r p (c + 1)
unfolding placed
room_next s pen r p c [] h e f = rw (same_in_lem pen r p e f) (omega arith, omega (arith, h.0, h.1))
room_next s pen r p c (x ∷ xs) h e f = rw (new_in r p (c - 1) e f) (omega arith, omega arith)

-- the separators up to the last filled component
pub inside_finish : (s : Separators) (k : ℕ) (pen : Pen) (p : ℕ) → 2 ≤ k → inside s k pen p (k + 1) [] ≡ (finished s pen p k).bytes
unfolding inside components pending behind due
inside_finish s zero pen p h = let z : ⊥ = omega arith in absurd z
inside_finish s (suc n) pen p h = rw (finished_some s pen p (suc n) h, add-one)
    (let e : min (suc n - 1) (suc n - 1) ≡ suc n - 1 = omega arith in
    rw e (sym (append_assoc (replicate (p - pen.elements) s.element) (replicate (suc n - 1 - components_in pen p) s.component) [])))
