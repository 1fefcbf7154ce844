-- After each element: what is written is the joining of the elements so far, less the terminator, and the pending separators are those of the
-- empty ones since the last filled.
use Prim.Native.Nat.{ℕ, zero, suc, ◌+◌, ◌-◌, ◌≤◌, ◌<◌}
use mathlib.Core.Path.{◌≡◌, refl, sym, ap, ◌∙◌}
use mathlib.Core.List.{List, [], ◌∷◌, ◌++◌, append_assoc, append-nil}
use mathlib.Core.Bool.{Bool, true, false, true≢false}
use native.Mathlib.Omega.{arith}
use lib.ListN.{length, replicate, length-append, length-replicate, replicate-append-replicate}
use lib.Dec.{ltb}
use borrow.Author.Tests.{ltb-true, ltb-false}
use Rattle.lent.specs.Fit.{cap, Stored}
use Rattle.lent.proofs.Laws.{stored_append, stored_length}
use Rattle.segment.specs.declared.Separators.{Separators}
use Rattle.segment.specs.declared.Pen.{Pen}
use Rattle.segment.specs.Joining.{behind, component_bytes, segment_bytes, kept_on, trimmed}
use Rattle.segment.specs.Parts.{is_empty, texts}
use Rattle.segment.specs.Pen.{due, placed, ending}
use Rattle.segment.specs.Group.{Group, next, finish}
use Rattle.segment.specs.Elements.{Elements, OneMore}
use Rattle.segment.proofs.Strokes.{anew, finished_some, finished_none}
use Rattle.segment.proofs.Pending.{replicate_snoc, behind_empty, inside, components, inside_step, inside_finish, Room, room_first, room_next}
use Rattle.segment.proofs.Groups.{texts_some, texts_none}

-- the joining of the elements so far, less the terminator
pub less_terminator : (s : Separators) (id : List ℕ) (done : List (List ℕ)) (pen : Pen) (written : List ℕ) → Elements s id done pen written
    → segment_bytes s id (trimmed done) ≡ written ++ ending s
unfolding segment_bytes ending
less_terminator s id done pen written h = rw h.text

-- ---- trailing empties

behind_append : (b : ℕ) (xs ys : List (List ℕ)) → behind b (xs ++ ys) ≡ behind b xs ++ behind b ys
unfolding behind
behind_append b [] ys = refl
behind_append b (x ∷ xs) ys = ap (λ (l : List ℕ). b ∷ l) (rw (behind_append b xs ys) (sym (append_assoc x (behind b xs) (behind b ys))))

trimmed_empty : (xs : List (List ℕ)) → trimmed (xs ++ ([] ∷ [])) ≡ trimmed xs
unfolding trimmed
trimmed_empty [] = refl
trimmed_empty (x ∷ xs) = ap (λ (l : List (List ℕ)). kept_on x l) (trimmed_empty xs)

kept_some : (x : List ℕ) (y : List ℕ) (ys : List (List ℕ)) → kept_on x (y ∷ ys) ≡ x ∷ y ∷ ys
kept_some [] y ys = refl
kept_some (a ∷ x) y ys = refl

trimmed_filled : (xs : List (List ℕ)) (a : ℕ) (t : List ℕ) → trimmed (xs ++ ((a ∷ t) ∷ [])) ≡ xs ++ ((a ∷ t) ∷ [])
unfolding trimmed
trimmed_filled [] a t = refl
trimmed_filled (x ∷ []) a t = kept_some x (a ∷ t) []
trimmed_filled (x ∷ y ∷ xs) a t = ap (λ (l : List (List ℕ)). kept_on x l) (trimmed_filled (y ∷ xs) a t) ∙ kept_some x y (xs ++ ((a ∷ t) ∷ []))

-- ---- one more element

last_one : (b : ℕ) (t : List ℕ) → b ∷ t ≡ behind b (t ∷ [])
unfolding behind
last_one b t = ap (λ (l : List ℕ). b ∷ l) (sym (append-nil t))

pub elements_open : (s : Separators) (id : List ℕ) (pen : Pen) → pen.elements ≡ 0 → Elements s id [] pen id
unfolding trimmed behind
elements_open s id pen e = record { text = sym (append-nil id); standing = e; pending = rw e }

pub elements_empty : (s : Separators) (id : List ℕ) (done : List (List ℕ)) (pen r : Pen) (written : List ℕ) → Elements s id done pen written
    → r.elements ≡ pen.elements → Elements s id (done ++ ([] ∷ [])) r written
elements_empty s id done pen r written h e =
    let n : length done ≡ length (trimmed done) + (length done - pen.elements) =
    ap length h.pending ∙ length-append (trimmed done) _ ∙ ap (λ (m : ℕ). length (trimmed done) + m) (length-replicate (length done - pen.elements) []) in
    let m : length (done ++ ([] ∷ [])) ≡ length done + 1 = length-append done ([] ∷ []) in
    let k : length done - pen.elements + 1 ≡ length (done ++ ([] ∷ [])) - r.elements = omega (arith, h.standing) in
    record {
      text = rw (trimmed_empty done) h.text;
      standing = rw (trimmed_empty done) (e ∙ h.standing);
      pending = rw (trimmed_empty done, ← k)
          (ap (λ (l : List (List ℕ)). l ++ ([] ∷ [])) h.pending
          ∙ append_assoc (trimmed done) (replicate (length done - pen.elements) []) ([] ∷ [])
          ∙ ap (λ (l : List (List ℕ)). trimmed done ++ l) (replicate-append-replicate (length done - pen.elements) 1 []));
    }

pub elements_filled : (s : Separators) (id : List ℕ) (done : List (List ℕ)) (pen r : Pen) (written t : List ℕ) → Elements s id done pen written → is_empty t ≡ false
    → r.elements ≡ length done + 1
    → Elements s id (done ++ (t ∷ [])) r (written ++ (replicate (length done + 1 - pen.elements) s.element ++ t))
elements_filled s id done pen r written [] h f e = absurd (true≢false f)
elements_filled s id done pen r written (x ∷ xs) h f e = record {
  text = rw (trimmed_filled done x xs, h.text) line;
  standing = rw (trimmed_filled done x xs) (e ∙ sym count);
  pending = rw (trimmed_filled done x xs) (none_pending (length (done ++ ((x ∷ xs) ∷ [])) - r.elements) (omega (arith, count)));
}
  where
    n : ℕ
    n = length done - pen.elements

    b : ℕ
    b = s.element

    t : List ℕ
    t = x ∷ xs

    count : length (done ++ (t ∷ [])) ≡ length done + 1
    count = length-append done (t ∷ [])

    none_pending : (m : ℕ) → m ≡ 0 → done ++ (t ∷ []) ≡ (done ++ (t ∷ [])) ++ replicate m []
    none_pending zero i = sym (append-nil (done ++ (t ∷ [])))
    none_pending (suc m) i = let z : ⊥ = omega arith in absurd z

    whole : length done ≡ length (trimmed done) + n
    whole = ap length h.pending ∙ length-append (trimmed done) (replicate n []) ∙ ap (λ (m : ℕ). length (trimmed done) + m) (length-replicate n [])

    more_by_one : suc n ≡ length done + 1 - pen.elements
    more_by_one = let w : length (trimmed done) ≤ length done = omega (arith, whole) in omega (arith, h.standing)

    all : behind b done ≡ behind b (trimmed done) ++ replicate n b
    all = ap (λ (l : List (List ℕ)). behind b l) h.pending ∙ behind_append b (trimmed done) (replicate n []) ∙ ap (λ (l : List ℕ). behind b (trimmed done) ++ l) (behind_empty b n)

    line : (id ++ behind b (trimmed done)) ++ (replicate (length done + 1 - pen.elements) b ++ t) ≡ id ++ behind b (done ++ (t ∷ []))
    line =
        append_assoc id (behind b (trimmed done)) (replicate (length done + 1 - pen.elements) b ++ t)
        ∙ ap (λ (l : List ℕ). id ++ l)
        (ap (λ (m : ℕ). behind b (trimmed done) ++ (replicate m b ++ t)) (sym more_by_one)
        ∙ ap (λ (l : List ℕ). behind b (trimmed done) ++ l) (sym (replicate_snoc n b t))
        ∙ sym (append_assoc (behind b (trimmed done)) (replicate n b) (b ∷ t))
        ∙ ap (λ (l : List ℕ). l ++ (b ∷ t)) (sym all)
        ∙ ap (λ (l : List ℕ). behind b done ++ l) (last_one b t)
        ∙ sym (behind_append b done (t ∷ [])))

-- a plain text at the next place
pub elements_placed : (s : Separators) (id : List ℕ) (done : List (List ℕ)) (pen r : Pen) (written t : List ℕ) → Elements s id done pen written
    → r.elements ≡ (placed s pen (length done + 1) 1 t).elements
    → Elements s id (done ++ (t ∷ [])) r (written ++ (placed s pen (length done + 1) 1 t).bytes)
unfolding placed due
elements_placed s id done pen r written [] h e = rw (append-nil written) (elements_empty s id done pen r written h e)
elements_placed s id done pen r written (x ∷ xs) h e =
    let n : length done ≡ length (trimmed done) + (length done - pen.elements) =
    ap length h.pending ∙ length-append (trimmed done) _ ∙ ap (λ (m : ℕ). length (trimmed done) + m) (length-replicate (length done - pen.elements) []) in
    let k : pen.elements < length done + 1 = omega (arith, h.standing) in
    rw (anew pen (length done + 1) k, append-nil (replicate (length done + 1 - pen.elements) s.element)) (elements_filled s id done pen r written (x ∷ xs) h refl e)

-- ---- an element of several components

record Stretched (pen t : Pen) (p : ℕ) (whole d d₂ : List ℕ) : Type 0 where
  stored : Stored d pen.at whole t.at d₂
  stands : t.elements ≡ p

inside_stored : {s : Separators} {k : ℕ} {f : ℕ → List ℕ} {p c : ℕ} {pen t : Pen} {d d₂ : List ℕ} → Group s k f p c pen d t d₂ → 2 ≤ k → Room pen p c → length d ≤ cap
    → Stretched pen t p (inside s k pen p c (texts f (k + 1 - c) c)) d d₂
inside_stored {s} {k} {f} {p} {c} (next {pen = pen} {r = r} h w g) two room i =
    let l = inside_stored g two (room_next s pen r p c (f c) room w.elements w.components) (rw (stored_length _ w.stored) i) in
    record {
      stored = rw (texts_some f k c h, inside_step s k pen r p c (f c) (texts f (k + 1 - (c + 1)) (c + 1)) room h w.elements w.components)
          (stored_append _ _ i w.stored l.stored);
      stands = l.stands;
    }
inside_stored {s} {k} {f} {p} {c} (finish {pen = pen} {r = r} e w) two room i = record {
  stored = rw (e, texts_none f k (k + 1) (omega arith), inside_finish s k pen p two) w.stored;
  stands = w.elements ∙ ap (λ x. x.elements) (finished_some s pen p k two);
}

-- the separator between two components fills the element
composite_filled : (s : Separators) (f : ℕ → List ℕ) (k : ℕ) → 2 ≤ k → is_empty (component_bytes s (texts f k 1)) ≡ false
unfolding component_bytes texts behind
composite_filled s f zero h = let z : ⊥ = omega arith in absurd z
composite_filled s f (suc zero) h = let z : ⊥ = omega arith in absurd z
composite_filled s f (suc (suc n)) h = not_empty (f 1)
  where
    not_empty : (l : List ℕ) → is_empty (l ++ (s.component ∷ (f (1 + 1) ++ behind s.component (texts f n (1 + 1 + 1))))) ≡ false
    not_empty [] = refl
    not_empty (x ∷ xs) = refl

pen_before : (s : Separators) (id : List ℕ) (done : List (List ℕ)) (pen : Pen) (written : List ℕ) → Elements s id done pen written → pen.elements < length done + 1
pen_before s id done pen written h =
    let n : length done ≡ length (trimmed done) + (length done - pen.elements) =
    ap length h.pending ∙ length-append (trimmed done) _ ∙ ap (λ (m : ℕ). length (trimmed done) + m) (length-replicate (length done - pen.elements) []) in
    omega (arith, h.standing)

several : (s : Separators) (id : List ℕ) (done : List (List ℕ)) (k : ℕ) (f : ℕ → List ℕ) {pen t : Pen} (written : List ℕ) {d d₂ : List ℕ} → 2 ≤ k
    → Elements s id done pen written → length d ≤ cap → Group s k f (length done + 1) 1 pen d t d₂ → OneMore s id done (component_bytes s (texts f k 1)) pen t written d d₂
unfolding inside components
several s id done k f {pen} {t} written {d} {d₂} two h i g =
    let p : ℕ = length done + 1 in
    let l = inside_stored g two (room_first pen p (pen_before s id done pen written h)) i in
    let e : k ≡ k + 1 - 1 = omega arith in
    record {
      bytes = replicate (p - pen.elements) s.element ++ component_bytes s (texts f k 1);
      stored = rw (← e) at l.stored;
      elements = elements_filled s id done pen t written (component_bytes s (texts f k 1)) h (composite_filled s f k two) l.stands;
    }

only_one : (s : Separators) (f : ℕ → List ℕ) → component_bytes s (texts f 1 1) ≡ f 1
unfolding component_bytes texts behind
only_one s f = append-nil (f 1)

no_one : (s : Separators) (f : ℕ → List ℕ) → component_bytes s (texts f 0 1) ≡ []
unfolding component_bytes texts
no_one s f = refl

none_more : {s : Separators} {k : ℕ} {f : ℕ → List ℕ} {p c : ℕ} {pen t : Pen} {d d₂ : List ℕ} → Group s k f p c pen d t d₂ → k < c → k < 2
    → Stored d pen.at [] t.at d₂ × (t.elements ≡ pen.elements)
none_more (next h w g) i two = let z : ⊥ = omega arith in absurd z
none_more {s} {k} {f} {p} (finish {pen = pen} {r = r} e w) i two =
    (rw (finished_none s pen p k two) at w.stored, w.elements ∙ ap (λ x. x.elements) (finished_none s pen p k two))

few : {s : Separators} {k : ℕ} {f : ℕ → List ℕ} {c : ℕ} {pen t : Pen} {d d₂ : List ℕ} (id : List ℕ) (done : List (List ℕ)) (written : List ℕ) → k < 2 → c ≡ 1
    → Elements s id done pen written → length d ≤ cap → Group s k f (length done + 1) c pen d t d₂ → OneMore s id done (component_bytes s (texts f k 1)) pen t written d d₂
few {s} {k} {f} {c} id done written two one h i (next {pen = pen} {r = r} {t = t} j w g) =
    let q : k ≡ 1 = omega arith in
    let m = none_more g (omega arith) two in
    let e : r.elements ≡ (placed s pen (length done + 1) 1 (f 1)).elements = w.elements ∙ ap (λ (n : ℕ). (placed s pen (length done + 1) n (f n)).elements) one in
    let l : Elements s id (done ++ (f 1 ∷ [])) t (written ++ (placed s pen (length done + 1) 1 (f 1)).bytes) =
    elements_placed s id done pen t written (f 1) h (m.1 ∙ e) in
    record {
      bytes = (placed s pen (length done + 1) 1 (f 1)).bytes;
      stored = rw append-nil at (stored_append _ [] i (rw one at w.stored) m.0);
      elements = rw (q, only_one s f) l;
    }
few {s} {k} {f} {c} id done written two one h i (finish {pen = pen} {r = r} j w) =
    let q : k ≡ 0 = omega arith in
    let m = none_more {f = f} (finish j w) (omega arith) two in
    record {
      bytes = [];
      stored = m.0;
      elements = rw (q, no_one s f, append-nil written) (elements_empty s id done pen r written h m.1);
    }

-- after each element: the calls for the next one leave the joining of one element more
pub elements_group : {s : Separators} {k : ℕ} {f : ℕ → List ℕ} {pen t : Pen} {d d₂ : List ℕ} (id : List ℕ) (done : List (List ℕ)) (written : List ℕ)
    → Elements s id done pen written → length d ≤ cap → Group s k f (length done + 1) 1 pen d t d₂ → OneMore s id done (component_bytes s (texts f k 1)) pen t written d d₂
elements_group {s} {k} {f} {pen} {t} {d} {d₂} id done written h i g = go (ltb 1 k) refl
  where
    go : (b : Bool) → ltb 1 k ≡ b → OneMore s id done (component_bytes s (texts f k 1)) pen t written d d₂
    go true e = several s id done k f written (ltb-true 1 k e) h i g
    go false e = few id done written (let z : k ≤ 1 = ltb-false 1 k e in omega arith) refl h i g
