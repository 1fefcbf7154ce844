-- Parts that come in the order of their places are written as they come: what is stored is their joining.
use Prim.Native.Nat.{ℕ, zero, suc, ◌+◌, ◌-◌, ◌≤◌, ◌<◌, max}
use mathlib.Core.Path.{◌≡◌, refl, sym, ◌∙◌}
use mathlib.Core.Bool.{Bool, true, false, true≢false}
use mathlib.Core.List.{List, [], ◌∷◌, ◌++◌}
use native.Mathlib.Omega.{arith}
use lib.Dec.{eqb, ltb}
use lib.ListN.{length}
use borrow.Author.Tests.{eqb-true, eq-eqb, ne_eqb, le-ltb}
use Rattle.lent.specs.Fit.{cap, Stored}
use Rattle.lent.proofs.Laws.{stored_append, stored_length, stored_small}
use Rattle.segment.specs.declared.Separators.{Separators}
use Rattle.segment.specs.declared.Pen.{Pen}
use Rattle.segment.specs.Parts.{Part, pick, is_empty, component_of, highest, last_element, last_component, here, after, component_text, joined}
use Rattle.segment.specs.Pen.{nothing, placed, finished, due, Penned}
use Rattle.segment.specs.Values.{opened, closing}
use Rattle.segment.specs.Group.{Group, next, finish}
use Rattle.segment.specs.Calls.{Row, group, close, stays, Rises, Fed, done, part}
use Rattle.segment.proofs.Runs.{run_stored}

-- ---- lengths and places

pub fed_length : {s : Separators} {xs : List Part} {pen t : Pen} {d d₁ : List ℕ} → Fed s xs pen d t d₁ → length d₁ ≡ length d
fed_length done = refl
fed_length (part w f) = fed_length f ∙ stored_length _ w.stored

fed_small : {s : Separators} {xs : List Part} {pen t : Pen} {d d₁ : List ℕ} → Fed s xs pen d t d₁ → pen.at ≤ cap → t.at ≤ cap
fed_small done h = h
fed_small (part w f) h = fed_small f (stored_small _ w.stored)

after_length : (p : ℕ) (xs : List Part) → length (after p xs) ≤ length xs
unfolding after
after_length p [] = omega arith
after_length p (x ∷ xs) = go (eqb x.element p) (after_length p xs)
  where
    go : (b : Bool) → length (after p xs) ≤ length xs → length (pick b (after p xs) (x ∷ xs)) ≤ length (x ∷ xs)
    go true h = omega arith
    go false h = omega arith

-- ---- one element

-- all parts stand at element p, each behind the one before it, the first at component c or behind it
abbrev Inside : ℕ → ℕ → List Part → Type 0
Inside p c [] = Unit {0}
Inside p c (x ∷ xs) = (x.element ≡ p) × (c ≤ component_of x) × Inside p (component_of x + 1) xs

text_below : (p c i : ℕ) (xs : List Part) → Inside p c xs → i < c → component_text xs i ≡ []
unfolding component_text
text_below p c i [] h k = refl
text_below p c i (x ∷ xs) h k =
    let n : component_of x ≡ i → ⊥ = λ e. omega (arith, h.1) in
    rw (ne_eqb (component_of x) i n) (text_below p (component_of x + 1) i xs h.2 (omega (arith, h.1)))

low : (b : Bool) (n : ℕ) → pick b 0 n ≤ n
low true n = omega arith
low false n = omega arith

-- the last filled component is none, or not below the first
last_from : (p c : ℕ) (xs : List Part) → Inside p c xs → 0 < last_component xs → c ≤ last_component xs
unfolding highest
last_from p c [] h k = omega arith
last_from p c (x ∷ xs) h k = go (is_empty x.text) k (last_from p (component_of x + 1) xs h.2)
  where
    go : (b : Bool) → 0 < max (pick b 0 (component_of x)) (last_component xs) → (0 < last_component xs → component_of x + 1 ≤ last_component xs) → c ≤ max (pick b 0 (component_of x)) (last_component xs)
    go true k ih = let z : 0 < last_component xs = omega arith in omega (arith, h.1, ih z)
    go false k ih = omega (arith, h.1)

-- no part is filled: nothing is written
idle : {s : Separators} {xs : List Part} {pen t : Pen} {d d₁ : List ℕ} (p c : ℕ) → Fed s xs pen d t d₁ → Inside p c xs → 0 < c → last_component xs ≡ 0 → pen.at ≤ cap → length d ≤ cap
    → Penned (nothing pen) pen.at t d d₁
unfolding highest placed
idle p c done h k e i j = record { stored = record { counted = omega arith; stored = refl }; elements = refl; components = refl }
idle {s} {t = t} p c (part {x = x} {xs = xs} {pen = pen} {r = r} {d = d} {d₁ = d₁} {d₂ = d₂} w f) h k e i j =
    go x.text e w (λ z. idle p (component_of x + 1) f h.2 (omega arith) z (stored_small _ w.stored) (rw (stored_length _ w.stored) j))
  where
    go : (text : List ℕ) → max (pick (is_empty text) 0 (component_of x)) (last_component xs) ≡ 0 → Penned (placed s pen x.element (component_of x) text) pen.at r d d₁
        → (last_component xs ≡ 0 → Penned (nothing r) r.at t d₁ d₂) → Penned (nothing pen) pen.at t d d₂
    go [] e w ih =
        let v = ih (omega arith) in
        record { stored = stored_append [] [] j w.stored v.stored; elements = v.elements ∙ w.elements; components = v.components ∙ w.components }
    go (y ∷ text) e w ih = let z : ⊥ = omega (arith, h.1, e) in absurd z

-- components without a text are passed over
pass_over : {s : Separators} {k : ℕ} {f : ℕ → List ℕ} {p : ℕ} {pen t : Pen} {d d₁ : List ℕ} (n c : ℕ) → ((i : ℕ) → c ≤ i → i < c + n → f i ≡ []) → c + n ≤ k + 1 → pen.at ≤ cap
    → Group s k f p (c + n) pen d t d₁ → Group s k f p c pen d t d₁
unfolding placed
pass_over zero c e h i g = let z : c + 0 ≡ c = omega arith in rw z at g
pass_over {s} {k} {f} {p} {pen} {t} {d} {d₁} (suc n) c e h i g =
    let z : c + suc n ≡ c + 1 + n = omega arith in
    let w : Penned (placed s pen p c (f c)) pen.at pen d d = rw (e c (omega arith) (omega arith)) (record { stored = record { counted = omega arith; stored = refl }; elements = refl; components = refl }) in
    next {c = c} (omega arith) w (pass_over n (c + 1) (λ j a b. e j (omega arith) (omega arith)) (omega arith) i (rw z at g))

-- the last filled component is written: the element ends there
due_none : (s : Separators) (pen : Pen) (p k : ℕ) → pen.elements ≡ p → pen.components ≡ k - 1 → due s pen p k ++ [] ≡ []
unfolding due
due_none s pen p k e f =
    let a : p - pen.elements ≡ 0 = omega arith in
    let b : k - 1 - pen.components ≡ 0 = omega arith in
    rw (a, le-ltb pen.elements p (omega arith), b)

ends : {pen t : Pen} {d d₁ : List ℕ} (s : Separators) (p k : ℕ) → pen.elements ≡ p → pen.components ≡ k - 1 → Penned (nothing pen) pen.at t d d₁ → Penned (finished s pen p k) pen.at t d d₁
unfolding finished
ends {pen} {t} {d} {d₁} s p k e f w = go (ltb 1 k)
  where
    go : (b : Bool) → Penned (pick b (record { bytes = due s pen p k ++ []; elements = p; components = k - 1 }) (nothing pen)) pen.at t d d₁
    go true = record { stored = rw (due_none s pen p k e f) w.stored; elements = w.elements ∙ e; components = w.components ∙ f }
    go false = w

-- the parts at an element from component c on, the last filled being k
fed_filled : {s : Separators} {xs : List Part} {pen t : Pen} {d d₁ : List ℕ} (p c k : ℕ) (f : ℕ → List ℕ) → Fed s xs pen d t d₁ → Inside p c xs → 0 < c → pen.at ≤ cap → length d ≤ cap
    → 0 < last_component xs → last_component xs ≡ k → ((i : ℕ) → c ≤ i → f i ≡ component_text xs i) → Group s k f p c pen d t d₁
unfolding highest component_text placed
fed_filled p c k f done h a i j m e g = let z : ⊥ = omega arith in absurd z
fed_filled {s} {t = t} p c k f (part {x = x} {xs = xs} {pen = pen} {r = r} {d = d} {d₁ = d₁} {d₂ = d₂} w v) h a i j m e g =
    pass_over (component_of x - c) c
    (λ n a b. g n a ∙ text_below p (component_of x) n (x ∷ xs) (h.0, omega arith, h.2) (omega (arith, h.1)))
    (omega (arith, h.1, last_from p c (x ∷ xs) h m, here_last))
    i
    (rw at_x (next {c = component_of x} (omega (arith, here_last)) placed_x (behind_x (λ a e. fed_filled p (component_of x + 1) k f v h.2 (omega arith) (stored_small _ w.stored) (rw (stored_length _ w.stored) j) a e rest))))
  where
    at_x : c + (component_of x - c) ≡ component_of x
    at_x = omega (arith, h.1)

    here_last : component_of x ≤ k
    here_last = rw (← e) (last_from p (component_of x) (x ∷ xs) (h.0, omega arith, h.2) m)

    text_x : f (component_of x) ≡ x.text
    text_x = g (component_of x) h.1 ∙ rw (eq-eqb (component_of x) (component_of x) refl)

    placed_x : Penned (placed s pen p (component_of x) (f (component_of x))) pen.at r d d₁
    placed_x = rw (text_x, ← h.0) w

    rest : (n : ℕ) → component_of x + 1 ≤ n → f n ≡ component_text xs n
    rest n b = let q : component_of x ≡ n → ⊥ = λ y. omega arith in g n (omega (arith, h.1)) ∙ rw (ne_eqb (component_of x) n q)

    behind_x : (0 < last_component xs → last_component xs ≡ k → Group s k f p (component_of x + 1) r d₁ t d₂) → Group s k f p (component_of x + 1) r d₁ t d₂
    behind_x ih = go (last_component xs) refl x.text refl
      where
        go : (n : ℕ) → last_component xs ≡ n → (text : List ℕ) → x.text ≡ text → Group s k f p (component_of x + 1) r d₁ t d₂
        go zero q [] y = let z : ⊥ = omega (arith, rw y at m, q) in absurd z
        go zero q (b ∷ text) y = finish {c = component_of x + 1} (omega (arith, rw y at e, q)) (ends s p k ((rw y at w.elements) ∙ h.0) (omega (arith, rw y at e, q, rw y at w.components)) (idle p (component_of x + 1) v h.2 (omega arith) q (stored_small _ w.stored) (rw (stored_length _ w.stored) j)))
        go (suc n) q text y = ih (omega arith) (omega (arith, e, low (is_empty x.text) (component_of x), last_from p (component_of x + 1) xs h.2 (omega arith)))

-- an element, whatever its parts hold
element_group : {s : Separators} {xs : List Part} {pen t : Pen} {d d₁ : List ℕ} (p : ℕ) → Fed s xs pen d t d₁ → Inside p 1 xs → pen.at ≤ cap → length d ≤ cap
    → Group s (last_component xs) (component_text xs) p 1 pen d t d₁
unfolding finished
element_group {s} {xs} {pen} {t} {d} {d₁} p f h i j = go (last_component xs) refl
  where
    go : (n : ℕ) → last_component xs ≡ n → Group s n (component_text xs) p 1 pen d t d₁
    go zero e = finish refl (idle p 1 f h (omega arith) e i j)
    go (suc n) e = fed_filled p 1 (suc n) (component_text xs) f h (omega arith) i j (omega arith) e (λ k a. refl)

-- ---- the elements one after the other

record Split (s : Separators) (p c : ℕ) (parts : List Part) (pen : Pen) (d : List ℕ) (t : Pen) (d₂ : List ℕ) : Type 0 where
  mid : Pen
  doc : List ℕ
  first : Fed s (here p parts) pen d mid doc
  inside : Inside p c (here p parts)
  second : Fed s (after p parts) mid doc t d₂
  rises : Rises (p + 1) 1 (after p parts)

-- the parts at element p, and those behind it
split : {s : Separators} {parts : List Part} {pen t : Pen} {d d₂ : List ℕ} (p c : ℕ) → Fed s parts pen d t d₂ → Rises p c parts → Split s p c parts pen d t d₂
unfolding here after
split p c (done {pen = pen} {d = d}) h = record { mid = pen; doc = d; first = done; inside = tt; second = done; rises = tt }
split {s} {t = t} p c (part {x = x} {xs = xs} {pen = pen} {r = r} {d = d} {d₁ = d₁} {d₂ = d₂} w f) h = go (eqb x.element p) refl (λ q. split p (component_of x + 1) f (rw q at h.1))
  where
    ne_lt : (x.element ≡ p → ⊥) → p + 1 ≤ x.element
    ne_lt n = omega (arith, h.0.0, n)

    go : (b : Bool) → eqb x.element p ≡ b → (x.element ≡ p → Split s p (component_of x + 1) xs r d₁ t d₂) → Split s p c (x ∷ xs) pen d t d₂
    go true e ih =
        let q : x.element ≡ p = eqb-true _ _ e in
        let v = ih q in
        record { mid = v.mid; doc = v.doc; first = rw e (part w v.first); inside = rw e (q, h.0.2 q, v.inside); second = rw e v.second; rises = rw e v.rises }
    go false e ih =
        let n : x.element ≡ p → ⊥ = λ q. true≢false (sym (eq-eqb x.element p q) ∙ e) in
        record { mid = pen; doc = d; first = rw e done; inside = rw e tt; second = rw e (part w f); rises = rw e ((ne_lt n, h.0.1, λ y. omega (arith, h.0.1)), h.1) }

fed_row : {s : Separators} {parts : List Part} {pen t : Pen} {d d₁ d₂ : List ℕ} {e : ℕ} (n q c last : ℕ) → length parts ≤ n → Fed s parts pen d t d₁ → Rises q c parts → pen.at ≤ cap → length d ≤ cap
    → Stored d₁ t.at (closing s t last) e d₂ → Row s last q parts pen d e d₂
unfolding stays after
fed_row zero q c last l done h i j z = close refl z
fed_row zero q c last l (part w f) h i j z = let y : ⊥ = omega arith in absurd y
fed_row (suc n) q c last l done h i j z = close refl z
fed_row {s} {t = t} (suc n) q c last l (part {x = x} {xs = xs} {pen = pen} {r = r} {d = d} {d₁ = d₁} w f) h i j z =
    let v = split x.element 1 (part {x = x} {xs = xs} w f) ((omega arith, h.0.1, λ y. omega (arith, h.0.1)), h.1) in
    group {p = q} {x = x} {xs = xs} h.0.0 (element_group x.element v.first v.inside i j)
    (fed_row {parts = after x.element (x ∷ xs)} n (x.element + 1) 1 last shorter v.second v.rises (fed_small v.first i) (rw (fed_length v.first) j) z)
  where
    shorter : length (after x.element (x ∷ xs)) ≤ n
    shorter = rw (eq-eqb x.element x.element refl) (omega (arith, after_length x.element xs))

-- the pen ends at the last filled element
fed_last : {s : Separators} {parts : List Part} {pen t : Pen} {d d₁ : List ℕ} (q c : ℕ) → Fed s parts pen d t d₁ → Rises q c parts → pen.elements ≤ q → t.elements ≡ max pen.elements (last_element parts)
unfolding highest placed
fed_last q c done h i = omega arith
fed_last {s} {t = t} q c (part {x = x} {xs = xs} {pen = pen} {r = r} {d = d} {d₁ = d₁} w f) h i = go x.text w.elements (fed_last x.element (component_of x + 1) f h.1)
  where
    go : (text : List ℕ) → r.elements ≡ (placed s pen x.element (component_of x) text).elements → (r.elements ≤ x.element → t.elements ≡ max r.elements (last_element xs)) → t.elements ≡ max pen.elements (max (pick (is_empty text) 0 x.element) (last_element xs))
    go [] e ih = ih (omega (arith, h.0.0)) ∙ omega arith
    go (y ∷ text) e ih = ih (omega (arith, h.0.0)) ∙ omega (arith, h.0.0)

closing_at : {d d₁ : List ℕ} {at e : ℕ} (s : Separators) (t : Pen) (m n : ℕ) → m ≡ n → Stored d at (closing s t m) e d₁ → Stored d at (closing s t n) e d₁
closing_at s t m n h q = rw h at q

-- opened, fed part by part and closed, a segment is the joining of its parts
pub fed_stored : {at e : ℕ} {pen t : Pen} {d d₁ d₂ d₃ : List ℕ} (s : Separators) (id : List ℕ) (parts : List Part) → length d ≤ cap → Rises 1 1 parts
    → Penned (opened id) at pen d d₁ → Fed s parts pen d₁ t d₂ → Stored d₂ t.at (closing s t t.elements) e d₃ → Stored d at (joined s id parts) e d₃
fed_stored {pen = pen} {t = t} s id parts h r w f q =
    let z : pen.elements ≡ 0 = w.elements in
    let y : t.elements ≡ max pen.elements (last_element parts) = fed_last 1 1 f r (omega arith) in
    let v : t.elements ≡ last_element parts = omega arith in
    run_stored s id parts h w (fed_row (length parts) 1 1 (last_element parts) (omega arith) f r (stored_small _ w.stored) (rw (stored_length _ w.stored) h) (closing_at s t t.elements (last_element parts) v q))
