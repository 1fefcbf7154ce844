-- Segments of plain texts as code joins them.
use Prim.Native.Nat.{ℕ, ◌+◌, ◌≤◌, ◌<◌, max}
use mathlib.Core.Path.{◌≡◌, refl, sym}
use mathlib.Core.Bool.{Bool, true, false, true≢false}
use mathlib.Core.List.{List, [], ◌∷◌}
use native.Mathlib.Omega.{arith}
use Rattle.std.specs.Prelude.{None}
use lib.Dec.{leb}
use borrow.Author.Tests.{eq-eqb, ne_eqb, lt-ltb, le-leb, lt-leb}
use Rattle.lent.specs.Fit.{Stored}
use Rattle.segment.specs.declared.Separators.{Separators}
use Rattle.segment.specs.declared.Pen.{Pen}
use Rattle.segment.specs.Parts.{pick, is_empty, highest, last_element, last_component, here, after, component_text, joined}
use Rattle.segment.specs.Pen.{placed, finished, Penned}
use Rattle.segment.specs.Values.{closing}
use Rattle.segment.specs.Group.{Group, next, finish}
use Rattle.segment.specs.Calls.{Row, group, close, stays}
use Rattle.format.specs.Spec.{Control}
use Rattle.texts.specs.Number.{count_text}
use Rattle.emit.specs.Puts.{part_at}
use Rattle.emit.specs.Envelope.{closer_put}

-- ---- one element

one_of_lem : (a b : Bool) → pick b a false ≡ false → max (pick a 0 1) (max (pick b 0 1) 0) ≡ 1
one_of_lem true true e = absurd (true≢false e)
one_of_lem true false e = refl
one_of_lem false true e = refl
one_of_lem false false e = refl

none_of : (a b : Bool) → pick b a false ≡ true → max (pick a 0 1) (max (pick b 0 1) 0) ≡ 0
none_of true true e = refl
none_of true false e = absurd (true≢false (sym e))
none_of false true e = absurd (true≢false (sym e))
none_of false false e = absurd (true≢false (sym e))

module _ {s : Separators} {pen r : Pen} {p : ℕ} {d d₁ : List ℕ} where
  pub plain_empty : (text : List ℕ) → is_empty text ≡ true → Penned (finished s pen p 0) pen.at r d d₁
      → Group s (last_component (part_at p None text ∷ [])) (component_text (part_at p None text ∷ [])) p 1 pen d r d₁
  unfolding highest
  plain_empty text e w = rw e (finish refl w)

  pub same_empty : (text hidden : List ℕ) → pick (is_empty hidden) (is_empty text) false ≡ true → Penned (finished s pen p 0) pen.at r d d₁
      → Group s (last_component (part_at p None text ∷ part_at p None hidden ∷ [])) (component_text (part_at p None text ∷ part_at p None hidden ∷ [])) p 1 pen d r d₁
  unfolding highest
  same_empty text hidden e w = rw (none_of (is_empty text) (is_empty hidden) e) (finish refl w)

module _ {s : Separators} {pen t r : Pen} {p : ℕ} {d d₁ d₂ : List ℕ} where
  pub plain_filled : (text : List ℕ) → is_empty text ≡ false → Penned (placed s pen p 1 text) pen.at t d d₁ → Penned (finished s t p 1) t.at r d₁ d₂
      → Group s (last_component (part_at p None text ∷ [])) (component_text (part_at p None text ∷ [])) p 1 pen d r d₂
  unfolding highest component_text
  plain_filled text e v w = rw e (next {c = 1} {r = t} {d₁ = d₁} (omega arith) v (finish {c = 2} refl w))

  -- the first stands, and the place is filled where one of them is
  pub same_filled : (text hidden : List ℕ) → pick (is_empty hidden) (is_empty text) false ≡ false → Penned (placed s pen p 1 text) pen.at t d d₁ → Penned (finished s t p 1) t.at r d₁ d₂
      → Group s (last_component (part_at p None text ∷ part_at p None hidden ∷ [])) (component_text (part_at p None text ∷ part_at p None hidden ∷ [])) p 1 pen d r d₂
  unfolding highest component_text
  same_filled text hidden e v w = rw (one_of_lem (is_empty text) (is_empty hidden) e) (next {c = 1} {r = t} {d₁ = d₁} (omega arith) v (finish {c = 2} refl w))

-- ---- two texts

pub last_of_two : (p q a b : ℕ) (v w : List ℕ) → a ≡ max 0 (pick (is_empty v) 0 p) → b ≡ max a (pick (is_empty w) 0 q) → b ≡ last_element (part_at p None v ∷ part_at q None w ∷ [])
unfolding highest
last_of_two p q a b v w e f = omega (arith, e, f)

module _ {s : Separators} {last : ℕ} {pen : Pen} {d : List ℕ} (p q : ℕ) (v w : List ℕ) where
  -- a text at element 0 stays
  pub two_stuck : {d₁ : List ℕ} {e : ℕ} → p < 1 → Stored d pen.at (closing s pen last) e d₁ → Row s last 1 (part_at p None v ∷ part_at q None w ∷ []) pen d e d₁
  unfolding stays
  two_stuck h x = close (lt-ltb p 1 h) x

  pub two_same : {t : Pen} {d₁ d₂ : List ℕ} {e : ℕ} → 1 ≤ p → p ≡ q → Group s (last_component (part_at p None v ∷ part_at p None w ∷ [])) (component_text (part_at p None v ∷ part_at p None w ∷ [])) p 1 pen d t d₁
      → Stored d₁ t.at (closing s t last) e d₂ → Row s last 1 (part_at p None v ∷ part_at q None w ∷ []) pen d e d₂
  unfolding here after stays
  two_same {t} {d₁} {d₂} {e} h k g x =
      let a = eq-eqb p p refl in
      let these : Group s (last_component (here p (part_at p None v ∷ part_at p None w ∷ []))) (component_text (here p (part_at p None v ∷ part_at p None w ∷ []))) p 1 pen d t d₁ = rw a g in
      let rest : Row s last (p + 1) (after p (part_at p None v ∷ part_at p None w ∷ [])) t d₁ e d₂ = rw a (close refl x) in
      rw (← k) (group h these rest)

  pub two_apart : {t u : Pen} {d₁ d₂ d₃ : List ℕ} {e : ℕ} → 1 ≤ p → p < q → Group s (last_component (part_at p None v ∷ [])) (component_text (part_at p None v ∷ [])) p 1 pen d t d₁
      → Group s (last_component (part_at q None w ∷ [])) (component_text (part_at q None w ∷ [])) q 1 t d₁ u d₂
      → Stored d₂ u.at (closing s u last) e d₃ → Row s last 1 (part_at p None v ∷ part_at q None w ∷ []) pen d e d₃
  unfolding here after stays
  two_apart {t} {u} {d₁} {d₂} {d₃} {e} h k g g₁ x =
      let a = eq-eqb p p refl in
      let b = eq-eqb q q refl in
      let c = ne_eqb q p (λ z. omega arith) in
      let m : p + 1 ≤ q = omega arith in
      let these : Group s (last_component (here p (part_at p None v ∷ part_at q None w ∷ []))) (component_text (here p (part_at p None v ∷ part_at q None w ∷ []))) p 1 pen d t d₁ = rw (a, c) g in
      let those : Group s (last_component (here q (part_at q None w ∷ []))) (component_text (here q (part_at q None w ∷ []))) q 1 t d₁ u d₂ = rw b g₁ in
      let end : Row s last (q + 1) (after q (part_at q None w ∷ [])) u d₂ e d₃ = rw b (close refl x) in
      let rest : Row s last (p + 1) (after p (part_at p None v ∷ part_at q None w ∷ [])) t d₁ e d₃ = rw (a, c) (group m those end) in
      group h these rest

-- ---- the closer

module _ (k : Control) (control : List ℕ) (n : ℕ) where
  pub count_first : k.count ≤ k.closer → (closer_put k control n).parts ≡ part_at k.count None (count_text n) ∷ part_at k.closer None control ∷ []
  unfolding closer_put
  count_first h = rw (le-leb k.count k.closer h)

  pub control_first : k.closer < k.count → (closer_put k control n).parts ≡ part_at k.closer None control ∷ part_at k.count None (count_text n) ∷ []
  unfolding closer_put
  control_first h = rw (lt-leb k.count k.closer h)

module _ {d d₁ : List ℕ} {at r : ℕ} (s : Separators) (id : List ℕ) (k : Control) (control number : List ℕ) (n closer count : ℕ) (e : k.closer ≡ closer) (f : k.count ≡ count) (g : number ≡ count_text n) where
  pub closer_count_first : count ≤ closer → Stored d at (joined s id (part_at count None number ∷ part_at closer None control ∷ [])) r d₁ → Stored d at (joined s id (closer_put k control n).parts) r d₁
  closer_count_first h x = let q : k.count ≤ k.closer = rw (e, f) h in rw (count_first k control n q, e, f, ← g) x

  pub closer_control_first : closer < count → Stored d at (joined s id (part_at closer None control ∷ part_at count None number ∷ [])) r d₁ → Stored d at (joined s id (closer_put k control n).parts) r d₁
  closer_control_first h x = let q : k.closer < k.count = rw (e, f) h in rw (control_first k control n q, e, f, ← g) x

-- its findings and its trace entries
module _ (k : Control) (control : List ℕ) (n : ℕ) where
  pub closer_quiet : (closer_put k control n).findings ≡ []
  unfolding closer_put
  closer_quiet = go (leb k.count k.closer) refl
    where
      go : (t : Bool) → leb k.count k.closer ≡ t → (closer_put k control n).findings ≡ []
      go true e = rw e
      go false e = rw e

  pub entries_two : k.closer ≡ k.count → 2 ≡ (closer_put k control n).entries
  unfolding closer_put
  entries_two e = rw (← e, le-leb k.closer k.closer (omega arith), eq-eqb k.closer k.closer refl)

  pub entries_one : (k.closer ≡ k.count → ⊥) → 1 ≡ (closer_put k control n).entries
  unfolding closer_put
  entries_one e = go (leb k.count k.closer) refl
    where
      go : (t : Bool) → leb k.count k.closer ≡ t → 1 ≡ (closer_put k control n).entries
      go true q = rw (q, ne_eqb k.count k.closer (λ z. e (sym z)), eq-eqb k.closer k.closer refl)
      go false q = rw (q, ne_eqb k.count k.closer (λ z. e (sym z)), eq-eqb k.closer k.closer refl)
