-- Parts that are numbered: what loops over their numbers find. `part` gives each part; those from i up to e are what is looked through.
use Prim.Native.Nat.{ℕ, zero, suc, ◌+◌, ◌-◌, ◌≤◌, ◌<◌, max}
use mathlib.Core.Path.{◌≡◌, refl, sym, ap, ◌∙◌}
use mathlib.Core.List.{List, [], ◌∷◌, ◌++◌, append-nil, append_assoc}
use mathlib.Core.Bool.{Bool, true, false}
use native.Mathlib.Omega.{arith}
use Rattle.std.specs.Prelude.{None, Some}
use borrow.Author.Tests.{eq-eqb, ne_eqb, lt-ltb, le-ltb}
use Rattle.segment.specs.Parts.{Part, pick, is_empty, component_of, highest, last_component, here, after, component_text}
use Rattle.segment.specs.declared.Separators.{Separators}
use Rattle.segment.specs.declared.Pen.{Pen}
use Rattle.segment.proofs.Calls.{numbered, up_to}
use Rattle.segment.specs.Group.{Group}
use Rattle.segment.specs.Calls.{Row, group, stays, stands_at, first_at, zero_free}
use Rattle.segment.proofs.Rows.{here_same, here_other, after_same, after_other}

pub up_some : (part : ℕ → Part) (i e : ℕ) → i < e → up_to part i e ≡ part i ∷ up_to part (i + 1) e
unfolding numbered
up_some part i e h = let q : e - i ≡ suc (e - (i + 1)) = omega arith in ap (λ (n : ℕ). numbered part n i) q

pub up_none : (part : ℕ → Part) (i e : ℕ) → e ≤ i → up_to part i e ≡ []
unfolding numbered
up_none part i e h = let q : e - i ≡ 0 = omega arith in ap (λ (n : ℕ). numbered part n i) q

numbered_snoc : (part : ℕ → Part) (n i : ℕ) → numbered part n i ++ (part (i + n) ∷ []) ≡ numbered part (suc n) i
unfolding numbered
numbered_snoc part zero i = let q : i + 0 ≡ i = omega arith in ap (λ (m : ℕ). part m ∷ []) q
numbered_snoc part (suc n) i = let q : i + suc n ≡ i + 1 + n = omega arith in
    ap (λ (m : ℕ). part i ∷ (numbered part n (i + 1) ++ (part m ∷ []))) q ∙ ap (λ (l : List Part). part i ∷ l) (numbered_snoc part n (i + 1))

pub up_snoc : (part : ℕ → Part) (i j : ℕ) → i ≤ j → up_to part i j ++ (part j ∷ []) ≡ up_to part i (j + 1)
up_snoc part i j h = let q : i + (j - i) ≡ j = omega arith in let r : suc (j - i) ≡ j + 1 - i = omega arith in
    ap (λ (m : ℕ). up_to part i j ++ (part m ∷ [])) (sym q) ∙ numbered_snoc part (j - i) i ∙ ap (λ (n : ℕ). numbered part n i) r

-- ---- a group: the parts at element p from number i on

pub record Scan (part : ℕ → Part) (p e i j : ℕ) : Type 0 where
  pub ordered : i ≤ j
  pub those : here p (up_to part i e) ≡ up_to part i j ++ here p (up_to part j e)
  pub others : after p (up_to part i e) ≡ after p (up_to part j e)

pub scan_start : (part : ℕ → Part) (p e i : ℕ) → Scan part p e i i
scan_start part p e i = record { ordered = omega arith; those = ap (λ (l : List Part). l ++ here p (up_to part i e)) (sym (up_none part i i (omega arith))); others = refl }

pub scan_next : (part : ℕ → Part) (p e i j : ℕ) → Scan part p e i j → j < e → (part j).element ≡ p → Scan part p e i (j + 1)
scan_next part p e i j s h q = record {
  ordered = omega (arith, s.ordered);
  those = s.those
      ∙ ap (λ (l : List Part). up_to part i j ++ l) (ap (here p) (up_some part j e h) ∙ here_same p (part j) (up_to part (j + 1) e) q)
      ∙ sym (append_assoc (up_to part i j) (part j ∷ []) (here p (up_to part (j + 1) e)))
      ∙ ap (λ (l : List Part). l ++ here p (up_to part (j + 1) e)) (up_snoc part i j s.ordered);
  others = s.others ∙ ap (after p) (up_some part j e h) ∙ after_same p (part j) (up_to part (j + 1) e) q;
}

-- the group ends at another element
pub scan_other : (part : ℕ → Part) (p e i j : ℕ) → Scan part p e i j → j < e → ((part j).element ≡ p → ⊥)
    → (here p (up_to part i e) ≡ up_to part i j) × (after p (up_to part i e) ≡ up_to part j e)
scan_other part p e i j s h q = (
  s.those ∙ ap (λ (l : List Part). up_to part i j ++ l) (ap (here p) (up_some part j e h) ∙ here_other p (part j) (up_to part (j + 1) e) q) ∙ append-nil (up_to part i j),
  s.others ∙ ap (after p) (up_some part j e h) ∙ after_other p (part j) (up_to part (j + 1) e) q ∙ sym (up_some part j e h),
)

-- or where there are no more parts
pub scan_end : (part : ℕ → Part) (p e i j : ℕ) → Scan part p e i j → e ≤ j
    → (here p (up_to part i e) ≡ up_to part i j) × (after p (up_to part i e) ≡ up_to part j e)
unfolding here after
scan_end part p e i j s h = (
  s.those ∙ ap (λ (l : List Part). up_to part i j ++ l) (ap (here p) (up_none part j e h)) ∙ append-nil (up_to part i j),
  s.others ∙ ap (after p) (up_none part j e h) ∙ sym (up_none part j e h),
)

-- the calls for a group that was found, and those for the parts behind it
pub row_numbered : (s : Separators) (last : ℕ) (part : ℕ → Part) (p q e i j : ℕ) {x : ℕ} {pen r : Pen} {d d₁ d₂ : List ℕ} → i < e → (part i).element ≡ q → p ≤ q
    → (here q (up_to part i e) ≡ up_to part i j) × (after q (up_to part i e) ≡ up_to part j e)
    → Group s (last_component (up_to part i j)) (component_text (up_to part i j)) q 1 pen d r d₁ → Row s last (q + 1) (up_to part j e) r d₁ x d₂
    → Row s last p (up_to part i e) pen d x d₂
row_numbered s last part p q e i j {x} {pen} {r} {d} {d₁} {d₂} h f k g calls rest =
    let xs : List Part = part i ∷ up_to part (i + 1) e in
    let k' : p ≤ (part i).element = omega arith in
    let calls' : Group s (last_component (here (part i).element xs)) (component_text (here (part i).element xs)) (part i).element 1 pen d r d₁ =
    rw (← up_some part i e h, f, g.0) calls in
    let rest' : Row s last ((part i).element + 1) (after (part i).element xs) r d₁ x d₂ = rw (← up_some part i e h, f, g.1) rest in
    rw (up_some part i e h) (group k' calls' rest')

pub stays_none : (part : ℕ → Part) (p i e : ℕ) → e ≤ i → stays p (up_to part i e) ≡ true
unfolding stays
stays_none part p i e h = ap (stays p) (up_none part i e h)

pub stays_below : (part : ℕ → Part) (p i e : ℕ) → i < e → (part i).element < p → stays p (up_to part i e) ≡ true
unfolding stays
stays_below part p i e h k = ap (stays p) (up_some part i e h) ∙ lt-ltb (part i).element p k

-- ---- the highest number of a filled part: m of those before j

pub high_start : (f : Part → ℕ) (part : ℕ → Part) (i e : ℕ) → highest f (up_to part i e) ≡ max 0 (highest f (up_to part i e))
high_start f part i e = omega arith

-- one part more: whether it is empty, its number, and the higher of both
pub high_next : (f : Part → ℕ) (part : ℕ → Part) (i e j m : ℕ) {x m' : ℕ} {empty : Bool} → highest f (up_to part i e) ≡ max m (highest f (up_to part j e)) → j < e
    → empty ≡ is_empty (part j).text → x ≡ f (part j) → m' ≡ max m (pick empty 0 x)
    → highest f (up_to part i e) ≡ max m' (highest f (up_to part (j + 1) e))
unfolding highest
high_next f part i e j m h k a b c = let q = ap (highest f) (up_some part j e k) in rw (c, a, b) (omega (arith, h, q))

pub high_end : (f : Part → ℕ) (part : ℕ → Part) (i e j m : ℕ) → highest f (up_to part i e) ≡ max m (highest f (up_to part j e)) → e ≤ j → highest f (up_to part i e) ≡ m
unfolding highest
high_end f part i e j m h k = let q : highest f (up_to part j e) ≡ 0 = ap (highest f) (up_none part j e k) in omega (arith, h, q)

-- ---- the first part at component c

module _ (part : ℕ → Part) (i e c j : ℕ) (h : component_text (up_to part i e) c ≡ component_text (up_to part j e) c) where
  pub find_next : j < e → (component_of (part j) ≡ c → ⊥) → component_text (up_to part i e) c ≡ component_text (up_to part (j + 1) e) c
  unfolding component_text
  find_next k q = h ∙ ap (λ (l : List Part). component_text l c) (up_some part j e k) ∙ rw (ne_eqb (component_of (part j)) c q)

  pub find_found : j < e → component_of (part j) ≡ c → component_text (up_to part i e) c ≡ (part j).text
  unfolding component_text
  find_found k q = h ∙ ap (λ (l : List Part). component_text l c) (up_some part j e k) ∙ rw (eq-eqb (component_of (part j)) c q)

  pub find_none : e ≤ j → component_text (up_to part i e) c ≡ []
  unfolding component_text
  find_none k = h ∙ ap (λ (l : List Part). component_text l c) (up_none part j e k)

-- ---- the first part at element p with rank r

module _ (part : ℕ → Part) (i e p r j : ℕ) (h : first_at p r (up_to part i e) ≡ first_at p r (up_to part j e)) where
  pub first_next : j < e → stands_at p r (part j) ≡ false → first_at p r (up_to part i e) ≡ first_at p r (up_to part (j + 1) e)
  unfolding first_at
  first_next k q = h ∙ ap (first_at p r) (up_some part j e k) ∙ rw q

  pub first_found : j < e → stands_at p r (part j) ≡ true → first_at p r (up_to part i e) ≡ Some (part j).text
  unfolding first_at
  first_found k q = h ∙ ap (first_at p r) (up_some part j e k) ∙ rw q

  pub first_none : e ≤ j → first_at p r (up_to part i e) ≡ None
  unfolding first_at
  first_none k = h ∙ ap (first_at p r) (up_none part j e k)

-- ---- whether no part is at element 0

module _ (part : ℕ → Part) (i e j : ℕ) (h : zero_free (up_to part i e) ≡ zero_free (up_to part j e)) where
  pub zero_next : j < e → 0 < (part j).element → zero_free (up_to part i e) ≡ zero_free (up_to part (j + 1) e)
  unfolding zero_free
  zero_next k q = h ∙ ap zero_free (up_some part j e k) ∙ rw (lt-ltb 0 (part j).element q)

  pub zero_found : j < e → (part j).element ≡ 0 → zero_free (up_to part i e) ≡ false
  unfolding zero_free
  zero_found k q = h ∙ ap zero_free (up_some part j e k) ∙ rw (le-ltb 0 (part j).element (omega arith))

  pub zero_none : e ≤ j → zero_free (up_to part i e) ≡ true
  unfolding zero_free
  zero_none k = h ∙ ap zero_free (up_none part j e k)
