-- What each way through the writing functions shows.
use Prim.Native.Nat.{ℕ, ◌-◌, ◌≤◌, ◌<◌}
use mathlib.Core.Path.{◌≡◌}
use mathlib.Core.List.{List, [], ◌∷◌, ◌++◌, append-nil}
use mathlib.Core.Bool.{true, false}
use native.Mathlib.Omega.{arith}
use lib.ListN.{length, replicate}
use borrow.Author.Tests.{lt-ltb, le-ltb}
use Rattle.lent.specs.Fit.{cap, more, Stored}
use Rattle.lent.proofs.Laws.{stored_append, stored_none}
use Rattle.segment.specs.declared.Separators.{Separators}
use Rattle.segment.specs.declared.Pen.{Pen}
use Rattle.segment.specs.Joining.{line_feed}
use Rattle.segment.specs.Parts.{is_empty}
use Rattle.segment.specs.Pen.{components_in, due, nothing, reached, placed, finished, ending, Penned}
use Rattle.segment.specs.Values.{closing}

-- ---- separators

pub still : (pen : Pen) (p : ℕ) → p ≤ pen.elements → components_in pen p ≡ pen.components
still pen p h = simp (le-ltb pen.elements p h)

pub anew : (pen : Pen) (p : ℕ) → pen.elements < p → components_in pen p ≡ 0
anew pen p h = simp (lt-ltb pen.elements p h)

pub stored_due : (s : Separators) (pen : Pen) (p c : ℕ) {stand back m n a b : ℕ} {d d₁ d₂ : List ℕ}
    → stand ≡ components_in pen p → back ≡ c - 1 → m ≡ back - stand → n ≡ p - pen.elements → length d ≤ cap
    → Stored d pen.at (replicate n s.element) a d₁ → Stored d₁ a (replicate m s.component) b d₂ → Stored d pen.at (due s pen p c) b d₂
unfolding due
stored_due s pen p c es eb em en h x y = rw (en, em, eb, es) at (stored_append _ _ h x y)

-- r stands at component c of element p
abbrev pub Reaches : ℕ → ℕ → ℕ → Pen → Type 0
Reaches at p c r = (r.at ≡ at) × (r.elements ≡ p) × (r.components ≡ c - 1)

pub penned_text : (s : Separators) (pen : Pen) (p c : ℕ) (text : List ℕ) {at : ℕ} {r : Pen} {d d' : List ℕ} → is_empty text ≡ false
    → Stored d pen.at (due s pen p c ++ text) at d' → Reaches at p c r → Penned (placed s pen p c text) pen.at r d d'
unfolding placed
penned_text s pen p c text e x h = rw e (record { stored = rw h.0 x; elements = h.1; components = h.2 })

pub penned_due : (s : Separators) (pen : Pen) (p c : ℕ) {at : ℕ} {r : Pen} {d d' : List ℕ} → Stored d pen.at (due s pen p c) at d' → Reaches at p c r → Penned (reached s pen p c []) pen.at r d d'
penned_due s pen p c x h = record { stored = rw (h.0, append-nil) x; elements = h.1; components = h.2 }

pub penned_none : (pen : Pen) {r : Pen} {d : List ℕ} → (r.at ≡ more pen.at 0) × (r.elements ≡ pen.elements) × (r.components ≡ pen.components)
    → Penned (nothing pen) pen.at r d d
penned_none pen {r} {d} h = record { stored = rw h.0 (stored_none d pen.at); elements = h.1; components = h.2 }

pub placed_none : (s : Separators) (pen : Pen) (p c : ℕ) (text : List ℕ) → is_empty text ≡ true → placed s pen p c text ≡ nothing pen
unfolding placed
placed_none s pen p c text e = rw e

pub finished_none : (s : Separators) (pen : Pen) (p c : ℕ) → c < 2 → finished s pen p c ≡ nothing pen
unfolding finished
finished_none s pen p c h = rw (le-ltb 1 c (omega arith))

pub finished_some : (s : Separators) (pen : Pen) (p c : ℕ) → 2 ≤ c → finished s pen p c ≡ reached s pen p c []
unfolding finished
finished_some s pen p c h = rw (lt-ltb 1 c h)

-- ---- the end of a segment

pub ending_break : (s : Separators) → s.line_break ≡ true → ending s ≡ s.segment ∷ 10 ∷ []
unfolding ending line_feed
ending_break s e = rw e

pub ending_none : (s : Separators) → s.line_break ≡ false → ending s ≡ s.segment ∷ []
unfolding ending line_feed
ending_none s e = rw e

pub stored_closing : (s : Separators) (pen : Pen) (last : ℕ) {n a b : ℕ} {d d₁ d₂ : List ℕ} → length d ≤ cap → n ≡ last - pen.elements
    → Stored d pen.at (replicate n s.element) a d₁ → Stored d₁ a (ending s) b d₂ → Stored d pen.at (closing s pen last) b d₂
unfolding closing
stored_closing s pen last h e x y = rw e at (stored_append _ _ h x y)
