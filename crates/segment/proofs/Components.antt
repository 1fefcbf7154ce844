-- The components of an element, as far as they are written.
use Prim.Native.Nat.{ℕ, ◌+◌, ◌≤◌, ◌<◌}
use mathlib.Core.Path.{◌≡◌, refl, ◌∙◌}
use mathlib.Core.List.{List}
use native.Mathlib.Omega.{arith}
use lib.ListN.{length}
use Rattle.lent.proofs.Laws.{stored_length}
use Rattle.segment.specs.declared.Separators.{Separators}
use Rattle.segment.specs.declared.Pen.{Pen}
use Rattle.segment.specs.Pen.{placed, finished, Penned}
use Rattle.segment.specs.Group.{Group, next, finish}

abbrev pub GroupSoFar : Separators → ℕ → (ℕ → List ℕ) → ℕ → Pen → List ℕ → ℕ → Pen → List ℕ → Type 0
GroupSoFar s k f p pen d c t d₁ = (c ≤ k + 1) × (length d₁ ≡ length d) × ((r : Pen) (d₂ : List ℕ) → Group s k f p c t d₁ r d₂ → Group s k f p 1 pen d r d₂)

module _ {s : Separators} {k : ℕ} {f : ℕ → List ℕ} {p : ℕ} {pen : Pen} {d : List ℕ} where
  pub group_start : GroupSoFar s k f p pen d 1 pen d
  group_start = (omega arith, refl, λ r d₂ g. g)

  pub group_next : {c : ℕ} {t u : Pen} {d₁ d₂ text : List ℕ} → c ≤ k → GroupSoFar s k f p pen d c t d₁ → text ≡ f c → Penned (placed s t p c text) t.at u d₁ d₂ → GroupSoFar s k f p pen d (c + 1) u d₂
  group_next h w e q = (omega arith, stored_length _ q.stored ∙ w.1, λ r d₃ g. w.2 r d₃ (next (omega arith) (rw e at q) g))

  pub group_end : {c : ℕ} {t u : Pen} {d₁ d₂ : List ℕ} → k < c → GroupSoFar s k f p pen d c t d₁ → Penned (finished s t p k) t.at u d₁ d₂ → Group s k f p 1 pen d u d₂
  group_end {u = u} {d₂ = d₂} h w q = w.2 u d₂ (finish (omega (arith, w.0)) q)
