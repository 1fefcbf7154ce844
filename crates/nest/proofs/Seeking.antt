-- The ways through the searches by a test.
use Prim.Native.Nat.{ℕ, ◌+◌, ◌≤◌, ◌<◌}
use mathlib.Core.Path.{◌≡◌, refl, sym, ◌∙◌}
use mathlib.Core.Bool.{Bool, true, false, false≢true}
use native.Mathlib.Omega.{arith}
use Rattle.nest.specs.Seek.{Turns, SplitAt}

-- of the numbers from low on, below high, p passes at those before a, and at none from b on
pub record Halving (p : ℕ → Bool) (low high a b : ℕ) : Type 0 where
  pub before : (i : ℕ) → low ≤ i → i < a → p i ≡ true
  pub rest : (i : ℕ) → b ≤ i → i < high → p i ≡ false

module _ (p : ℕ → Bool) (low high : ℕ) where
  module _ (a b mid : ℕ) (w : Halving p low high a b) (t : Turns p high) where
    pub halving_low : mid < high → p mid ≡ true → Halving p low high (mid + 1) b
    halving_low h e = record { before = λ i l k. t i mid (omega arith) h e; rest = w.rest }

    pub halving_high : p mid ≡ false → Halving p low high a mid
    halving_high e = record { before = w.before; rest = λ i h k. go i h k (p i) refl }
      where
        go : (i : ℕ) → mid ≤ i → i < high → (b : Bool) → p i ≡ b → p i ≡ false
        go i h k true q = absurd (false≢true (sym e ∙ t mid i h k q))
        go i h k false q = q

  pub halved : (a b : ℕ) → low ≤ a → a ≤ b → b ≤ high → b ≤ a → Halving p low high a b → SplitAt p low high a
  halved a b h k m n w = record { after = h; within = omega arith; before = w.before; rest = λ i q s. w.rest i (omega arith) s }
