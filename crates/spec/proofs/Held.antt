-- Whether the byte at a place is 0, by what was answered of it.
use Prim.Native.Nat.{ℕ, zero, suc}
use mathlib.Core.Path.{◌≡◌, refl, sym, ◌∙◌}
use mathlib.Core.List.{List}
use mathlib.Core.Bool.{Bool, true, false, true≢false}
use lib.ListN.{get_or}
use native.Mathlib.Omega.{arith}
use Rattle.spec.specs.Reads.{ByteSays}

zero_or : {P : Type 0} (n : ℕ) → (n ≡ 0 → P) → ((n ≡ 0 → ⊥) → P) → P
zero_or zero y n = y refl
zero_or (suc k) y n = n (λ q. omega (arith, q))

module _ {b : List ℕ} {at : ℕ} {t : Bool} (s : ByteSays b at t) where
  pub is_unset : t ≡ false → get_or b at 0 ≡ 0
  is_unset h = zero_or (get_or b at 0) (λ q. q) (λ q. absurd (true≢false (sym (s.set q) ∙ h)))

  pub is_set : t ≡ true → get_or b at 0 ≡ 0 → ⊥
  is_set h q = true≢false (sym h ∙ s.unset q)
