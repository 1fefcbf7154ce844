-- The order of two byte strings, by a count over the bytes that both have.
use Prim.Native.Nat.{ℕ, ◌+◌, ◌-◌, ◌≤◌, ◌<◌, min}
use Rattle.std.specs.Prelude.{◌≡◌, List, Bool, get_or, ltb}
use Rattle.std.proofs.Common.{◌∙◌, lt-ltb, le-ltb, ⊎_elim}
use Rattle.std.proofs.lemmas.Bool.{cases_lt}
use native.Mathlib.Omega.{arith}
use Rattle.codec.specs.Codec.{le}
use Rattle.codec.specs.Strings.{less_at, less_from}
use Rattle.codec.proofs.Strings.{less_yes, less_no, less_more, less_short, less_ends}

pub less_start : (b : List ℕ) (p q n m : ℕ) → n ≡ le 4 b p → m ≡ le 4 b q → less_at b p q ≡ less_from b (n - 0) (m - 0) (p + 4 + 0) (q + 4 + 0)
unfolding less_at
less_start b p q n m e f =
    let u : n - 0 ≡ le 4 b p = omega (arith, e) in
    let v : m - 0 ≡ le 4 b q = omega (arith, f) in
    let s : p + 4 + 0 ≡ p + 4 = omega arith in
    let t : q + 4 + 0 ≡ q + 4 = omega arith in
    rw (u, v, s, t)

module _ (b : List ℕ) (n m p q k : ℕ) (a : Bool) (i : a ≡ less_from b (n - k) (m - k) (p + k) (q + k)) where
  module _ (x y : ℕ) (h : k < min n m) (f : x ≡ get_or b (p + k) 0) (g : y ≡ get_or b (q + k) 0) where
    pub less_apart : (x ≡ y → ⊥) → ltb x y ≡ a
    less_apart o = ⊎_elim (λ l. lt-ltb x y l ∙ less_yes _ _ _ _ _ _ _ _ i (omega arith) (omega arith) f g l) (λ l. le-ltb x y l ∙ less_no _ _ _ _ _ _ _ _ i (omega arith) (omega arith) f g l o) (cases_lt x y)

    pub less_next_byte : x ≡ y → a ≡ less_from b (n - (k + 1)) (m - (k + 1)) (p + (k + 1)) (q + (k + 1))
    less_next_byte e =
        let u : n - (k + 1) ≡ n - k - 1 = omega arith in
        let v : m - (k + 1) ≡ m - k - 1 = omega arith in
        let s : p + (k + 1) ≡ p + k + 1 = omega arith in
        let t : q + (k + 1) ≡ q + k + 1 = omega arith in
        less_more _ _ _ _ _ _ _ _ i (omega arith) (omega arith) f g (omega arith) e ∙ rw (u, v, s, t)

  pub less_over : min n m ≤ k → k ≤ min n m → ltb n m ≡ a
  less_over h l = ⊎_elim (λ d. lt-ltb n m d ∙ less_short _ _ _ _ _ _ i (omega arith) (omega arith)) (λ d. le-ltb n m d ∙ less_ends _ _ _ _ _ _ i (omega arith)) (cases_lt n m)
