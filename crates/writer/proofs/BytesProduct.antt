-- Products of numbers that share a sum.
use Prim.Native.Nat.{ℕ, zero, suc, ◌+◌, ◌-◌, ◌*◌, ◌/◌, ◌≤◌}
use mathlib.Core.Path.{◌≡◌}
use mathlib.Core.Logic.{◌⊎◌, inl, inr}
use native.Mathlib.Omega.{arith}
use native.Mathlib.Nat.{add-mul, mul-add, mul_comm, mul_assoc, mul_right_comm, mul-mul-mul_comm, mul-le-mul, mul-le-mul_right}

-- two numbers: four times their product is no more than the square of the sum
square_apart : (a d : ℕ) → 4 * (a * (a + d)) ≤ (a + (a + d)) * (a + (a + d))
square_apart a d = omega (arith, mul-add a a d, mul-add (a + (a + d)) a (a + d), mul-add (a + (a + d)) a d, add-mul a (a + d) a, add-mul a (a + d) d, add-mul a d a, add-mul a d d, mul_comm d a)

pub two : (a b : ℕ) → 4 * (a * b) ≤ (a + b) * (a + b)
two a b = go (le_or a b)
  where
    le_or : (a b : ℕ) → (a ≤ b) ⊎ (b ≤ a)
    le_or zero b = inl (omega arith)
    le_or (suc a) zero = inr (omega arith)
    le_or (suc a) (suc b) = next (le_or a b)
      where
        next : (a ≤ b) ⊎ (b ≤ a) → (suc a ≤ suc b) ⊎ (suc b ≤ suc a)
        next (inl h) = inl (omega arith)
        next (inr h) = inr (omega arith)

    go : (a ≤ b) ⊎ (b ≤ a) → 4 * (a * b) ≤ (a + b) * (a + b)
    go (inl h) = let e : b ≡ a + (b - a) = omega arith in rw e (square_apart a (b - a))
    go (inr h) =
        let e : a ≡ b + (a - b) = omega arith in
        let c : a * b ≡ b * a = mul_comm a b in
        let s : a + b ≡ b + a = omega arith in
        rw (c, s) (rw e (square_apart b (a - b)))

-- ---- the cells of one column: k rows with 12 bytes each and D bytes of texts

-- the square that the data's bytes allow, 48 times what one planned element gives
abbrev pub quota : ℕ → ℕ
quota X = (X + 383) * (X + 383) / 48

pub shared : (k D X : ℕ) → k * 12 + D ≤ X → k * (D + 303) ≤ quota X
shared k D X h =
    let s : k * 12 + (D + 303) ≤ X + 383 = omega arith in
    omega (arith, two (k * 12) (D + 303), mul_right_comm k 12 (D + 303), mul-le-mul s s)

-- rows with eight bytes each
pub shared_rows : (a X : ℕ) → a * 8 ≤ X → a * 255 ≤ quota X
shared_rows a X h = omega (arith, two X 383)

-- ---- items, elements and cells

pub product : (W E Q Y L P : ℕ) → W * 5 ≤ L → E * 10 ≤ P → Q * 48 ≤ Y * Y → L + P + Y ≤ 65895 → W * (E * Q) ≤ 122750000000000
product W E Q Y L P w e q h =
    let A : ℕ = L + P in
    let n : ℕ = W * E * Q in
    let planned : W * 5 * (E * 10) ≤ L * P = mul-le-mul w e in
    let left : W * 5 * (E * 10) * (Q * 48) ≤ L * P * (Y * Y) = mul-le-mul planned q in
    let e₁ : W * 5 * (E * 10) ≡ W * E * 50 = mul-mul-mul_comm W 5 E 10 in
    let e₂ : W * E * 50 * (Q * 48) ≡ W * E * Q * 2400 = mul-mul-mul_comm (W * E) 50 Q 48 in
    let small : n * 2400 ≤ L * P * (Y * Y) = rw (← e₂) (rw (← e₁) left) in
    let e₃ : A * A * (Y * Y) ≡ A * Y * (A * Y) = mul-mul-mul_comm A A Y Y in
    let four : 4 * (L * P) * (Y * Y) ≤ A * A * (Y * Y) = mul-le-mul_right (Y * Y) (two L P) in
    let e₄ : 4 * (L * P) * (Y * Y) ≡ 4 * (L * P * (Y * Y)) = mul_assoc 4 (L * P) (Y * Y) in
    let top : (A + Y) * (A + Y) ≤ 65895 * 65895 = mul-le-mul h h in
    let side : A * Y ≤ 1085537756 = omega (arith, two A Y) in
    let square : A * Y * (A * Y) ≤ 1085537756 * 1085537756 = mul-le-mul side side in
    rw (← mul_assoc W E Q) (omega (arith, small, e₃, four, e₄, square))
