-- Numbers of four bytes.
use Prim.Native.Nat.{ℕ, ◌+◌, ◌-◌, ◌*◌, ◌<◌}
use Rattle.std.specs.Prelude.{◌≡◌, List, get_or, take, drop}
use Rattle.std.proofs.lemmas.List.{get_or-take, get_or-drop}
use Rattle.std.proofs.Common.{sym, ◌∙◌}
use Rattle.codec.specs.Codec.{le}
use Rattle.codec.proofs.Ways.{le_four}
use native.Mathlib.Omega.{arith}

-- a byte of the four that stand at a place
pub byte_of : (b : List ℕ) (at i : ℕ) → i < 4 → get_or (take 4 (drop at b)) i 0 ≡ get_or b (at + i) 0
byte_of b at i q = get_or-take 4 (drop at b) i 0 q ∙ get_or-drop at b i 0

-- the number of the four bytes that stand at a place, the lowest first
pub four_bytes : (b ys : List ℕ) (at : ℕ) → ys ≡ take (at + 4 - at) (drop at b)
    → get_or ys 0 0 + get_or ys 1 0 * 256 + get_or ys 2 0 * 65536 + get_or ys 3 0 * 16777216 ≡ le 4 b at
four_bytes b ys at e =
    let four : at + 4 - at ≡ 4 = omega arith in
    let here : at + 0 ≡ at = omega arith in
    let first : get_or (take 4 (drop at b)) 0 0 ≡ get_or b at 0 = cc (here, byte_of b at 0 (omega arith)) in
    let whole : ys ≡ take 4 (drop at b) = rw (sym four) e in
    rw whole (omega (arith, first, byte_of b at 1 (omega arith), byte_of b at 2 (omega arith), byte_of b at 3 (omega arith), le_four b at))
