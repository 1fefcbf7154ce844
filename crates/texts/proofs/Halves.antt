-- Laws of numbers in halves. A base stays a variable where omega would meet a number above 38 digits.
use Rattle.std.proofs.Common.{◌≡◌, ℕ, ◌+◌, ◌*◌, ◌<◌, ◌≤◌, mul-le-mul_right, add-mul, arith}

pub below_half : (B H lo hi : ℕ) → lo < B → hi < H → lo + hi * B < H * B
below_half B H lo hi h k =
    let m : (hi + 1) * B ≤ H * B = mul-le-mul_right B (omega arith) in
    let f : (hi + 1) * B ≡ hi * B + 1 * B = add-mul hi 1 B in
    omega arith

pub from_half : (B H lo hi : ℕ) → H ≤ hi → H * B ≤ lo + hi * B
from_half B H lo hi h = let m : H * B ≤ hi * B = mul-le-mul_right B h in omega arith
