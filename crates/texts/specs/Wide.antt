-- Two's complement, as Rust's signed integers have it: from half of the range on, the bits stand for a negative number.
use Rattle.std.specs.Prelude.{ℕ, ◌+◌, ◌-◌, ◌^◌, cond, ℤ, pos, negsuc, nat_lt}

-- the number that n stands for, where negative numbers begin at half; negsuc k is -(k + 1)
unfoldable pub signed : ℕ → ℕ → ℤ
signed half n = cond (nat_lt n half) (pos n) (negsuc (half + half - 1 - n))

abbrev pub signed64 : ℕ → ℤ
signed64 n = signed (2 ^ 63) n

abbrev pub signed128 : ℕ → ℤ
signed128 n = signed (2 ^ 127) n
