-- Laws of the definitions of specs/Floor, and words that only proofs use.
use Rattle.std.specs.Prelude.{ℕ, ◌-◌, ◌/◌, ◌%◌, ℤ, pos, negsuc}

-- the quotient rounded down: negsuc n is -(n + 1), and its quotient lies in the same block of k, counted down from -1
abbrev pub floor_div : ℤ → ℕ → ℤ
floor_div (pos n) k = pos (n / k)
floor_div (negsuc n) k = negsuc (n / k)

-- what is left, from 0 up to k - 1
abbrev pub floor_rem : ℤ → ℕ → ℕ
floor_rem (pos n) k = n % k
floor_rem (negsuc n) k = k - 1 - n % k
