-- Not to be believed: words of inner contracts, beside those of Floor, on which no contract of what users call rests.
use Rattle.std.specs.Prelude.{ℕ, Bool, true, false, ℤ, pos, negsuc, nat_le, Option, Some, None}

abbrev pub pick_ranged : Bool → Option ℕ → Option ℕ → Option ℕ
pick_ranged true a b = a
pick_ranged false a b = b

-- a number from low to high
unfoldable pub ranged_of : ℕ → ℕ → ℤ → Option ℕ
ranged_of low high (pos n) = pick_ranged (nat_le low n) (pick_ranged (nat_le n high) (Some n) None) None
ranged_of low high (negsuc n) = None
