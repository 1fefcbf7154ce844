-- Numbers as X12 writes them: decimal digits, a minus sign in front where negative, a decimal point only before a fraction
-- (X12.6, numeric and decimal data elements). Trailing zeros of a fraction go, and its point with them (docs/RULES.md, "Numbers").
use Rattle.std.specs.Prelude.{ℕ, zero, suc, ◌+◌, ◌/◌, ◌%◌, ◌^◌, Bool, true, false, cond, List, [], ◌∷◌, ◌++◌, ℤ, pos, negsuc, ◌==◌, nat_lt, unsigned_abs}

-- the digit of n at place i, counted from the right, the ones at place 0
abbrev pub digit : ℕ → ℕ → ℕ
digit n i = n / 10 ^ i % 10

-- the lowest k places of n as text, the highest first; 48 is the digit 0
unfoldable pub figures : ℕ → ℕ → List ℕ
figures zero n = []
figures (suc k) n = (48 + digit n k) ∷ figures k n

-- the first number from k on that passes, if one of the next f does
unfoldable pub first_from : (ℕ → Bool) → ℕ → ℕ → ℕ
first_from p zero k = k
first_from p (suc f) k = cond (p k) k (first_from p f (k + 1))

-- how many digits n is written with: the least k from 1 on with n < 10 ^ k
unfoldable pub size : ℕ → ℕ
size n = first_from (λ k. nat_lt n (10 ^ k)) n 1

unfoldable pub count_text : ℕ → List ℕ
count_text n = figures (size n) n

-- 45 is the minus sign, 46 the point
abbrev pub minus : Bool → List ℕ
minus true = 45 ∷ []
minus false = []

abbrev pub negative : ℤ → Bool
negative (pos n) = false
negative (negsuc n) = true

unfoldable pub int_text : ℤ → List ℕ
int_text z = minus (negative z) ++ count_text (unsigned_abs z)

-- a digit in front of what is left of those behind it
abbrev pub before : ℕ → List ℕ → List ℕ
before d [] = cond (d == 48) [] (d ∷ [])
before d (e ∷ es) = d ∷ e ∷ es

-- digits without their trailing zeros
unfoldable pub trimmed : List ℕ → List ℕ
trimmed [] = []
trimmed (d ∷ ds) = before d (trimmed ds)

-- a point before a fraction, if there is one
abbrev pub pointed : List ℕ → List ℕ
pointed [] = []
pointed (d ∷ ds) = 46 ∷ d ∷ ds

-- n / 10 ^ scale in fixed point: the digits before the point, and the lowest `scale` places behind it
unfoldable pub fixed_text : ℕ → ℕ → List ℕ
fixed_text n scale = count_text (n / 10 ^ scale) ++ pointed (trimmed (figures scale n))

unfoldable pub decimal_text : ℤ → ℕ → List ℕ
decimal_text z scale = minus (negative z) ++ fixed_text (unsigned_abs z) scale
