-- How a decimal is read (X12.6, decimal data elements): a minus sign, digits, and digits behind a point; and that each text of Number reads back as
-- its number (docs/RULES.md, "Numbers").
use Rattle.std.specs.Prelude.{◌≡◌, ◌≢◌, ℕ, ◌+◌, ◌-◌, ◌*◌, ◌^◌, ◌<◌, ◌≤◌, ℤ, nat_abs, Bool, false, cond, List, [], ◌∷◌, ◌++◌, All, length, ◌==◌, Some, slice_get}
use Rattle.texts.specs.Number.{size, count_text, int_text, decimal_text, negative}

-- the number of digits that follow a number n
unfoldable pub worth : ℕ → List ℕ → ℕ
worth n [] = n
worth n (d ∷ ds) = worth (n * 10 + (d - 48)) ds

unfoldable pub before_point : List ℕ → List ℕ
before_point [] = []
before_point (d ∷ ds) = cond (d == 46) [] (d ∷ before_point ds)

unfoldable pub after_point : List ℕ → List ℕ
after_point [] = []
after_point (d ∷ ds) = cond (d == 46) ds (after_point ds)

abbrev pub is_minus : List ℕ → Bool
is_minus [] = false
is_minus (d ∷ ds) = d == 45

abbrev pub unsigned : List ℕ → List ℕ
unsigned [] = []
unsigned (d ∷ ds) = cond (d == 45) ds (d ∷ ds)

-- how many digits stand behind the point, and the number of all digits
unfoldable pub places : List ℕ → ℕ
places t = length (after_point (unsigned t))

unfoldable pub number : List ℕ → ℕ
number t = worth 0 (before_point (unsigned t) ++ after_point (unsigned t))

-- the digits 0 to 9
abbrev pub IsDigit : ℕ → Type 0
IsDigit d = (48 ≤ d) × (d ≤ 57)

-- text t reads back as the number z of that scale
pub record SpellsBack (z : ℤ) (scale : ℕ) (t : List ℕ) : Type 0 where
  -- a minus sign for numbers below zero alone
  pub sign : is_minus t ≡ negative z
  -- behind the minus there are digits alone, with one point at most
  pub digits : All IsDigit (before_point (unsigned t) ++ after_point (unsigned t))
  -- at least one digit in front of the point
  pub whole : before_point (unsigned t) ≢ []
  -- no more places than the scale has
  pub few : places t ≤ scale
  -- the digits are the number, once the places that are left out are added as zeros
  pub value : number t * 10 ^ (scale - places t) ≡ nat_abs z

-- The texts of numbers read back as the numbers: a law of these definitions.
pub record NumbersSpell : Type 0 where
  -- a decimal of any scale
  pub decimal : (z : ℤ) (scale : ℕ) → SpellsBack z scale (decimal_text z scale)
  -- a whole number
  pub whole : (z : ℤ) → SpellsBack z 0 (int_text z)
  -- of two digits or more none starts with a zero
  pub no_leading_zero : (n : ℕ) → 1 < size n → slice_get (count_text n) 0 ≢ Some 48
