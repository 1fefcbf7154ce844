-- The plain forms of a job: numbers, byte strings, options, yes or no (docs/RULES.md, "Structures").
use Rattle.std.specs.Prelude.{ℕ, ◌≡◌, refl, List, ◌⊎◌, Bool, true, false, Option, None, Some}
use Rattle.std.proofs.Common.{inl, inr}
use Rattle.codec.specs.Codec.{Codec, le_c, unit_c, map_c, enum_c, ◌⊕◌, end_c, Units, units_c, list_c}

abbrev pub num_c : Codec ℕ
num_c = le_c 4

abbrev pub byte_c : Codec ℕ
byte_c = le_c 1

abbrev pub long_c : Codec ℕ
long_c = le_c 8

abbrev pub wide_c : Codec ℕ
wide_c = le_c 16

abbrev pub bytes_c : Codec (List ℕ)
bytes_c = list_c byte_c

-- ---- options
module _ {A : Type 0} where
  abbrev pub to_opt : Unit {0} ⊎ (A ⊎ ⊥) → Option A
  to_opt (inl x) = None
  to_opt (inr (inl x)) = Some x
  to_opt (inr (inr z)) = absurd z

  abbrev pub of_opt : Option A → Unit {0} ⊎ (A ⊎ ⊥)
  of_opt None = inl tt
  of_opt (Some x) = inr (inl x)

  pub opt_to_of : (v : Option A) → to_opt (of_opt v) ≡ v
  opt_to_of None = refl
  opt_to_of (Some x) = refl

  pub opt_of_to : (v : Unit {0} ⊎ (A ⊎ ⊥)) → of_opt (to_opt v) ≡ v
  opt_of_to (inl x) = refl
  opt_of_to (inr (inl x)) = refl
  opt_of_to (inr (inr z)) = absurd z

unfoldable pub opt_c : {A : Type 0} → Codec A → Codec (Option A)
opt_c C = map_c to_opt of_opt opt_to_of opt_of_to (enum_c (unit_c ⊕ C ⊕ end_c))

-- ---- flags
abbrev pub to_flag : Units 2 → Bool
to_flag (inl x) = false
to_flag (inr (inl x)) = true
to_flag (inr (inr z)) = absurd z

abbrev pub of_flag : Bool → Units 2
of_flag false = inl tt
of_flag true = inr (inl tt)

pub flag_to_of : (v : Bool) → to_flag (of_flag v) ≡ v
flag_to_of false = refl
flag_to_of true = refl

pub flag_of_to : (v : Units 2) → of_flag (to_flag v) ≡ v
flag_of_to (inl x) = refl
flag_of_to (inr (inl x)) = refl
flag_of_to (inr (inr z)) = absurd z

unfoldable pub flag_c : Codec Bool
flag_c = map_c to_flag of_flag flag_to_of flag_of_to (enum_c (units_c 2))
