-- Findings, and each as a flat record of ten numbers (write/finding.rs; docs/RULES.md, "Findings"); the values
-- stand in the order of the listing's lines.
use Rattle.std.specs.Prelude.{ℕ, suc, ◌+◌, ◌*◌, List, [], ◌∷◌, Option, None, Some}
use Rattle.nest.specs.Lists.{on}

-- where a text comes from: a cell, or a field of the envelope by its case in `Field`
pub data Origin : Type 0 where
  cell : (table row column : ℕ) → Origin
  field : (case : ℕ) → Origin

-- the element that a text fills: its segment's identifier, by bytes, its element, its component if it has one
pub record Place : Type 0 where
  pub identifier : List ℕ
  pub element : ℕ
  pub component : Option ℕ

-- keys, references and values stand as 64 bits
pub data Finding : Type 0 where
  duplicate : (table row key first_row : ℕ) → Finding  -- DR
  missing : (table row parent : ℕ) (value : Option ℕ) → Finding  -- MP
  mismatch : (table row ancestor value parent parent_row expected : ℕ) → Finding  -- MR
  out_of_order : (table row above reference highest : ℕ) → Finding  -- OO
  delimiter : (origin : Origin) (place : Place) (byte role : ℕ) → Finding  -- DV
  not_writable : (origin : Origin) (place : Place) (reason : ℕ) → Finding  -- NW

-- ---- as numbers

-- bytes as a number to the base 256, the first the highest
abbrev pub number_from : ℕ → List ℕ → ℕ
number_from n [] = n
number_from n (b ∷ bs) = number_from (n * 256 + b) bs

-- a number that may be missing
abbrev pub or_zero : Option ℕ → ℕ
or_zero x = on x suc 0

-- of a text: its origin and its place, in seven numbers, then two more
abbrev pub of_text : ℕ → Origin → Place → ℕ → ℕ → List ℕ
of_text kind (cell t r c) p a b = kind ∷ 0 ∷ t ∷ r ∷ c ∷ number_from 0 p.identifier ∷ p.element ∷ or_zero p.component ∷ a ∷ b ∷ []
of_text kind (field f) p a b = kind ∷ 1 ∷ f ∷ 0 ∷ 0 ∷ number_from 0 p.identifier ∷ p.element ∷ or_zero p.component ∷ a ∷ b ∷ []

abbrev pub of_value : ℕ → ℕ → ℕ → Option ℕ → List ℕ
of_value t r u None = 1 ∷ t ∷ r ∷ u ∷ 0 ∷ 0 ∷ 0 ∷ 0 ∷ 0 ∷ 0 ∷ []
of_value t r u (Some v) = 1 ∷ t ∷ r ∷ u ∷ 1 ∷ v ∷ 0 ∷ 0 ∷ 0 ∷ 0 ∷ []

unfoldable pub record_of : Finding → List ℕ
record_of (duplicate t r k f) = 0 ∷ t ∷ r ∷ k ∷ f ∷ 0 ∷ 0 ∷ 0 ∷ 0 ∷ 0 ∷ []
record_of (missing t r u v) = of_value t r u v
record_of (mismatch t r a v u p e) = 2 ∷ t ∷ r ∷ a ∷ v ∷ u ∷ p ∷ e ∷ 0 ∷ 0 ∷ []
record_of (out_of_order t r a v h) = 3 ∷ t ∷ r ∷ a ∷ v ∷ h ∷ 0 ∷ 0 ∷ 0 ∷ 0 ∷ []
record_of (delimiter o p b role) = of_text 4 o p b role
record_of (not_writable o p reason) = of_text 5 o p reason 0
