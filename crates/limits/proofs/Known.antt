-- What a test that tells the places of parts was.
use Rattle.std.specs.Prelude.{ℕ, ◌≡◌, Bool, true, false, Option, Some, None}
use Rattle.std.proofs.Common.{subst}
use Rattle.limits.specs.declared.Parts.{Parts}
use Rattle.limits.specs.Parts.{ClearParts}

pub no_parts : (r : Option Parts) (t : Bool) (m n : ℕ) → ClearParts r t m n → r ≡ None → t ≡ true
no_parts r t m n k h = subst (λ x. ClearParts x t m n) h k

pub some_parts : (r : Option Parts) (p : Parts) (t : Bool) (m n : ℕ) → ClearParts r t m n → r ≡ Some p → (t ≡ false) × (p.roots ≡ m) × (p.tables ≡ n)
some_parts r p t m n k h = subst (λ x. ClearParts x t m n) h k
