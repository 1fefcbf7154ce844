-- What holds of a value holds of it in an Option.
use mathlib.Core.Path.{◌≡◌, subst}
use Rattle.std.specs.Prelude.{Option, Some, None}

pub of_some : {A : Type 0} (P : A → Type 0) (a : A) → P a → (b : A) → ◌≡◌ {A = Option A} (Some a) (Some b) → P b
of_some P a x b e = let q : a ≡ b = cc in subst P q x

pub not_none : {A : Type 0} (a : A) → ◌≡◌ {A = Option A} (Some a) None → ⊥
not_none a e = cc
