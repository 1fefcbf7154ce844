-- A number and sizes, of what may have more that is tested.
use Rattle.std.specs.Prelude.{ℕ, ◌≡◌, List, ◌∷◌, Bool, true, false, Option, Some, None}
use mathlib.Core.Path.{refl, sym, ◌∙◌}
use native.Mathlib.Omega.{arith}
use Rattle.codec.specs.Codec.{pick}
use Rattle.codec.specs.Limits.{any}
use Rattle.std.proofs.lemmas.Option.{same_Some}

pub joined : (a d : Bool) (ts : List Bool) → pick a true d ≡ true → any (a ∷ d ∷ ts) ≡ true
unfolding any
joined true d ts h = refl
joined false true ts h = refl
joined false false ts h = absurd (let z : ◌≡◌ {A = ℕ} 0 1 = cc in omega arith)

pub parted : (a d : Bool) (ts : List Bool) → pick a true d ≡ false → any ts ≡ false → any (a ∷ d ∷ ts) ≡ false
unfolding any
parted true d ts h i = absurd (let z : ◌≡◌ {A = ℕ} 0 1 = cc in omega arith)
parted false true ts h i = absurd (let z : ◌≡◌ {A = ℕ} 0 1 = cc in omega arith)
parted false false ts h i = i

pub later : (a d : Bool) (ts : List Bool) → any ts ≡ true → any (a ∷ d ∷ ts) ≡ true
unfolding any
later true d ts h = refl
later false true ts h = refl
later false false ts h = h

-- what it told
pub told_over : (t : Bool) (r : Option ℕ) (n : ℕ) → r ≡ pick t None (Some n) → r ≡ None → t ≡ true
told_over true r n h i = refl
told_over false r n h i = absurd (let z : ◌≡◌ {A = ℕ} 0 1 = cc in omega arith)

pub told_behind : (t : Bool) (r : Option ℕ) (n k : ℕ) → r ≡ pick t None (Some n) → r ≡ Some k → (t ≡ false) × (k ≡ n)
told_behind true r n k h i = absurd (let z : ◌≡◌ {A = ℕ} 0 1 = cc in omega arith)
told_behind false r n k h i = (refl, same_Some _ _ (sym i ∙ h))
