use Rattle.std.proofs.Common.{ℕ, List, Bool, true, false, ◌≡◌, refl, arith, eqb-true, ltb-true, ltb-false}
use Rattle.std.proofs.lemmas.Bool.{eqb-false}
use Rattle.std.specs.Prelude.{eqb, ltb, get_or}
use Rattle.codec.specs.Skip.{Is}
use Rattle.format.specs.Spec.{Kind, kind_c}
use Rattle.spec.proofs.Standing.{stands_kind}
use Rattle.spec.specs.Cursor.{is_numeric}
use Rattle.spec.proofs.Cursor.{numeric_low, numeric_is, numeric_high}
use Rattle.spec.proofs.elements.numeric_at.Goals as goal

numeric : (b : List ℕ) (at t : ℕ) → t ≡ get_or b at 0 → (e : ℕ) (v : Kind) → Is kind_c b e at v → (u : Bool) → eqb t 2 ≡ u → u ≡ is_numeric v
numeric b at t h e v i true q = numeric_is b at (omega (arith, eqb-true t 2 q)) (omega (arith, eqb-true t 2 q)) e v i
numeric b at t h e v i false q = go (ltb t 2) refl
  where
    go : (u : Bool) → ltb t 2 ≡ u → false ≡ is_numeric v
    go true r = numeric_low b at (omega (arith, ltb-true t 2 r)) e v i
    go false r = let n : t ≡ 2 → ⊥ = eqb-false t 2 q in numeric_high b at (omega (arith, ltb-false t 2 r)) e v i

pub bounds-b-at : goal.bounds-b-at
bounds-b-at c = stands_kind _ _ c.requires

pub returns : goal.returns
returns c = λ e v i. numeric _ _ _ refl e v i _ refl
