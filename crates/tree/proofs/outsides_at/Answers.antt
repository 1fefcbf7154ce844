use mathlib.Core.Path.{◌≡◌, refl}
use mathlib.Core.Bool.{Bool, true, false}
use native.Mathlib.Omega.{arith}
use Rattle.tree.proofs.outsides_at.Goals as goal

pub returns-clause-empty : goal.returns-clause-empty
returns-clause-empty c h = go c.any_at.result refl
  where
    go : (x : Bool) → c.any_at.result ≡ x → c.any_at.result ≡ false
    go true e = let f = rw e at c.any_at.ensures.asked in absurd (omega (arith, f.below, h))
    go false e = e
