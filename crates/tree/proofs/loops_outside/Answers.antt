use mathlib.Core.Path.{◌≡◌, refl}
use mathlib.Core.Bool.{Bool, true, false}
use native.Mathlib.Omega.{arith}
use Rattle.std.proofs.Common.{rules}
use Rattle.says.proofs.Walk.{says_as}
use Rattle.format.specs.Refusal.{outside_loop}
use Rattle.tree.proofs.ByNumber.{any_each}
use Rattle.tree.proofs.loops_outside.Goals as goal

pub returns-clause-says : goal.returns-clause-says
returns-clause-says c = says_as _ _ _ _ _ _ _ (c.some.ensures.says (λ i. outside_loop c.args.n) (λ k p q r h t. search rules)) (any_each _ 0)

pub returns-clause-empty : goal.returns-clause-empty
returns-clause-empty c h = go c.some.result refl
  where
    go : (x : Bool) → c.some.result ≡ x → c.some.result ≡ false
    go true e = let f = rw e at c.some.ensures.asked in absurd (omega (arith, f.below, h))
    go false e = e
