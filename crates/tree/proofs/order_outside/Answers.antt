use mathlib.Core.Path.{◌≡◌, refl}
use mathlib.Core.Bool.{Bool, true, false}
use native.Mathlib.Omega.{arith}
use Rattle.std.proofs.Common.{rules}
use Rattle.format.specs.Refusal.{outside, outside_order}
use Rattle.says.proofs.Walk.{says_as}
use Rattle.tree.specs.Parts.{on_loop}
use Rattle.tree.proofs.Tree.{loops_any}
use Rattle.tree.proofs.order_outside.Goals as goal

pub returns-clause-says : goal.returns-clause-says
unfolding outside_order
returns-clause-says c = says_as _ _ _ _ _ _ _ (c.any_at.ensures.says (on_loop (outside c.args.n)) (λ p r h q. search rules)) (loops_any (outside c.args.n))

pub returns-clause-empty : goal.returns-clause-empty
returns-clause-empty c h = go c.any_at.result refl
  where
    go : (x : Bool) → c.any_at.result ≡ x → c.any_at.result ≡ false
    go true e = let f = rw e at c.any_at.ensures.asked in absurd (omega (arith, f.below, h))
    go false e = e
