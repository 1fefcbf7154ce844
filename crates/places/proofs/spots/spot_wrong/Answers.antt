use Rattle.std.proofs.Common.{rules}
use Prim.Native.Nat.{ℕ, ◌<◌, ◌≤◌}
use mathlib.Core.Path.{◌≡◌, sym, ◌∙◌}
use mathlib.Core.Logic.{◌⊎◌, inl, inr}
use mathlib.Core.Bool.{Bool, true, false}
use lib.Dec.{ltb, eqb}
use borrow.Author.Tests.{eq-eqb, ne_eqb, lt-ltb, le-ltb}
use Rattle.codec.specs.Codec.{pick}
use Rattle.places.specs.Spots.{step_by}
use Rattle.places.proofs.Ranking.{spot_says}
use Rattle.places.proofs.spots.spot_wrong.Goals as goal

found : (e : ℕ) (f u : Bool) → (e < 1) ⊎ ((1 ≤ e) × (f ≡ true)) → pick (ltb e 1) true (pick f true u) ≡ true
found e f u (inl h) = rw (lt-ltb _ _ h)
found e f u (inr h) = rw (le-ltb _ _ h.0, h.1)

pub returns-then-below : goal.returns-then-below
returns-then-below c = spot_says _ _ _
    (rw (← c.eq-below.ensures, found c.args.x.element c.eq-below.result (pick (eqb (step_by c.args.filled) 0) (ltb 1 c.args.x.reach) false) c.if-below.either) (search rules))

pub returns-then-step-eq0 : goal.returns-then-step-eq0
returns-then-step-eq0 c = spot_says _ _ _
    (rw (le-ltb _ _ c.if-below.false.0, ← c.eq-below.ensures, c.if-below.false.1, eq-eqb _ _ (sym c.step.ensures ∙ c.if-step-eq0.true)))

pub returns-else-step-eq0 : goal.returns-else-step-eq0
returns-else-step-eq0 c = spot_says _ _ _
    (rw (c.step.ensures, le-ltb _ _ c.if-below.false.0, ← c.eq-below.ensures, c.if-below.false.1, ne_eqb _ _ (λ h. c.if-step-eq0.false (c.step.ensures ∙ h))))
