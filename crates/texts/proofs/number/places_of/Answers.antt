use Rattle.std.proofs.Common.{ℕ, ◌+◌, ap, arith, lt_of_lt_of_le, lit≤}
use Rattle.texts.proofs.Passes.{found_none, found_more, found_all}
use Rattle.texts.proofs.number.places_of.Goals as goal

pub loop-rest-init : goal.loop-rest-init
loop-rest-init c = found_none _

-- a number of 128 bits has at most 39 digits
pub loop-rest-preserved : goal.loop-rest-preserved
loop-rest-preserved c =
    let t = c.tenth-above.ensures in
    found_more _ _ _ _ _ _ (lt_of_lt_of_le c.ranges.n.fits (lit≤ tt)) c.loop-rest.invariant c.loop-rest-test.true t.0 (ap (λ (d : ℕ). 48 + d) t.1)

pub returns : goal.returns
returns c = found_all _ _ _ _ c.loop-rest.invariant (omega (arith, c.loop-rest-test.false))
