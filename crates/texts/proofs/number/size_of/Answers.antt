use Rattle.std.proofs.Common.{arith}
use Rattle.texts.proofs.Wholes.{size_next, size_none}
use Rattle.texts.proofs.number.size_of.Goals as goal

pub returns-in-Some : goal.returns-in-Some
returns-in-Some c = let e = c.in-Some.ensures in (size_next _ _ e.power_le e.next_power_gt, omega (arith, e.bound))

pub returns-in-None : goal.returns-in-None
returns-in-None c = (size_none _ c.in-None.ensures.none, omega arith)
