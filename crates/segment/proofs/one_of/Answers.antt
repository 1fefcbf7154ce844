use Rattle.std.proofs.Common.{arith}
use Rattle.std.proofs.lemmas.Bool.Decides.{nat_tests}
use Rattle.segment.specs.Values.{one_of}
use Rattle.segment.proofs.one_of.Goals as goal

pub returns-then-x-s-3 : goal.returns-then-x-s-3
unfolding one_of
returns-then-x-s-3 c = grind (arith, nat_tests)

pub returns-else-x-s-3 : goal.returns-else-x-s-3
unfolding one_of
returns-else-x-s-3 c = grind (arith, nat_tests)
