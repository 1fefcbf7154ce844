use Rattle.std.proofs.Common.{arith}
use Rattle.std.proofs.lemmas.Bool.Decides.{nat_tests}
use Rattle.segment.proofs.Texts.{empty_value}
use Rattle.segment.proofs.is_empty.Goals as goal

pub returns-then-stretch_len-eq0 : goal.returns-then-stretch_len-eq0
returns-then-stretch_len-eq0 c = rw empty_value (grind (arith, nat_tests))

pub returns-else-stretch_len-eq0 : goal.returns-else-stretch_len-eq0
returns-else-stretch_len-eq0 c = rw empty_value (grind (arith, nat_tests))
