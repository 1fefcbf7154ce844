use Rattle.std.proofs.Common.{arith}
use Rattle.std.proofs.lemmas.Bool.Decides.{nat_tests}
use Rattle.segment.proofs.Texts.{any_text}
use Rattle.segment.proofs.holds_any.Goals as goal

pub returns-then-stretch_holds : goal.returns-then-stretch_holds
returns-then-stretch_holds c = rw any_text (grind (arith, nat_tests))

pub returns-else-stretch_holds : goal.returns-else-stretch_holds
returns-else-stretch_holds c = rw any_text (grind (arith, nat_tests))
