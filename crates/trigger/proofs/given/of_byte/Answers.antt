use native.Mathlib.Omega.{arith}
use Rattle.trigger.proofs.given.of_byte.Goals as goal

pub returns : goal.returns
returns c = λ job. record { says = rw (c.own-value.ensures.text job); short = c.own-value.ensures.plain (omega arith) }
