use Rattle.codec.proofs.Numbers.{four_bytes}
use native.Mathlib.Omega.{arith}
use Rattle.codec.proofs.num_in.Goals as goal

pub returns-in-Some : goal.returns-in-Some
returns-in-Some c = (omega (arith, c.from_le_bytes.ensures, four_bytes c.args.b.now c.in-Some.bytes.now c.args.at c.in-Some.ensures.cases.same), c.from_le_bytes.type_inv)
