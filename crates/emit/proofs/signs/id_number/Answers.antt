use native.Mathlib.Omega.{arith}
use Rattle.emit.proofs.NameLaws.{name_none, name_one, name_two, name_three}
use Rattle.emit.proofs.signs.id_number.Goals as goal

pub returns-then-len-eq0 : goal.returns-then-len-eq0
returns-then-len-eq0 c = name_none _ _ c.requires.1 c.if-len-eq0.true

pub returns-then-len-eq1 : goal.returns-then-len-eq1
returns-then-len-eq1 c = name_one _ _ c.requires.1 c.if-len-eq1.true

pub returns-then-len-eq2 : goal.returns-then-len-eq2
returns-then-len-eq2 c = name_two _ _ c.requires.1 c.if-len-eq2.true

pub returns : goal.returns
returns c = name_three _ _ c.requires.1 (omega (arith, c.if-len-eq2.false, c.if-len-eq1.false, c.if-len-eq0.false, c.requires.0))
