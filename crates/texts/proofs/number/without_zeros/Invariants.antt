use Rattle.texts.specs.Digits.{Shortens}
use Rattle.texts.proofs.number.without_zeros.Given as goal

abbrev pub invariant-loop-left : goal.invariant-loop-left
invariant-loop-left l = Shortens l.n l.scale (record { rest = l.rest; scale = l.left })
