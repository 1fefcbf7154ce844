use Rattle.repeat_segment.proofs.PlaceLaws.{moved_small}
use native.Mathlib.Omega.{arith}
use Rattle.repeat_segment.proofs.places.moved.Goals as goal

pub overflow_mul-result : goal.overflow_mul-result
overflow_mul-result c = let a = c.args in let m = moved_small a.element a.step a.k c.requires.0 c.requires.1 c.requires.2 in omega (arith, m)

pub overflow_add-result : goal.overflow_add-result
overflow_add-result c = let a = c.args in let m = moved_small a.element a.step a.k c.requires.0 c.requires.1 c.requires.2 in omega (arith, m)
