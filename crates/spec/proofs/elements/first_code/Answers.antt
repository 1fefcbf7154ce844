use mathlib.Core.Path.{refl}
use Rattle.codec.proofs.Field.{stands_at, stands_list}
use Rattle.spec.proofs.Cursor.{codes_at, code_none, code_is, code_stands}
use native.Mathlib.Omega.{arith}
use Rattle.spec.proofs.elements.first_code.Goals as goal

pub num_in-n-requires : goal.num_in-n-requires
num_in-n-requires c = stands_list _ _ _ (stands_at _ _ _ _ _ _ refl c.args.s.within (codes_at _ _ _ _ _ _ _ refl refl c.sizes_end-max.ensures c.ends_at-codes.ensures c.requires.def c.requires.is))

pub overflow_add-codes : goal.overflow_add-codes
overflow_add-codes c = omega (arith, stands_list _ _ _ (stands_at _ _ _ _ _ _ refl c.args.s.within (codes_at _ _ _ _ _ _ _ refl refl c.sizes_end-max.ensures c.ends_at-codes.ensures c.requires.def c.requires.is)))

pub returns-then-n-eq0 : goal.returns-then-n-eq0
returns-then-n-eq0 c = λ d h. code_none _ _ _ c.num_in-n.ensures.0 c.if-n-eq0.true _ _ (codes_at _ _ _ _ _ _ _ refl refl c.sizes_end-max.ensures c.ends_at-codes.ensures d h)

pub stretch_at-requires : goal.stretch_at-requires
stretch_at-requires c = code_stands _ _ _ c.num_in-n.ensures.0 c.if-n-eq0.false _ c.args.s.within _ (codes_at _ _ _ _ _ _ _ refl refl c.sizes_end-max.ensures c.ends_at-codes.ensures c.requires.def c.requires.is)

pub returns : goal.returns
returns c = λ d h. code_is _ _ _ _ c.num_in-n.ensures.0 c.if-n-eq0.false c.stretch_at.ensures _ c.args.s.within _ (codes_at _ _ _ _ _ _ _ refl refl c.sizes_end-max.ensures c.ends_at-codes.ensures d h)
