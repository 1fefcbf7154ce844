use Rattle.codec.proofs.Less.{less_start, less_apart, less_next_byte, less_over}
use native.Mathlib.Omega.{arith}
use Rattle.codec.proofs.less_at.Goals as goal

pub loop-k-init : goal.loop-k-init
loop-k-init c = less_start _ _ _ _ _ c.num-n.ensures.0 c.num-m.ensures.0

pub returns-then-x-y : goal.returns-then-x-y
returns-then-x-y c = less_apart _ _ _ _ _ _ _ c.loop-k.invariant _ _ (omega (arith, c.min-k-end.ensures)) c.byte_at-x.ensures.0 c.byte_at-y.ensures.0 c.if-x-y.true

pub loop-k-preserved : goal.loop-k-preserved
loop-k-preserved c = less_next_byte _ _ _ _ _ _ _ c.loop-k.invariant _ _ (omega (arith, c.min-k-end.ensures)) c.byte_at-x.ensures.0 c.byte_at-y.ensures.0 c.if-x-y.false

pub returns : goal.returns
returns c = less_over _ _ _ _ _ _ _ c.loop-k.invariant (omega (arith, c.min-k-end.ensures)) (omega (arith, c.min-k-end.ensures))
