use Prim.Native.Nat.{◌<◌}
use mathlib.Core.Path.{sym, ◌∙◌}
use native.Mathlib.Omega.{arith}
use lib.ListN.{length}
use Rattle.lent.specs.Window.{stretch}
use Rattle.segment.specs.Values.{one_of}
use Rattle.segment.proofs.Texts.{any_turn, any_past}
use Rattle.segment.proofs.stretch_holds.Goals as goal

pub returns-then-one_of : goal.returns-then-one_of
returns-then-one_of c =
    let a = c.args in
    let h : c.loop-i.i < length (stretch a.source.now a.start a.len) = omega (arith, c.stretch_len-n.ensures) in
    sym (c.loop-i.invariant ∙ any_turn (one_of a.s.0 a.s.1 a.s.2 a.s.3) a.source.now a.start a.len c.loop-i.i h ∙ rw (sym c.one_of.ensures ∙ c.if-one_of.true))

pub loop-i-preserved : goal.loop-i-preserved
loop-i-preserved c =
    let a = c.args in
    let h : c.loop-i.i < length (stretch a.source.now a.start a.len) = omega (arith, c.stretch_len-n.ensures) in
    c.loop-i.invariant ∙ any_turn (one_of a.s.0 a.s.1 a.s.2 a.s.3) a.source.now a.start a.len c.loop-i.i h ∙ rw (sym c.one_of.ensures ∙ c.if-one_of.false)

pub returns : goal.returns
returns c =
    let a = c.args in
    sym (c.loop-i.invariant ∙ any_past (one_of a.s.0 a.s.1 a.s.2 a.s.3) (stretch a.source.now a.start a.len) c.loop-i.i (omega (arith, c.stretch_len-n.ensures)))
