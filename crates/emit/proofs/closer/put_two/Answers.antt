use Rattle.std.proofs.Math.Arith.{lt_of_le-ne}
use Rattle.emit.proofs.JoinLaws.{two_stuck, two_same, two_apart}
use Rattle.segment.specs.Values.{value_text}
use Prim.Native.Nat.{◌<◌}
use Rattle.emit.proofs.closer.put_two.Goals as goal

pub returns-then-p-lt1 : goal.returns-then-p-lt1
returns-then-p-lt1 c = let a = c.args in two_stuck a.p a.q (value_text a.job.now a.v) (value_text a.job.now a.w) c.if-p-lt1.true c.close.ensures

pub returns-then-p-q : goal.returns-then-p-q
returns-then-p-q c = let a = c.args in two_same a.p a.q (value_text a.job.now a.v) (value_text a.job.now a.w) c.if-p-lt1.false c.if-p-q.true c.put_same-t.ensures c.close-then-p-q.ensures

pub returns : goal.returns
returns c = let a = c.args in let h : a.p < a.q = lt_of_le-ne c.requires c.if-p-q.false in two_apart a.p a.q (value_text a.job.now a.v) (value_text a.job.now a.w) c.if-p-lt1.false h c.put_plain-a.ensures c.put_plain-b.ensures c.close-2.ensures
