use Rattle.trigger.proofs.Draws.{draw_left, draw_sticks, draw_one}
use Rattle.segment.specs.Values.{value_text}
use Rattle.trigger.proofs.opener.draw.Goals as goal

pub returns-then-stuck : goal.returns-then-stuck
returns-then-stuck c = let a = c.args in draw_left a.stuck a.p (value_text a.job.now a.v) c.if-stuck.true

pub returns-then-p-lt1 : goal.returns-then-p-lt1
returns-then-p-lt1 c = let a = c.args in draw_sticks a.stuck a.p (value_text a.job.now a.v) c.if-stuck.false c.if-p-lt1.true

pub returns : goal.returns
returns c = let a = c.args in draw_one a.stuck a.p (value_text a.job.now a.v) c.if-stuck.false c.if-p-lt1.false c.put_plain.ensures
