use mathlib.Core.Path.{refl}
use Rattle.format.proofs.Decoding.{broken_is, broken_short, broken_long}
use Rattle.codec.proofs.Joined.{or_pick, pick_pick}
use Rattle.format.proofs.broken_at.Goals as goal

pub returns-then-b-lt24 : goal.returns-then-b-lt24
returns-then-b-lt24 c = broken_short _ c.if-b-lt24.true

pub returns-then-b-gt65536 : goal.returns-then-b-gt65536
returns-then-b-gt65536 c = broken_long _ c.if-b-lt24.false c.if-b-gt65536.true

pub returns : goal.returns
returns c = simp (or_pick, pick_pick) (cc (broken_is _ _ _ _ _ _ _ _ c.if-b-lt24.false c.if-b-gt65536.false refl c.num-spec.ensures.0 c.num-plan.ensures.0 c.num-layout.ensures.0 c.num-envelope.ensures.0 c.num-data.ensures.0 c.num-whole.ensures.0))
