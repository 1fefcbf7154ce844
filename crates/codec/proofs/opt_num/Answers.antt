use Rattle.codec.proofs.Answers.{opt_nothing, opt_number}
use Rattle.std.proofs.Common.{sym, ◌∙◌}
use Rattle.codec.proofs.opt_num.Goals as goal

pub returns-then-byte_at-eq0 : goal.returns-then-byte_at-eq0
returns-then-byte_at-eq0 c = opt_nothing _ _ (sym c.byte_at.ensures.0 ∙ c.if-byte_at-eq0.true)

pub returns : goal.returns
returns c = opt_number _ _ _ (λ h. c.if-byte_at-eq0.false (c.byte_at.ensures.0 ∙ h)) c.num.ensures.0
