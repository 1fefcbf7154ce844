use Rattle.std.proofs.Common.{sym, ◌∙◌}
use Rattle.texts.proofs.Pads.{pad_number, pad_fixed, pad_loose}
use Rattle.texts.proofs.envelope.pad.Goals as goal

pub returns-then-numeric : goal.returns-then-numeric
returns-then-numeric c = λ text l. pad_number _ _ _ _ _ text c.if-numeric.true (rw (← c.unwrap_or.ensures) c.saturating_sub-short.ensures) l

pub returns-then-eq : goal.returns-then-eq
returns-then-eq c = λ text l. pad_fixed _ _ _ _ _ text c.if-numeric.false (sym c.eq.ensures ∙ c.if-eq.true) (rw (← c.unwrap_or.ensures) c.saturating_sub-short.ensures) l

pub returns : goal.returns
returns c = λ text l. pad_loose _ _ _ text c.if-numeric.false (sym c.eq.ensures ∙ c.if-eq.false)
