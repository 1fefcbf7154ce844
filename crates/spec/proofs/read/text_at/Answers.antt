use Rattle.codec.proofs.Field.{stands_opt, stands_some}
use Rattle.spec.proofs.ReadsLaws.{text_none, text_is}
use Rattle.spec.proofs.Held.{is_unset, is_set}
use Rattle.spec.proofs.read.text_at.Goals as goal

pub flag_at-requires : goal.flag_at-requires
flag_at-requires c = stands_opt _ _ _ c.requires

pub returns-then-not-flag_at : goal.returns-then-not-flag_at
returns-then-not-flag_at c = λ e v r. text_none _ _ (is_unset c.flag_at.ensures c.if-not-flag_at.true) e v

pub stretch_at-requires : goal.stretch_at-requires
stretch_at-requires c = stands_some _ _ _ c.requires (is_set c.flag_at.ensures c.if-not-flag_at.false)

pub returns : goal.returns
returns c = text_is _ _ _ (is_set c.flag_at.ensures c.if-not-flag_at.false) c.stretch_at.ensures
