use Rattle.codec.proofs.Field.{is_at, stands_at}
use Rattle.spec.proofs.Standing.{stands_flag}
use Rattle.spec.proofs.ReadsLaws.{flag_reads}
use Rattle.spec.proofs.envelope.line_break.Goals as goal

pub flag_at-requires : goal.flag_at-requires
flag_at-requires c = stands_flag _ _ (stands_at _ _ _ _ _ _ c.place-p.ensures.0 c.requires.within c.requires.line_break)

pub returns : goal.returns
returns c = flag_reads _ _ _ c.flag_at.ensures _ _ (is_at _ _ _ _ _ _ c.place-p.ensures.0 c.requires.line_break)
