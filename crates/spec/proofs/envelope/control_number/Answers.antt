use Rattle.codec.proofs.Field.{is_at, is_le, stands_le, stands_at}
use mathlib.Core.Path.{sym, ◌∙◌}
use Rattle.spec.proofs.envelope.control_number.Goals as goal

pub long_in-requires : goal.long_in-requires
long_in-requires c = stands_le _ _ _ (stands_at _ _ _ _ _ _ c.place-p.ensures.0 c.requires.within c.requires.control_number)

pub returns : goal.returns
returns c = c.long_in.ensures ∙ sym (is_le 8 _ _ _ _ (is_at _ _ _ _ _ _ c.place-p.ensures.0 c.requires.control_number)).1
