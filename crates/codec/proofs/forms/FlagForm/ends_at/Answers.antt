use Rattle.codec.proofs.Ways.{skip_flag}
use Rattle.codec.proofs.forms.FlagForm.ends_at.Goals as goal

pub returns : goal.returns
returns c = cc (skip_flag _ _ _)
