use Rattle.spec.proofs.Found.{key_same}
use Rattle.spec.proofs.segments.key_is.Goals as goal

pub returns : goal.returns
returns c = λ e k r i. key_same _ _ _ _ _ c.eq.ensures (c.stretch_at-key.ensures _ _ r i)
