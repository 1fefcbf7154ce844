use mathlib.Core.Path.{refl}
use Rattle.says.proofs.Walk.{byte_says}
use Rattle.marks.specs.Parts.{high}
use Rattle.marks.proofs.high_at.Goals as goal

pub returns : goal.returns
returns c = byte_says _ _ _ _ high _ c.byte_at.ensures.0 refl
