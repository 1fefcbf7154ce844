use mathlib.Core.Path.{ap, refl}
use mathlib.Core.Bool.{not}
use Rattle.format.specs.Refusal.{upper, digit}
use Rattle.says.proofs.Walk.{both, only}
use Rattle.says.proofs.Walk.{byte_says}
use Rattle.marks.specs.Parts.{stray}
use Rattle.codec.proofs.Joined.{or_pick}
use Rattle.marks.proofs.stray_at.Goals as goal

pub returns : goal.returns
unfolding upper digit
returns c = byte_says _ _ _ _ stray _ c.byte_at-c.ensures.0 (ap not (simp or_pick (both _ _ _ _ _ refl c.within-x.ensures (only _ _ c.within-y.ensures))))
