use native.Mathlib.Omega.{arith}
use Rattle.row_segment.proofs.NoteLaws.{code_notes, code_entry}
use Rattle.row_segment.proofs.FeedLaws.{stood_silent, code_text}
use Rattle.row_segment.proofs.feed.put_part.Goals as goal

pub returns-in-Code : goal.returns-in-Code
returns-in-Code c = let a = c.args in let b = a.job.at.bytes.now in let e = c.in-Code.is in stood_silent b a.x a.p _ (code_text b a.x a.p e) (code_notes b a.x a.p e) (omega (arith, code_entry b a.x a.p e)) c.component_of-n.ensures c.put_stretch.ensures
