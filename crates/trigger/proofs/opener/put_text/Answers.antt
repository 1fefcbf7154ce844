use Rattle.segment.specs.Values.{value_text}
use Rattle.trigger.proofs.Draws.{reach_one}
use Rattle.trigger.proofs.opener.put_text.Goals as goal

pub returns : goal.returns
returns c = let a = c.args in
    record { drawn = rw c.sticks-stuck.ensures c.draw-pen.ensures; findings = c.note_text-noted.ensures; entries = rw c.entries_of.ensures at c.more-entries.ensures; last = reach_one a.at.last a.p _ (value_text a.w.now.job.at.bytes.now a.src.given.value) c.raised-last.ensures }
