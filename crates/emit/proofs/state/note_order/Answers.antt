use Rattle.emit.proofs.FindingLaws.{words_one}
use Rattle.nest.specs.Finding.{out_of_order, record_of}
use Rattle.emit.proofs.state.note_order.Goals as goal

pub returns : goal.returns
unfolding record_of
returns c = rw (words_one (out_of_order c.args.t.0 c.args.r.0 c.args.above c.args.reference c.args.highest)) c.note_words.ensures
