use Rattle.emit.specs.Did.{row_in}
use Rattle.emit.proofs.StateLaws.{traced_one}
use mathlib.Core.Path.{refl}
use Rattle.emit.proofs.state.finish_segment.Goals as goal

pub returns : goal.returns
returns c = let a = c.args in record { entries = c.more-count.ensures; begun = c.more-count.ensures; bytes = refl; segments = rw (traced_one (record { entry = a.s.begun; row = row_in a.from }), ← c.trace_words-words.ensures) c.put_words-at.ensures; findings = refl; stops = refl }
