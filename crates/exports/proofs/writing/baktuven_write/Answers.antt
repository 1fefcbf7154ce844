-- What `write` gives back is what the program gets; the counts and the number are those of its answer.
use Rattle.std.proofs.Common.{ap, sym, ◌∙◌}
use Rattle.std.proofs.lemmas.List.Edits.{sets}
use Rattle.exports.proofs.Counts.{four_values, lost_held}
use Rattle.exports.proofs.writing.baktuven_write.Goals as goal

pub returns : goal.returns
returns c =
    let h = c.write-a.ensures in
    let counts = c.put_values.ensures ∙ ap (sets c.args.counts.now 0) h.values in
    record {
      number = c.number.ensures ∙ h.number;
      counts = counts;
      document = h.document;
      segments = h.segments;
      findings = h.findings;
      stops = h.stops;
      nothing_lost = h.nothing_lost;
      nothing_lost_in = λ z. rw h.values at (h.nothing_lost_in (sym c.number.ensures ∙ z));
      nothing_lost_held = λ z k. lost_held _ _ _ _ _ _ _ _ counts (four_values _ _ _ _ _ (sym h.number ∙ sym c.number.ensures ∙ z)) k (rw h.values at (h.nothing_lost_in (sym c.number.ensures ∙ z)));
    }
