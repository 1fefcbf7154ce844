use Rattle.spec.proofs.EnvelopeIndex.{envelope_filled}
use Rattle.spec.proofs.fill.fill_envelope.Goals as goal

pub returns : goal.returns
returns c =
    let e = envelope_filled _ c.requires _ _ _ _ c.start-at.ensures c.section.ensures.1 (rw c.section.ensures.0 at c.envelope_into.ensures) in
    record { envelope_indexed = e.0; kept = e.1 }
