use Rattle.spec.proofs.EnvelopeIndex.{envelope_stored}
use Rattle.spec.proofs.fill.envelope_into.Goals as goal

pub returns : goal.returns
returns c = envelope_stored _ _ _ _ _ _ _ _ _ _ _ _ _ _ _ _ _ _ _ c.bytes_at-sender_id.ensures c.bytes_at-receiver_qualifier.ensures c.bytes_at-receiver_id.ensures c.bytes_at-application_sender.ensures c.opt_bytes_at-application_receiver.ensures c.opt_bytes_at-date.ensures c.le_at-time.ensures c.le_at-usage_indicator.ensures c.bytes_at-control_number.ensures c.le_at-element.ensures c.le_at-component.ensures c.le_at-segment.ensures c.le_at-repetition.ensures c.ends_at-line_break.ensures c.put_all.ensures
