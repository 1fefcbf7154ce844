use Rattle.format.specs.Envelope.{envelope_c}
use Rattle.codec.proofs.Skip.{skip_map, skip_pair}
use Rattle.codec.proofs.Ways.{skip_flag}
use Rattle.format.proofs.envelope.EnvelopeForm.ends_at.Goals as goal

pub returns : goal.returns
unfolding envelope_c
returns c = simp (skip_map, skip_pair, skip_flag) (rw (c.case_at.ensures, c.ends_at-repetition.ensures, c.le_at-segment.ensures, c.le_at-component.ensures, c.le_at-element.ensures, c.le_at-control_number.ensures, c.bytes_at-usage_indicator.ensures, c.le_at-time.ensures, c.le_at-date.ensures, c.opt_bytes_at-application_receiver.ensures, c.opt_bytes_at-application_sender.ensures, c.bytes_at-receiver_id.ensures, c.bytes_at-receiver_qualifier.ensures, c.bytes_at-sender_id.ensures, c.bytes_at-sender_qualifier.ensures))
