-- Not to be believed: words of inner contracts, on which no contract of what users call rests.
-- The index over the envelope: from 2560 the place of each of its fields.
use Rattle.std.specs.Prelude.{ℕ, ◌≤◌, List, [], ◌∷◌, length, get_or}
use Rattle.codec.specs.Skip.{Is}
use Rattle.codec.specs.Forms.{num_c, byte_c, long_c, bytes_c, opt_c, flag_c}
use Rattle.codec.specs.Rows.{small}
use Rattle.format.specs.Sections.{data_start, job_of}
use Rattle.format.specs.Fields.{envelope_sender_id, envelope_receiver_qualifier, envelope_receiver_id, envelope_application_sender, envelope_application_receiver, envelope_date, envelope_time, envelope_usage_indicator, envelope_control_number, envelope_element, envelope_component, envelope_segment, envelope_repetition, envelope_line_break}

pub record EnvelopeIndexed (b idx : List ℕ) : Type 0 where
  pub within : data_start b ≤ length b
  pub sender_qualifier : Is bytes_c b (data_start b) (get_or idx 2560 0) (job_of b).envelope.sender_qualifier
  pub sender_id : Is bytes_c b (data_start b) (get_or idx 2561 0) (job_of b).envelope.sender_id
  pub receiver_qualifier : Is bytes_c b (data_start b) (get_or idx 2562 0) (job_of b).envelope.receiver_qualifier
  pub receiver_id : Is bytes_c b (data_start b) (get_or idx 2563 0) (job_of b).envelope.receiver_id
  pub application_sender : Is (opt_c bytes_c) b (data_start b) (get_or idx 2564 0) (job_of b).envelope.application_sender
  pub application_receiver : Is (opt_c bytes_c) b (data_start b) (get_or idx 2565 0) (job_of b).envelope.application_receiver
  pub date : Is num_c b (data_start b) (get_or idx 2566 0) (job_of b).envelope.date
  pub time : Is num_c b (data_start b) (get_or idx 2567 0) (job_of b).envelope.time
  pub usage_indicator : Is bytes_c b (data_start b) (get_or idx 2568 0) (job_of b).envelope.usage_indicator
  pub control_number : Is long_c b (data_start b) (get_or idx 2569 0) (job_of b).envelope.control_number
  pub element : Is byte_c b (data_start b) (get_or idx 2570 0) (job_of b).envelope.element
  pub component : Is byte_c b (data_start b) (get_or idx 2571 0) (job_of b).envelope.component
  pub segment : Is byte_c b (data_start b) (get_or idx 2572 0) (job_of b).envelope.segment
  pub repetition : Is (opt_c byte_c) b (data_start b) (get_or idx 2573 0) (job_of b).envelope.repetition
  pub line_break : Is flag_c b (data_start b) (get_or idx 2574 0) (job_of b).envelope.line_break

-- the places of the fields of an envelope
abbrev pub envelope_row : List ℕ → ℕ → ℕ → List ℕ
envelope_row b e at = small at ∷ small (envelope_sender_id b e at) ∷ small (envelope_receiver_qualifier b e at) ∷ small (envelope_receiver_id b e at) ∷ small (envelope_application_sender b e at) ∷ small (envelope_application_receiver b e at) ∷ small (envelope_date b e at) ∷ small (envelope_time b e at) ∷ small (envelope_usage_indicator b e at) ∷ small (envelope_control_number b e at) ∷ small (envelope_element b e at) ∷ small (envelope_component b e at) ∷ small (envelope_segment b e at) ∷ small (envelope_repetition b e at) ∷ small (envelope_line_break b e at) ∷ []
