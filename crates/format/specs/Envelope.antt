-- The envelope of a job, without the release separator (docs/RULES.md, "Structures").
use Rattle.std.specs.Prelude.{ℕ, refl, List, [], Bool, false, Option, None}
use Rattle.codec.specs.Codec.{Codec, ◌⊗◌, map_c}
use Rattle.codec.specs.Forms.{num_c, byte_c, long_c, bytes_c, opt_c, flag_c}

-- `element`, `component`, `segment` and `repetition` are the separators; date and time are the 32 bits of a signed number
pub record Envelope : Type 0 where
  pub sender_qualifier : List ℕ
  pub sender_id : List ℕ
  pub receiver_qualifier : List ℕ
  pub receiver_id : List ℕ
  pub application_sender : Option (List ℕ)
  pub application_receiver : Option (List ℕ)
  pub date : ℕ
  pub time : ℕ
  pub usage_indicator : List ℕ
  pub control_number : ℕ
  pub element : ℕ
  pub component : ℕ
  pub segment : ℕ
  pub repetition : Option ℕ
  pub line_break : Bool

unfoldable pub envelope_c : Codec Envelope
envelope_c = map_c
    (λ t. record { sender_qualifier = t.0; sender_id = t.1.0; receiver_qualifier = t.1.1.0; receiver_id = t.1.1.1.0; application_sender = t.1.1.1.1.0; application_receiver = t.1.1.1.1.1.0; date = t.1.1.1.1.1.1.0; time = t.1.1.1.1.1.1.1.0; usage_indicator = t.1.1.1.1.1.1.1.1.0; control_number = t.1.1.1.1.1.1.1.1.1.0; element = t.1.1.1.1.1.1.1.1.1.1.0; component = t.1.1.1.1.1.1.1.1.1.1.1.0; segment = t.1.1.1.1.1.1.1.1.1.1.1.1.0; repetition = t.1.1.1.1.1.1.1.1.1.1.1.1.1.0; line_break = t.1.1.1.1.1.1.1.1.1.1.1.1.1.1 })
    (λ v. (v.sender_qualifier, (v.sender_id, (v.receiver_qualifier, (v.receiver_id, (v.application_sender, (v.application_receiver, (v.date, (v.time, (v.usage_indicator, (v.control_number, (v.element, (v.component, (v.segment, (v.repetition, v.line_break))))))))))))))) (λ y. refl) (λ x. refl)
    (bytes_c ⊗ bytes_c ⊗ bytes_c ⊗ bytes_c ⊗ opt_c bytes_c ⊗ opt_c bytes_c ⊗ num_c ⊗ num_c ⊗ bytes_c ⊗ long_c ⊗ byte_c ⊗ byte_c ⊗ byte_c ⊗ opt_c byte_c ⊗ flag_c)

-- ---- what stands for one that is not there
abbrev pub no_envelope : Envelope
no_envelope = record {
  sender_qualifier = [];
  sender_id = [];
  receiver_qualifier = [];
  receiver_id = [];
  application_sender = None;
  application_receiver = None;
  date = 0;
  time = 0;
  usage_indicator = [];
  control_number = 0;
  element = 0;
  component = 0;
  segment = 0;
  repetition = None;
  line_break = false;
}
