-- Laws of the definitions of specs/EnvelopeIndex, and words that only proofs use.
use Rattle.std.specs.Prelude.{ℕ, ◌≤◌, ◌<◌, ◌≡◌, List, [], ◌∷◌, length, get_or}
use Rattle.std.proofs.Common.{ap, ◌∙◌, arith}
use Rattle.codec.specs.Skip.{skip}
use Rattle.codec.specs.Forms.{num_c, byte_c, long_c, bytes_c, opt_c, flag_c}
use Rattle.codec.proofs.Field.{is_at}
use Rattle.codec.specs.Rows.{stored, small}
use Rattle.codec.proofs.Rows.{is_small}
use Rattle.format.specs.Envelope.{envelope_c}
use Rattle.format.specs.Sections.{envelope_start, data_start, job_of}
use Rattle.format.proofs.Fields.{EnvelopeIs, is_envelope_lem}
use Rattle.format.specs.Fields.{envelope_sender_id, envelope_receiver_qualifier, envelope_receiver_id, envelope_application_sender, envelope_application_receiver, envelope_date, envelope_time, envelope_usage_indicator, envelope_control_number, envelope_element, envelope_component, envelope_segment, envelope_repetition, envelope_line_break}
use Rattle.format.proofs.Decoding.{is_read}
use Rattle.format.specs.Passed.{Passed}
use Rattle.spec.specs.Kept.{Kept}
use Rattle.spec.proofs.Kept.{Has, kept_stored, has_stored}
use Rattle.spec.specs.EnvelopeIndex.{EnvelopeIndexed, envelope_row}

-- an index that agrees on the region of the envelope
pub envelope_agrees : (b idx idx' : List ℕ) → EnvelopeIndexed b idx → ((i : ℕ) → 2560 ≤ i → i < 2624 → get_or idx' i 0 ≡ get_or idx i 0) → EnvelopeIndexed b idx'
envelope_agrees b idx idx' x same = record {
  within = x.within;
  sender_qualifier = is_at bytes_c b (data_start b) _ _ _ (same 2560 (omega arith) (omega arith)) x.sender_qualifier;
  sender_id = is_at bytes_c b (data_start b) _ _ _ (same 2561 (omega arith) (omega arith)) x.sender_id;
  receiver_qualifier = is_at bytes_c b (data_start b) _ _ _ (same 2562 (omega arith) (omega arith)) x.receiver_qualifier;
  receiver_id = is_at bytes_c b (data_start b) _ _ _ (same 2563 (omega arith) (omega arith)) x.receiver_id;
  application_sender = is_at (opt_c bytes_c) b (data_start b) _ _ _ (same 2564 (omega arith) (omega arith)) x.application_sender;
  application_receiver = is_at (opt_c bytes_c) b (data_start b) _ _ _ (same 2565 (omega arith) (omega arith)) x.application_receiver;
  date = is_at num_c b (data_start b) _ _ _ (same 2566 (omega arith) (omega arith)) x.date;
  time = is_at num_c b (data_start b) _ _ _ (same 2567 (omega arith) (omega arith)) x.time;
  usage_indicator = is_at bytes_c b (data_start b) _ _ _ (same 2568 (omega arith) (omega arith)) x.usage_indicator;
  control_number = is_at long_c b (data_start b) _ _ _ (same 2569 (omega arith) (omega arith)) x.control_number;
  element = is_at byte_c b (data_start b) _ _ _ (same 2570 (omega arith) (omega arith)) x.element;
  component = is_at byte_c b (data_start b) _ _ _ (same 2571 (omega arith) (omega arith)) x.component;
  segment = is_at byte_c b (data_start b) _ _ _ (same 2572 (omega arith) (omega arith)) x.segment;
  repetition = is_at (opt_c byte_c) b (data_start b) _ _ _ (same 2573 (omega arith) (omega arith)) x.repetition;
  line_break = is_at flag_c b (data_start b) _ _ _ (same 2574 (omega arith) (omega arith)) x.line_break;
}

-- the places one by one
pub envelope_stored : (b d₀ d₁ : List ℕ) (e at p₁ p₂ p₃ p₄ p₅ p₆ p₇ p₈ p₉ p₁₀ p₁₁ p₁₂ p₁₃ p₁₄ : ℕ)
    → p₁ ≡ skip bytes_c b at e → p₂ ≡ skip bytes_c b p₁ e → p₃ ≡ skip bytes_c b p₂ e → p₄ ≡ skip bytes_c b p₃ e → p₅ ≡ skip (opt_c bytes_c) b p₄ e → p₆ ≡ skip (opt_c bytes_c) b p₅ e → p₇ ≡ skip num_c b p₆ e → p₈ ≡ skip num_c b p₇ e → p₉ ≡ skip bytes_c b p₈ e → p₁₀ ≡ skip long_c b p₉ e → p₁₁ ≡ skip byte_c b p₁₀ e → p₁₂ ≡ skip byte_c b p₁₁ e → p₁₃ ≡ skip byte_c b p₁₂ e → p₁₄ ≡ skip (opt_c byte_c) b p₁₃ e
    → d₁ ≡ stored d₀ 2560 (small at ∷ small p₁ ∷ small p₂ ∷ small p₃ ∷ small p₄ ∷ small p₅ ∷ small p₆ ∷ small p₇ ∷ small p₈ ∷ small p₉ ∷ small p₁₀ ∷ small p₁₁ ∷ small p₁₂ ∷ small p₁₃ ∷ small p₁₄ ∷ []) → d₁ ≡ stored d₀ 2560 (envelope_row b e at)
envelope_stored b d₀ d₁ e at p₁ p₂ p₃ p₄ p₅ p₆ p₇ p₈ p₉ p₁₀ p₁₁ p₁₂ p₁₃ p₁₄ i₁ i₂ i₃ i₄ i₅ i₆ i₇ i₈ i₉ i₁₀ i₁₁ i₁₂ i₁₃ i₁₄ h =
    let q₁ : p₁ ≡ envelope_sender_id b e at = i₁ in
    let q₂ : p₂ ≡ envelope_receiver_qualifier b e at = i₂ ∙ ap (λ (x : ℕ). skip bytes_c b x e) q₁ in
    let q₃ : p₃ ≡ envelope_receiver_id b e at = i₃ ∙ ap (λ (x : ℕ). skip bytes_c b x e) q₂ in
    let q₄ : p₄ ≡ envelope_application_sender b e at = i₄ ∙ ap (λ (x : ℕ). skip bytes_c b x e) q₃ in
    let q₅ : p₅ ≡ envelope_application_receiver b e at = i₅ ∙ ap (λ (x : ℕ). skip (opt_c bytes_c) b x e) q₄ in
    let q₆ : p₆ ≡ envelope_date b e at = i₆ ∙ ap (λ (x : ℕ). skip (opt_c bytes_c) b x e) q₅ in
    let q₇ : p₇ ≡ envelope_time b e at = i₇ ∙ ap (λ (x : ℕ). skip num_c b x e) q₆ in
    let q₈ : p₈ ≡ envelope_usage_indicator b e at = i₈ ∙ ap (λ (x : ℕ). skip num_c b x e) q₇ in
    let q₉ : p₉ ≡ envelope_control_number b e at = i₉ ∙ ap (λ (x : ℕ). skip bytes_c b x e) q₈ in
    let q₁₀ : p₁₀ ≡ envelope_element b e at = i₁₀ ∙ ap (λ (x : ℕ). skip long_c b x e) q₉ in
    let q₁₁ : p₁₁ ≡ envelope_component b e at = i₁₁ ∙ ap (λ (x : ℕ). skip byte_c b x e) q₁₀ in
    let q₁₂ : p₁₂ ≡ envelope_segment b e at = i₁₂ ∙ ap (λ (x : ℕ). skip byte_c b x e) q₁₁ in
    let q₁₃ : p₁₃ ≡ envelope_repetition b e at = i₁₃ ∙ ap (λ (x : ℕ). skip byte_c b x e) q₁₂ in
    let q₁₄ : p₁₄ ≡ envelope_line_break b e at = i₁₄ ∙ ap (λ (x : ℕ). skip (opt_c byte_c) b x e) q₁₃ in
    rw (q₁₄, q₁₃, q₁₂, q₁₁, q₁₀, q₉, q₈, q₇, q₆, q₅, q₄, q₃, q₂, q₁) at h

module _ (b : List ℕ) (w : Passed b) where
  envelope_is : EnvelopeIs b (data_start b) (envelope_start b) (job_of b).envelope
  envelope_is = is_envelope_lem b (data_start b) (envelope_start b) (job_of b).envelope (is_read envelope_c b (envelope_start b) (data_start b) (job_of b).envelope w.read.envelope)

  low : data_start b < 65536
  low = let s = w.sound in omega (arith, s.least, s.most, s.tables)

  pub envelope_filled : (d₀ d₁ : List ℕ) (at e : ℕ) → at ≡ envelope_start b → e ≡ data_start b → d₁ ≡ stored d₀ 2560 (envelope_row b e at) → (10752 ≤ length d₀ → EnvelopeIndexed b d₁) × Kept 2560 2624 d₀ d₁
  envelope_filled d₀ d₁ at e i j h =
      let h' : d₁ ≡ stored d₀ 2560 (envelope_row b (data_start b) (envelope_start b)) = h ∙ rw (i, j) in
      (λ m. go (has_stored d₀ d₁ _ 2560 h' (omega arith)), kept_stored 2560 2624 d₀ d₁ _ 2560 h' (omega arith) (omega arith))
    where
      go : Has d₁ 2560 (envelope_row b (data_start b) (envelope_start b)) → EnvelopeIndexed b d₁
      go g = record {
        within = let s = w.sound in omega (arith, s.least, s.tables);
        sender_qualifier = is_small bytes_c b (data_start b) _ _ _ low (g 0 (omega arith)) envelope_is.sender_qualifier;
        sender_id = is_small bytes_c b (data_start b) _ _ _ low (g 1 (omega arith)) envelope_is.sender_id;
        receiver_qualifier = is_small bytes_c b (data_start b) _ _ _ low (g 2 (omega arith)) envelope_is.receiver_qualifier;
        receiver_id = is_small bytes_c b (data_start b) _ _ _ low (g 3 (omega arith)) envelope_is.receiver_id;
        application_sender = is_small (opt_c bytes_c) b (data_start b) _ _ _ low (g 4 (omega arith)) envelope_is.application_sender;
        application_receiver = is_small (opt_c bytes_c) b (data_start b) _ _ _ low (g 5 (omega arith)) envelope_is.application_receiver;
        date = is_small num_c b (data_start b) _ _ _ low (g 6 (omega arith)) envelope_is.date;
        time = is_small num_c b (data_start b) _ _ _ low (g 7 (omega arith)) envelope_is.time;
        usage_indicator = is_small bytes_c b (data_start b) _ _ _ low (g 8 (omega arith)) envelope_is.usage_indicator;
        control_number = is_small long_c b (data_start b) _ _ _ low (g 9 (omega arith)) envelope_is.control_number;
        element = is_small byte_c b (data_start b) _ _ _ low (g 10 (omega arith)) envelope_is.element;
        component = is_small byte_c b (data_start b) _ _ _ low (g 11 (omega arith)) envelope_is.component;
        segment = is_small byte_c b (data_start b) _ _ _ low (g 12 (omega arith)) envelope_is.segment;
        repetition = is_small (opt_c byte_c) b (data_start b) _ _ _ low (g 13 (omega arith)) envelope_is.repetition;
        line_break = is_small flag_c b (data_start b) _ _ _ low (g 14 (omega arith)) envelope_is.line_break;
      }
