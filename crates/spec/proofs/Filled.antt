-- Laws of the definitions of specs/Filled, and words that only proofs use.
use Rattle.std.specs.Prelude.{ℕ, ◌≤◌, List, length}
use Rattle.std.proofs.Common.{◌∙◌, arith}
use Rattle.spec.specs.Index.{SpecIndexed}
use Rattle.spec.proofs.Index.{spec_agrees}
use Rattle.spec.specs.Segments.{SegmentsIndexed}
use Rattle.spec.proofs.SegmentsLaws.{segments_agree}
use Rattle.spec.specs.EnvelopeIndex.{EnvelopeIndexed}
use Rattle.spec.specs.Kept.{Kept}
use Rattle.spec.specs.Filled.{Filled, SpecFilled}

-- the segments stored in between
pub spec_filled : (b d₀ d₁ d₂ d₃ : List ℕ)
    → (10752 ≤ length d₀ → SpecIndexed b d₃) × Kept 0 1024 d₀ d₁ × Kept 0 1024 d₂ d₃
    → (10752 ≤ length d₁ → SegmentsIndexed b d₂) × Kept 4096 10752 d₁ d₂
    → SpecFilled b d₀ d₃
spec_filled b d₀ d₁ d₂ d₃ x y =
    let n₁ = x.1.long in
    let n₂ = y.1.long in
    let n₃ = x.2.long in
    record {
      spec = x.0;
      segments = λ h. segments_agree b d₂ d₃ (y.0 (omega arith)) (λ i q r. x.2.above i (omega arith));
      long = n₃ ∙ n₂ ∙ n₁;
      between = λ i q r. x.2.above i (omega arith) ∙ y.1.below i (omega arith) ∙ x.1.above i (omega arith);
      beyond = λ i q. x.2.above i (omega arith) ∙ y.1.above i (omega arith) ∙ x.1.above i (omega arith);
    }

pub filled : (b d₀ d₁ d₂ : List ℕ) → SpecFilled b d₀ d₁ → (10752 ≤ length d₁ → EnvelopeIndexed b d₂) × Kept 2560 2624 d₁ d₂ → Filled b d₀ d₂
filled b d₀ d₁ d₂ x z =
    let n₁ = x.long in
    let n₂ = z.1.long in
    record {
      spec = λ h. spec_agrees b d₁ d₂ (x.spec h) (λ i q. z.1.below i (omega arith));
      envelope = λ h. z.0 (omega arith);
      segments = λ h. segments_agree b d₁ d₂ (x.segments h) (λ i q r. z.1.above i (omega arith));
      long = n₂ ∙ n₁;
      second = λ i q r. z.1.below i (omega arith) ∙ x.between i (omega arith) (omega arith);
      fourth = λ i q r. z.1.above i (omega arith) ∙ x.between i (omega arith) (omega arith);
      beyond = λ i q. z.1.above i (omega arith) ∙ x.beyond i q;
    }
