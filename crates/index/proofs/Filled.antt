-- The regions of the index are filled one after the other, and none changes another.
use Prim.Native.Nat.{ℕ, ◌≤◌, ◌<◌}
use mathlib.Core.Path.{◌≡◌, ◌∙◌}
use mathlib.Core.List.{List}
use native.Mathlib.Omega.{arith}
use lib.ListN.{length, get_or}
use Rattle.format.specs.Passed.{Passed}
use Rattle.spec.proofs.Index.{spec_agrees}
use Rattle.spec.proofs.SegmentsLaws.{segments_agree}
use Rattle.spec.proofs.EnvelopeIndex.{envelope_agrees}
use Rattle.spec.specs.Filled.{Filled}
use Rattle.plan.specs.Index.{PlanFilled}
use Rattle.plan.proofs.IndexLaws.{plan_indexed_kept}
use Rattle.tables.specs.Index.{TablesFilled}
use Rattle.nest.specs.Ready.{Ready}

pub filled : (b d₀ d₁ d₂ d₃ : List ℕ) → Passed b → 10752 ≤ length d₀ → Filled b d₀ d₁ → PlanFilled b d₁ d₂ → TablesFilled b d₂ d₃ → Ready b d₃ × (length d₃ ≡ length d₀)
filled b d₀ d₁ d₂ d₃ w n x y z =
    let n₁ = x.long in
    let n₂ = y.kept.long in
    let n₃ = z.kept.long in (
      record {
        passed = w;
        spec = spec_agrees b d₁ d₃ (x.spec n) (λ i q. z.kept.below i (omega arith) ∙ y.kept.below i (omega arith));
        segments = segments_agree b d₁ d₃ (x.segments n) (λ i q r. z.kept.above i (omega arith) ∙ y.kept.above i (omega arith));
        envelope = envelope_agrees b d₁ d₃ (x.envelope n) (λ i q r. z.kept.below i (omega arith) ∙ y.kept.above i (omega arith));
        plan = plan_indexed_kept b d₂ d₃ (λ i q r. z.kept.below i (omega arith)) (y.indexed (omega arith));
        tables = z.indexed (omega arith);
      },
      n₃ ∙ n₂ ∙ n₁,
    )
