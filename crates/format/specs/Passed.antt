-- Not to be believed: words of inner contracts, on which no contract of what users call rests.
-- What a job that is not refused is, and the number of one that is.
use Rattle.std.specs.Prelude.{ℕ, ◌≡◌, List, false}
use Rattle.format.specs.Sections.{job_of}
use Rattle.format.specs.Decoding.{ReadAs, Sound}
use Rattle.format.specs.Refusal.{over, tangled, unfit}

pub record Passed (b : List ℕ) : Type 0 where
  pub sound : Sound b
  pub read : ReadAs b (job_of b)
  pub limits : over (job_of b) ≡ false
  pub forest : tangled (job_of b) ≡ false
  pub fit : unfit (job_of b) ≡ false
