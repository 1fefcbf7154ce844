-- Refusals 1 to 6: the lowest that applies (docs/RULES.md, "Answers").
use Rattle.std.specs.Prelude.{ℕ, zero, suc, Bool, List, ltb}
use Rattle.codec.specs.Codec.{pick}
use Rattle.format.specs.Job.{Job}
use Rattle.format.specs.Sections.{job_of}
use Rattle.format.specs.Refusal.{refusal_of}
use Rattle.nest.specs.OfJob.{outline_of}
use Rattle.walk.specs.Tour.{census}

-- the first number, or where it is 0 the second
abbrev pub first_of : ℕ → ℕ → ℕ
first_of zero n = n
first_of (suc k) n = suc k

-- 6: the walk enters more than 65,536 loop instances
unfoldable pub crowded : Job → Bool
crowded j = ltb 65536 (census (outline_of j))

-- 0 where none applies
unfoldable pub refusal : List ℕ → ℕ
refusal b = first_of (refusal_of b) (pick (crowded (job_of b)) 6 0)
