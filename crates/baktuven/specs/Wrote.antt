-- What `write` answers and what the four lent lists then hold, for every byte string and every length of the lists (docs/RULES.md, "Answers" and "What a
-- call tells").
use Rattle.std.specs.Prelude.{ℕ, ◌≡◌, List, ◌++◌, map, length, take, drop}
use Rattle.finding.specs.declared.Finding.{Finding}
use Rattle.finding.specs.Findings.{finding_from}
use Rattle.format.specs.Sections.{job_of}
use Rattle.nest.specs.Finding as N
use Rattle.nest.specs.Finding.{record_of}
use Rattle.emit.specs.Words.{traced_word, stop_word}
use Rattle.writer.specs.Answer.{Answered, number_of, values_of}
use Rattle.writer.specs.Result.{result_of, ResultKept}
use Rattle.writer.specs.Refused.{refusal}
use Rattle.writer.specs.Lists.{in_front, holding, unless_refused}
use Rattle.writer.specs.Numbers.{threes, number_for, values_for}
use Rattle.baktuven.specs.Held.{NothingLostIn}

-- a finding as its record of ten numbers
abbrev pub finding_of : N.Finding → Finding
finding_of x = finding_from (record_of x)

-- as many first records as fit at the front, the rest untouched
abbrev pub in_places : List Finding → List Finding → List Finding
in_places xs f = take (length f) xs ++ drop (length xs) f

pub record Wrote (b d d' g g' : List ℕ) (f f' : List Finding) (p p' : List ℕ) (a : Answered) : Type 0 where
  pub number : number_of a ≡ number_for b (length d) (threes g) (length f) (threes p)
  pub values : values_of a ≡ values_for b
  pub document : d' ≡ unless_refused (refusal b) d (in_front (take (length d) (result_of (job_of b)).bytes) d)
  pub segments : g' ≡ unless_refused (refusal b) g (holding (threes g) traced_word (result_of (job_of b)).segments g)
  pub findings : f' ≡ unless_refused (refusal b) f (in_places (map finding_of (result_of (job_of b)).findings) f)
  pub stops : p' ≡ unless_refused (refusal b) p (holding (threes p) stop_word (result_of (job_of b)).stops p)
  -- of what a job with a complete plan comes to nothing is lost (docs/RULES.md, "Nothing is lost")
  pub nothing_lost : refusal b ≡ 0 → ResultKept (job_of b) (result_of (job_of b))
  -- and of what the lists of a finished job hold
  pub nothing_lost_in : number_of a ≡ 0 → NothingLostIn (job_of b) (values_of a) d' g' f' p'
