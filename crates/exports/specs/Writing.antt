-- What `baktuven_write` gives: the answer's number, the four counts at the front of a list, and what the lent lists then hold, as `write` has them
-- (docs/RULES.md, "Answers").
use Rattle.std.specs.Prelude.{ℕ, ◌≡◌, ◌≤◌, List, map, length, take}
use Rattle.std.proofs.lemmas.List.Edits.{sets}
use Rattle.finding.specs.declared.Finding.{Finding}
use Rattle.format.specs.Sections.{job_of}
use Rattle.emit.specs.Words.{traced_word, stop_word}
use Rattle.writer.specs.Result.{result_of, ResultKept}
use Rattle.writer.specs.Refused.{refusal}
use Rattle.writer.specs.Lists.{in_front, holding, unless_refused}
use Rattle.writer.specs.Numbers.{threes, number_for, values_for}
use Rattle.baktuven.specs.Held.{NothingLostIn}
use Rattle.baktuven.specs.Wrote.{finding_of, in_places}

pub record WroteOut (b d d' g g' : List ℕ) (f f' : List Finding) (p p' c c' : List ℕ) (r : ℕ) : Type 0 where
  pub number : r ≡ number_for b (length d) (threes g) (length f) (threes p)
  pub counts : c' ≡ sets c 0 (values_for b)
  pub document : d' ≡ unless_refused (refusal b) d (in_front (take (length d) (result_of (job_of b)).bytes) d)
  pub segments : g' ≡ unless_refused (refusal b) g (holding (threes g) traced_word (result_of (job_of b)).segments g)
  pub findings : f' ≡ unless_refused (refusal b) f (in_places (map finding_of (result_of (job_of b)).findings) f)
  pub stops : p' ≡ unless_refused (refusal b) p (holding (threes p) stop_word (result_of (job_of b)).stops p)
  -- of what a job with a complete plan comes to nothing is lost (docs/RULES.md, "Nothing is lost")
  pub nothing_lost : refusal b ≡ 0 → ResultKept (job_of b) (result_of (job_of b))
  -- and of what the lists hold where the answer is 0, as many of each as the counts say
  pub nothing_lost_in : r ≡ 0 → NothingLostIn (job_of b) (values_for b) d' g' f' p'
  -- the same by the list of counts that the caller holds, where it has room for the four
  pub nothing_lost_held : r ≡ 0 → 4 ≤ length c → NothingLostIn (job_of b) c' d' g' f' p'
