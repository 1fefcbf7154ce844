-- Not to be believed: words of inner contracts, on which no contract of what users call rests.
-- What `window` answers and what the four lent lists then hold, for every byte string and every length of the lists (docs/RULES.md, "Answers"). Of the
-- findings the list is a window: it holds those from one number on.
use Rattle.std.specs.Prelude.{ℕ, ◌/◌, ◌≡◌, List, length, take, drop}
use Rattle.format.specs.Sections.{job_of}
use Rattle.nest.specs.Finding.{record_of}
use Rattle.emit.specs.Words.{traced_word, stop_word}
use Rattle.writer.specs.Answer.{Answered, number_of, values_of}
use Rattle.writer.specs.Result.{result_of, ResultKept}
use Rattle.writer.specs.Refused.{refusal}
use Rattle.writer.specs.Lists.{in_front, holding, unless_refused}
use Rattle.writer.specs.Numbers.{threes, number_for, values_for}

abbrev pub tens : List ℕ → ℕ
tens d = length d / 10

-- a window: the findings from number `from` on
unfoldable pub window_from : List ℕ → ℕ → List ℕ → List ℕ
window_from b from w = unless_refused (refusal b) w (holding (tens w) record_of (drop from (result_of (job_of b)).findings) w)

-- the list of findings has `room` places; w is the window that begins with number `from`
pub record WroteFrom (b d d' g g' w w' p p' : List ℕ) (from room : ℕ) (a : Answered) : Type 0 where
  pub number : number_of a ≡ number_for b (length d) (threes g) room (threes p)
  pub values : values_of a ≡ values_for b
  pub document : d' ≡ unless_refused (refusal b) d (in_front (take (length d) (result_of (job_of b)).bytes) d)
  pub segments : g' ≡ unless_refused (refusal b) g (holding (threes g) traced_word (result_of (job_of b)).segments g)
  pub findings : w' ≡ window_from b from w
  pub stops : p' ≡ unless_refused (refusal b) p (holding (threes p) stop_word (result_of (job_of b)).stops p)
  -- of what a job with a complete plan comes to nothing is lost (docs/RULES.md, "Nothing is lost")
  pub nothing_lost : refusal b ≡ 0 → ResultKept (job_of b) (result_of (job_of b))
