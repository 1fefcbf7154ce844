-- Not to be believed: words of inner contracts, on which no contract of what users call rests.
-- What is noted of the parts of a row segment.
use Rattle.std.specs.Prelude.{ℕ, ◌+◌, ◌≤◌, ◌<◌, max, ◌≡◌, List, length}
use Rattle.lent.specs.Window.{base}
use Rattle.lent.specs.Fit.{cap, StoredAt}
use Rattle.format.specs.Sections.{job_of}
use Rattle.format.specs.Refusal.{separators}
use Rattle.segment.specs.Parts.{last_element}
use Rattle.nest.specs.Finding.{number_from}
use Rattle.emit.specs.Puts.{Put}
use Rattle.emit.specs.Written.{tried, words_of}
use Rattle.row_segment.specs.declared.parts.Line.{Line}
use Rattle.row_segment.specs.declared.parts.Look.{Look}
use Rattle.row_segment.specs.declared.notes.Tally.{Tally}
use Rattle.row_segment.specs.declared.notes.Tried.{Tried}
use Rattle.row_segment.specs.Stream.{id_of, puts, ahead}

-- the texts of a line are tried for the job's separators, and noted under its identifier
pub record Tries (b : List ℕ) (x : Line) (y : Tried) : Type 0 where
  pub name : y.name ≡ number_from 0 (id_of b x)
  pub delimiters : tried y.delimiters ≡ separators (job_of b).envelope

-- what puts give was noted: the tally went from s to r, the findings from f to f'
pub record Notes (p : Put) (s r : Tally) (f f' : List ℕ) : Type 0 where
  pub findings : StoredAt base f s.findings (words_of p.findings) r.findings f'
  pub entries : r.entries ≡ s.entries + p.entries
  pub last : r.last ≡ max s.last (last_element p.parts)

-- the parts from look n up to look m were noted, the tally going from s to t, the findings from f to f': with those from m on, all from n on are
pub record Between (b : List ℕ) (x : Line) (n m : Look) (s t : Tally) (f f' : List ℕ) : Type 0 where
  pub whole : (r : Tally) (g : List ℕ) → Notes (ahead b x m) t r f' g → Notes (ahead b x n) s r f g
  pub entries : t.entries + (ahead b x m).entries ≡ s.entries + (ahead b x n).entries
  pub small : s.findings ≤ cap → t.findings ≤ cap
  pub long : length f' ≡ length f

-- the trace entries of a look still fit
abbrev pub Room : List ℕ → Line → Tally → Look → Type 0
Room b x t n = t.entries + (ahead b x n).entries < 4294967296

-- all parts of a line were noted: n numbers of findings stand then, of which `from` stood before, and there are k trace entries
pub record Totals (b : List ℕ) (x : Line) (from n k : ℕ) (f f' : List ℕ) : Type 0 where
  pub findings : StoredAt base f from (words_of (puts b x 0).findings) n f'
  pub entries : k ≡ (puts b x 0).entries
