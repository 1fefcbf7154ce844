-- Not to be believed: words of inner contracts, on which no contract of what users call rests.
-- A part of a row segment, as code writes and notes it where the parts come in the order of their places.
use Rattle.std.specs.Prelude.{ℕ, ◌+◌, ◌≡◌, List}
use Rattle.lent.specs.Window.{base}
use Rattle.lent.specs.Fit.{StoredAt}
use Rattle.segment.specs.declared.Separators.{Separators}
use Rattle.segment.specs.declared.Pen.{Pen}
use Rattle.segment.specs.Parts.{or_one}
use Rattle.segment.specs.Pen.{placed, Penned}
use Rattle.segment.specs.Calls.{Fed}
use Rattle.emit.specs.Written.{words_of}
use Rattle.row_segment.specs.declared.parts.Line.{Line}
use Rattle.row_segment.specs.declared.parts.Planned.{Planned}
use Rattle.row_segment.specs.declared.parts.Source.TheVariants.{Cell}
use Rattle.row_segment.specs.declared.feed.Behind.{Behind}
use Rattle.row_segment.specs.Stream.{puts, part_put, outcome_of}

-- the part's text comes from that column
abbrev pub FromCell : Planned → ℕ → Type 0
FromCell p column = p.source ≡ Cell column

-- the part's text stands at its place, and the part is noted: the document went from d to d', the findings from f to f'
pub record Stood (s : Separators) (b : List ℕ) (x : Line) (p : Planned) (pen : Pen) (from n : ℕ) (d f : List ℕ) (r : Behind) (d' f' : List ℕ) : Type 0 where
  pub penned : Penned (placed s pen p.element (or_one p.component) (outcome_of b x p).text) pen.at r.pen d d'
  pub findings : StoredAt base f from (words_of (part_put b x p).findings) r.findings f'
  pub entries : r.entries ≡ n + (part_put b x p).entries

-- so do all parts of a line
pub record AllStood (s : Separators) (b : List ℕ) (x : Line) (pen : Pen) (from : ℕ) (d f : List ℕ) (r : Behind) (d' f' : List ℕ) : Type 0 where
  pub fed : Fed s (puts b x 0).parts pen d r.pen d'
  pub findings : StoredAt base f from (words_of (puts b x 0).findings) r.findings f'
  pub entries : r.entries ≡ (puts b x 0).entries
