-- Not to be believed: words of inner contracts, on which no contract of what users call rests.
-- The parts of a row segment at one element, as code looks through them.
use Rattle.std.specs.Prelude.{ℕ, ◌<◌, ◌≡◌, List, length, Some}
use Rattle.lent.specs.Fit.{Stored}
use Rattle.segment.specs.declared.Separators.{Separators}
use Rattle.segment.specs.declared.Pen.{Pen}
use Rattle.segment.specs.Parts.{here, after, last_component, component_text}
use Rattle.segment.specs.Values.{closing}
use Rattle.segment.specs.Group.{Group}
use Rattle.segment.specs.Calls.{Row}
use Rattle.row_segment.specs.declared.parts.Line.{Line}
use Rattle.row_segment.specs.declared.parts.Look.{Look}
use Rattle.row_segment.specs.declared.parts.Planned.{Planned}
use Rattle.row_segment.specs.declared.join.Step.{Step}
use Rattle.row_segment.specs.Stream.{ahead, Sees, left}

-- of the parts at element e with which a look begins: their last filled component, and the look behind them
pub record Scans (b : List ℕ) (x : Line) (n : Look) (e k : ℕ) (m : Look) : Type 0 where
  pub last : last_component (here e (ahead b x n).parts) ≡ k
  pub rest : after e (ahead b x n).parts ≡ (ahead b x m).parts
  pub sees : Sees b x m
  pub low : k < 4294967296
  pub less : (p : Planned) → n.part ≡ Some p → p.element ≡ e → left x.count m < left x.count n

-- element e, with which a look begins, is written, and its parts are passed
pub record Steps (s : Separators) (b : List ℕ) (x : Line) (n : Look) (e : ℕ) (pen : Pen) (d : List ℕ) (r : Step) (d' : List ℕ) : Type 0 where
  pub last : ℕ
  pub scans : Scans b x n e last r.after
  pub group : Group s last (component_text (here e (ahead b x n).parts)) e 1 pen d r.pen d'

-- the parts of a look are written as far as their elements rise: closing the segment completes it
pub record Rows (s : Separators) (b : List ℕ) (x : Line) (n : Look) (pen : Pen) (d : List ℕ) (r : Step) (d' : List ℕ) : Type 0 where
  pub row : (last e : ℕ) (d₂ : List ℕ) → Stored d' r.pen.at (closing s r.pen last) e d₂ → Row s last 1 (ahead b x n).parts pen d e d₂
  pub sees : Sees b x r.after
  pub long : length d' ≡ length d
