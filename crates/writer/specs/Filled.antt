-- Not to be believed: words of inner contracts, on which no contract of what users call rests.
-- What the code knows on the way: the first state, and what the lists hold once the result is stored in them.
use Rattle.std.specs.Prelude.{ℕ, ◌*◌, ◌-◌, List, replicate, None}
use Rattle.lent.specs.Window.{base, Noted}
use Rattle.lent.specs.Fit.{Stored}
use Rattle.emit.specs.declared.state.State.{State}
use Rattle.emit.specs.Written.{words_of}
use Rattle.emit.specs.Did.{traced_words, stop_words}
use Rattle.writer.specs.Result.{Result}

-- no row entered, every counter at the control number, nothing counted but n numbers of findings
abbrev pub first_state : ℕ → ℕ → State
first_state control n = record {
  high = replicate 16 None;
  counter = replicate 32 control;
  counts = record { entries = 0; begun = 0; bytes = 0; segments = 0; findings = n; stops = 0 };
}

-- where the count of findings' numbers starts, so that the window begins with finding number `from`
abbrev pub start_of : ℕ → ℕ
start_of from = base - from * 10

pub record Filled (r : Result) (s : State) (start : ℕ) (d d' g g' f f' p p' : List ℕ) : Type 0 where
  pub document : Stored d 0 r.bytes s.counts.bytes d'
  pub segments : Stored g 0 (traced_words r.segments) s.counts.segments g'
  pub findings : Noted f start (words_of r.findings) s.counts.findings f'
  pub stops : Stored p 0 (stop_words r.stops) s.counts.stops p'
