-- Not to be believed: words of inner contracts, on which no contract of what users call rests.
-- What code did that writes an `Out`: the state that it returns, and the four lent lists.
use Rattle.std.specs.Prelude.{ℕ, ◌≤◌, ◌<◌, ◌≡◌, List, [], ◌∷◌, map, length, set, Option, None, Some}
use Rattle.std.specs.Option.{option_map}
use Rattle.lent.specs.Fit.{cap, more, Stored}
use Rattle.lent.specs.Window.{Noted}
use Rattle.spec.specs.declared.ids.RowId.{RowId}
use Rattle.nest.specs.Lists.{each}
use Rattle.format.specs.Job.{Job}
use Rattle.walk.specs.Tour.{Stop, Step, segments_in}
use Rattle.emit.specs.declared.state.Counts.{Counts}
use Rattle.emit.specs.declared.state.State.{State}
use Rattle.emit.specs.declared.state.Taken.{Taken}
use Rattle.emit.specs.declared.state.From.{From}
use Rattle.emit.specs.declared.state.From.TheVariants.{Envelope, Row}
use Rattle.emit.specs.Written.{words_of}
use Rattle.emit.specs.Fold as F
use Rattle.emit.specs.Words.{traced_word, stop_word}

-- ---- the state

-- a table's highest row entered, if one was
abbrev pub Mark : Type 0
Mark = Option RowId

abbrev pub mark_of : Mark → Option ℕ
mark_of = option_map (λ (r : RowId). r.0)

unfoldable pub state_of : State → F.State
state_of s = record { high = map mark_of s.high; counter = s.counter; entries = s.counts.entries; begun = s.counts.begun }

abbrev pub state_with : List Mark → List ℕ → Counts → State
state_with h c s = record { high = h; counter = c; counts = s }

-- ---- as numbers

unfoldable pub traced_words : List F.Traced → List ℕ
traced_words = each traced_word

unfoldable pub stop_words : List Stop → List ℕ
stop_words = each stop_word

-- ---- what was done

-- from the state s to the state r the document went from d to d', the segments from g to g', the findings from f to f', the stops from p to p'
pub record Did (o : F.Out) (s r : State) (d d' g g' f f' p p' : List ℕ) : Type 0 where
  pub state : state_of r ≡ o.state
  pub document : Stored d s.counts.bytes o.bytes r.counts.bytes d'
  pub segments : Stored g s.counts.segments (traced_words o.segments) r.counts.segments g'
  pub findings : Noted f s.counts.findings (words_of o.findings) r.counts.findings f'
  pub stops : Stored p s.counts.stops (stop_words o.stops) r.counts.stops p'

-- the same of code that moves the counts alone: whatever the rest of the state is, it stays
abbrev pub DidCounts : (F.State → F.Out) → (s r : Counts) (d d' g g' f f' p p' : List ℕ) → Type 0
DidCounts o s r d d' g g' f f' p p' = (high : List Mark) (counter : List ℕ) → Did (o (state_of (state_with high counter s))) (state_with high counter s) (state_with high counter r) d d' g g' f f' p p'

-- the same of code that moves the highest row of table t from m to n too, and of code that moves the next number of loop l from a to b
abbrev pub DidMark : ℕ → (F.State → F.Out) → (m n : Mark) (s r : Counts) (d d' g g' f f' p p' : List ℕ) → Type 0
DidMark t o m n s r d d' g g' f f' p p' = (high : List Mark) (counter : List ℕ) → t < length high
    → Did (o (state_of (state_with (set high t m) counter s))) (state_with (set high t m) counter s) (state_with (set high t n) counter r) d d' g g' f f' p p'

abbrev pub DidNumber : ℕ → (F.State → F.Out) → (a b : ℕ) (s r : Counts) (d d' g g' f f' p p' : List ℕ) → Type 0
DidNumber l o a b s r d d' g g' f f' p p' = (high : List Mark) (counter : List ℕ) → l < length counter
    → Did (o (state_of (state_with high (set counter l a) s))) (state_with high (set counter l a) s) (state_with high (set counter l b) r) d d' g g' f f' p p'

-- the counts are within the cap
pub record Within (s : Counts) : Type 0 where
  pub bytes : s.bytes ≤ cap
  pub segments : s.segments ≤ cap
  pub findings : s.findings ≤ cap
  pub stops : s.stops ≤ cap

abbrev pub Small : State → Type 0
Small s = Within s.counts

-- ---- what moves the state on

abbrev pub row_in : From → Option (ℕ × ℕ)
row_in Envelope = None
row_in (Row t r) = Some (t.0, r.0)

-- e trace entries more, and the segment is finished; b bytes and f numbers of findings stand then
pub record Finished (from : From) (e b f : ℕ) (s n : Counts) (g g' : List ℕ) : Type 0 where
  pub entries : n.entries ≡ more s.entries e
  pub begun : n.begun ≡ more s.entries e
  pub bytes : n.bytes ≡ b
  pub segments : Stored g s.segments (traced_words (record { entry = s.begun; row = row_in from } ∷ [])) n.segments g'
  pub findings : n.findings ≡ f
  pub stops : n.stops ≡ s.stops

-- ---- steps

-- these steps were taken from the state s on
pub record Took (j : Job) (xs : List Step) (s : State) (r : Taken) (d d' g g' f f' p p' : List ℕ) : Type 0 where
  pub did : Did (F.steps_out j xs (state_of s)) s r.state d d' g g' f f' p p'
  pub written : r.written ≡ segments_in xs
