-- What a finished segment and a stop come to.
use Prim.Native.Nat.{ℕ}
use mathlib.Core.Path.{◌≡◌, refl}
use mathlib.Core.List.{List, [], ◌∷◌}
use native.Mathlib.Omega.{arith}
use Rattle.std.specs.Prelude.{None}
use Rattle.format.specs.Spec.{Control}
use Rattle.format.specs.Job.{Job}
use Rattle.lent.specs.Fit.{Stored}
use Rattle.lent.specs.Window.{Noted}
use Rattle.lent.proofs.Laws.{unmoved}
use Rattle.segment.specs.declared.Separators.{Separators}
use Rattle.segment.specs.Parts.{Part, joined}
use Rattle.nest.specs.Finding.{Finding}
use Rattle.nest.specs.Outline.{Outline}
use Rattle.emit.specs.declared.state.Counts.{Counts}
use Rattle.emit.specs.declared.state.From.{From}
use Rattle.emit.specs.declared.state.From.TheVariants.{Envelope}
use Rattle.emit.specs.Written.{words_of}
use Rattle.emit.specs.Envelope.{closer_put}
use Rattle.emit.specs.Fold.{separators_of, segment_out, order_findings, higher, stop_out}
use Rattle.emit.specs.Did.{Mark, mark_of, state_of, stop_words, traced_words, row_in, DidCounts, DidMark, Within, Finished}
use Rattle.emit.proofs.FindingLaws.{none_stored}
use Rattle.emit.proofs.StateLaws.{mark_in, mark_over}
use Rattle.emit.proofs.JoinLaws.{closer_quiet}

-- the bytes of a segment, its findings, its trace
pub did_segment : {s n : Counts} {d d' g g' f f' p : List ℕ} {b k : ℕ} (j : Job) (id : List ℕ) (parts : List Part) (fs : List Finding) (entries : ℕ) (from : From) → Within s
    → Stored d s.bytes (joined (separators_of j) id parts) b d' → Noted f s.findings (words_of fs) k f' → Finished from entries b k s n g g'
    → DidCounts (segment_out j id parts fs entries (row_in from)) s n d d' g g' f f' p p
unfolding state_of stop_words
did_segment j id parts fs entries from h x y z high counter = record {
  state = rw (z.entries, z.begun) refl;
  document = rw z.bytes x;
  segments = z.segments;
  findings = rw z.findings y;
  stops = unmoved h.stops z.stops;
}

-- the findings on a row's order, its stop, and the highest row then
pub did_stop : {d g f f' p p' : List ℕ} (o : Outline) (l t r k a : ℕ) (m n : Mark) (s : Counts) → Within s
    → Noted f s.findings (words_of (order_findings o t r (mark_of m))) k f' → Stored p s.stops (l ∷ t ∷ r ∷ []) a p' → mark_of n ≡ higher (mark_of m) r
    → DidMark t (stop_out o l t r) m n s (record { entries = s.entries; begun = s.begun; bytes = s.bytes; segments = s.segments; findings = k; stops = a }) d d g g f f' p p'
unfolding state_of stop_out traced_words stop_words
did_stop o l t r k a m n s h y z e high counter b = record {
  state = rw (mark_over high t m n, e, mark_in high t m b) refl;
  document = unmoved h.bytes refl;
  segments = unmoved h.segments refl;
  findings = rw (mark_in high t m b) y;
  stops = z;
}

-- the closer of a loop
pub did_closer : {s n : Counts} {d d' g g' : List ℕ} {b entries : ℕ} (j : Job) (sep : Separators) (id : List ℕ) (k : Control) (control : List ℕ) (count : ℕ) (f p : List ℕ)
    → separators_of j ≡ sep → Within s → entries ≡ (closer_put k control count).entries
    → Stored d s.bytes (joined sep id (closer_put k control count).parts) b d' → Finished Envelope entries b s.findings s n g g'
    → DidCounts (segment_out j id (closer_put k control count).parts (closer_put k control count).findings (closer_put k control count).entries None) s n d d' g g' f f p p
did_closer {s = s} j sep id k control count f p q h e x z high counter =
    rw (closer_quiet k control count, ← e) (did_segment j id (closer_put k control count).parts [] _ Envelope h (rw q x) (none_stored (omega (arith, h.findings))) z high counter)
