-- What code did, one after the other.
use Prim.Native.Nat.{ℕ, ◌≤◌, ◌<◌}
use mathlib.Core.Path.{◌≡◌, refl, sym, ap, ◌∙◌}
use mathlib.Core.List.{List, [], ◌∷◌, ◌++◌, append_assoc}
use native.Mathlib.Omega.{arith}
use Rattle.std.specs.Prelude.{None}
use lib.ListN.{length, get_or, set}
use lib.Seq.{set-get_or}
use Rattle.lent.specs.Fit.{cap, Stored}
use Rattle.lent.proofs.Laws.{unmoved, stored_append, stored_length, stored_small}
use Rattle.walk.specs.Tour.{Stop}
use Rattle.emit.specs.declared.state.Counts.{Counts}
use Rattle.emit.specs.declared.state.State.{State}
use Rattle.emit.specs.Fold as F
use Rattle.emit.specs.Fold.{quiet, and_then}
use Rattle.emit.specs.Written.{words_of}
use Rattle.emit.specs.Did.{Mark, state_of, state_with, traced_words, stop_words, Did, DidMark, DidNumber, Small}
use Rattle.emit.specs.Words.{traced_word, stop_word}
use Rattle.emit.proofs.Did.{Fit}
use Rattle.emit.proofs.FindingLaws.{stored_findings, none_stored}

traced_append : (a b : List F.Traced) → traced_words (a ++ b) ≡ traced_words a ++ traced_words b
unfolding traced_words
traced_append [] b = refl
traced_append (x ∷ a) b = ap (λ (l : List ℕ). traced_word x ++ l) (traced_append a b) ∙ sym (append_assoc (traced_word x) (traced_words a) (traced_words b))

stops_append : (a b : List Stop) → stop_words (a ++ b) ≡ stop_words a ++ stop_words b
unfolding stop_words
stops_append [] b = refl
stops_append (x ∷ a) b = ap (λ (l : List ℕ). stop_word x ++ l) (stops_append a b) ∙ sym (append_assoc (stop_word x) (stop_words a) (stop_words b))

pub stored_traced : {d d₁ d₂ : List ℕ} {at p q : ℕ} (a b : List F.Traced) → length d ≤ cap → Stored d at (traced_words a) p d₁ → Stored d₁ p (traced_words b) q d₂ → Stored d at (traced_words (a ++ b)) q d₂
stored_traced a b h s t = rw (traced_append a b) (stored_append (traced_words a) (traced_words b) h s t)

pub stored_stops : {d d₁ d₂ : List ℕ} {at p q : ℕ} (a b : List Stop) → length d ≤ cap → Stored d at (stop_words a) p d₁ → Stored d₁ p (stop_words b) q d₂ → Stored d at (stop_words (a ++ b)) q d₂
stored_stops a b h s t = rw (stops_append a b) (stored_append (stop_words a) (stop_words b) h s t)

-- one thing and then another
pub did_then : {s r t : State} {d d₁ d₂ g g₁ g₂ f f₁ f₂ p p₁ p₂ : List ℕ} (a : F.Out) (next : F.State → F.Out) → Fit d g f p
    → Did a s r d d₁ g g₁ f f₁ p p₁ → Did (next (state_of r)) r t d₁ d₂ g₁ g₂ f₁ f₂ p₁ p₂ → Did (and_then a next) s t d d₂ g g₂ f f₂ p p₂
did_then {r = r} a next h x y =
    let z = rw x.state at y in
    record {
      state = z.state;
      document = stored_append a.bytes (next a.state).bytes h.document x.document z.document;
      segments = stored_traced a.segments (next a.state).segments h.segments x.segments z.segments;
      findings = stored_findings a.findings (next a.state).findings h.findings x.findings z.findings;
      stops = stored_stops a.stops (next a.state).stops h.stops x.stops z.stops;
    }

-- nothing
pub did_nothing : (s : State) {d g f p : List ℕ} → Small s → Did (quiet (state_of s)) s s d d g g f f p p
unfolding traced_words stop_words
did_nothing s h = record {
  state = refl;
  document = unmoved h.bytes refl;
  segments = unmoved h.segments refl;
  findings = none_stored (omega (arith, h.findings));
  stops = unmoved h.stops refl;
}

-- the lists keep their lengths, and the counts stay within the cap
pub did_fit : {o : F.Out} {s r : State} {d d₁ g g₁ f f₁ p p₁ : List ℕ} → Fit d g f p → Did o s r d d₁ g g₁ f f₁ p p₁ → Fit d₁ g₁ f₁ p₁
did_fit {o} h x = record {
  document = rw (stored_length o.bytes x.document) h.document;
  segments = rw (stored_length (traced_words o.segments) x.segments) h.segments;
  findings = rw (stored_length (words_of o.findings) x.findings) h.findings;
  stops = rw (stored_length (stop_words o.stops) x.stops) h.stops;
}

pub did_small : {o : F.Out} {s r : State} {d d₁ g g₁ f f₁ p p₁ : List ℕ} → Did o s r d d₁ g g₁ f f₁ p p₁ → Small r
did_small {o} x = record {
  bytes = stored_small o.bytes x.document;
  segments = stored_small (traced_words o.segments) x.segments;
  findings = stored_small (words_of o.findings) x.findings;
  stops = stored_small (stop_words o.stops) x.stops;
}

-- ---- what code did that was given a part of the state

pub did_mark : {n : Mark} {c : Counts} {d d₁ g g₁ f f₁ p p₁ : List ℕ} (o : F.State → F.Out) (s : State) (t : ℕ) (m : Mark) → m ≡ get_or s.high t None → t < length s.high
    → DidMark t o m n s.counts c d d₁ g g₁ f f₁ p p₁ → Did (o (state_of s)) s (state_with (set s.high t n) s.counter c) d d₁ g g₁ f f₁ p p₁
did_mark o s t m e h x = rw (e, set-get_or s.high t None) at (x s.high s.counter h)

pub did_number : {b : ℕ} {c : Counts} {d d₁ g g₁ f f₁ p p₁ : List ℕ} (o : F.State → F.Out) (s : State) (l a : ℕ) → a ≡ get_or s.counter l 0 → l < length s.counter
    → DidNumber l o a b s.counts c d d₁ g g₁ f f₁ p p₁ → Did (o (state_of s)) s (state_with s.high (set s.counter l b) c) d d₁ g g₁ f f₁ p p₁
did_number o s l a e h x = rw (e, set-get_or s.counter l 0) at (x s.high s.counter h)
