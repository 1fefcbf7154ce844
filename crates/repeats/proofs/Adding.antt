-- What one row, and the end of a chunk, come to.
use Prim.Native.Nat.{ℕ, suc, ◌+◌, ◌≤◌, ◌<◌}
use mathlib.Core.Path.{◌≡◌, refl, sym, ◌∙◌}
use mathlib.Core.Bool.{Bool, true, false}
use mathlib.Core.List.{List, [], ◌∷◌}
use native.Mathlib.Omega.{arith}
use native.Mathlib.Numerals.{add-one}
use Rattle.std.specs.Prelude.{None}
use lib.ListN.{length, take, set, replicate, length-set, length-replicate}
use lib.Seq.{take-suc-set}
use Rattle.lent.specs.Fit.{cap}
use Rattle.lent.proofs.Fit.{wide}
use Rattle.format.specs.Job.{Job}
use Rattle.nest.specs.OfJob.{outline_of}
use Rattle.spec.specs.declared.ids.RowId.{RowId}
use Rattle.walk.specs.Tour.{stop, fill, chunk, segments_in}
use Rattle.emit.specs.declared.state.Counts.{Counts}
use Rattle.emit.specs.Fold as F
use Rattle.emit.specs.Fold.{stop_out, fill_out, chunk_out, steps_out}
use Rattle.emit.specs.Did.{Mark, state_of, state_with, Did, DidCounts, DidMark, Within}
use Rattle.emit.proofs.Did.{Fit}
use Rattle.emit.proofs.DidLaws.{did_fit, did_small}
use Rattle.emit.proofs.TookLaws.{did_steps, did_step, step_stop, step_fill, step_chunk}
use Rattle.repeats.specs.declared.Chunk.{Chunk}
use Rattle.repeats.specs.declared.Repeated.{Repeated}
use Rattle.repeats.specs.Going.{row_adds, head_then, rows_then, count_then}
use Rattle.repeats.specs.Added.{Added}

-- what code did that was given the highest row of a table, for some marks
abbrev pub no_marks : ℕ → List Mark
no_marks t = replicate (suc t) None

module _ {m n : Mark} {s c : Counts} {d d₁ g g₁ f f₁ p p₁ : List ℕ} (t : ℕ) (o : F.State → F.Out) (x : DidMark t o m n s c d d₁ g g₁ f f₁ p p₁) where
  pub mark_some : Did (o (state_of (state_with (set (no_marks t) t m) [] s))) (state_with (set (no_marks t) t m) [] s) (state_with (set (no_marks t) t n) [] c) d d₁ g g₁ f f₁ p p₁
  mark_some = let e : length (no_marks t) ≡ suc t = length-replicate (suc t) None in x (no_marks t) [] (omega (arith, e))

  pub mark_small : Within c
  mark_small = did_small mark_some

-- a row is entered, and gives its cells
pub row_added : {m n : Mark} {s c₁ c₂ : Counts} {f f₁ f₂ p p₁ : List ℕ} (j : Job) (l i t k r : ℕ) → length f ≤ wide → length p ≤ cap
    → ((d g : List ℕ) → DidMark t (stop_out (outline_of j) l t r) m n s c₁ d d g g f f₁ p p₁)
    → ((d g q : List ℕ) → DidCounts (fill_out j l i t k r) c₁ c₂ d d g g f₁ f₂ q q)
    → (d g : List ℕ) → length d ≤ cap → length g ≤ cap → DidMark t (steps_out j (stop l t r ∷ fill l i t k r ∷ [])) m n s c₂ d d g g f f₂ p p₁
row_added {m} {n} {s} {c₁} {f₁ = f₁} {p₁ = p₁} j l i t k r hf hp x y d g hd hg high counter h =
    did_steps {r = state_with (set high t n) counter c₁} {d₁ = d} {g₁ = g} {f₁ = f₁} {p₁ = p₁} j (stop l t r ∷ []) (fill l i t k r ∷ []) (record { document = hd; segments = hg; findings = hf; stops = hp })
    (did_step j (stop l t r) (rw (step_stop j l t r (state_of (state_with (set high t m) counter s))) (x d g high counter h)))
    (did_step j (fill l i t k r) (rw (step_fill j l i t k r (state_of (state_with (set high t n) counter c₁))) (y d g p₁ (set high t n) counter)))

-- the segment of a chunk
pub chunk_closed : {n : Counts} {d d₁ g g₁ f p : List ℕ} (j : Job) (l i t : ℕ) (rs : List ℕ) (m : Mark) (s : Counts) → DidCounts (chunk_out j l i t rs) s n d d₁ g g₁ f f p p
    → DidMark t (steps_out j (chunk l i t rs ∷ [])) m m s n d d₁ g g₁ f f p p
chunk_closed j l i t rs m s x high counter h = did_step j (chunk l i t rs) (rw (step_chunk j l i t rs (state_of (state_with (set high t m) counter s))) (x (set high t m) counter))

-- a row that joins the chunk
pub row_joins : (j : Job) (l i t r : ℕ) (c : Chunk) (m : Mark) (s : Counts) {a a₁ d g f f₁ p p₁ : List ℕ} → c.count < length a → a₁ ≡ set a c.count r
    → DidMark t (steps_out j (stop l t r ∷ fill l i t c.count r ∷ [])) c.mark m c.counts s d d g g f f₁ p p₁
    → Added j l i t true r c (record { mark = m; counts = s; written = c.written; head = c.head; count = c.count + 1 }) a a₁ d d g g f f₁ p p₁
unfolding row_adds head_then rows_then count_then segments_in
row_joins j l i t r c m s {a} h e x = record {
  did = x;
  written = omega arith;
  head = refl;
  rows = rw (e, add-one) (take-suc-set a c.count r h);
  count = refl;
  long = rw e (length-set a c.count r);
}

-- a row that begins the next chunk
pub row_begins : (j : Job) (l i t : ℕ) (r : RowId) (c : Chunk) (m : Repeated) (n : Mark) (s : Counts) {a a₁ d d₁ g g₁ f f₁ p p₁ : List ℕ} → 0 < length a → a₁ ≡ set a 0 r.0 → Fit d g f p
    → ((u v : List ℕ) → DidMark t (steps_out j (chunk l i t (take c.count a) ∷ [])) c.mark m.mark c.counts m.counts d d₁ g g₁ u u v v)
    → m.written ≡ c.written + 1
    → ((u v : List ℕ) → length u ≤ cap → length v ≤ cap → DidMark t (steps_out j (stop l t r.0 ∷ fill l i t 0 r.0 ∷ [])) m.mark n m.counts s u u v v f f₁ p p₁)
    → Added j l i t false r.0 c (record { mark = n; counts = s; written = m.written; head = r; count = 1 }) a a₁ d d₁ g g₁ f f₁ p p₁
unfolding row_adds head_then rows_then count_then segments_in
row_begins j l i t r c m n s {a} {d₁ = d₁} {g₁ = g₁} {f = f} {p = p} h e k x w y =
    let z = did_fit k (mark_some t (steps_out j (chunk l i t (take c.count a) ∷ [])) (x f p)) in
    record {
      did = λ high counter b. did_steps j (chunk l i t (take c.count a) ∷ []) (stop l t r.0 ∷ fill l i t 0 r.0 ∷ []) k (x f p high counter b) (y d₁ g₁ z.document z.segments high counter b);
      written = w;
      head = refl;
      rows = rw e (take-suc-set a 0 r.0 h);
      count = refl;
      long = rw e (length-set a 0 r.0);
    }

-- whether it joins is what the test says
pub added_by : {j : Job} {l i t r : ℕ} {c n : Chunk} {a a₁ d d₁ g g₁ f f₁ p p₁ : List ℕ} (x y z : Bool) → x ≡ y → x ≡ z → Added j l i t z r c n a a₁ d d₁ g g₁ f f₁ p p₁ → Added j l i t y r c n a a₁ d d₁ g g₁ f f₁ p p₁
added_by x y z e q h = rw (sym e ∙ q) h
