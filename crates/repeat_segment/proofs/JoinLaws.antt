-- A repeat segment as code joins it.
use Prim.Native.Nat.{ℕ, zero, suc, ◌+◌, ◌≤◌, ◌<◌}
use mathlib.Core.Path.{◌≡◌, refl, ap, ◌∙◌}
use mathlib.Core.Bool.{true, false}
use mathlib.Core.List.{List, [], ◌++◌}
use native.Mathlib.Omega.{arith}
use Rattle.std.specs.Prelude.{None, Some}
use lib.ListN.{length, get_or, take, drop}
use lib.Seq.{drop-cons}
use Rattle.std.proofs.Math.Seq.{take-length}
use Rattle.lent.specs.Fit.{cap, Stored}
use Rattle.lent.specs.Window.{stretch}
use Rattle.format.specs.Plan.{ElementPlan}
use Rattle.format.specs.Sections.{job_of}
use Rattle.segment.specs.declared.Separators.{Separators}
use Rattle.segment.specs.declared.Pen.{Pen}
use Rattle.segment.specs.Parts.{Part, highest, joined, sorted}
use Rattle.segment.specs.Values.{opened, closing}
use Rattle.segment.specs.Pen.{Penned}
use Rattle.spec.specs.Answers.{stretch_of}
use Rattle.segment.specs.Group.{Group}
use Rattle.segment.specs.Calls.{Repeat, position, ended, repeat_text, last_component_at, zero_free}
use Rattle.emit.specs.declared.state.Counts.{Counts}
use Rattle.emit.specs.declared.state.From.{From}
use Rattle.emit.specs.Puts.{chunk_put, chunk_puts}
use Rattle.emit.specs.Fold.{separators_of, chunk_out, first_row}
use Rattle.emit.specs.Did.{row_in, DidCounts, Within, Finished}
use Rattle.emit.proofs.FindingLaws.{none_stored}
use Rattle.emit.proofs.StepLaws.{did_segment}
use Rattle.repeat_segment.specs.declared.planned.Planned.{Planned}
use Rattle.repeat_segment.specs.Planned.{plans_of, id_of, Of}
use Rattle.repeat_segment.specs.Places.{row_puts, parts_from, parts_of, number_by}
use Rattle.segment.proofs.Runs.{repeat_run_stored, stuck_run_stored}

-- ---- the elements

abbrev pub RepeatSoFar : Separators → ℕ → List Part → Pen → List ℕ → ℕ → Pen → List ℕ → Type 0
RepeatSoFar s last parts pen d p t d₁ = (p ≤ last + 1) × (length d₁ ≡ length d) × ((e : ℕ) (d₂ : List ℕ) → Repeat s last parts p t d₁ e d₂ → Repeat s last parts 1 pen d e d₂)

module _ {s : Separators} {last : ℕ} {parts : List Part} {pen : Pen} {d : List ℕ} where
  pub repeat_start : RepeatSoFar s last parts pen d 1 pen d
  repeat_start = (omega arith, refl, λ e d₂ g. g)

  pub repeat_next : {p : ℕ} {t u : Pen} {d₁ d₂ : List ℕ} → p ≤ last → RepeatSoFar s last parts pen d p t d₁ → Group s (last_component_at p parts) (repeat_text parts p) p 1 t d₁ u d₂
      → length d₂ ≡ length d₁ → RepeatSoFar s last parts pen d (p + 1) u d₂
  repeat_next h w g l = (omega arith, l ∙ w.1, λ e d₃ q. w.2 e d₃ (position (omega arith) g q))

  pub repeat_end : {p e : ℕ} {t : Pen} {d₁ d₂ : List ℕ} → last < p → RepeatSoFar s last parts pen d p t d₁ → Stored d₁ t.at (closing s t last) e d₂ → Repeat s last parts 1 pen d e d₂
  repeat_end {e = e} {d₂ = d₂} h w q = w.2 e d₂ (ended (omega arith) q)

pub component_last : {n : ℕ} (p : ℕ) (parts : List Part) → n ≡ highest (number_by (Some p)) parts → n ≡ last_component_at p parts
unfolding last_component_at
component_last p parts h = h

-- ---- the parts of a chunk

next_is : (k : ℕ) → suc k ≡ k + 1
next_is k = omega arith

module _ (b : List ℕ) (s : Planned) (rows : List ℕ) where
  chunk_from : (xs : List ElementPlan) (n k : ℕ) → k + n ≤ length rows → (chunk_puts (job_of b) (id_of b s) s.table.0 s.step k xs (take n (drop k rows))).parts ≡ parts_from b s rows k n xs
  unfolding parts_from chunk_puts row_puts
  chunk_from xs zero k h = refl
  chunk_from xs (suc n) k h =
      rw (drop-cons rows k 0 (omega arith))
      (ap (λ (l : List Part). (chunk_put (job_of b) (id_of b s) s.table.0 s.step k (get_or rows k 0) xs).parts ++ l) (ap (λ (m : ℕ). (chunk_puts (job_of b) (id_of b s) s.table.0 s.step (k + 1) xs (take n (drop m rows))).parts) (next_is k) ∙ chunk_from xs n (k + 1) (omega arith)))

  pub chunk_parts : (xs : List ElementPlan) (count : ℕ) → count ≤ length rows → (chunk_puts (job_of b) (id_of b s) s.table.0 s.step 0 xs (take count rows)).parts ≡ parts_from b s rows 0 count xs
  chunk_parts xs count h = chunk_from xs count 0 (omega arith)

-- ---- the segment

pub named : {d d₁ : List ℕ} {at : ℕ} {pen : Pen} (b : List ℕ) (s : Planned) → Of b s → Penned (opened (stretch b s.id.start s.id.len)) at pen d d₁ → Penned (opened (id_of b s)) at pen d d₁
unfolding stretch_of
named b s o w = rw o.id.bytes at w

module _ {d d₁ : List ℕ} {at last : ℕ} {pen : Pen} (sep : Separators) (b : List ℕ) (s : Planned) (o : Of b s) (parts : List Part) (fits : length d ≤ cap) (l : last ≡ highest (number_by None) parts)
    (w : Penned (opened (stretch b s.id.start s.id.len)) at pen d d₁) where
  pub chunk_run : {d₂ : List ℕ} {e : ℕ} → zero_free parts ≡ true → Repeat sep last parts 1 pen d₁ e d₂ → Stored d at (joined sep (id_of b s) (sorted parts)) e d₂
  chunk_run f q = repeat_run_stored sep (id_of b s) parts fits f (named b s o w) (rw l at q)

  pub chunk_stuck : {d₂ : List ℕ} {e : ℕ} → zero_free parts ≡ false → Stored d₁ pen.at (closing sep pen last) e d₂ → Stored d at (joined sep (id_of b s) (sorted parts)) e d₂
  chunk_stuck f q = stuck_run_stored sep (id_of b s) parts fits f (named b s o w) (rw l at q)

pub did_chunk : {n : Counts} {d d' g g' : List ℕ} {at : ℕ} (b : List ℕ) (s : Planned) (rows : List ℕ) (state : Counts) (sep : Separators) (from : From) → Of b s → Within state
    → separators_of (job_of b) ≡ sep → row_in from ≡ first_row s.table.0 rows → Stored d state.bytes (joined sep (id_of b s) (sorted (parts_of b s rows (length rows)))) at d'
    → Finished from 0 at state.findings state n g g' → (f p : List ℕ) → DidCounts (chunk_out (job_of b) s.l.0 s.i s.table.0 rows) state n d d' g g' f f p p
unfolding chunk_out
did_chunk b s rows state sep from o h q y x z f p high counter =
    let e = rw (take-length rows) at (chunk_parts b s rows (plans_of b s) (length rows) (omega arith)) in
    rw (← o.step, e, ← y)
    (did_segment (job_of b) (id_of b s) (sorted (parts_of b s rows (length rows))) [] 0 from h (rw q x) (none_stored (omega (arith, h.findings))) z high counter)
