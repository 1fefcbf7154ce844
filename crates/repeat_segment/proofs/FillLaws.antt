-- What a row of a chunk leaves, planned element by planned element.
use Prim.Native.Nat.{ℕ, ◌+◌, ◌≤◌, ◌<◌}
use mathlib.Core.Path.{◌≡◌, refl, ap, ◌∙◌}
use mathlib.Core.List.{List, [], append-nil}
use mathlib.Core.Bool.{true, false}
use native.Mathlib.Omega.{arith}
use Rattle.std.specs.Prelude.{Option, Some}
use lib.ListN.{length, get_or, take}
use Rattle.lent.proofs.Fit.{wide}
use Rattle.lent.specs.Fit.{more}
use Rattle.lent.specs.Window.{Noted}
use Rattle.lent.proofs.Laws.{unmoved, more_more}
use Rattle.format.specs.Sections.{job_of}
use Rattle.format.specs.Ask.{loop_of, planned_of, identifier_of, step_of, max_of, data_of}
use Rattle.format.specs.Refusal.{separators, unfit}
use Rattle.column.specs.Cell.{or_null, cell_of}
use Rattle.column.specs.declared.Cell.{Cell as CellRead}
use Rattle.column.specs.Answers.{cell_at, Reads}
use Rattle.texts.specs.Reason.{Width}
use Rattle.spec.specs.declared.ids.Stretch.{Stretch}
use Rattle.spec.specs.declared.ids.LoopId.{LoopId}
use Rattle.spec.specs.declared.ids.TableId.{TableId}
use Rattle.spec.specs.Answers.{Holds}
use Rattle.plan.specs.declared.answers.ElementPlan.{ElementPlan as Element}
use Rattle.plan.specs.Answers.{element_of}
use Rattle.plan.specs.Elements.{Elements}
use Rattle.nest.specs.Ready.{Ready}
use Rattle.nest.specs.Finding.{Origin, Place, cell}
use Rattle.emit.specs.declared.state.Counts.{Counts}
use Rattle.emit.specs.Puts.{Put, and_put, cell_text, place_of, held_in, delimited, put_cell, chunk_put}
use Rattle.emit.specs.Written.{words_of, is_own}
use Rattle.emit.specs.Fold.{fill_out}
use Rattle.emit.specs.Did.{state_of, traced_words, stop_words, DidCounts, Within}
use Rattle.emit.proofs.NameLaws.{name_short, holds_length}
use Rattle.emit.proofs.FindingLaws.{none_stored, stored_findings, none_found}
use Rattle.emit.proofs.Plain.{own_textual, textual_free}
use Rattle.repeat_segment.specs.declared.planned.Planned.{Planned}
use Rattle.repeat_segment.specs.Planned.{plans_of, Of}
use Rattle.repeat_segment.proofs.PlannedLaws.{Along, Read}
use Rattle.repeat_segment.specs.Places.{element_put, row_puts}
use Rattle.repeat_segment.specs.Filled.{Filled, found_on}
use Rattle.repeat_segment.proofs.Limits.{element_small, step_small}
use Rattle.repeat_segment.proofs.Steps.{take_next, take_end, along_first, row_snoc}

-- ---- what is held

pub planned_of_lem : (b idx : List ℕ) (l : LoopId) (i : ℕ) (t : TableId) (k step first count : ℕ) (id : Stretch) → Ready b idx
    → k ≡ (planned_of (job_of b) l.0 i).occurrence → Holds b id (get_or (loop_of (job_of b) l.0).occurrences k []) → step ≡ step_of (job_of b) t.0
    → Elements b first (planned_of (job_of b) l.0 i).elements → count ≡ length (planned_of (job_of b) l.0 i).elements
    → Of b (record { l = l; i = i; table = t; step = step; id = id; first = first; count = count })
unfolding identifier_of
planned_of_lem b idx l i t k step first count id w e h q x n =
    let z : Holds b id (identifier_of (job_of b) l.0 i) = rw e at h in
    record {
      size = w.plan.short;
      plan_end = w.plan.plan_end;
      elements = x;
      counted = n;
      id = z;
      short = omega (arith, holds_length b id _ h, name_short b w.passed l.0 k);
      step = q;
      near = rw q (step_small b w.passed t.0);
      low = λ j m. element_small b w.passed l.0 i j m;
    }

-- ---- one element

-- a text of its own has no finding but its reason
pub own_quiet : (b : List ℕ) (c : CellRead) (max : Width) (bs : List ℕ) → unfit (job_of b) ≡ false → bs ≡ separators (job_of b).envelope → is_own c ≡ true → (cell_text (or_null (cell_at b c)) max).reason ≤ 0
    → (o : Origin) (p : Place) → found_on o p (cell_text (or_null (cell_at b c)) max) bs ≡ []
own_quiet b c max bs fit q e h o p =
    let x = cell_text (or_null (cell_at b c)) max in
    let z : held_in o p x.text 0 bs ≡ [] = rw q (textual_free (job_of b) fit o p x.text (own_textual b c max e)) in
    none_found o p x.reason x.text bs h z

pub quiet_cell : {c : CellRead} (b id : List ℕ) (e : ℕ) (k : Option ℕ) (t column r : ℕ) (bs : List ℕ) → Reads b c (Some (cell_of (data_of (job_of b) t) column r)) → bs ≡ separators (job_of b).envelope
    → ((o : Origin) (p : Place) (max : Width) → found_on o p (cell_text (or_null (cell_at b c)) max) bs ≡ []) → (put_cell (job_of b) id e k t column r).findings ≡ []
unfolding put_cell delimited
quiet_cell b id e k t column r bs h q f = rw (h.cell, q) at (f (cell t r column) (place_of id e k) (max_of (job_of b) id e k))

pub no_finding : {d : List ℕ} {at n : ℕ} (p : Put) → p.findings ≡ [] → n ≡ more at 0 → Noted d at (words_of p.findings) n d
no_finding p h e = rw h (none_stored e)

-- ---- the elements one by one

pub record FillSoFar (b : List ℕ) (s : Planned) (k r : ℕ) (state : Counts) (f₀ f : List ℕ) (at i found count : ℕ) : Type 0 where
  pub along : Along b s at i
  pub stored : Noted f₀ state.findings (words_of (row_puts b s k r (take i (plans_of b s))).findings) found f
  pub entries : count ≡ more state.entries (row_puts b s k r (take i (plans_of b s))).entries

module _ (b : List ℕ) (s : Planned) (o : Of b s) (k r : ℕ) (state : Counts) where
  pub fill_start : {f : List ℕ} (entries : ℕ) → Within state → entries ≡ more state.entries 0 → FillSoFar b s k r state f f s.first 0 state.findings entries
  unfolding row_puts chunk_put
  fill_start entries h e = record { along = along_first b s o; stored = none_stored (omega (arith, h.findings)); entries = e }

  pub fill_next : {f₀ f f₁ : List ℕ} {at i found entries n : ℕ} (e : Element) (m : ℕ) → length f₀ ≤ wide → i < s.count → FillSoFar b s k r state f₀ f at i found entries → Read b s i e
      → Noted f found (words_of (element_put b s k r (element_of b e)).findings) n f₁ → m ≡ (element_put b s k r (element_of b e)).entries
      → FillSoFar b s k r state f₀ f₁ e.next (i + 1) n (more entries m)
  fill_next {at = at} {i = i} e m c h w q x y =
      let p : row_puts b s k r (take (i + 1) (plans_of b s)) ≡ and_put (row_puts b s k r (take i (plans_of b s))) (element_put b s k r (element_of b e)) = ap (row_puts b s k r) (take_next b s o at i w.along h e q) ∙ row_snoc b s k r _ _ in
      record {
        along = q.along;
        stored = rw p (stored_findings (row_puts b s k r (take i (plans_of b s))).findings (element_put b s k r (element_of b e)).findings c w.stored x);
        entries = rw (p, w.entries, y) (more_more _ _ _);
      }

  -- an element that has no cell
  pub fill_passed : {f₀ f : List ℕ} {at i found entries : ℕ} (e : Element) → i < s.count → FillSoFar b s k r state f₀ f at i found entries → Read b s i e
      → (element_put b s k r (element_of b e)).findings ≡ [] → (element_put b s k r (element_of b e)).entries ≡ 0
      → FillSoFar b s k r state f₀ f e.next (i + 1) found entries
  fill_passed {at = at} {i = i} e h w q x y =
      let p : row_puts b s k r (take (i + 1) (plans_of b s)) ≡ and_put (row_puts b s k r (take i (plans_of b s))) (element_put b s k r (element_of b e)) = ap (row_puts b s k r) (take_next b s o at i w.along h e q) ∙ row_snoc b s k r _ _ in
      record {
        along = q.along;
        stored = rw (p, x, append-nil (row_puts b s k r (take i (plans_of b s))).findings) w.stored;
        entries = rw (p, y) (w.entries ∙ omega arith);
      }

  pub fill_end : {f₀ f : List ℕ} {at i found entries : ℕ} → s.count ≤ i → FillSoFar b s k r state f₀ f at i found entries
      → Filled (row_puts b s k r (plans_of b s)) state (record { entries = entries; begun = state.begun; bytes = state.bytes; segments = state.segments; findings = found; stops = state.stops }) f₀ f
  fill_end {i = i} h w =
      let e = take_end b s o i h in
      record { entries = rw e at w.entries; begun = refl; bytes = refl; segments = refl; findings = rw e at w.stored; stops = refl }

-- ---- the whole row

pub did_fill : {n : Counts} {f f' : List ℕ} (b : List ℕ) (s : Planned) (k r : ℕ) (state : Counts) → Of b s → Within state
    → Filled (row_puts b s k r (plans_of b s)) state n f f' → (d g p : List ℕ) → DidCounts (fill_out (job_of b) s.l.0 s.i s.table.0 k r) state n d d g g f f' p p
unfolding fill_out state_of traced_words stop_words row_puts
did_fill {n} b s k r state o h w d g p high counter =
    rw (← o.step)
    record {
      state = rw (w.entries, w.begun) refl;
      document = unmoved h.bytes w.bytes;
      segments = unmoved h.segments w.segments;
      findings = w.findings;
      stops = unmoved h.stops w.stops;
    }
