-- The calls that write a row segment, one after the other.
use Prim.Native.Nat.{ℕ, ◌+◌, ◌≤◌, ◌<◌}
use mathlib.Core.Path.{◌≡◌, refl, ◌∙◌}
use Rattle.std.specs.Prelude.{Some, None}
use mathlib.Core.List.{List}
use borrow.Author.Tests.{lt-ltb}
use lib.ListN.{length}
use Rattle.lent.specs.Fit.{cap, more, Stored}
use Rattle.lent.proofs.Fit.{wide}
use Rattle.lent.specs.Window.{stretch}
use Rattle.lent.proofs.Laws.{stored_length}
use Rattle.segment.specs.declared.Separators.{Separators}
use Rattle.segment.specs.declared.Pen.{Pen}
use Rattle.segment.specs.Parts.{joined}
use Rattle.segment.specs.Values.{opened, closing}
use Rattle.segment.specs.Pen.{Penned}
use Rattle.segment.specs.Group.{Group, next, finish}
use Rattle.segment.specs.Calls.{Row, group, close, stays}
use Rattle.segment.proofs.Runs.{run_stored}
use Rattle.format.specs.Sections.{job_of}
use Rattle.spec.specs.Answers.{stretch_of}
use Rattle.emit.specs.declared.state.Counts.{Counts}
use Rattle.emit.specs.declared.state.From.TheVariants as From
use Rattle.emit.specs.Fold.{separators_of, row_out}
use Rattle.emit.specs.Did.{DidCounts, Within, Finished}
use Rattle.emit.proofs.StepLaws.{did_segment}
use Rattle.row_segment.specs.declared.parts.Line.{Line}
use Rattle.row_segment.specs.declared.parts.Look.{Look}
use Rattle.row_segment.specs.declared.parts.Planned.{Planned}
use Rattle.row_segment.specs.declared.join.Step.{Step}
use Rattle.row_segment.specs.declared.join.Joined.{Joined}
use Rattle.row_segment.specs.declared.notes.Tally.{Tally}
use Rattle.row_segment.specs.declared.notes.Ended.{Ended}
use Rattle.row_segment.specs.Stream.{Lined, id_of, puts, ahead, Sees, Looks}
use Rattle.row_segment.specs.Groups.{Steps, Rows}
use Rattle.row_segment.specs.Notes.{Notes, Between, Totals}
use Rattle.row_segment.proofs.StreamLaws.{parts_here, ahead_none}
use Rattle.row_segment.proofs.NoteLaws.{all_noted, last_noted}

group_long : {s : Separators} {k : ℕ} {f : ℕ → List ℕ} {e c : ℕ} {pen r : Pen} {d d₁ : List ℕ} → Group s k f e c pen d r d₁ → length d₁ ≡ length d
group_long (next h w g) = group_long g ∙ stored_length _ w.stored
group_long (finish h w) = stored_length _ w.stored

-- ---- element by element: where the elements below p are done, calls that write the parts left complete the segment

pub record Rowing (s : Separators) (b : List ℕ) (x : Line) (n : Look) (pen : Pen) (d₀ : List ℕ) (a : Look) (q : Pen) (p : ℕ) (d : List ℕ) : Type 0 where
  pub rest : (last e : ℕ) (d₂ : List ℕ) → Row s last p (ahead b x a).parts q d e d₂ → Row s last 1 (ahead b x n).parts pen d₀ e d₂
  pub long : length d ≡ length d₀
  pub sees : Sees b x a

pub rowing_start : (s : Separators) (b : List ℕ) (x : Line) (n : Look) (pen : Pen) (d : List ℕ) → Sees b x n → Rowing s b x n pen d n pen 1 d
rowing_start s b x n pen d h = record { rest = λ last e d₂ z. z; long = refl; sees = h }

module _ (s : Separators) (b : List ℕ) (x : Line) (n : Look) (pen : Pen) (d₀ : List ℕ) (a : Look) (q : Pen) (p : ℕ) (d : List ℕ) (i : Rowing s b x n pen d₀ a q p d) where
  pub rowing_next : (place : ℕ) (r : Step) (d₁ : List ℕ) {y : Planned} → a.part ≡ Some y → place ≡ y.element → p ≤ place → Steps s b x a y.element q d r d₁ → Rowing s b x n pen d₀ r.after r.pen (place + 1) d₁
  rowing_next place r d₁ {y} t f h c = record {
    rest = λ last e d₂ z. i.rest last e d₂ (onward last e d₂ (rw f at z));
    long = group_long c.group ∙ i.long;
    sees = c.scans.sees;
  }
    where
      onward : (last e : ℕ) (d₂ : List ℕ) → Row s last (y.element + 1) (ahead b x r.after).parts r.pen d₁ e d₂ → Row s last p (ahead b x a).parts q d e d₂
      onward last e d₂ z =
          let u = parts_here b x a t in
          let these = rw (← c.scans.last, u) at c.group in
          let those = rw (← c.scans.rest, u) at z in
          rw u (group (rw f at h) these those)

  -- the next part is at an element that is done
  pub rowing_below : (place : ℕ) (u : Tally) {y : Planned} → a.part ≡ Some y → place ≡ y.element → place < p → Rows s b x n pen d₀ (record { pen = q; after = a; tally = u }) d
  unfolding stays
  rowing_below place u {y} t f h = record {
    row = λ last e d₂ w. i.rest last e d₂ (rw (parts_here b x a t) (close (lt-ltb y.element p (rw f at h)) w));
    sees = i.sees;
    long = i.long;
  }

  -- no part is left
  pub rowing_none : (u : Tally) → a.part ≡ None → Rows s b x n pen d₀ (record { pen = q; after = a; tally = u }) d
  unfolding stays
  rowing_none u t = record { row = λ last e d₂ w. i.rest last e d₂ (rw (ahead_none b x a t i.sees) (close refl w)); sees = i.sees; long = i.long }

-- ---- the whole segment

-- its parts joined in one pass, and noted
pub line_joined : {d d₁ d₂ d₃ f f₁ f₂ : List ℕ} {at from : ℕ} {pen : Pen} {s : Separators} {t : Tally} {g : Step} (b : List ℕ) (x : Line) (n : Look) (r : Joined) → Lined b x
    → length d ≤ cap → length f ≤ wide → s ≡ separators_of (job_of b) → Looks b x 0 n → Penned (opened (stretch b x.id.start x.id.len)) at pen d d₁ → t ≡ record { findings = more from 0; entries = 0; last = 0 }
    → Rows s b x n pen d₁ g d₂ × Between b x n g.after t g.tally f f₁
    → Stored d₂ g.pen.at (closing s g.pen r.tally.last) r.bytes d₃ × Notes (ahead b x g.after) g.tally r.tally f₁ f₂
    → Stored d at (joined (separators_of (job_of b)) (id_of b x) (puts b x 0).parts) r.bytes d₃ × Totals b x from r.tally.findings r.tally.entries f f₂
unfolding stretch_of
line_joined {at = at} {from = from} {t = t} b x n r w h k q l v e (z, u) (o, m) =
    let all = u.whole r.tally _ m in
    let row = z.row r.tally.last r.bytes _ o in (
      run_stored (separators_of (job_of b)) (id_of b x) (puts b x 0).parts h (rw w.id.bytes at v) (rw (q, last_noted b x w n l from t e all, l.whole) at row),
      all_noted b x w n l from t e k all,
    )

pub did_line : {s n : Counts} {d d' g g' f f' p : List ℕ} (b : List ℕ) (x : Line) (y : Ended) → Within s → Totals b x s.findings y.findings y.entries f f'
    → Stored d s.bytes (joined (separators_of (job_of b)) (id_of b x) (puts b x 0).parts) y.bytes d' → Finished (From.Row x.t x.r) y.entries y.bytes y.findings s n g g'
    → DidCounts (row_out (job_of b) x.l.0 x.i x.t.0 x.r.0) s n d d' g g' f f' p p
unfolding row_out puts
did_line b x y h u v w =
    did_segment (job_of b) (id_of b x) (puts b x 0).parts (puts b x 0).findings (puts b x 0).entries (From.Row x.t x.r) h v u.findings (rw u.entries at w)
