-- A part that is written as it comes, by what gives it its text.
use Prim.Native.Nat.{ℕ, ◌+◌}
use mathlib.Core.Path.{◌≡◌, sym, ap, ◌∙◌}
use mathlib.Core.Bool.{true}
use mathlib.Core.List.{List, [], ◌++◌, append-nil}
use native.Mathlib.Omega.{arith}
use Rattle.lent.specs.Window.{stretch, Noted}
use Rattle.lent.specs.Fit.{more}
use Rattle.format.specs.Passed.{Passed}
use Rattle.format.specs.Sections.{job_of}
use Rattle.format.specs.Refusal.{separators}
use Rattle.format.specs.Ask.{max_of, data_of}
use Rattle.column.specs.Cell.{cell_of, or_null}
use Rattle.column.specs.declared.Cell.{Cell as Read}
use Rattle.column.specs.Answers.{cell_at, Reads}
use Rattle.std.specs.Prelude as Rust
use Rattle.std.specs.Prelude.{Result, Some}
use Rattle.std.specs.Result.{result_err}
use Rattle.texts.specs.declared.Text.{Text}
use Rattle.texts.specs.declared.render.Refused.{Refused}
use Rattle.texts.specs.Held.{held}
use Rattle.texts.specs.Reason.{Outcome, gives}
use Rattle.texts.specs.Said.{text_of, why_in, Says}
use Rattle.spec.specs.declared.ids.Stretch.{Stretch}
use Rattle.spec.specs.Answers.{stretch_of}
use Rattle.segment.specs.declared.Separators.{Separators}
use Rattle.segment.specs.declared.Pen.{Pen}
use Rattle.segment.specs.Parts.{or_one}
use Rattle.segment.specs.Pen.{placed, Penned}
use Rattle.nest.specs.Finding.{Origin, Place, cell}
use Rattle.emit.specs.Puts.{cell_text, place_of, held_in, delimited, unwritten, put_cell}
use Rattle.emit.specs.Written.{is_own, words_of}
use Rattle.emit.proofs.TextLaws.{why_err}
use Rattle.emit.proofs.FindingLaws.{none_stored, none_found}
use Rattle.emit.proofs.Plain.{Textual, own_textual, textual_free}
use Rattle.row_segment.specs.declared.parts.Line.{Line}
use Rattle.row_segment.specs.declared.parts.Planned.{Planned}
use Rattle.row_segment.specs.declared.parts.Source.TheVariants.{Code}
use Rattle.row_segment.specs.declared.feed.Behind.{Behind}
use Rattle.row_segment.specs.Stream.{id_of, Lined, part_put, outcome_of}
use Rattle.row_segment.specs.Feed.{FromCell, Stood}
use Rattle.row_segment.proofs.NoteLaws.{cell_entry}

-- a part without a finding, whose text is that
pub stood_silent : (b : List ℕ) (x : Line) (p : Planned) {s : Separators} {pen : Pen} {from entries : ℕ} {d d' f : List ℕ} {r : Behind} (text : List ℕ) {c n : ℕ}
    → text ≡ (outcome_of b x p).text → (part_put b x p).findings ≡ [] → n ≡ entries + (part_put b x p).entries → c ≡ or_one p.component
    → Penned (placed s pen p.element c text) pen.at r.pen d d' × (r.findings ≡ more from 0) × (r.entries ≡ n) → Stood s b x p pen from entries d f r d' f
stood_silent b x p text e g h k w = record { penned = rw (e, k) at w.0; findings = rw g (none_stored w.1); entries = w.2 ∙ h }

pub code_text : (b : List ℕ) (x : Line) (p : Planned) {c : Stretch} → p.source ≡ Code c → stretch b c.start c.len ≡ (outcome_of b x p).text
unfolding outcome_of stretch_of
code_text b x p e = rw e

-- ---- a cell that was read

module _ (b : List ℕ) (x : Line) (p : Planned) (column : ℕ) (c' : Read) (g : Reads b c' (Some (cell_of (data_of (job_of b) x.t.0) column x.r.0))) (e : FromCell p column) where
  abbrev from' : Origin
  from' = cell x.t.0 x.r.0 column

  abbrev place : Place
  place = place_of (id_of b x) p.element p.component

  outcome : outcome_of b x p ≡ cell_text (or_null (cell_at b c')) (max_of (job_of b) (id_of b x) p.element p.component)
  unfolding outcome_of
  outcome = rw (e, g.cell)

  found : (part_put b x p).findings ≡ unwritten from' place (outcome_of b x p).reason ++ held_in from' place (outcome_of b x p).text 0 (separators (job_of b).envelope)
  unfolding part_put outcome_of put_cell delimited
  found = rw e

  -- as a stretch of the job
  module _ (start len : ℕ) (h : cell_text (or_null (cell_at b c')) (max_of (job_of b) (id_of b x) p.element p.component) ≡ gives (stretch b start len)) where
    pub held_part : stretch b start len ≡ (outcome_of b x p).text
    held_part = sym (ap (λ (o : Outcome). o.text) (outcome ∙ h))

    pub held_silent : (bs : List ℕ) → bs ≡ separators (job_of b).envelope → held_in from' place (stretch b start len) 0 bs ≡ [] → (part_put b x p).findings ≡ []
    held_silent bs q k = found ∙ rw (outcome ∙ h, ← q) (none_found from' place 0 (stretch b start len) bs (omega arith) k)

  -- as a text of its own
  pub said_part : {w : Result Text Refused} → Lined b x → Says w (cell_text (or_null (cell_at b c')) (max_of (job_of b) (stretch_of b x.id) p.element p.component)) → Says w (outcome_of b x p)
  said_part l s = rw outcome (rw l.id.bytes at s)

  own_found : Passed b → is_own c' ≡ true → (part_put b x p).findings ≡ unwritten from' place (outcome_of b x p).reason
  own_found w i =
      let t : Textual (outcome_of b x p).text = rw outcome (own_textual b c' (max_of (job_of b) (id_of b x) p.element p.component) i) in
      found ∙ rw (textual_free (job_of b) w.fit from' place (outcome_of b x p).text t) (append-nil (unwritten from' place (outcome_of b x p).reason))

  pub stood_own : {s : Separators} {pen : Pen} {from entries c : ℕ} {d d' f f' : List ℕ} {r : Behind} (w : Result Text Refused) (text : Text) (why : Rust.Option Refused) → Passed b → text ≡ text_of w → why ≡ result_err w → is_own c' ≡ true → Says w (outcome_of b x p) → c ≡ or_one p.component
      → ((z : List ℕ) → text ≡ held z → Penned (placed s pen p.element c z) pen.at r.pen d d')
      → Noted f from (words_of (unwritten from' place (why_in why))) r.findings f'
      → r.entries ≡ entries + 1 → Stood s b x p pen from entries d f r d' f'
  stood_own {entries = entries} w text why z u v i s h q k m = record {
    penned = rw h at (q (outcome_of b x p).text (u ∙ s.text));
    findings = rw (own_found z i) (rw (ap why_in v ∙ why_err w ∙ s.reason) at k);
    entries = m ∙ ap (λ j. entries + j) (cell_entry b x p e);
  }
