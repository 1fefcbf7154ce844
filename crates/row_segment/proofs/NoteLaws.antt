-- What is noted of a line, part by part.
use Prim.Native.Nat.{ℕ, ◌+◌, ◌≤◌, ◌<◌, max}
use mathlib.Core.Path.{◌≡◌, refl, ◌∙◌}
use Rattle.std.specs.Prelude.{Some, None}
use mathlib.Core.List.{List, [], ◌∷◌, ◌++◌}
use native.Mathlib.Omega.{arith}
use lib.ListN.{length}
use Rattle.lent.specs.Fit.{cap, more, StoredAt}
use Rattle.lent.specs.Window.{base}
use Rattle.lent.proofs.Fit.{wide}
use Rattle.lent.proofs.Laws.{stored_none, stored_append, stored_length, stored_small}
use Rattle.format.specs.Plan.{ElementPlan, Value, from_column, from_group, from_code}
use Rattle.format.specs.Sections.{job_of}
use Rattle.spec.specs.declared.ids.Stretch.{Stretch}
use Rattle.segment.specs.Parts.{Part, pick, is_empty, highest, last_element}
use Rattle.segment.specs.Values.{value_text}
use Rattle.nest.specs.Finding.{cell}
use Rattle.emit.specs.declared.cells.Written.{Written}
use Rattle.emit.specs.Puts.{Put, and_put, put_all, place_of, held_in, unwritten, put_cell, row_put}
use Rattle.texts.specs.Said.{why_in}
use Rattle.emit.specs.Written.{Writes, words_of, tried}
use Rattle.emit.proofs.FindingLaws.{stored_findings, none_stored}
use Rattle.emit.proofs.PutLaws.{highest_append, cell_findings}
use Rattle.row_segment.specs.declared.parts.Line.{Line}
use Rattle.row_segment.specs.declared.parts.Planned.{Planned}
use Rattle.row_segment.specs.declared.parts.Source.TheVariants.{Cell, Code}
use Rattle.row_segment.specs.declared.parts.Look.{Look}
use Rattle.row_segment.specs.declared.notes.Tally.{Tally}
use Rattle.row_segment.specs.declared.notes.Tried.{Tried}
use Rattle.row_segment.specs.Stream.{id_of, plans, Lined, element_put, puts, part_put, outcome_of, ahead, Sees, Looks}
use Rattle.row_segment.specs.Notes.{Tries, Notes, Between, Room, Totals}
use Rattle.row_segment.proofs.StreamLaws.{part_is, ahead_more, ahead_none}

-- ---- one part

module _ (b : List ℕ) (x : Line) (p : Planned) where
  pub cell_notes : (w : Written) (y : Tried) (column : ℕ) → Tries b x y → Writes b w (outcome_of b x p) → p.source ≡ Cell column
      → (part_put b x p).findings
      ≡ unwritten (cell x.t.0 x.r.0 column) (place_of (id_of b x) p.element p.component) (why_in w.reason)
      ++ held_in (cell x.t.0 x.r.0 column) (place_of (id_of b x) p.element p.component) (value_text b w.value) 0 (tried y.delimiters)
  unfolding part_put outcome_of
  cell_notes w y column t q e = rw e (cell_findings b (job_of b) (id_of b x) p.element p.component x.t.0 column x.r.0 w (rw e at q) y.delimiters t.delimiters)

  pub code_notes : {s : Stretch} → p.source ≡ Code s → (part_put b x p).findings ≡ []
  unfolding part_put
  code_notes e = rw e

  pub cell_entry : {column : ℕ} → p.source ≡ Cell column → 1 ≡ (part_put b x p).entries
  unfolding part_put put_cell
  cell_entry e = rw e

  pub code_entry : {s : Stretch} → p.source ≡ Code s → 0 ≡ (part_put b x p).entries
  unfolding part_put
  code_entry e = rw e

  pub noted : {s r : Tally} {f f' : List ℕ} (text : List ℕ) → text ≡ (outcome_of b x p).text → StoredAt base f s.findings (words_of (part_put b x p).findings) r.findings f'
      → r.entries ≡ s.entries + (part_put b x p).entries → r.last ≡ max s.last (pick (is_empty text) 0 p.element) → Notes (part_put b x p) s r f f'
  unfolding highest
  noted text q n e l = record { findings = n; entries = e; last = rw (part_is b x p) (l ∙ rw q (omega arith)) }

-- ---- no more entries than planned elements

entries_few : (b : List ℕ) (x : Line) (es : List ElementPlan) → (put_all (element_put b x) es).entries ≤ length es
unfolding put_cell
entries_few b x [] = omega arith
entries_few b x (e ∷ es) = let r = entries_few b x es in let q = one e.value in omega (arith, r, q)
  where
    one : (v : Value) → (element_put b x (record { element = e.element; component = e.component; value = v })).entries ≤ 1
    one (from_column c) = omega arith
    one (from_group c) = omega arith
    one (from_code c) = omega arith

pub puts_few : (b : List ℕ) (x : Line) → (puts b x 0).entries ≤ length (plans b x)
unfolding puts row_put
puts_few b x = entries_few b x (plans b x)

-- ---- one part after the other

pub between_none : (b : List ℕ) (x : Line) (n : Look) (s : Tally) (f : List ℕ) → Between b x n n s s f f
between_none b x n s f = record { whole = λ r g w. w; entries = refl; small = λ h. h; long = refl }

module _ {b : List ℕ} {x : Line} {n m : Look} {s t : Tally} {f₀ f : List ℕ} (i : Between b x n m s t f₀ f) where
  pub between_next : {f' : List ℕ} {r : Tally} (a : Look) → length f₀ ≤ wide → {y : Planned} → m.part ≡ Some y → Notes (part_put b x y) t r f f' → Looks b x m.k a → Between b x n a s r f₀ f'
  between_next {f'} {r} a h {y} e d l =
      let p : Put = part_put b x y in
      let u : ahead b x m ≡ and_put p (ahead b x a) = ahead_more m a e l in
      let k : length f ≤ wide = rw i.long h in
      record {
        whole = λ z g w. i.whole z g (rw u (record {
          findings = stored_findings p.findings (ahead b x a).findings k d.findings w.findings;
          entries = w.entries ∙ rw d.entries (omega arith);
          last = w.last ∙ rw (highest_append (λ (y : Part). y.element) p.parts (ahead b x a).parts, d.last) (omega arith);
        }));
        entries = rw d.entries (let q = rw u at i.entries in omega (arith, q));
        small = λ z. stored_small (words_of p.findings) d.findings;
        long = stored_length (words_of p.findings) d.findings ∙ i.long;
      }

  pub between_trans : {a : Look} {r : Tally} {f' : List ℕ} → Between b x m a t r f f' → Between b x n a s r f₀ f'
  between_trans j = record { whole = λ z g w. i.whole z g (j.whole z g w); entries = j.entries ∙ i.entries; small = λ h. j.small (i.small h); long = j.long ∙ i.long }

  pub between_room : Room b x s n → Room b x t m
  between_room h = omega (arith, i.entries, h)

  -- no part is left
  pub between_end : m.part ≡ None → Sees b x m → s.findings ≤ cap → Notes (ahead b x n) s t f₀ f
  unfolding highest
  between_end e v h = i.whole t f (rw (ahead_none b x m e v) (record { findings = none_stored (omega (arith, i.small h)); entries = omega arith; last = omega arith }))

-- ---- the whole line

module _ (b : List ℕ) (x : Line) (w : Lined b x) (n : Look) (l : Looks b x 0 n) (from : ℕ) (t : Tally) (e : t ≡ record { findings = more from 0; entries = 0; last = 0 }) where
  pub room_first : x.count < 4294967296 → Room b x t n
  room_first h = rw (e, l.whole) (let k = puts_few b x in let c = w.count in omega (arith, k, c))

  pub small_first : t.findings ≤ cap
  small_first = rw e (omega arith)

  pub all_noted : {r : Tally} {f f' : List ℕ} → length f ≤ wide → Notes (ahead b x n) t r f f' → Totals b x from r.findings r.entries f f'
  all_noted {r} {f} h q =
      let q' = rw l.whole at q in
      record {
        findings = stored_append [] (words_of (puts b x 0).findings) h (stored_none f from) (rw e at q'.findings);
        entries = q'.entries ∙ rw e (omega arith);
      }

  pub last_noted : {r : Tally} {f f' : List ℕ} → Notes (ahead b x n) t r f f' → r.last ≡ last_element (puts b x 0).parts
  last_noted q = q.last ∙ rw (e, l.whole) (omega arith)
