-- How many findings a step makes at most: five for each planned element, and one where a row is entered.
use Prim.Native.Nat.{ℕ, zero, suc, ◌+◌, ◌*◌, ◌≤◌}
use mathlib.Core.Path.{◌≡◌, refl}
use mathlib.Core.Bool.{Bool, true, false}
use mathlib.Core.List.{List, [], ◌∷◌, ◌++◌}
use native.Mathlib.Omega.{arith}
use native.Mathlib.Nat.{mul-le-mul_right}
use Rattle.std.specs.Prelude.{Option, None, Some}
use lib.ListN.{length, get_or, length-append}
use lib.Dec.{ltb, leb, eqb}
use Rattle.format.specs.Words.{member_of}
use Rattle.format.specs.Spec.{ElementDef, Control}
use Rattle.format.specs.Envelope.{Envelope}
use Rattle.format.specs.Plan.{Value, from_column, from_group, from_code, ElementPlan}
use Rattle.format.specs.Job.{Job}
use Rattle.format.specs.Refusal.{separators}
use Rattle.format.specs.Ask.{loop_of, segment_def, depth_of, identifier_of, planned_of, step_of}
use Rattle.texts.specs.Number.{count_text}
use Rattle.segment.specs.Parts.{pick}
use Rattle.nest.specs.Lists.{on}
use Rattle.nest.specs.Finding.{Origin, field, Place, delimiter, out_of_order}
use Rattle.nest.specs.Outline.{Outline}
use Rattle.nest.specs.OfJob.{outline_of}
use Rattle.walk.specs.Tour.{Step, enters, stop, opener, row_segment, fill, chunk, closer, halts}
use Rattle.emit.specs.Puts.{Put, nothing, put_text, put_all, put_cell, place_of, held_in, delimited, unwritten, row_value, chunk_value, row_put, chunk_put}
use Rattle.emit.specs.Envelope.{Given, Sourced, source_at, put_sourced, put_element, control_in, opener_put, counted, closer_put}
use Rattle.emit.specs.Fold as F
use Rattle.emit.specs.Fold.{above, order_findings, stop_out, row_out, fill_out, chunk_out, step_out}
use Rattle.writer.proofs.StepKinds.{opener_is, closer_is}

-- ---- a text

held_few : (o : Origin) (p : Place) (text : List ℕ) (role : ℕ) (bs : List ℕ) → length (held_in o p text role bs) ≤ length bs
unfolding held_in
held_few o p text role [] = omega arith
held_few o p text role (b ∷ bs) = go (member_of b text) (held_few o p text (role + 1) bs)
  where
    go : (t : Bool) → length (held_in o p text (role + 1) bs) ≤ length bs → length (pick t (delimiter o p b role ∷ []) [] ++ held_in o p text (role + 1) bs) ≤ suc (length bs)
    go true h = omega arith
    go false h = omega arith

separators_few : (e : Envelope) → length (separators e) ≤ 4
unfolding separators
separators_few e = go e.repetition refl
  where
    go : (x : Option ℕ) → e.repetition ≡ x → length (separators e) ≤ 4
    go None q = rw q (omega arith)
    go (Some c) q = rw q (omega arith)

delimited_few : (j : Job) (o : Origin) (p : Place) (text : List ℕ) → length (delimited j o p text) ≤ 4
unfolding delimited
delimited_few j o p text = omega (arith, held_few o p text 0 (separators j.envelope), separators_few j.envelope)

unwritten_few : (o : Origin) (p : Place) (n : ℕ) → length (unwritten o p n) ≤ 1
unfolding unwritten
unwritten_few o p zero = omega arith
unwritten_few o p (suc n) = omega arith

text_few : (j : Job) (o : Origin) (p : Place) (n : ℕ) (text : List ℕ) → length (unwritten o p n ++ delimited j o p text) ≤ 5
text_few j o p n text = omega (arith, length-append (unwritten o p n) (delimited j o p text), unwritten_few o p n, delimited_few j o p text)

-- tried or not
tried_few : (j : Job) (o : Origin) (p : Place) (n : ℕ) (text : List ℕ) (b : Bool) → length (pick b (delimited j o p text) [] ++ unwritten o p n) ≤ 5
tried_few j o p n text true = omega (arith, length-append (delimited j o p text) (unwritten o p n), unwritten_few o p n, delimited_few j o p text)
tried_few j o p n text false = omega (arith, unwritten_few o p n)

-- ---- a place

cell_few : (j : Job) (id : List ℕ) (e : ℕ) (c : Option ℕ) (t column r : ℕ) → length (put_cell j id e c t column r).findings ≤ 5
unfolding put_cell
cell_few j id e c t column r = text_few j _ _ _ _

row_value_few : (j : Job) (id : List ℕ) (t r : ℕ) (p : ElementPlan) (v : Value) → length (row_value j id t r p v).findings ≤ 5
row_value_few j id t r p (from_column c) = cell_few j id p.element p.component t c r
row_value_few j id t r p (from_group c) = omega arith
row_value_few j id t r p (from_code code) = omega arith

first_only : (b : Bool) (p : Put) → length p.findings ≤ 5 → length (pick b p nothing).findings ≤ 5
first_only true p h = h
first_only false p h = omega arith

chunk_value_few : (j : Job) (id : List ℕ) (t step k r : ℕ) (p : ElementPlan) (v : Value) → length (chunk_value j id t step k r p v).findings ≤ 5
chunk_value_few j id t step k r p (from_column c) = first_only (eqb k 0) (put_cell j id p.element p.component t c r) (cell_few j id p.element p.component t c r)
chunk_value_few j id t step k r p (from_group c) = cell_few j id (p.element + k * step) p.component t c r
chunk_value_few j id t step k r p (from_code code) = first_only (eqb k 0) (put_text p.element p.component code) (omega arith)

sourced_few : (j : Job) (trigger : List ℕ) (position : ℕ) (d : ElementDef) (f : Option ℕ) (g : Given) → length (put_sourced j trigger position d (record { field = f; given = g })).findings ≤ 5
sourced_few j trigger position d None g = omega arith
sourced_few j trigger position d (Some f) g = tried_few j (field f) (place_of trigger position None) g.reason _ g.checked

element_few : (j : Job) (trigger : List ℕ) (depth own : ℕ) (control : List ℕ) (x : ℕ × ElementDef) → length (put_element j trigger depth own control x).findings ≤ 5
unfolding put_element
element_few j trigger depth own control x = go (source_at j trigger depth own control x.0 x.1)
  where
    go : (s : Option Sourced) → length (on s (put_sourced j trigger x.0 x.1) nothing).findings ≤ 5
    go None = omega arith
    go (Some s) = sourced_few j trigger x.0 x.1 s.field s.given

-- ---- all places of a segment

all_few : {A : Type 0} (f : A → Put) → ((x : A) → length (f x).findings ≤ 5) → (xs : List A) → length (put_all f xs).findings ≤ length xs * 5
all_few f h [] = omega arith
all_few f h (x ∷ xs) = omega (arith, length-append (f x).findings (put_all f xs).findings, h x, all_few f h xs)

row_few : (j : Job) (id : List ℕ) (t r : ℕ) (xs : List ElementPlan) → length (row_put j id t r xs).findings ≤ length xs * 5
unfolding row_put
row_few j id t r xs = all_few (λ (p : ElementPlan). row_value j id t r p p.value) (λ p. row_value_few j id t r p p.value) xs

chunk_few : (j : Job) (id : List ℕ) (t step k r : ℕ) (xs : List ElementPlan) → length (chunk_put j id t step k r xs).findings ≤ length xs * 5
unfolding chunk_put
chunk_few j id t step k r xs = all_few (λ (p : ElementPlan). chunk_value j id t step k r p p.value) (λ p. chunk_value_few j id t step k r p p.value) xs

opener_few : (j : Job) (l : ℕ) (c : Control) (number : ℕ) → length (opener_put j l c number).findings ≤ length (on (segment_def j (loop_of j l).trigger) (λ d. d) []) * 5
unfolding opener_put
opener_few j l c number =
    all_few (put_element j (loop_of j l).trigger (depth_of j l) c.opener (control_in j l c number)) (element_few j (loop_of j l).trigger (depth_of j l) c.opener (control_in j l c number)) (on (segment_def j (loop_of j l).trigger) (λ d. d) [])

closer_few : (c : Control) (control : List ℕ) (count : ℕ) → length (closer_put c control count).findings ≤ 0
unfolding closer_put
closer_few c control count = go (leb c.count c.closer)
  where
    go : (b : Bool) → length (pick b (put_all (λ (p : ℕ × List ℕ). counted c.closer p.0 p.1) ((c.count, count_text count) ∷ (c.closer, control) ∷ [])) (put_all (λ (p : ℕ × List ℕ). counted c.closer p.0 p.1) ((c.closer, control) ∷ (c.count, count_text count) ∷ []))).findings ≤ 0
    go true = omega arith
    go false = omega arith

order_few : (o : Outline) (t r : ℕ) (high : Option ℕ) → length (order_findings o t r high) ≤ 1
order_few o t r None = omega arith
order_few o t r (Some h) = go (ltb r h) (above o t r)
  where
    go : (b : Bool) (x : Option ℕ) → length (pick b (on x (λ u. out_of_order t r u (on (o.reference t u r) (λ v. v) 0) h ∷ []) []) []) ≤ 1
    go true None = omega arith
    go true (Some u) = omega arith
    go false x = omega arith

-- ---- a step

-- the steps that have planned elements
abbrev pub texted : Step → ℕ
texted (enters l) = 0
texted (stop l t r) = 0
texted (opener l) = 1
texted (row_segment l i t r) = 1
texted (fill l i t k r) = 1
texted (chunk l i t rs) = 0
texted (closer l opened children count) = 0

-- with E elements at most
module _ (j : Job) (E : ℕ) (planned : (l i : ℕ) → length (planned_of j l i).elements ≤ E) (defined : (id : List ℕ) → length (on (segment_def j id) (λ d. d) []) ≤ E) where
  pub step_findings : (x : Step) (s : F.State) → length (step_out j x s).findings ≤ texted x * (E * 5) + halts x
  unfolding step_out stop_out row_out fill_out chunk_out
  step_findings (enters l) s = omega arith
  step_findings (stop l t r) s = omega (arith, order_few (outline_of j) t r (get_or s.high t None))
  step_findings (opener l) s =
      opener_is j l s (λ o. length o.findings ≤ 1 * (E * 5) + 0) (λ p. length p.findings ≤ E * 5) (λ id p t q. omega arith) (omega arith)
      (λ c. omega (arith, opener_few j l c (get_or s.counter l 0), mul-le-mul_right 5 (defined (loop_of j l).trigger)))
  step_findings (row_segment l i t r) s = omega (arith, row_few j (identifier_of j l i) t r (planned_of j l i).elements, mul-le-mul_right 5 (planned l i))
  step_findings (fill l i t k r) s = omega (arith, chunk_few j (identifier_of j l i) t (step_of j t) k r (planned_of j l i).elements, mul-le-mul_right 5 (planned l i))
  step_findings (chunk l i t rs) s = omega arith
  step_findings (closer l b n m) s = closer_is j l s (λ o. length o.findings ≤ 0 * (E * 5) + 0) (λ p. length p.findings ≤ 0) (λ id p t q. omega arith) (omega arith) b n m closer_few
