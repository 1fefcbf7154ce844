-- The walk finds a delimiter exactly where a cell or envelope text of a due segment holds a separator.
use Prim.Native.Nat.{ℕ, zero, suc, ◌+◌, ◌*◌}
use mathlib.Core.Path.{◌≡◌, refl, sym, ap, ap₂, ◌∙◌}
use mathlib.Core.Bool.{Bool, true, false, cond, ◌||◌}
use mathlib.Core.List.{List, [], ◌∷◌, ◌++◌, append_assoc, append-nil}
use native.Mathlib.Omega.{arith}
use Rattle.std.specs.Prelude.{Option, None, Some}
use lib.Dec.{eqb, ltb}
use lib.ListN.{length, get_or}
use borrow.Author.Tests.{ne_eqb}
use Rattle.format.specs.Words.{member_of}
use Rattle.format.specs.Spec.{Control, ElementDef}
use Rattle.format.specs.Plan.{Value, from_column, from_group, from_code, ElementPlan}
use Rattle.format.specs.Job.{Job}
use Rattle.format.specs.Refusal.{separators}
use Rattle.format.specs.Ask.{loop_of, planned_of, identifier_of, step_of, depth_of, segment_def}
use Rattle.segment.specs.Parts.{pick}
use Rattle.nest.specs.Lists.{on, each, some_of, from}
use Rattle.nest.specs.Outline.{Outline, table_of, table_parent, row_count, repeated}
use Rattle.nest.specs.Nest.{Row, Claim, anchors, claim_in, hangs, first_row}
use Rattle.nest.specs.Finding.{Finding, Origin, cell, field, Place, delimiter, duplicate, missing, mismatch, out_of_order, not_writable, record_of}
use Rattle.nest.specs.NestFindings.{duplicate_at, duplicates, contradiction_at, contradictions, differing, last_table, missing_at, row_findings, table_findings, nest_findings}
use Rattle.nest.specs.OfJob.{outline_of}
use Rattle.walk.specs.Tour.{Step, enters, stop, opener, row_segment, fill, chunk, closer, row_steps, chunk_steps}
use Rattle.emit.specs.Puts.{Put, nothing, put_text, part_at, place_of, held_in, delimited, unwritten, put_all, put_cell, row_value, chunk_value, row_put, chunk_put}
use Rattle.emit.specs.Envelope.{Sourced, source_at, padded_to, field_findings, put_sourced, put_element, opener_put, control_in}
use Rattle.emit.specs.Fold.{State, Out, and_then, start, above, order_findings, stop_out, row_out, fill_out, chunk_out, opener_out, closer_out, step_out, steps_out}
use Rattle.emit.proofs.TookLaws.{steps_append, steps_one}
use Rattle.emit.proofs.JoinLaws.{closer_quiet}
use Rattle.lossless.specs.Due.{DueSegment, row_cell, row_cells, text_of_cell, chunk_cell, chunk_row, chunk_cells, sourced_text, opener_due, row_due, chunk_due, closer_due, step_due, step_counters, steps_due, due_segments}
use Rattle.lossless.specs.Separators.{holds_separator, segment_holds, separator_held, kinds_of, delimiter_kind}
use Rattle.lossless.proofs.Separators.{is_delimiter, delimiter_found}
use Rattle.lossless.specs.NothingLost.{walked_out}
use Rattle.std.proofs.Math.Bool.{or-false}
use Rattle.nest.proofs.Scan.{some_append}
use Rattle.lossless.proofs.Words.{none_each}
use Rattle.lossless.proofs.Bytes.{step_counters_lem}
use Rattle.lossless.proofs.Tours.{Closed, tour_so}

abbrev found : List Finding → Bool
found = some_of is_delimiter

-- ---- one text

held_found : (o : Origin) (p : Place) (text : List ℕ) (role : ℕ) (bs : List ℕ) → found (held_in o p text role bs) ≡ some_of (λ b. member_of b text) bs
unfolding held_in
held_found o p text role [] = refl
held_found o p text role (b ∷ bs) = go (member_of b text) (held_found o p text (role + 1) bs)
  where
    go : (t : Bool) → found (held_in o p text (role + 1) bs) ≡ some_of (λ c. member_of c text) bs
        → found (pick t (delimiter o p b role ∷ []) [] ++ held_in o p text (role + 1) bs) ≡ t || some_of (λ c. member_of c text) bs
    go true ih = refl
    go false ih = ih

unwritten_found : (o : Origin) (p : Place) (n : ℕ) → found (unwritten o p n) ≡ false
unfolding unwritten
unwritten_found o p zero = refl
unwritten_found o p (suc n) = refl

module _ (j : Job) where
  abbrev holds : List (List ℕ) → Bool
  holds = some_of (holds_separator j)

  -- a text that is tried, with its reason
  text_found : (o : Origin) (p : Place) (n : ℕ) (text : List ℕ) → found (unwritten o p n ++ delimited j o p text) ≡ holds (text ∷ [])
  unfolding delimited
  text_found o p n text =
      let tried = held_in o p text 0 (separators j.envelope) in
      some_append is_delimiter (unwritten o p n) tried ∙ ap (λ b. b || found tried) (unwritten_found o p n) ∙ held_found o p text 0 (separators j.envelope) ∙ sym (or-false (holds_separator j text))

  field_found : (o : Origin) (p : Place) (n : ℕ) (text : List ℕ) → found (delimited j o p text ++ unwritten o p n) ≡ holds (text ∷ [])
  unfolding delimited
  field_found o p n text =
      let tried = held_in o p text 0 (separators j.envelope) in
      some_append is_delimiter tried (unwritten o p n) ∙ ap (λ b. found tried || b) (unwritten_found o p n) ∙ ap (λ b. b || false) (held_found o p text 0 (separators j.envelope))

  cell_found : (id : List ℕ) (e : ℕ) (c : Option ℕ) (t column r : ℕ) → found (put_cell j id e c t column r).findings ≡ holds (text_of_cell j id e c t column r ∷ [])
  unfolding put_cell
  cell_found id e c t column r = text_found _ _ _ _

  -- ---- places, one after the other

  put_found : {A : Type 0} (f : A → Put) (g : A → List (List ℕ)) → ((x : A) → found (f x).findings ≡ holds (g x)) → (xs : List A)
      → found (put_all f xs).findings ≡ holds (each g xs)
  put_found f g h [] = refl
  put_found f g h (x ∷ xs) =
      some_append is_delimiter (f x).findings (put_all f xs).findings
      ∙ ap (λ b. b || found (put_all f xs).findings) (h x)
      ∙ ap (λ b. holds (g x) || b) (put_found f g h xs)
      ∙ sym (some_append (holds_separator j) (g x) (each g xs))

  row_value_lem : (id : List ℕ) (t r : ℕ) (p : ElementPlan) (v : Value) → found (row_value j id t r p v).findings ≡ holds (row_cell j id t r p v)
  row_value_lem id t r p (from_column c) = cell_found id p.element p.component t c r
  row_value_lem id t r p (from_group c) = refl
  row_value_lem id t r p (from_code code) = refl

  row_found : (id : List ℕ) (t r : ℕ) (es : List ElementPlan) → found (row_put j id t r es).findings ≡ holds (row_cells j id t r es)
  unfolding row_put
  row_found id t r es = put_found _ _ (λ (p : ElementPlan). row_value_lem id t r p p.value) es

  chunk_value_lem : (id : List ℕ) (t step k r : ℕ) (p : ElementPlan) (v : Value) → found (chunk_value j id t step k r p v).findings ≡ holds (chunk_cell j id t step k r p v)
  chunk_value_lem id t step zero r p (from_column c) = cell_found id p.element p.component t c r
  chunk_value_lem id t step (suc k) r p (from_column c) = rw (ne_eqb (suc k) 0 (λ e. omega arith)) refl
  chunk_value_lem id t step k r p (from_group c) = cell_found id (p.element + k * step) p.component t c r
  chunk_value_lem id t step zero r p (from_code code) = refl
  chunk_value_lem id t step (suc k) r p (from_code code) = rw (ne_eqb (suc k) 0 (λ e. omega arith)) refl

  chunk_found : (id : List ℕ) (t step k r : ℕ) (es : List ElementPlan) → found (chunk_put j id t step k r es).findings ≡ holds (chunk_row j id t step k r es)
  unfolding chunk_put
  chunk_found id t step k r es = put_found _ _ (λ (p : ElementPlan). chunk_value_lem id t step k r p p.value) es

  -- ---- the trigger

  sourced_found : (trigger : List ℕ) (position : ℕ) (d : ElementDef) (s : Sourced) → found (put_sourced j trigger position d s).findings ≡ holds (sourced_text d s)
  sourced_found trigger position d s = go s.field
    where
      text : List ℕ
      text = padded_to d s.given.reason s.given.text

      checks : (f : ℕ) (b : Bool) → found (pick b (delimited j (field f) (place_of trigger position None) text) [] ++ unwritten (field f) (place_of trigger position None) s.given.reason) ≡ holds (pick b (text ∷ []) [])
      checks f true = field_found _ _ _ _
      checks f false = unwritten_found _ _ _

      go : (x : Option ℕ) → found (on x (λ f. record { parts = part_at position None text ∷ []; findings = field_findings j trigger position f s.given text; entries = 1 }) (put_text position None text)).findings
          ≡ holds (on x (λ f. pick s.given.checked (text ∷ []) []) [])
      go None = refl
      go (Some f) = checks f s.given.checked

  element_found : (trigger : List ℕ) (depth place : ℕ) (control : List ℕ) (x : ℕ × ElementDef)
      → found (put_element j trigger depth place control x).findings ≡ holds (on (source_at j trigger depth place control x.0 x.1) (sourced_text x.1) [])
  unfolding put_element
  element_found trigger depth place control x = go (source_at j trigger depth place control x.0 x.1)
    where
      go : (o : Option Sourced) → found (on o (put_sourced j trigger x.0 x.1) nothing).findings ≡ holds (on o (sourced_text x.1) [])
      go None = refl
      go (Some s) = sourced_found trigger x.0 x.1 s

  opener_found : (l : ℕ) (s : State) → found (opener_out j l s).findings ≡ some_of (segment_holds j) (opener_due j l s.counter)
  unfolding opener_out opener_due opener_put
  opener_found l s = go (loop_of j l).control refl
    where
      go : (o : Option Control) → (loop_of j l).control ≡ o → found (opener_out j l s).findings ≡ some_of (segment_holds j) (opener_due j l s.counter)
      go None e = rw e refl
      go (Some c) e = rw e (put_found _ _ (element_found (loop_of j l).trigger (depth_of j l) c.opener (control_in j l c (get_or s.counter l 0))) (on (segment_def j (loop_of j l).trigger) (λ d. d) []) ∙ sym (or-false _))

  closer_found : (l : ℕ) (b : Bool) (n m : ℕ) (s : State) → found (closer_out j l b n m s).findings ≡ some_of (segment_holds j) (closer_due j l b n m s.counter)
  unfolding closer_out closer_due
  closer_found l b n m s = go (loop_of j l).control refl (loop_of j l).end refl
    where
      go : (o : Option Control) → (loop_of j l).control ≡ o → (d : Option (List ℕ)) → (loop_of j l).end ≡ d → found (closer_out j l b n m s).findings ≡ some_of (segment_holds j) (closer_due j l b n m s.counter)
      go None e d q = rw e refl
      go (Some c) e None q = rw (e, q) refl
      go (Some c) e (Some id) q = rw (e, q) (ap found (closer_quiet _ _ _))

  -- ---- the walk

  abbrev Right : List Step → Type 0
  Right xs = (s : State) → found (steps_out j xs s).findings ≡ some_of (segment_holds j) (steps_due j xs s.counter)

  pub due_append : (xs ys : List Step) (s : State) → steps_due j (xs ++ ys) s.counter ≡ steps_due j xs s.counter ++ steps_due j ys (steps_out j xs s).state.counter
  unfolding steps_due steps_out
  due_append [] ys s = refl
  due_append (x ∷ xs) ys s =
      let t = (step_out j x s).state in
      ap (λ (l : List DueSegment). step_due j x s.counter ++ l) (ap (steps_due j (xs ++ ys)) (sym (step_counters_lem j x s)) ∙ due_append xs ys t
      ∙ ap (λ (l : List ℕ). steps_due j xs l ++ steps_due j ys (steps_out j xs t).state.counter) (step_counters_lem j x s))
      ∙ sym (append_assoc (step_due j x s.counter) (steps_due j xs (step_counters j x s.counter)) (steps_due j ys (steps_out j xs t).state.counter))

  pub due_one : (x : Step) (cs : List ℕ) → steps_due j (x ∷ []) cs ≡ step_due j x cs
  unfolding steps_due
  due_one x cs = append-nil (step_due j x cs)

  one_right : (x : Step) → ((s : State) → found (step_out j x s).findings ≡ some_of (segment_holds j) (step_due j x s.counter)) → Right (x ∷ [])
  one_right x h s = ap (λ (o : Out). found o.findings) (steps_one j x s) ∙ h s ∙ sym (ap (some_of (segment_holds j)) (due_one x s.counter))

  join_right : (xs ys : List Step) → Right xs → Right ys → Right (xs ++ ys)
  join_right xs ys a b s =
      let t = (steps_out j xs s).state in
      ap (λ (o : Out). found o.findings) (steps_append j xs ys s)
      ∙ some_append is_delimiter (steps_out j xs s).findings (steps_out j ys t).findings
      ∙ ap (λ c. c || found (steps_out j ys t).findings) (a s)
      ∙ ap (λ c. some_of (segment_holds j) (steps_due j xs s.counter) || c) (b t)
      ∙ sym (some_append (segment_holds j) (steps_due j xs s.counter) (steps_due j ys t.counter))
      ∙ sym (ap (some_of (segment_holds j)) (due_append xs ys s))

  stop_found : (l t r : ℕ) (s : State) → found (stop_out (outline_of j) l t r s).findings ≡ false
  unfolding stop_out
  stop_found l t r s = go (get_or s.high t None)
    where
      above_it : (h : ℕ) (x : Option ℕ) → found (on x (λ u. out_of_order t r u (on ((outline_of j).reference t u r) (λ v. v) 0) h ∷ []) []) ≡ false
      above_it h None = refl
      above_it h (Some u) = refl

      lower : (h : ℕ) (b : Bool) → found (pick b (on (above (outline_of j) t r) (λ u. out_of_order t r u (on ((outline_of j).reference t u r) (λ v. v) 0) h ∷ []) []) []) ≡ false
      lower h true = above_it h (above (outline_of j) t r)
      lower h false = refl

      go : (x : Option ℕ) → found (order_findings (outline_of j) t r x) ≡ false
      go None = refl
      go (Some h) = lower h (ltb r h)

  -- the rows of a chunk, from number k on
  rows_right : (l i t k : ℕ) (rs : List ℕ) (s : State) → found (steps_out j (row_steps l i t k rs) s).findings ≡ holds (chunk_cells j (identifier_of j l i) t (step_of j t) k (planned_of j l i).elements rs)
  unfolding row_steps steps_out step_out fill_out
  rows_right l i t k [] s = refl
  rows_right l i t k (r ∷ rs) s =
      let id = identifier_of j l i in
      let es = (planned_of j l i).elements in
      let u = (step_out j (stop l t r) s).state in
      let v = (step_out j (fill l i t k r) u).state in
      let fills = (chunk_put j id t (step_of j t) k r es).findings in
      let rest = (steps_out j (row_steps l i t (suc k) rs) v).findings in
      let up : suc k ≡ k + 1 = omega arith in
      some_append is_delimiter (stop_out (outline_of j) l t r s).findings (fills ++ rest)
      ∙ ap (λ b. b || found (fills ++ rest)) (stop_found l t r s)
      ∙ some_append is_delimiter fills rest
      ∙ ap (λ b. b || found rest) (chunk_found id t (step_of j t) k r es)
      ∙ ap (λ b. holds (chunk_row j id t (step_of j t) k r es) || b) (rows_right l i t (suc k) rs v ∙ ap (λ n. holds (chunk_cells j id t (step_of j t) n es rs)) up)
      ∙ sym (some_append (holds_separator j) (chunk_row j id t (step_of j t) k r es) (chunk_cells j id t (step_of j t) (k + 1) es rs))

  rows_due : (l i t k : ℕ) (rs : List ℕ) (cs : List ℕ) → steps_due j (row_steps l i t k rs) cs ≡ []
  unfolding row_steps steps_due step_due step_counters
  rows_due l i t k [] cs = refl
  rows_due l i t k (r ∷ rs) cs = rows_due l i t (suc k) rs cs

  pub chunk_steps_lem : (l i t : ℕ) (rs : List ℕ) (s : State) → steps_due j (chunk_steps l i t rs) s.counter ≡ chunk_due j l i t rs ∷ []
  unfolding step_due
  chunk_steps_lem l i t rs s =
      let rows = row_steps l i t 0 rs in
      let u = (steps_out j rows s).state in
      due_append rows (chunk l i t rs ∷ []) s ∙ ap (λ (ds : List DueSegment). ds ++ steps_due j (chunk l i t rs ∷ []) u.counter) (rows_due l i t 0 rs s.counter) ∙ due_one (chunk l i t rs) u.counter

  chunk_right : (l i t : ℕ) (rs : List ℕ) → Right (chunk_steps l i t rs)
  unfolding step_out chunk_out chunk_due
  chunk_right l i t rs s =
      let rows = row_steps l i t 0 rs in
      let u = (steps_out j rows s).state in
      ap (λ (o : Out). found o.findings) (steps_append j rows (chunk l i t rs ∷ []) s ∙ ap (λ (o : Out). and_then (steps_out j rows s) (λ (z : State). o)) (steps_one j (chunk l i t rs) u))
      ∙ ap found (append-nil (steps_out j rows s).findings)
      ∙ rows_right l i t 0 rs s ∙ sym (or-false _)
      ∙ sym (ap (some_of (segment_holds j)) (chunk_steps_lem l i t rs s))

  closed : Closed (outline_of j) Right
  unfolding step_out step_due row_out row_due steps_out steps_due
  closed = record {
    nothing = λ s. refl;
    join = join_right;
    enter = λ l. one_right (enters l) (λ s. refl);
    stopped = λ l t r. one_right (stop l t r) (stop_found l t r);
    opens = λ l. one_right (opener l) (opener_found l);
    row = λ l i t r h e q. one_right (row_segment l i t r) (λ s. row_found (identifier_of j l i) t r (planned_of j l i).elements ∙ sym (or-false _));
    filled = λ l i t rs h e q k. chunk_right l i t rs;
    closes = λ l b n m. one_right (closer l b n m) (closer_found l b n m);
  }

  walked_found : found (walked_out j).findings ≡ separator_held j
  unfolding separator_held due_segments
  walked_found = tour_so (outline_of j) Right closed (start j)

-- ---- nest finds none

module _ (o : Outline) where
  duplicate_quiet : (t r : ℕ) → found (duplicate_at o t r) ≡ false
  unfolding duplicate_at
  duplicate_quiet t r = go (first_row o t (o.key t r))
    where
      two : (b : Bool) (x : Finding) → is_delimiter x ≡ false → found (cond b (x ∷ []) []) ≡ false
      two true x h = rw h
      two false x h = refl

      go : (x : Option ℕ) → found (on x (λ f. cond (ltb f r) (duplicate t r (o.key t r) f ∷ []) []) []) ≡ false
      go None = refl
      go (Some f) = two (ltb f r) (duplicate t r (o.key t r) f) refl

  contradiction_quiet : (t r : ℕ) (p : Row) (a : ℕ) → found (contradiction_at o t r p a) ≡ false
  unfolding contradiction_at
  contradiction_quiet t r p a = go (o.reference t a r) (o.reference p.table a p.row)
    where
      two : (b : Bool) (x : Finding) → is_delimiter x ≡ false → found (cond b [] (x ∷ [])) ≡ false
      two true x h = refl
      two false x h = rw h

      go : (x y : Option ℕ) → found (differing x y (λ v e. mismatch t r a v p.table p.row e ∷ [])) ≡ false
      go None y = refl
      go (Some v) None = refl
      go (Some v) (Some e) = two (eqb v e) (mismatch t r a v p.table p.row e) refl

  missing_quiet : (t r : ℕ) → found (missing_at o t r) ≡ false
  unfolding missing_at
  missing_quiet t r = go (repeated o t) (claim_in o t r (anchors o t)) (table_parent o t)
    where
      go : (b : Bool) (x : Option Claim) (y : Option ℕ)
          → found (cond b (on x (λ k. missing t r k.table (Some k.value)) (missing t r (last_table t (anchors o t)) None) ∷ []) (on y (λ u. missing t r u (o.reference t u r) ∷ []) [])) ≡ false
      go true None y = refl
      go true (Some k) y = refl
      go false x None = refl
      go false x (Some u) = refl

  row_quiet : (t r : ℕ) → found (row_findings o t r) ≡ false
  unfolding row_findings contradictions
  row_quiet t r = go (hangs o t r)
    where
      go : (x : Option Row) → found (on x (contradictions o t r) (missing_at o t r)) ≡ false
      go None = missing_quiet t r
      go (Some p) = none_each is_delimiter (contradiction_at o t r p) (table_of o p.table).ancestors (contradiction_quiet t r p)

  nest_quiet : found (nest_findings o) ≡ false
  unfolding nest_findings duplicates table_findings
  nest_quiet =
      some_append is_delimiter (each (duplicates o) (from 0 (length o.row_counts))) (each (table_findings o) (from 0 (length o.tables)))
      ∙ ap (λ b. b || found (each (table_findings o) (from 0 (length o.tables)))) (none_each is_delimiter (duplicates o) (from 0 (length o.row_counts)) (λ t. none_each is_delimiter (duplicate_at o t) (from 0 (row_count o t)) (duplicate_quiet t)))
      ∙ none_each is_delimiter (table_findings o) (from 0 (length o.tables)) (λ t. none_each is_delimiter (row_findings o t) (from 0 (row_count o t)) (row_quiet t))

-- ---- the kind alone tells

-- which of them has kind 4
kind_right : (x : Finding) → eqb 4 (get_or (record_of x) 0 0) ≡ is_delimiter x
unfolding record_of
kind_right (duplicate t r k f) = refl
kind_right (missing t r u None) = refl
kind_right (missing t r u (Some v)) = refl
kind_right (mismatch t r a v u p e) = refl
kind_right (out_of_order t r a v h) = refl
kind_right (delimiter (cell t r c) p b role) = refl
kind_right (delimiter (field f) p b role) = refl
kind_right (not_writable (cell t r c) p reason) = refl
kind_right (not_writable (field f) p reason) = refl

kinds_right : (xs : List Finding) → delimiter_kind (kinds_of xs) ≡ delimiter_found xs
unfolding delimiter_kind delimiter_found
kinds_right [] = refl
kinds_right (x ∷ xs) = ap₂ ◌||◌ (kind_right x) (kinds_right xs)

pub all_found : (j : Job) → delimiter_kind (kinds_of (nest_findings (outline_of j) ++ (walked_out j).findings)) ≡ separator_held j
unfolding delimiter_found
all_found j =
    kinds_right (nest_findings (outline_of j) ++ (walked_out j).findings)
    ∙ some_append is_delimiter (nest_findings (outline_of j)) (walked_out j).findings
    ∙ ap (λ b. b || found (walked_out j).findings) (nest_quiet (outline_of j)) ∙ walked_found j
