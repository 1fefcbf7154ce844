-- Places and texts of a planned element, by its kind.
use Prim.Native.Nat.{ℕ, ◌+◌, ◌*◌, ◌-◌, ◌/◌, ◌%◌, ◌≤◌, ◌<◌}
use mathlib.Core.Path.{◌≡◌, refl, sym, ap, ◌∙◌}
use mathlib.Core.Bool.{Bool, true, false}
use mathlib.Core.List.{List, [], ◌∷◌}
use native.Mathlib.Omega.{arith}
use native.Mathlib.Nat.{mul-le-mul_left, mul-lt-mul_of_pos_right, mul_comm, mul-zero, mod-add-div, mul-mod_left, eq_of_mul-eq-mul_right}
use Rattle.std.proofs.lemmas.Option.{none-some, same_Some}
use Rattle.std.specs.Prelude.{Option, None, Some}
use lib.Dec.{eqb}
use borrow.Author.Tests.{eqb-true}
use Rattle.format.specs.Plan.{Value, from_column, from_group, from_code, ElementPlan}
use Rattle.segment.specs.Parts.{pick}
use Rattle.spec.specs.declared.ids.Stretch.{Stretch}
use Rattle.spec.specs.Answers.{stretch_of}
use Rattle.format.specs.Sections.{job_of}
use Rattle.format.specs.Ask.{on}
use Rattle.texts.specs.Reason.{Outcome, gives}
use Rattle.plan.specs.declared.answers.ElementPlan.{ElementPlan as Element}
use Rattle.plan.specs.declared.answers.ValueSource.{ValueSource}
use Rattle.plan.specs.declared.answers.ValueSource.TheVariants.{Column, Group, Code}
use Rattle.plan.specs.Answers.{value_of, element_of}
use Rattle.emit.specs.Puts.{Put, cell_outcome, put_cell, put_text, part_at, nothing, chunk_value}
use Rattle.repeat_segment.specs.declared.planned.Planned.{Planned}
use Rattle.repeat_segment.specs.declared.places.Source.{Source}
use Rattle.repeat_segment.specs.declared.places.Source.TheVariants.{Cell, Code as OfCode}
use Rattle.repeat_segment.specs.Planned.{id_of}
use Rattle.repeat_segment.specs.Places.{place_by, place_in, text_by, text_in, source_in, element_put, Lowest}
use Rattle.repeat_segment.proofs.PlacesLaws.{put_by, put_at}

-- a moved place is a small number
pub moved_small : (e step k : ℕ) → e ≤ 255 → step ≤ 255 → k < 256 → (k * step ≤ 65025) × (e + k * step ≤ 65280)
moved_small e step k h i j =
    let p : k * step ≤ k * 255 = mul-le-mul_left k i in
    (omega arith, omega arith)

-- ---- the row for which an element that moves stands at p

module _ (element step p : ℕ) where
  pub group_unmoved : step ≡ 0 → (m : ℕ) → element + m * step ≡ p → element ≡ p
  group_unmoved h m e = let z : m * step ≡ 0 = rw h (mul-zero m) in omega arith

  pub group_stands : (step ≡ 0 → ⊥) → element ≤ p → (p - element) % step ≡ 0 → element + (p - element) / step * step ≡ p
  group_stands h i j =
      let d = mod-add-div (p - element) step in
      let c = mul_comm step ((p - element) / step) in
      omega arith

  pub group_below : (step ≡ 0 → ⊥) → element ≤ p → (p - element) % step ≡ 0 → (m : ℕ) → m < (p - element) / step → element + m * step ≡ p → element ≡ p
  group_below h i j m q e =
      let z : 0 < step = omega arith in
      let l : m * step < (p - element) / step * step = mul-lt-mul_of_pos_right q z in
      let s = group_stands h i j in
      absurd (omega arith)

  pub group_between : ((p - element) % step ≡ 0 → ⊥) → (m : ℕ) → element + m * step ≡ p → element ≡ p
  group_between h m e =
      let d : p - element ≡ m * step = omega arith in
      absurd (h (rw d (mul-mod_left m step)))

-- ---- places

-- only the first row's place
once : (k e p : ℕ) → pick (eqb k 0) (Some e) None ≡ Some p → (k ≡ 0) × (e ≡ p)
once k e p h = go (eqb k 0) refl h
  where
    go : (t : Bool) → eqb k 0 ≡ t → pick t (Some e) None ≡ Some p → (k ≡ 0) × (e ≡ p)
    go true q r = (eqb-true _ _ q, same_Some _ _ r)
    go false q r = absurd (none-some _ r)

module _ (b : List ℕ) (e : Element) (step : ℕ) where
  pub place_column : (k n : ℕ) (o : Option ℕ) → e.value ≡ Column n → o ≡ pick (eqb k 0) (Some e.element) None → o ≡ place_in step k (element_of b e)
  unfolding place_in
  place_column k n o h q = rw h q

  pub place_group : (k n m : ℕ) → e.value ≡ Group n → m ≡ e.element + k * step → Some m ≡ place_in step k (element_of b e)
  unfolding place_in
  place_group k n m h q = rw (h, q) refl

  pub place_code : (k : ℕ) (s : Stretch) (o : Option ℕ) → e.value ≡ Code s → o ≡ pick (eqb k 0) (Some e.element) None → o ≡ place_in step k (element_of b e)
  unfolding place_in
  place_code k s o h q = rw h q

  module _ (p : ℕ) where
    pub lowest_here : e.element ≡ p → Lowest step p 0 (element_of b e)
    unfolding place_in
    lowest_here h = record { stands = λ _. go (element_of b e).value; below = λ m q. absurd (omega arith) }
      where
        go : (v : Value) → place_by step 0 e.element v ≡ Some p
        go (from_column c) = ap Some h
        go (from_group c) = ap Some (omega arith)
        go (from_code t) = ap Some h

    pub lowest_column : (n : ℕ) → e.value ≡ Column n → (e.element ≡ p → ⊥) → Lowest step p 256 (element_of b e)
    unfolding place_in
    lowest_column n h q = record { stands = λ z. absurd (omega arith); below = λ m _ _ r. q (once m e.element p (rw h at r)).1 }

    pub lowest_code : (s : Stretch) → e.value ≡ Code s → (e.element ≡ p → ⊥) → Lowest step p 256 (element_of b e)
    unfolding place_in
    lowest_code s h q = record { stands = λ z. absurd (omega arith); below = λ m _ _ r. q (once m e.element p (rw h at r)).1 }

    pub lowest_group : (n r : ℕ) → e.value ≡ Group n → (e.element ≡ p → ⊥) → (r < 256 → e.element + r * step ≡ p) × ((m : ℕ) → m < r → e.element + m * step ≡ p → e.element ≡ p)
        → Lowest step p r (element_of b e)
    unfolding place_in
    lowest_group n r h q x = record { stands = λ z. rw h (ap Some (x.0 z)); below = λ m i _ y. q (x.1 m i (same_Some _ _ (rw h at y))) }

-- with a step an element stands at p for one row at most
pub one_row : (step k m p : ℕ) (x : ElementPlan) → 0 < step → place_in step k x ≡ Some p → place_in step m x ≡ Some p → m ≡ k
unfolding place_in
one_row step k m p x h i j = go x.value i j
  where
    go : (v : Value) → place_by step k x.element v ≡ Some p → place_by step m x.element v ≡ Some p → m ≡ k
    go (from_column c) y z = (once m _ p z).0 ∙ sym (once k _ p y).0
    go (from_group c) y z = let e : m * step ≡ k * step = omega (arith, same_Some _ _ y, same_Some _ _ z) in eq_of_mul-eq-mul_right step h m k e
    go (from_code t) y z = (once m _ p z).0 ∙ sym (once k _ p y).0

pub place_first : (step : ℕ) (x : ElementPlan) → place_in step 0 x ≡ Some x.element
unfolding place_in
place_first step x = go x.value
  where
    go : (v : Value) → place_by step 0 x.element v ≡ Some x.element
    go (from_column c) = refl
    go (from_group c) = ap Some (omega arith)
    go (from_code t) = refl

pub place_behind : (step k m : ℕ) (x : ElementPlan) → place_in step k x ≡ Some m → x.element ≤ m
unfolding place_in
place_behind step k m x h = go x.value h
  where
    go : (v : Value) → place_by step k x.element v ≡ Some m → x.element ≤ m
    go (from_column c) y = omega (arith, (once k _ m y).1)
    go (from_group c) y = omega (arith, same_Some _ _ y)
    go (from_code t) y = omega (arith, (once k _ m y).1)

-- ---- where a text comes from

abbrev pub text_from : List ℕ → Planned → ℕ → Option ℕ → ℕ → Source → Outcome
text_from b s p c r (Cell n) = cell_outcome (job_of b) (id_of b s) s.table.0 r p c n
text_from b s p c r (OfCode code) = gives (stretch_of b code)

abbrev pub put_from : List ℕ → Planned → ℕ → Option ℕ → ℕ → Source → Put
put_from b s p c r (Cell n) = put_cell (job_of b) (id_of b s) p c s.table.0 n r
put_from b s p c r (OfCode code) = put_text p c (stretch_of b code)

module _ (b : List ℕ) (s : Planned) (e : Element) (p r : ℕ) where
  pub text_source : text_in b s p r (element_of b e) ≡ text_from b s p e.component r (source_in e.value)
  unfolding text_in
  text_source = go e.value
    where
      go : (v : ValueSource) → text_by (job_of b) (id_of b s) s.table.0 p e.component r (value_of b v) ≡ text_from b s p e.component r (source_in v)
      go (Column n) = refl
      go (Group n) = refl
      go (Code c) = refl

  pub put_source : put_at b s p r (element_of b e) ≡ put_from b s p e.component r (source_in e.value)
  unfolding put_at
  put_source = go e.value
    where
      go : (v : ValueSource) → put_by (job_of b) (id_of b s) s.table.0 p e.component r (value_of b v) ≡ put_from b s p e.component r (source_in v)
      go (Column n) = refl
      go (Group n) = refl
      go (Code c) = refl

-- ---- what an element puts

-- it puts something if it has a place
pub element_put_lem : (b : List ℕ) (s : Planned) (k r : ℕ) (x : ElementPlan) → element_put b s k r x ≡ on (place_in s.step k x) (λ e. put_at b s e r x) nothing
unfolding element_put place_in put_at
element_put_lem b s k r x = go x.value
  where
    picked : (t : Bool) (e : ℕ) (f : ℕ → Put) → pick t (f e) nothing ≡ on (pick t (Some e) None) f nothing
    picked true e f = refl
    picked false e f = refl

    go : (v : Value) → chunk_value (job_of b) (id_of b s) s.table.0 s.step k r x v
        ≡ on (place_by s.step k x.element v) (λ e. put_by (job_of b) (id_of b s) s.table.0 e x.component r v) nothing
    go (from_column c) = picked (eqb k 0) x.element (λ e. put_cell (job_of b) (id_of b s) e x.component s.table.0 c r)
    go (from_group c) = refl
    go (from_code t) = picked (eqb k 0) x.element (λ e. put_text e x.component t)

module _ (b : List ℕ) (s : Planned) (k r : ℕ) (x : ElementPlan) where
  pub put_nowhere : place_in s.step k x ≡ None → element_put b s k r x ≡ nothing
  put_nowhere h = element_put_lem b s k r x ∙ rw h refl

  pub put_there : (p : ℕ) → place_in s.step k x ≡ Some p → element_put b s k r x ≡ put_at b s p r x
  put_there p h = element_put_lem b s k r x ∙ rw h refl

-- by what gives its text
module _ (b : List ℕ) (s : Planned) (e : Element) (k p r : ℕ) (h : place_in s.step k (element_of b e) ≡ Some p) where
  pub put_cell_there : (n : ℕ) → source_in e.value ≡ Cell n → element_put b s k r (element_of b e) ≡ put_cell (job_of b) (id_of b s) p e.component s.table.0 n r
  put_cell_there n q = put_there b s k r (element_of b e) p h ∙ put_source b s e p r ∙ rw q refl

  pub put_code_there : (c : Stretch) → source_in e.value ≡ OfCode c → element_put b s k r (element_of b e) ≡ put_text p e.component (stretch_of b c)
  put_code_there c q = put_there b s k r (element_of b e) p h ∙ put_source b s e p r ∙ rw q refl

-- the part that an element puts, if it has a place
pub element_parts : (b : List ℕ) (s : Planned) (k r : ℕ) (x : ElementPlan)
    → (element_put b s k r x).parts ≡ on (place_in s.step k x) (λ e. part_at e x.component (text_in b s e r x).text ∷ []) []
unfolding put_at text_in put_cell
element_parts b s k r x = ap (λ (p : Put). p.parts) (element_put_lem b s k r x) ∙ go (place_in s.step k x)
  where
    part : (e : ℕ) (v : Value) → (put_by (job_of b) (id_of b s) s.table.0 e x.component r v).parts
        ≡ part_at e x.component (text_by (job_of b) (id_of b s) s.table.0 e x.component r v).text ∷ []
    part e (from_column c) = refl
    part e (from_group c) = refl
    part e (from_code t) = refl

    go : (o : Option ℕ) → (on o (λ e. put_at b s e r x) nothing).parts ≡ on o (λ e. part_at e x.component (text_in b s e r x).text ∷ []) []
    go None = refl
    go (Some e) = part e x.value
