-- What stands at a place, read there: the elements of a trigger, and planned segments that an envelope fills.
use Prim.Native.Nat.{ℕ, ◌<◌}
use mathlib.Core.Path.{◌≡◌, refl, sym, ap, ◌∙◌}
use mathlib.Core.List.{List, [], ◌∷◌}
use mathlib.Core.Bool.{Bool, true, false, not}
use native.Mathlib.Omega.{arith}
use Rattle.std.specs.Prelude.{Option, None, Some, is_some}
use lib.ListN.{length}
use lib.Dec.{eqb}
use borrow.Author.Tests.{eq-eqb, ne_eqb}
use Rattle.codec.specs.Codec.{Codec, pick, list_c, ◌⊗◌}
use Rattle.codec.specs.Skip.{count_at, tag_at, Is}
use Rattle.codec.proofs.Field.{is_list, count_list}
use Rattle.codec.specs.Forms.{num_c}
use Rattle.codec.proofs.Maps.{is_num_map}
use Rattle.codec.proofs.Ways.{tag_in, tag_case}
use Rattle.codec.specs.Limits.{any_of}
use Rattle.format.specs.Words.{if_some, present}
use Rattle.format.specs.Spec.{ElementDef, element_c, SegmentDef, segment_c}
use Rattle.format.specs.Plan.{Source, from_envelope, from_row, from_repeat, source_c, ElementPlan, SegmentPlan, LoopPlan}
use Rattle.format.proofs.Fields.{source_tag}
use Rattle.format.specs.Job.{Job}
use Rattle.format.specs.Ask.{loop_of, segment_def, depth_of}
use Rattle.spec.specs.Found.{StandsAt}
use Rattle.spec.specs.Answers.{control_of, rule_of}
use Rattle.spec.specs.declared.ids.ControlRule.{ControlRule}
use Rattle.std.specs.Prelude as Rust
use Rattle.segment.specs.Parts.{is_empty}
use Rattle.emit.specs.Envelope.{field_at}
use Rattle.places.specs.declared.triggers.Trigger.{Trigger}
use Rattle.places.specs.Triggers.{crowded, field_gives, gives, is_envelope, part_of, trigger_of, wrong_element, wrong_loop_at, wrong_ruled, wrong_trigger}

-- a count of none
pub count_empty : {A : Type 0} (C : Codec A) (b : List ℕ) (e n p q : ℕ) (vs : List A) → n ≡ count_at b p e → p ≡ q → Is (list_c C) b e q vs → eqb n 0 ≡ is_empty vs
count_empty {A} C b e n p q vs h i k = let z : n ≡ length vs = h ∙ rw i (sym (count_list C b e q vs (is_list C b e q vs k))) in rw z (go vs)
  where
    go : (ws : List A) → eqb (length ws) 0 ≡ is_empty ws
    go [] = refl
    go (x ∷ xs) = ne_eqb (length (x ∷ xs)) 0 (omega arith)

-- ---- an element of a trigger
pub gives_opener : (t : Trigger) (x : ℕ × ElementDef) (n : ℕ) → n ≡ x.0 → n ≡ t.opener → false ≡ gives t x
unfolding gives
gives_opener t x n h i = let z : x.0 ≡ t.opener = sym h ∙ i in sym (rw (eq-eqb _ _ z))

pub gives_field : (t : Trigger) (x : ℕ × ElementDef) (n : ℕ) (m r : Bool) → n ≡ x.0 → (n ≡ t.opener → ⊥) → m ≡ is_empty x.1.codes → r ≡ if_some (field_gives t.repetition m) (field_at t.depth n) → r ≡ gives t x
unfolding gives
gives_field t x n m r h i k l = let z : x.0 ≡ t.opener → ⊥ = λ w. i (h ∙ w) in l ∙ rw (k, h, ne_eqb _ _ z)

pub part_is : (n e : ℕ) (v : ElementPlan) (p r : Bool) → e ≡ v.element → p ≡ present v.component → r ≡ pick (eqb e n) p false → r ≡ part_of n v
unfolding part_of
part_is n e v p r h i k = k ∙ rw (h, i)

pub crowded_is : (es : List ElementPlan) (x : ℕ × ElementDef) (n : ℕ) (m q r : Bool) → n ≡ x.0 → m ≡ is_empty x.1.components → q ≡ any_of (part_of n) es → r ≡ pick (not m) true q → r ≡ crowded es x
unfolding crowded
crowded_is es x n m q r h i k l = l ∙ rw (i, k, h)

pub wrong_element_lem : (t : Trigger) (es : List ElementPlan) (x : ℕ × ElementDef) (p q r : Bool) → p ≡ gives t x → q ≡ crowded es x → r ≡ pick p q false → r ≡ wrong_element t es x
unfolding wrong_element
wrong_element_lem t es x p q r h i k = k ∙ rw (h, i)

-- ---- a planned segment: k is the mark of its source
module _ (b : List ℕ) (e at k : ℕ) (h : k ≡ tag_at b at e) where
  envelope_there : k ≡ 0 → (v : Source) → Is source_c b e at v → is_envelope v ≡ true
  envelope_there i from_envelope u = refl
  envelope_there i (from_row x) u = absurd (let l : at < e = tag_case b at e 0 (sym h ∙ i) (omega arith) in omega (arith, source_tag b e at (from_row x) u, tag_in b at e l))
  envelope_there i (from_repeat x) u = absurd (let l : at < e = tag_case b at e 0 (sym h ∙ i) (omega arith) in omega (arith, source_tag b e at (from_repeat x) u, tag_in b at e l))

  envelope_not : at < e → (k ≡ 0 → ⊥) → (v : Source) → Is source_c b e at v → is_envelope v ≡ false
  envelope_not l i from_envelope u = absurd (i (h ∙ tag_in b at e l ∙ source_tag b e at from_envelope u))
  envelope_not l i (from_row x) u = refl
  envelope_not l i (from_repeat x) u = refl

  pub trigger_yes : (t : Trigger) (xs : SegmentDef) (p : SegmentPlan) (r : Bool) → k ≡ 0 → Is source_c b e at p.source → r ≡ any_of (wrong_element t p.elements) xs → r ≡ wrong_trigger t xs p
  unfolding wrong_trigger
  trigger_yes t xs p r i u s = s ∙ rw (envelope_there i p.source u)

  pub trigger_no : (t : Trigger) (xs : SegmentDef) (p : SegmentPlan) → at < e → (k ≡ 0 → ⊥) → Is source_c b e at p.source → false ≡ wrong_trigger t xs p
  unfolding wrong_trigger
  trigger_no t xs p l i u = sym (rw (envelope_not l i p.source u))

-- ---- a loop
none_wrong : (t : Trigger) (ps : List SegmentPlan) → any_of (wrong_trigger t []) ps ≡ false
unfolding any_of wrong_trigger
none_wrong t [] = refl
none_wrong t (p ∷ ps) = go (is_envelope p.source) (none_wrong t ps)
  where
    go : (u : Bool) → any_of (wrong_trigger t []) ps ≡ false → pick (pick u false false) true (any_of (wrong_trigger t []) ps) ≡ false
    go true h = h
    go false h = h

module _ (j : Job) (l opener : ℕ) (p : LoopPlan) where
  pub ruled_nowhere : (id : List ℕ) → id ≡ (loop_of j l).trigger → segment_def j id ≡ None → false ≡ wrong_ruled j l opener p
  unfolding wrong_ruled
  ruled_nowhere id h i = let z : segment_def j (loop_of j l).trigger ≡ None = rw h at i in sym (rw z (none_wrong (trigger_of j l opener) p.segments))

  pub ruled_there : (id : List ℕ) (b : List ℕ) (e e' q : ℕ) (t : Trigger) (r : Bool) → id ≡ (loop_of j l).trigger → StandsAt segment_c b e q (segment_def j id) → t ≡ trigger_of j l opener → e' ≡ e
      → ((xs : SegmentDef) → Is (list_c (num_c ⊗ element_c)) b e' q xs → r ≡ any_of (wrong_trigger t xs) p.segments) → r ≡ wrong_ruled j l opener p
  unfolding wrong_ruled
  ruled_there id b e e' q t r h s i k f =
      let z : segment_def j (loop_of j l).trigger ≡ Some s.value = rw h at s.there in
      let w : r ≡ any_of (wrong_trigger t s.value) p.segments = f s.value (rw k (is_num_map _ _ _ _ _ s.is).0) in
      w ∙ rw (z, i)

-- r is what the loop's rule was read as
module _ (j : Job) (l : ℕ) (p : LoopPlan) (r : Option ControlRule) (h : control_of r ≡ (loop_of j l).control) where
  pub loop_free : r ≡ None → false ≡ wrong_loop_at j l p
  unfolding wrong_loop_at if_some
  loop_free i = let z : (loop_of j l).control ≡ None = sym h ∙ ap control_of i in sym (rw z)

  pub loop_ruled : (c : ControlRule) (t : Bool) → r ≡ Some c → t ≡ wrong_ruled j l c.opener p → t ≡ wrong_loop_at j l p
  unfolding wrong_loop_at if_some
  loop_ruled c t i k = let z : (loop_of j l).control ≡ Some (rule_of c) = sym h ∙ ap control_of i in k ∙ sym (rw z)

-- h is what the field of an element was found as
module _ (g : ℕ → Bool) (h : Rust.Option ℕ) (depth position : ℕ) (e : h ≡ field_at depth position) where
  pub held_nothing : h ≡ Rust.None → false ≡ if_some g (field_at depth position)
  unfolding if_some
  held_nothing i = let z : field_at depth position ≡ None = sym e ∙ i in sym (rw z)

  pub held_field_lem : (f : ℕ) (r : Bool) → h ≡ Rust.Some f → r ≡ g f → r ≡ if_some g (field_at depth position)
  unfolding if_some
  held_field_lem f r i k = let z : field_at depth position ≡ Some f = sym e ∙ i in k ∙ sym (rw z)

some_present : (o : Option ℕ) → is_some o ≡ present o
unfolding present
some_present None = refl
some_present (Some v) = refl

-- n is what the repetition separator was read as
module _ (j : Job) (l opener d : ℕ) (n : Option ℕ) (h : d ≡ depth_of j l) (k : n ≡ j.envelope.repetition) where
  pub trigger_is : (r : Bool) → r ≡ is_some n → record { opener = opener; depth = d; repetition = r } ≡ trigger_of j l opener
  trigger_is r i = rw (h, i, k, some_present j.envelope.repetition)
