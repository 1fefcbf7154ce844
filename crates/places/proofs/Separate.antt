-- The tests of envelope fields that give a separator decide what a complete plan asks of them.
use Prim.Native.Nat.{ℕ, zero, suc, ◌+◌, ◌<◌}
use mathlib.Core.Path.{◌≡◌, refl, sym, ap, subst, ◌∙◌}
use mathlib.Core.Logic.{◌≢◌, ◌⊎◌, inl, inr}
use mathlib.Core.List.{List, [], ◌∷◌}
use mathlib.Core.Bool.{Bool, true, false, not}
use native.Mathlib.Omega.{arith}
use native.Mathlib.Nat.{add-zero}
use Rattle.std.specs.Prelude.{Option, None, Some}
use lib.ListN.{length, get_or}
use lib.Dec.{eqb}
use borrow.Author.Tests.{eqb-true, eqb-false}
use Rattle.codec.specs.Codec.{pick}
use Rattle.format.specs.Words.{any_from, if_some, present}
use Rattle.format.specs.Spec.{Control, ElementDef}
use Rattle.format.specs.Plan.{Source, from_envelope, from_row, from_repeat, ElementPlan, SegmentPlan, LoopPlan, no_loop_plan}
use Rattle.format.specs.Job.{Job}
use Rattle.format.specs.Ask.{loop_of, plan_of, segment_def, depth_of}
use Rattle.segment.specs.Parts.{is_empty}
use Rattle.emit.specs.Envelope.{field_at, repetition, component}
use Rattle.nest.specs.Lists.{All, on}
use Rattle.complete.specs.Complete.{GivesSeparator, StandsAlone, SeparatorsAlone}
use Rattle.codes.proofs.Refutes.{Refutes}
use Rattle.complete.specs.Decides.{Decides}
use Rattle.places.specs.Triggers.{crowded, defs_of, field_gives, gives, is_envelope, part_of, trigger_of, wrong_element, wrong_loop_at, wrong_ruled, wrong_trigger}
use Rattle.codes.proofs.Laws.{no_way, refute_as, refute_either, refute_all}

-- ---- words
refute_implies : (s t : Bool) (P Q : Type 0) → Decides s P → Refutes t Q → Refutes (pick s t false) (P → Q)
refute_implies true t P Q h k = (λ i p. k.0 i, λ i f. k.1 i (f (h.0 refl)))
refute_implies false t P Q h k = (λ i p. absurd (h.1 refl p), λ i. no_way (sym i))

-- a test of every item with its number
refute_from : {A : Type 0} (f : ℕ → A → Bool) (P : ℕ → A → Type 0) → ((l : ℕ) (x : A) → Refutes (f l x) (P l x)) → (d : A) (k : ℕ) (xs : List A)
    → Refutes (any_from f k xs) ((l : ℕ) → l < length xs → P (k + l) (get_or xs l d))
unfolding any_from
refute_from f P h d k [] = (λ i l q. absurd (omega arith), λ i. no_way (sym i))
refute_from {A} f P h d k (x ∷ xs) = refute_as _ _ _ join
    (λ g. (subst (λ (n : ℕ). P n x) (add-zero k) (g 0 (omega arith)), λ l q. subst (λ (n : ℕ). P n (get_or xs l d)) (let e : k + suc l ≡ k + 1 + l = omega arith in e) (g (suc l) (omega arith))))
    (refute_either (f k x) (any_from f (k + 1) xs) (P k x) ((l : ℕ) → l < length xs → P (k + 1 + l) (get_or xs l d)) (h k x) (refute_from f P h d (k + 1) xs))
  where
    join : P k x × ((l : ℕ) → l < length xs → P (k + 1 + l) (get_or xs l d)) → (l : ℕ) → l < length (x ∷ xs) → P (k + l) (get_or (x ∷ xs) l d)
    join q zero w = subst (λ (n : ℕ). P n x) (sym (add-zero k)) q.0
    join q (suc l) w = subst (λ (n : ℕ). P n (get_or xs l d)) (let e : k + 1 + l ≡ k + suc l = omega arith in e) (q.1 l (omega arith))

same_some : {A : Type 0} (x y : A) → Some x ≡ Some y → x ≡ y
same_some {A} x y h = ap (λ (o : Option A). on o (λ n. n) x) h

not_some : {A : Type 0} (x : A) → None ≡ Some x → ⊥
not_some {A} x h = no_way (sym (ap (λ (o : Option A). on o (λ n. true) false) h))

empty_decided : {A : Type 0} (xs : List A) → Decides (is_empty xs) (xs ≡ [])
empty_decided [] = (λ i. refl, λ i. no_way i)
empty_decided {A} (x ∷ xs) = (λ i. no_way (sym i), λ i h. no_way (sym (ap (λ (ws : List A). is_empty ws) h)))

there_decided : {A : Type 0} (o : Option A) → Decides (present o) (o ≢ None)
unfolding present
there_decided None = (λ i. no_way (sym i), λ i h. h refl)
there_decided (Some x) = (λ i h. not_some x (sym h), λ i. no_way i)

there_refuted : {A : Type 0} (o : Option A) → Refutes (present o) (o ≡ None)
unfolding present
there_refuted None = (λ i. refl, λ i. no_way (sym i))
there_refuted (Some x) = (λ i. no_way i, λ i h. not_some x (sym h))

same_decided : (n m : ℕ) → Decides (eqb n m) (n ≡ m)
same_decided n m = (λ i. eqb-true _ _ i, λ i h. eqb-false _ _ i h)

envelope_decided : (s : Source) → Decides (is_envelope s) (s ≡ from_envelope)
envelope_decided from_envelope = (λ i. refl, λ i. no_way i)
envelope_decided (from_row t) = (λ i. no_way (sym i), λ i h. no_way (sym (ap is_envelope h)))
envelope_decided (from_repeat t) = (λ i. no_way (sym i), λ i h. no_way (sym (ap is_envelope h)))

-- ---- an element of a trigger
module _ (j : Job) (x : ℕ × ElementDef) where
  abbrev ByField : Option ℕ → Type 0
  ByField o = (o ≡ Some component) ⊎ ((o ≡ Some repetition) × (x.1.codes ≡ []) × (j.envelope.repetition ≢ None))

  neither : (o : Option ℕ) → (o ≡ Some component → ⊥) → ((o ≡ Some repetition) × (x.1.codes ≡ []) × (j.envelope.repetition ≢ None) → ⊥) → ByField o → ⊥
  neither o f g (inl h) = f h
  neither o f g (inr h) = g h

  field_decided : (o : Option ℕ) → Decides (if_some (field_gives (present j.envelope.repetition) (is_empty x.1.codes)) o) (ByField o)
  unfolding if_some field_gives
  field_decided None = (λ i. no_way (sym i), λ i. neither None (λ h. not_some _ h) (λ h. not_some _ h.0))
  field_decided (Some f) = go (eqb f component) (eqb f repetition) (is_empty x.1.codes) (present j.envelope.repetition) refl refl (empty_decided x.1.codes) (there_decided j.envelope.repetition)
    where
      go : (s t u v : Bool) → eqb f component ≡ s → eqb f repetition ≡ t → Decides u (x.1.codes ≡ []) → Decides v (j.envelope.repetition ≢ None) → Decides (pick s true (pick t (pick u v false) false)) (ByField (Some f))
      go true t u v p q e r = (λ i. inl (ap Some (eqb-true _ _ p)), λ i. no_way i)
      go false true true true p q e r = (λ i. inr (ap Some (eqb-true _ _ q), e.0 refl, r.0 refl), λ i. no_way i)
      go false true true false p q e r = (λ i. no_way (sym i), λ i. neither (Some f) (λ h. eqb-false _ _ p (same_some _ _ h)) (λ h. r.1 refl h.2))
      go false true false v p q e r = (λ i. no_way (sym i), λ i. neither (Some f) (λ h. eqb-false _ _ p (same_some _ _ h)) (λ h. e.1 refl h.1))
      go false false u v p q e r = (λ i. no_way (sym i), λ i. neither (Some f) (λ h. eqb-false _ _ p (same_some _ _ h)) (λ h. eqb-false _ _ q (same_some _ _ h.0)))

  gives_decided : (l : ℕ) (c : Control) → Decides (gives (trigger_of j l c.opener) x) (GivesSeparator j l c x)
  unfolding gives
  gives_decided l c = go (eqb x.0 c.opener) refl
    where
      go : (t : Bool) → eqb x.0 c.opener ≡ t → Decides (pick t false (if_some (field_gives (present j.envelope.repetition) (is_empty x.1.codes)) (field_at (depth_of j l) x.0))) (GivesSeparator j l c x)
      go true p = (λ i. no_way (sym i), λ i g. g.not_opener (eqb-true _ _ p))
      go false p = (λ i. record { not_opener = eqb-false _ _ p; by_field = (field_decided (field_at (depth_of j l) x.0)).0 i }, λ i g. (field_decided (field_at (depth_of j l) x.0)).1 i g.by_field)

part_refuted : (n : ℕ) (e : ElementPlan) → Refutes (part_of n e) (e.element ≡ n → e.component ≡ None)
unfolding part_of
part_refuted n e = refute_implies _ _ _ _ (same_decided e.element n) (there_refuted e.component)

filled_refuted : {A : Type 0} (xs : List A) → Refutes (not (is_empty xs)) (xs ≡ [])
filled_refuted [] = (λ i. refl, λ i. no_way (sym i))
filled_refuted {A} (x ∷ xs) = (λ i. no_way i, λ i h. no_way (sym (ap (λ (ws : List A). is_empty ws) h)))

crowded_refuted : (p : SegmentPlan) (x : ℕ × ElementDef) → Refutes (crowded p.elements x) (StandsAlone p x)
unfolding crowded
crowded_refuted p x = refute_as _ _ _ (λ q. record { no_components = q.0; plain = q.1 }) (λ f. (f.no_components, f.plain))
    (refute_either _ _ _ _ (filled_refuted x.1.components) (refute_all (part_of x.0) (λ (e : ElementPlan). e.element ≡ x.0 → e.component ≡ None) (part_refuted x.0) p.elements))

-- ---- planned segments and loops
module _ (j : Job) (l : ℕ) (c : Control) where
  element_refuted : (p : SegmentPlan) (x : ℕ × ElementDef) → Refutes (wrong_element (trigger_of j l c.opener) p.elements x) (GivesSeparator j l c x → StandsAlone p x)
  unfolding wrong_element
  element_refuted p x = refute_implies _ _ _ _ (gives_decided j x l c) (crowded_refuted p x)

  abbrev TriggerFits : SegmentPlan → Type 0
  TriggerFits p = p.source ≡ from_envelope → All (λ x. GivesSeparator j l c x → StandsAlone p x) (on (segment_def j (loop_of j l).trigger) (λ d. d) [])

  trigger_refuted : (p : SegmentPlan) → Refutes (wrong_trigger (trigger_of j l c.opener) (defs_of j l) p) (TriggerFits p)
  unfolding wrong_trigger
  trigger_refuted p = refute_implies _ _ _ _ (envelope_decided p.source) (refute_all (wrong_element (trigger_of j l c.opener) p.elements) (λ x. GivesSeparator j l c x → StandsAlone p x) (element_refuted p) (defs_of j l))

  ruled_refuted : (p : LoopPlan) → Refutes (wrong_ruled j l c.opener p) (All TriggerFits p.segments)
  unfolding wrong_ruled
  ruled_refuted p = refute_all _ TriggerFits trigger_refuted p.segments

abbrev LoopFits : Job → ℕ → LoopPlan → Type 0
LoopFits j l p = (c : Control) → (loop_of j l).control ≡ Some c → All (TriggerFits j l c) p.segments

loop_refuted : (j : Job) (l : ℕ) (p : LoopPlan) → Refutes (wrong_loop_at j l p) (LoopFits j l p)
unfolding wrong_loop_at if_some
loop_refuted j l p = go (loop_of j l).control refl
  where
    go : (o : Option Control) → (loop_of j l).control ≡ o → Refutes (if_some (λ (c : Control). wrong_ruled j l c.opener p) o) (LoopFits j l p)
    go None h = (λ i c q. absurd (not_some c (sym h ∙ q)), λ i. no_way (sym i))
    go (Some c) h = (λ i d q. subst (λ (e : Control). All (TriggerFits j l e) p.segments) (same_some c d (sym h ∙ q)) ((ruled_refuted j l c p).0 i), λ i f. (ruled_refuted j l c p).1 i (f c h))

pub alone_refuted : (j : Job) → Refutes (any_from (wrong_loop_at j) 0 j.plan) (SeparatorsAlone j)
unfolding plan_of
alone_refuted j = refute_as _ _ _
    (λ f l q. subst (λ (n : ℕ). LoopFits j n (get_or j.plan l no_loop_plan)) (let e : 0 + l ≡ l = omega arith in e) (f l q))
    (λ f l q. subst (λ (n : ℕ). LoopFits j n (get_or j.plan l no_loop_plan)) (let e : l ≡ 0 + l = omega arith in e) (f l q))
    (refute_from (wrong_loop_at j) (LoopFits j) (loop_refuted j) no_loop_plan 0 j.plan)
