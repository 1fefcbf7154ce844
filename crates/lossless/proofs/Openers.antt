-- A due trigger of a complete plan is read in full, and so is a closer.
use Prim.Native.Nat.{ℕ, zero, suc, ◌+◌, ◌-◌, ◌≤◌, ◌<◌}
use mathlib.Core.Path.{◌≡◌, refl, sym}
use mathlib.Core.Logic.{◌≢◌, ◌⊎◌, inl, inr}
use mathlib.Core.Bool.{Bool, true, false, cond, false≢true}
use mathlib.Core.List.{List, [], ◌∷◌, ◌++◌}
use native.Mathlib.Omega.{arith}
use lib.ListN.{length, replicate}
use lib.Dec.{eqb, ltb, leb}
use borrow.Author.Tests.{le-ltb, ltb-false, leb-true, leb-false}
use Rattle.codec.specs.Codec.{pick as choose}
use Rattle.codec.specs.Maps.{rises_from}
use Rattle.format.specs.Envelope.{Envelope}
use Rattle.format.specs.Spec.{Control, ElementDef}
use Rattle.format.specs.Job.{Job}
use Rattle.format.specs.Ask.{loop_of, depth_of}
use Rattle.format.specs.Refusal.{unfit}
use Rattle.std.specs.Prelude.{Some, None, Option}
use Rattle.texts.specs.Reason.{Width}
use Rattle.texts.specs.Number.{count_text}
use Rattle.texts.specs.Floor.{signed32}
use Rattle.texts.specs.DateText.{envelope_date}
use Rattle.texts.specs.Clock.{envelope_time}
use Rattle.texts.specs.Pad.{is_at, zero_padded, space_padded, padded, control_text}
use Rattle.segment.specs.Grammar.{Plain}
use Rattle.segment.specs.Parts.{Part, pick}
use Rattle.segment.specs.ReadParts.{RisesFrom}
use Rattle.nest.specs.Lists.{All, some_of, on, first}
use Rattle.nest.proofs.Alls.{all_append, all_weaker}
use Rattle.emit.specs.Puts.{nothing, part_at, put_all}
use Rattle.emit.specs.Envelope.{version, trim_end, outcome, Given, plainly, separator, repetition_given, field_given, field_at, Sourced, version_at, versioned, unsourced, fielded, source_at, padded_to, put_sourced, put_element, control_in, closer_put, control_number}
use Rattle.emit.specs.Fold.{separators_of}
use Rattle.emit.proofs.Plain.{Textual, zeros_textual, spaces_textual, count_textual}
use Rattle.std.proofs.Math.Arith.{lt_of_le-ne}
use Rattle.emit.proofs.JoinLaws.{count_first, control_first}
use Rattle.complete.specs.Complete.{IfThere, Pairs, Clear, MapStarts, RuleFits}
use Rattle.lossless.specs.Due.{sourced_text, field_texts}
use Rattle.lossless.specs.Separators.{holds_separator}
use Rattle.lossless.proofs.Words.{none_all, none_append, all_get, all_zip}
use Rattle.lossless.proofs.Marks.{held_not, clear_plain, plain_append, apart, repetition_apart, textual_clear}
use Rattle.lossless.proofs.Fine.{NotAt, own_text, Fine}

-- ---- numbers are digits

zero_padded_lem : (min : Width) (text : List ℕ) → Textual text → Textual (zero_padded min text)
unfolding zero_padded
zero_padded_lem None text h = h
zero_padded_lem (Some least) text h = all_append _ (replicate (least - length text) 48) text (zeros_textual (least - length text)) h

pub control_textual : (j : Job) (l : ℕ) (c : Control) (number : ℕ) → Textual (control_in j l c number)
unfolding control_in control_text
control_textual j l c number = zero_padded_lem _ (count_text number) (count_textual number)

abbrev givens : Envelope → ElementDef → List (Option Given)
givens e d =
    Some (plainly e.sender_qualifier)
    ∷ Some (plainly e.sender_id)
    ∷ Some (plainly e.receiver_qualifier)
    ∷ Some (plainly e.receiver_id)
    ∷ Some (plainly (on e.application_sender (λ x. x) (trim_end e.sender_id)))
    ∷ Some (plainly (on e.application_receiver (λ x. x) (trim_end e.receiver_id)))
    ∷ Some (outcome (envelope_date (signed32 e.date) d.max))
    ∷ Some (outcome (envelope_time (signed32 e.time) d.max))
    ∷ Some (plainly e.usage_indicator)
    ∷ None
    ∷ repetition_given (first d.codes) e.repetition
    ∷ Some (separator e.component)
    ∷ []

-- what is so of all that the fields give, as they are listed, and of no text is so of what one field gives
pub given_all : (P : Option Given → Type 0) (e : Envelope) (d : ElementDef) (f : ℕ) → P None
    → P (Some (plainly e.sender_qualifier))
    → P (Some (plainly e.sender_id))
    → P (Some (plainly e.receiver_qualifier))
    → P (Some (plainly e.receiver_id))
    → P (Some (plainly (on e.application_sender (λ x. x) (trim_end e.sender_id))))
    → P (Some (plainly (on e.application_receiver (λ x. x) (trim_end e.receiver_id))))
    → P (Some (outcome (envelope_date (signed32 e.date) d.max)))
    → P (Some (outcome (envelope_time (signed32 e.time) d.max)))
    → P (Some (plainly e.usage_indicator))
    → P (repetition_given (first d.codes) e.repetition)
    → P (Some (separator e.component))
    → P (field_given e d f)
unfolding field_given
given_all P e d f z a b c g h i k l m n o = all_get P (givens e d) None (a, (b, (c, (g, (h, (i, (k, (l, (m, (z, (n, (o, tt)))))))))))) z f

module _ (j : Job) (fit : unfit j ≡ false) where
  abbrev Plainly : List ℕ → Type 0
  Plainly = Plain (separators_of j)

  textual_plain : (text : List ℕ) → Textual text → Plainly text
  textual_plain text h = clear_plain j text (textual_clear j fit text h)

  -- ---- padding

  pad_plain : (numeric : Bool) (min : Width) (max : Width) (text : List ℕ) → Plainly text → Plainly (padded numeric min max text)
  unfolding padded zero_padded space_padded
  pad_plain true None max text h = h
  pad_plain true (Some n) max text h = plain_append j (replicate (n - length text) 48) text (textual_plain _ (zeros_textual (n - length text))) h
  pad_plain false None max text h = h
  pad_plain false (Some n) max text h = go (is_at max n)
    where
      go : (b : Bool) → Plainly (cond b (text ++ replicate (n - length text) 32) text)
      go true = plain_append j text (replicate (n - length text) 32) h (textual_plain _ (spaces_textual (n - length text)))
      go false = h

  padded_plain : (d : ElementDef) (reason : ℕ) (text : List ℕ) → Plainly text → Plainly (padded_to d reason text)
  padded_plain d zero text h = pad_plain _ _ _ text h
  padded_plain d (suc n) text h = h

  -- ---- what fills an element of a trigger

  -- tried for separators, or without element separator and terminator
  abbrev Sure : Given → Type 0
  Sure g = (g.checked ≡ true) ⊎ Plainly g.text

  one_plain : (b : ℕ) → b ≢ j.envelope.element → b ≢ j.envelope.segment → Plainly (b ∷ [])
  one_plain b p q = record { no_element = (p, tt); no_segment = (q, tt) }

  repetition_sure : (o : Option (List ℕ)) (r : Option ℕ) → j.envelope.repetition ≡ r → IfThere Sure (repetition_given o r)
  repetition_sure (Some code) r e = inl refl
  repetition_sure None None e = tt
  repetition_sure None (Some b) e = let a = repetition_apart j fit b e in inr (one_plain b a.0 a.1)

  given_sure : (d : ElementDef) (f : ℕ) → IfThere Sure (field_given j.envelope d f)
  given_sure d f =
      let a = apart j fit in
      let r = repetition_sure (first d.codes) j.envelope.repetition refl in
      let c = one_plain j.envelope.component (λ q. a.element_component (sym q)) a.component_segment in
      given_all (IfThere Sure) j.envelope d f tt (inl refl) (inl refl) (inl refl) (inl refl) (inl refl) (inl refl) (inl refl) (inl refl) (inl refl) r (inr c)

  -- its text, padded
  abbrev Filled : ElementDef → Sourced → Type 0
  Filled d s = some_of (holds_separator j) (sourced_text d s) ≡ false → Plainly (padded_to d s.given.reason s.given.text)

  sure_filled : (d : ElementDef) (f : ℕ) (g : Given) → Sure g → Filled d (record { field = Some f; given = g })
  sure_filled d f g (inl e) h =
      let k : some_of (holds_separator j) (padded_to d g.reason g.text ∷ []) ≡ false = rw e at h in
      clear_plain j _ (held_not j _ (none_all (holds_separator j) (padded_to d g.reason g.text ∷ []) k).0)
  sure_filled d f g (inr p) h = padded_plain d g.reason g.text p

  field_filled : (d : ElementDef) (f : ℕ) (o : Option Given) → IfThere Sure o → IfThere (Filled d) (on o (λ g. Some (record { field = Some f; given = g })) None)
  field_filled d f None h = tt
  field_filled d f (Some g) h = sure_filled d f g h

  code_plain : (codes : List (List ℕ)) → All (Clear j) codes → Plainly (on (first codes) (λ c. c) [])
  code_plain [] h = record { no_element = tt; no_segment = tt }
  code_plain (c ∷ cs) h = clear_plain j c h.0

  source_filled : (trigger : List ℕ) (depth place : ℕ) (control : List ℕ) (position : ℕ) (d : ElementDef) → All (Clear j) d.codes → IfThere (Filled d) (source_at j trigger depth place control position d)
  unfolding source_at
  source_filled trigger depth place control position d codes = opened (eqb position place)
    where
      other : (v : Option (List ℕ)) → Filled d (on v versioned (unsourced d))
      other None h = padded_plain d 0 (on (first d.codes) (λ c. c) []) (code_plain d.codes codes)
      other (Some text) h = sure_filled d version (plainly text) (inl refl) h

      by_field : (o : Option ℕ) → IfThere (Filled d) (on o (fielded j.envelope d) (Some (on (version_at j trigger position) versioned (unsourced d))))
      by_field None = other (version_at j trigger position)
      by_field (Some f) = field_filled d f (field_given j.envelope d f) (given_sure d f)

      opened : (b : Bool) → IfThere (Filled d) (pick b (Some (record { field = Some control_number; given = plainly control })) (on (field_at depth position) (fielded j.envelope d) (Some (on (version_at j trigger position) versioned (unsourced d)))))
      opened true = sure_filled d control_number (plainly control) (inl refl)
      opened false = by_field (field_at depth position)

  -- a part at its element, or none
  element_so : (Q : List Part → Type 0) (trigger : List ℕ) (depth place : ℕ) (control : List ℕ) (x : ℕ × ElementDef) → All (Clear j) x.1.codes
      → some_of (holds_separator j) (on (source_at j trigger depth place control x.0 x.1) (sourced_text x.1) []) ≡ false
      → Q [] → ((text : List ℕ) → Plainly text → Q (part_at x.0 None text ∷ [])) → Q (put_element j trigger depth place control x).parts
  unfolding put_element
  element_so Q trigger depth place control x codes h nil one = go (source_at j trigger depth place control x.0 x.1) (source_filled trigger depth place control x.0 x.1 codes) h
    where
      part : (s : Sourced) (o : Option ℕ) → s.field ≡ o → Plainly (padded_to x.1 s.given.reason s.given.text) → Q (put_sourced j trigger x.0 x.1 s).parts
      part s None e p = rw e (one _ p)
      part s (Some f) e p = rw e (one _ p)

      go : (o : Option Sourced) → IfThere (Filled x.1) o → some_of (holds_separator j) (on o (sourced_text x.1) []) ≡ false → Q (on o (put_sourced j trigger x.0 x.1) nothing).parts
      go None f h = nil
      go (Some s) f h = part s s.field refl (f h)

  -- ---- the parts of a trigger, whose keys are at least low

  record Opened (low : ℕ) (ps : List Part) : Type 0 where
    rises : (p : ℕ) → p ≤ low → RisesFrom p ps
    places : Pairs NotAt ps
    from_low : All (λ (y : Part). low ≤ y.element) ps
    plain : All (λ (y : Part). y.component ≡ None) ps
    clear : All (λ (y : Part). Plainly y.text) ps

  opened_lower : (low high : ℕ) (ps : List Part) → low ≤ high → Opened high ps → Opened low ps
  opened_lower low high ps h o = record {
    rises = λ p q. o.rises p (omega arith);
    places = o.places;
    from_low = all_weaker _ _ ps (λ y q. omega arith) o.from_low;
    plain = o.plain;
    clear = o.clear;
  }

  opened_next : (low at : ℕ) (text : List ℕ) (ps : List Part) → low ≤ at → Plainly text → Opened (at + 1) ps → Opened low (part_at at None text ∷ ps)
  opened_next low at text ps h t o = record {
    rises = λ p q. (omega arith, o.rises at (omega arith));
    places = (all_weaker _ _ ps (λ y q e. absurd (omega (arith, q, e))) o.from_low, o.places);
    from_low = (h, all_weaker _ _ ps (λ y q. omega arith) o.from_low);
    plain = (refl, o.plain);
    clear = (t, o.clear);
  }

  first_key : (low : ℕ) (x : ℕ × ElementDef) (xs : List (ℕ × ElementDef)) → rises_from low (x ∷ xs) ≡ true → (low ≤ x.0) × (rises_from (x.0 + 1) xs ≡ true)
  first_key low x xs h = go (ltb x.0 low) refl h
    where
      go : (b : Bool) → ltb x.0 low ≡ b → choose b false (rises_from (x.0 + 1) xs) ≡ true → (low ≤ x.0) × (rises_from (x.0 + 1) xs ≡ true)
      go true e k = absurd (false≢true k)
      go false e k = (ltb-false _ _ e, k)

  opened_all : (trigger : List ℕ) (depth place : ℕ) (control : List ℕ) (low : ℕ) (xs : List (ℕ × ElementDef)) → rises_from low xs ≡ true → All (λ (x : ℕ × ElementDef). All (Clear j) x.1.codes) xs
      → some_of (holds_separator j) (field_texts j trigger depth place control xs) ≡ false → Opened low (put_all (put_element j trigger depth place control) xs).parts
  opened_all trigger depth place control low [] r c h = record { rises = λ p q. tt; places = tt; from_low = tt; plain = tt; clear = tt }
  opened_all trigger depth place control low (x ∷ xs) r c h =
      let k = none_append (holds_separator j) (on (source_at j trigger depth place control x.0 x.1) (sourced_text x.1) []) (field_texts j trigger depth place control xs) h in
      let q = first_key low x xs r in
      let rest = (put_all (put_element j trigger depth place control) xs).parts in
      let o = opened_all trigger depth place control (x.0 + 1) xs q.1 c.1 k.1 in
      element_so (λ (vs : List Part). Opened low (vs ++ rest)) trigger depth place control x c.0 k.0
      (opened_lower low (x.0 + 1) rest (omega (arith, q.0)) o) (λ text p. opened_next low x.0 text rest q.0 p o)

  starts_all : (xs : List (ℕ × ElementDef)) → All MapStarts xs → rises_from 0 xs ≡ true → rises_from 1 xs ≡ true
  starts_all [] m h = refl
  starts_all (x ∷ xs) m h = rw (le-ltb x.0 1 m.0.element) (first_key 0 x xs h).1

  opened_fine : (id : List ℕ) (ps : List Part) → (id ≢ []) × Clear j id → Opened 1 ps → Fine (separators_of j) (record { id = id; parts = ps })
  opened_fine id ps n o = record {
    free = record { named = n.0; id_plain = clear_plain j id n.1; rises = o.rises 1 (omega arith); plain = o.clear; whole = all_weaker _ _ ps (λ y e d. absurd (d e)) o.plain };
    one_kind = λ p. inl (all_weaker _ _ ps (λ y e z. e) o.plain);
    own = own_text ps o.places;
    starts = all_zip _ _ _ ps (λ y a e. (a, rw e tt)) o.from_low o.plain;
  }

  pub opener_fine : (l : ℕ) (c : Control) (number : ℕ) (xs : List (ℕ × ElementDef)) → ((loop_of j l).trigger ≢ []) × Clear j (loop_of j l).trigger
      → rises_from 0 xs ≡ true → All MapStarts xs → All (λ (x : ℕ × ElementDef). All (Clear j) x.1.codes) xs
      → some_of (holds_separator j) (field_texts j (loop_of j l).trigger (depth_of j l) c.opener (control_in j l c number) xs) ≡ false
      → Fine (separators_of j) (record { id = (loop_of j l).trigger; parts = (put_all (put_element j (loop_of j l).trigger (depth_of j l) c.opener (control_in j l c number)) xs).parts })
  opener_fine l c number xs n r m codes h =
      opened_fine (loop_of j l).trigger _ n (opened_all (loop_of j l).trigger (depth_of j l) c.opener (control_in j l c number) 1 xs (starts_all xs m r) codes h)

  -- ---- a closer: two numbers at different elements

  two_opened : (p q : ℕ) (a b : List ℕ) → 1 ≤ p → p < q → Textual a → Textual b → Opened 1 (part_at p None a ∷ part_at q None b ∷ [])
  two_opened p q a b h k s t = opened_next 1 p a _ h (textual_plain a s) (opened_next (p + 1) q b [] (omega arith) (textual_plain b t) (record { rises = λ p q. tt; places = tt; from_low = tt; plain = tt; clear = tt }))

  pub closer_fine : (id : List ℕ) (c : Control) (control : List ℕ) (count : ℕ) → (id ≢ []) × Clear j id → RuleFits c → Textual control
      → Fine (separators_of j) (record { id = id; parts = (closer_put c control count).parts })
  closer_fine id c control count n f t = go (leb c.count c.closer) refl
    where
      go : (b : Bool) → leb c.count c.closer ≡ b → Fine (separators_of j) (record { id = id; parts = (closer_put c control count).parts })
      go true e =
          let k = leb-true _ _ e in
          rw (count_first c control count k)
          (opened_fine id _ n (two_opened c.count c.closer (count_text count) control f.count (lt_of_le-ne k (λ q. f.differ (sym q))) (count_textual count) t))
      go false e =
          let k = leb-false _ _ e in
          rw (control_first c control count k) (opened_fine id _ n (two_opened c.closer c.count control (count_text count) f.closer k t (count_textual count)))
