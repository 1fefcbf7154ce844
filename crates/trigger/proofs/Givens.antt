-- What an element of a trigger takes, one law for each way.
use Prim.Native.Nat.{ℕ, zero, suc, ◌+◌, ◌-◌, ◌≤◌, ◌<◌}
use mathlib.Core.Path.{◌≡◌, refl, sym, ap, ◌∙◌}
use mathlib.Core.Bool.{Bool, true, false}
use mathlib.Core.List.{List, [], ◌∷◌, ◌++◌}
use native.Mathlib.Omega.{arith}
use native.Mathlib.Decide.{dec_lt}
use lib.ListN.{length, get_or, take, drop, length-drop}
use lib.Seq.{get_or-drop}
use borrow.Author.Tests.{eq-eqb, ne_eqb, le-leb, lt-leb}
use Rattle.format.specs.Spec.{ElementDef}
use Rattle.format.specs.Envelope as E
use Rattle.format.specs.Job.{Job}
use Rattle.column.specs.Cell.{same_bytes as by_cell, both}
use Rattle.format.specs.Ask.{same_bytes}
use Rattle.lent.specs.Window.{stretch}
use Rattle.spec.specs.declared.ids.Stretch.{Stretch}
use Rattle.spec.specs.declared.ids.Element.{Element}
use Rattle.spec.specs.declared.ids.VersionRule.{VersionRule}
use Rattle.spec.specs.Answers.{stretch_of, Holds, HoldsText}
use Rattle.spec.specs.Cursor.{ElementSays, first_of}
use Rattle.spec.specs.VersionIs.{HoldsVersion, version_rule}
use Rattle.std.specs.Prelude as Rust
use Rattle.std.specs.Prelude.{Some, None, Option, cond, eqb}
use Rattle.std.specs.Option.{unwrap_or}
use Rattle.segment.specs.Values.{Plain}
use Rattle.texts.specs.Reason.{Outcome}
use Rattle.texts.specs.DateText.{envelope_date}
use Rattle.texts.specs.Clock.{envelope_time}
use Rattle.texts.specs.Floor.{signed32}
use Rattle.nest.specs.Lists.{on, first}
use Rattle.emit.specs.Envelope.{Sourced, plainly, outcome, separator, is_white, unless_last, trim_end, field_given, field_at, fielded, version_at, versioned, unsourced}
use Rattle.emit.specs.declared.cells.Written.{Written}
use Rattle.emit.specs.Written.{Writes}
use Rattle.trigger.specs.declared.given.Source.{Source}
use Rattle.trigger.specs.Source.{Tells, otherwise}

-- ---- the forms of a text

pub told : (job : List ℕ) (o : Outcome) (f : Rust.Option ℕ) (w : Written) → Writes job w o → Plain w.value → Tells job (Some (record { field = f; given = w; checked = true })) (Some (record { field = f; given = outcome o }))
told job o f w h p = record { says = rw (h.text, h.reason); short = p }

-- ---- white space

module _ (b : ℕ) where
  pub white_space : b ≡ 32 → true ≡ is_white b
  white_space e = rw (eq-eqb b 32 e)

  pub white_low : (b ≡ 32 → ⊥) → b < 9 → false ≡ is_white b
  white_low n h = rw (ne_eqb b 32 n, lt-leb 9 b h)

  pub white_high : (b ≡ 32 → ⊥) → 9 ≤ b → 13 < b → false ≡ is_white b
  white_high n h k = rw (ne_eqb b 32 n, le-leb 9 b h, lt-leb b 13 k)

  pub white_between : (b ≡ 32 → ⊥) → 9 ≤ b → b ≤ 13 → true ≡ is_white b
  white_between n h k = rw (ne_eqb b 32 n, le-leb 9 b h, le-leb b 13 k)

module _ (w : ℕ) where
  snoc_white : (xs : List ℕ) → is_white w ≡ true → trim_end (xs ++ (w ∷ [])) ≡ trim_end xs
  unfolding trim_end
  snoc_white [] e = rw e
  snoc_white (x ∷ xs) e = ap (unless_last x) (snoc_white xs e)

  snoc_kept : (xs : List ℕ) → is_white w ≡ false → trim_end (xs ++ (w ∷ [])) ≡ xs ++ (w ∷ [])
  unfolding trim_end
  snoc_kept [] e = rw e
  snoc_kept (x ∷ xs) e = ap (unless_last x) (snoc_kept xs e) ∙ go xs
    where
      go : (ys : List ℕ) → unless_last x (ys ++ (w ∷ [])) ≡ x ∷ (ys ++ (w ∷ []))
      go [] = refl
      go (y ∷ ys) = refl

take_last : (l : List ℕ) (m : ℕ) → m < length l → take (suc m) l ≡ take m l ++ (get_or l m 0 ∷ [])
take_last [] m h = absurd (omega arith)
take_last (x ∷ l) zero h = refl
take_last (x ∷ l) (suc m) h = ap (λ (r : List ℕ). x ∷ r) (take_last l m (omega arith))

module _ (job : List ℕ) (start n x : ℕ) (h : 0 < n) (k : start + n ≤ length job) (e : x ≡ get_or job (start + n - 1) 0) where
  last_of : stretch job start n ≡ stretch job start (n - 1) ++ (x ∷ [])
  last_of =
      let s : n ≡ suc (n - 1) = omega arith in
      let z : start + (n - 1) ≡ start + n - 1 = omega arith in
      let y : get_or (drop start job) (n - 1) 0 ≡ x = get_or-drop start job (n - 1) 0 ∙ rw z (sym e) in
      ap (λ (m : ℕ). take m (drop start job)) s ∙ take_last (drop start job) (n - 1) (rw length-drop (omega arith)) ∙ rw y

  pub trim_white : (w : Bool) → w ≡ is_white x → w ≡ true → trim_end (stretch job start n) ≡ trim_end (stretch job start (n - 1))
  trim_white w f g = ap trim_end last_of ∙ snoc_white x (stretch job start (n - 1)) (sym f ∙ g)

  pub trim_kept : (w : Bool) (v : List ℕ) → w ≡ is_white x → w ≡ false → trim_end v ≡ trim_end (stretch job start n) → Holds job (record { start = start; len = n }) (trim_end v)
  unfolding stretch_of
  trim_kept w v f g q = record { bytes = sym (q ∙ ap trim_end last_of ∙ snoc_kept x (stretch job start (n - 1)) (sym f ∙ g) ∙ sym last_of); within = k }

pub trim_none : (job v : List ℕ) (start n : ℕ) → n ≤ 0 → trim_end v ≡ trim_end (stretch job start n) → Holds job (record { start = 0; len = 0 }) (trim_end v)
unfolding stretch_of trim_end
trim_none job v start n h q = let z : n ≡ 0 = omega arith in record { bytes = sym (q ∙ rw z); within = omega arith }

module _ (b : List ℕ) (x : Option Stretch) (v : Option (List ℕ)) (d : List ℕ) (h : HoldsText b x v) where
  pub held_is : (s : Stretch) → x ≡ Some s → Holds b s (on v (λ w. w) d)
  held_is s q = record { bytes = rw (← h.bytes, q); within = let w = h.within in rw q at w }

  pub held_none : x ≡ None → d ≡ on v (λ w. w) d
  held_none q = rw (← h.bytes, q)

pub holds_as : {b v w : List ℕ} {s : Stretch} → v ≡ w → Holds b s v → Holds b s w
holds_as e h = rw (← e) h

-- ---- the fields

module _ (e : E.Envelope) (d : ElementDef) (f : ℕ) where
  pub field_0 : f ≡ 0 → fielded e d f ≡ Some (record { field = Some f; given = plainly e.sender_qualifier })
  unfolding field_given
  field_0 q = rw q

  pub field_1 : f ≡ 1 → fielded e d f ≡ Some (record { field = Some f; given = plainly e.sender_id })
  unfolding field_given
  field_1 q = rw q

  pub field_2 : f ≡ 2 → fielded e d f ≡ Some (record { field = Some f; given = plainly e.receiver_qualifier })
  unfolding field_given
  field_2 q = rw q

  pub field_3 : f ≡ 3 → fielded e d f ≡ Some (record { field = Some f; given = plainly e.receiver_id })
  unfolding field_given
  field_3 q = rw q

  pub field_4 : f ≡ 4 → fielded e d f ≡ Some (record { field = Some f; given = plainly (on e.application_sender (λ x. x) (trim_end e.sender_id)) })
  unfolding field_given
  field_4 q = rw q

  pub field_5 : f ≡ 5 → fielded e d f ≡ Some (record { field = Some f; given = plainly (on e.application_receiver (λ x. x) (trim_end e.receiver_id)) })
  unfolding field_given
  field_5 q = rw q

  pub field_6 : f ≡ 6 → fielded e d f ≡ Some (record { field = Some f; given = outcome (envelope_date (signed32 e.date) d.max) })
  unfolding field_given
  field_6 q = rw q

  pub field_7 : f ≡ 7 → fielded e d f ≡ Some (record { field = Some f; given = outcome (envelope_time (signed32 e.time) d.max) })
  unfolding field_given
  field_7 q = rw q

  pub field_8 : f ≡ 8 → fielded e d f ≡ Some (record { field = Some f; given = plainly e.usage_indicator })
  unfolding field_given
  field_8 q = rw q

  pub field_9 : f ≡ 9 → fielded e d f ≡ None
  unfolding field_given
  field_9 q = rw q

  -- the code of the repetition element, its separator, neither
  pub field_code : f ≡ 10 → (code : List ℕ) → first d.codes ≡ Some code → fielded e d f ≡ Some (record { field = Some f; given = plainly code })
  unfolding field_given
  field_code q code h = rw (q, h)

  pub field_again : f ≡ 10 → (b : ℕ) → first d.codes ≡ None → e.repetition ≡ Some b → fielded e d f ≡ Some (record { field = Some f; given = separator b })
  unfolding field_given
  field_again q b h k = rw (q, h, k)

  pub field_neither : f ≡ 10 → first d.codes ≡ None → e.repetition ≡ None → fielded e d f ≡ None
  unfolding field_given
  field_neither q h k = rw (q, h, k)

  pub field_11 : f ≡ 11 → fielded e d f ≡ Some (record { field = Some f; given = separator e.component })
  unfolding field_given
  field_11 q = rw q

  pub field_more : 12 ≤ f → fielded e d f ≡ None
  unfolding field_given
  field_more h = let q : f ≡ suc (suc (suc (suc (suc (suc (suc (suc (suc (suc (suc (suc (f - 12)))))))))))) = omega arith in rw q

first_is : (xs : List (List ℕ)) → first_of xs ≡ first xs
first_is [] = refl
first_is (x ∷ xs) = refl

module _ {b : List ℕ} {x : Element} {y : ℕ × ElementDef} (h : ElementSays b x y) where
  pub code_there : (s : Stretch) → x.code ≡ Some s → first y.1.codes ≡ Some (stretch_of b s)
  code_there s q = sym (first_is y.1.codes) ∙ sym h.code.bytes ∙ rw q

  pub code_gone : x.code ≡ None → first y.1.codes ≡ None
  code_gone q = sym (first_is y.1.codes) ∙ sym h.code.bytes ∙ rw q

  pub code_holds : (s : Stretch) → x.code ≡ Some s → Holds b s (stretch_of b s)
  code_holds s q = record { bytes = refl; within = let w = h.code.within in rw q at w }

module _ (r : Rust.Option ℕ) (v : Option ℕ) (e : r ≡ v) where
  pub again_there : (b : ℕ) → r ≡ Some b → v ≡ Some b
  again_there b q = sym e ∙ rw q

  pub again_gone : r ≡ None → v ≡ None
  again_gone q = sym e ∙ rw q

-- ---- the spec

pub nothing_holds : (b : List ℕ) → Holds b (record { start = 0; len = 0 }) []
unfolding stretch_of
nothing_holds b = record { bytes = refl; within = omega arith }

-- the first code, empty where there is none
pub code_or : {b : List ℕ} {x : Element} {y : ℕ × ElementDef} → ElementSays b x y → (s : Stretch) → s ≡ unwrap_or x.code (record { start = 0; len = 0 }) → Holds b s (on (first y.1.codes) (λ v. v) [])
code_or {b} {x} {y} h s e = rw e (go x.code refl)
  where
    go : (k : Option Stretch) → x.code ≡ k → Holds b (unwrap_or k (record { start = 0; len = 0 })) (on (first y.1.codes) (λ v. v) [])
    go None q = rw (code_gone h q) (nothing_holds b)
    go (Some c) q = rw (code_there h c q) (code_holds h c q)

module _ (b : List ℕ) (r : Option VersionRule) (j : Job) (h : HoldsVersion b r j.spec.version) (trigger : List ℕ) (position : ℕ) where
  pub unversioned : r ≡ None → version_at j trigger position ≡ None
  unversioned q = let e : None ≡ j.spec.version = rw q at h.says in rw (← e)

  module _ (v : VersionRule) (q : r ≡ Some v) where
    rule : Some (version_rule b v) ≡ j.spec.version
    rule = rw q at h.says

    pub rule_within : (v.segment.start + v.segment.len ≤ length b) × (v.first.start + v.first.len ≤ length b)
    rule_within = let w = h.within in rw q at w

    pub version_here : (t : Bool) → t ≡ same_bytes (stretch_of b v.segment) trigger → t ≡ true → v.element ≡ position → version_at j trigger position ≡ Some (stretch_of b v.first)
    version_here t f g k = rw (← rule, ← f, g, eq-eqb v.element position k)

    pub version_other : (t : Bool) → t ≡ same_bytes (stretch_of b v.segment) trigger → t ≡ true → (v.element ≡ position → ⊥) → version_at j trigger position ≡ None
    version_other t f g k = rw (← rule, ← f, g, ne_eqb v.element position k)

    pub version_elsewhere : (t : Bool) → t ≡ same_bytes (stretch_of b v.segment) trigger → t ≡ false → version_at j trigger position ≡ None
    version_elsewhere t f g = rw (← rule, ← f, g)

module _ (j : Job) (trigger : List ℕ) (depth position : ℕ) (d : ElementDef) where
  pub by_field : (f : ℕ) → field_at depth position ≡ Some f → otherwise j trigger depth position d ≡ fielded j.envelope d f
  unfolding otherwise
  by_field f h = rw h

  pub by_spec : field_at depth position ≡ None → otherwise j trigger depth position d ≡ Some (on (version_at j trigger position) versioned (unsourced d))
  unfolding otherwise
  by_spec h = rw h

pub tells_as : {job : List ℕ} {s : Rust.Option Source} {o p : Option Sourced} → o ≡ p → Tells job s o → Tells job s p
tells_as e h = rw (← e) h

-- ---- the same bytes

-- the equality of bytes of a table's cells is that of the spec's names
pub bytes_same : (v w : List ℕ) → by_cell v w ≡ same_bytes v w
unfolding by_cell
bytes_same [] [] = refl
bytes_same [] (y ∷ w) = refl
bytes_same (x ∷ v) [] = refl
bytes_same (x ∷ v) (y ∷ w) = go (eqb x y) (bytes_same v w)
  where
    go : (t : Bool) → by_cell v w ≡ same_bytes v w → both t (by_cell v w) ≡ cond t (same_bytes v w) false
    go true h = h
    go false h = refl

pub field_none : (e : E.Envelope) (d : ElementDef) (f : ℕ) → 9 ≤ f → (f ≡ 10 → ⊥) → (f ≡ 11 → ⊥) → fielded e d f ≡ None
field_none e d f h k l = go (dec_lt 9 f)
  where
    go : Dec (9 < f) → fielded e d f ≡ None
    go (yes q) = field_more e d f (omega arith)
    go (no q) = field_9 e d f (omega arith)

module _ (depth n m : ℕ) (r : Rust.Option ℕ) (e : r ≡ field_at depth n) (k : n ≡ m) where
  pub field_there : (f : ℕ) → r ≡ Some f → field_at depth m ≡ Some f
  field_there f q = rw (← k, ← e, q)

  pub field_gone : r ≡ None → field_at depth m ≡ None
  field_gone q = rw (← k, ← e, q)
