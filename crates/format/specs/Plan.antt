-- The plan of a job: for each loop where its instances come from and which segments it writes, and the codec of each (docs/RULES.md, "Structures").
use Rattle.std.specs.Prelude.{ℕ, ◌≡◌, refl, List, [], ◌⊎◌, Option}
use Rattle.std.proofs.Common.{inl, inr}
use Rattle.codec.specs.Codec.{Codec, unit_c, ◌⊗◌, map_c, enum_c, ◌⊕◌, end_c, list_c}
use Rattle.codec.specs.Forms.{num_c, bytes_c, opt_c}

-- where the instances of a loop come from: Absent, Envelope, Rows, Inside, Groups of a table, Implied
pub data Instances : Type 0 where
  absent enveloped : Instances
  rows_of inside groups_of : ℕ → Instances
  implied : Instances

abbrev pub RawInstances : Type 0
RawInstances = Unit {0} ⊎ (Unit {0} ⊎ (ℕ ⊎ (ℕ ⊎ (ℕ ⊎ (Unit {0} ⊎ ⊥)))))

abbrev pub to_instances : RawInstances → Instances
to_instances (inl x) = absent
to_instances (inr (inl x)) = enveloped
to_instances (inr (inr (inl x))) = rows_of x
to_instances (inr (inr (inr (inl x)))) = inside x
to_instances (inr (inr (inr (inr (inl x))))) = groups_of x
to_instances (inr (inr (inr (inr (inr (inl x)))))) = implied
to_instances (inr (inr (inr (inr (inr (inr z)))))) = absurd z

abbrev pub of_instances : Instances → RawInstances
of_instances absent = inl tt
of_instances enveloped = inr (inl tt)
of_instances (rows_of x) = inr (inr (inl x))
of_instances (inside x) = inr (inr (inr (inl x)))
of_instances (groups_of x) = inr (inr (inr (inr (inl x))))
of_instances implied = inr (inr (inr (inr (inr (inl tt)))))

pub instances_to_of : (v : Instances) → to_instances (of_instances v) ≡ v
instances_to_of absent = refl
instances_to_of enveloped = refl
instances_to_of (rows_of x) = refl
instances_to_of (inside x) = refl
instances_to_of (groups_of x) = refl
instances_to_of implied = refl

pub instances_of_to : (v : RawInstances) → of_instances (to_instances v) ≡ v
instances_of_to (inl x) = refl
instances_of_to (inr (inl x)) = refl
instances_of_to (inr (inr (inl x))) = refl
instances_of_to (inr (inr (inr (inl x)))) = refl
instances_of_to (inr (inr (inr (inr (inl x))))) = refl
instances_of_to (inr (inr (inr (inr (inr (inl x)))))) = refl
instances_of_to (inr (inr (inr (inr (inr (inr z)))))) = absurd z

unfoldable pub instances_c : Codec Instances
instances_c = map_c to_instances of_instances instances_to_of instances_of_to (enum_c (unit_c ⊕ unit_c ⊕ num_c ⊕ num_c ⊕ num_c ⊕ unit_c ⊕ end_c))

-- what fills a segment: Envelope, a Row or Repeat rows of a table
pub data Source : Type 0 where
  from_envelope : Source
  from_row from_repeat : ℕ → Source

abbrev pub RawSource : Type 0
RawSource = Unit {0} ⊎ (ℕ ⊎ (ℕ ⊎ ⊥))

abbrev pub to_source : RawSource → Source
to_source (inl x) = from_envelope
to_source (inr (inl x)) = from_row x
to_source (inr (inr (inl x))) = from_repeat x
to_source (inr (inr (inr z))) = absurd z

abbrev pub of_source : Source → RawSource
of_source from_envelope = inl tt
of_source (from_row x) = inr (inl x)
of_source (from_repeat x) = inr (inr (inl x))

pub source_to_of : (v : Source) → to_source (of_source v) ≡ v
source_to_of from_envelope = refl
source_to_of (from_row x) = refl
source_to_of (from_repeat x) = refl

pub source_of_to : (v : RawSource) → of_source (to_source v) ≡ v
source_of_to (inl x) = refl
source_of_to (inr (inl x)) = refl
source_of_to (inr (inr (inl x))) = refl
source_of_to (inr (inr (inr z))) = absurd z

unfoldable pub source_c : Codec Source
source_c = map_c to_source of_source source_to_of source_of_to (enum_c (unit_c ⊕ num_c ⊕ num_c ⊕ end_c))

-- what gives the text of a place: a Column, a Group column, a Code
pub data Value : Type 0 where
  from_column from_group : ℕ → Value
  from_code : List ℕ → Value

abbrev pub RawValue : Type 0
RawValue = ℕ ⊎ (ℕ ⊎ (List ℕ ⊎ ⊥))

abbrev pub to_value : RawValue → Value
to_value (inl x) = from_column x
to_value (inr (inl x)) = from_group x
to_value (inr (inr (inl x))) = from_code x
to_value (inr (inr (inr z))) = absurd z

abbrev pub of_value : Value → RawValue
of_value (from_column x) = inl x
of_value (from_group x) = inr (inl x)
of_value (from_code x) = inr (inr (inl x))

pub value_to_of : (v : Value) → to_value (of_value v) ≡ v
value_to_of (from_column x) = refl
value_to_of (from_group x) = refl
value_to_of (from_code x) = refl

pub value_of_to : (v : RawValue) → of_value (to_value v) ≡ v
value_of_to (inl x) = refl
value_of_to (inr (inl x)) = refl
value_of_to (inr (inr (inl x))) = refl
value_of_to (inr (inr (inr z))) = absurd z

unfoldable pub value_c : Codec Value
value_c = map_c to_value of_value value_to_of value_of_to (enum_c (num_c ⊕ num_c ⊕ bytes_c ⊕ end_c))

pub record ElementPlan : Type 0 where
  pub element : ℕ
  pub component : Option ℕ
  pub value : Value

unfoldable pub element_plan_c : Codec ElementPlan
element_plan_c = map_c
    (λ t. record { element = t.0; component = t.1.0; value = t.1.1 })
    (λ v. (v.element, (v.component, v.value))) (λ y. refl) (λ x. refl)
    (num_c ⊗ opt_c num_c ⊗ value_c)

pub record SegmentPlan : Type 0 where
  pub occurrence : ℕ
  pub source : Source
  pub elements : List ElementPlan

unfoldable pub segment_plan_c : Codec SegmentPlan
segment_plan_c = map_c
    (λ t. record { occurrence = t.0; source = t.1.0; elements = t.1.1 })
    (λ v. (v.occurrence, (v.source, v.elements))) (λ y. refl) (λ x. refl)
    (num_c ⊗ source_c ⊗ list_c element_plan_c)

pub record LoopPlan : Type 0 where
  pub instances : Instances
  pub segments : List SegmentPlan

unfoldable pub loop_plan_c : Codec LoopPlan
loop_plan_c = map_c
    (λ t. record { instances = t.0; segments = t.1 })
    (λ v. (v.instances, v.segments)) (λ y. refl) (λ x. refl)
    (instances_c ⊗ list_c segment_plan_c)

abbrev pub Plan : Type 0
Plan = List LoopPlan

abbrev pub plan_c : Codec Plan
plan_c = list_c loop_plan_c

-- ---- what stands for one that is not there

abbrev pub no_segment_plan : SegmentPlan
no_segment_plan = record { occurrence = 0; source = from_envelope; elements = [] }

abbrev pub no_loop_plan : LoopPlan
no_loop_plan = record { instances = absent; segments = [] }
