-- The spec of a job (docs/RULES.md, "Structures"): loops, roots, segments, tables, version, and the codec of each.
use Rattle.std.specs.Prelude.{ℕ, ◌≡◌, refl, List, [], ◌⊎◌, Bool, false, Option, None}
use Rattle.std.proofs.Common.{inl, inr}
use Rattle.codec.specs.Codec.{Codec, unit_c, ◌⊗◌, map_c, enum_c, ◌⊕◌, end_c, units_c, list_c}
use Rattle.codec.specs.Forms.{num_c, byte_c, bytes_c, opt_c, flag_c}
use Rattle.codec.specs.Maps.{num_map_c, bytes_map_c}

-- whether every instance of the parent holds an instance of the loop
pub data Usage : Type 0 where
  required situational : Usage

abbrev pub RawUsage : Type 0
RawUsage = Unit {0} ⊎ (Unit {0} ⊎ ⊥)

abbrev pub to_usage : RawUsage → Usage
to_usage (inl x) = required
to_usage (inr (inl x)) = situational
to_usage (inr (inr z)) = absurd z

abbrev pub of_usage : Usage → RawUsage
of_usage required = inl tt
of_usage situational = inr (inl tt)

pub usage_to_of : (v : Usage) → to_usage (of_usage v) ≡ v
usage_to_of required = refl
usage_to_of situational = refl

pub usage_of_to : (v : RawUsage) → of_usage (to_usage v) ≡ v
usage_of_to (inl x) = refl
usage_of_to (inr (inl x)) = refl
usage_of_to (inr (inr z)) = absurd z

unfoldable pub usage_c : Codec Usage
usage_c = map_c to_usage of_usage usage_to_of usage_of_to (enum_c (units_c 2))

-- what a closer's count counts: segments, or child loops
pub data Counted : Type 0 where
  count_segments count_children : Counted

abbrev pub RawCounted : Type 0
RawCounted = Unit {0} ⊎ (Unit {0} ⊎ ⊥)

abbrev pub to_counted : RawCounted → Counted
to_counted (inl x) = count_segments
to_counted (inr (inl x)) = count_children
to_counted (inr (inr z)) = absurd z

abbrev pub of_counted : Counted → RawCounted
of_counted count_segments = inl tt
of_counted count_children = inr (inl tt)

pub counted_to_of : (v : Counted) → to_counted (of_counted v) ≡ v
counted_to_of count_segments = refl
counted_to_of count_children = refl

pub counted_of_to : (v : RawCounted) → of_counted (to_counted v) ≡ v
counted_of_to (inl x) = refl
counted_of_to (inr (inl x)) = refl
counted_of_to (inr (inr z)) = absurd z

unfoldable pub counted_c : Codec Counted
counted_c = map_c to_counted of_counted counted_to_of counted_of_to (enum_c (units_c 2))

-- the elements that hold the control number in opener and closer, and the count in the closer
pub record Control : Type 0 where
  pub opener : ℕ
  pub closer : ℕ
  pub count : ℕ
  pub counted : Counted

unfoldable pub control_c : Codec Control
control_c = map_c
    (λ t. record { opener = t.0; closer = t.1.0; count = t.1.1.0; counted = t.1.1.1 })
    (λ v. (v.opener, (v.closer, (v.count, v.counted)))) (λ y. refl) (λ x. refl)
    (num_c ⊗ num_c ⊗ num_c ⊗ counted_c)

pub record Loop : Type 0 where
  pub parent : Option ℕ
  pub trigger : List ℕ
  pub occurrences : List (List ℕ)
  pub usage : Usage
  pub end : Option (List ℕ)
  pub control : Option Control
  pub children : List ℕ

unfoldable pub loop_c : Codec Loop
loop_c = map_c
    (λ t. record { parent = t.0; trigger = t.1.0; occurrences = t.1.1.0; usage = t.1.1.1.0; end = t.1.1.1.1.0; control = t.1.1.1.1.1.0; children = t.1.1.1.1.1.1 })
    (λ v. (v.parent, (v.trigger, (v.occurrences, (v.usage, (v.end, (v.control, v.children))))))) (λ y. refl) (λ x. refl)
    (opt_c num_c ⊗ bytes_c ⊗ list_c bytes_c ⊗ usage_c ⊗ opt_c bytes_c ⊗ opt_c control_c ⊗ list_c num_c)

-- a data type of X12: AN, ID, N and R with their decimals, DT, TM
pub data Kind : Type 0 where
  kind_an kind_id : Kind
  kind_n kind_r : ℕ → Kind
  kind_dt kind_tm : Kind

abbrev pub RawKind : Type 0
RawKind = Unit {0} ⊎ (Unit {0} ⊎ (ℕ ⊎ (ℕ ⊎ (Unit {0} ⊎ (Unit {0} ⊎ ⊥)))))

abbrev pub to_kind : RawKind → Kind
to_kind (inl x) = kind_an
to_kind (inr (inl x)) = kind_id
to_kind (inr (inr (inl x))) = kind_n x
to_kind (inr (inr (inr (inl x)))) = kind_r x
to_kind (inr (inr (inr (inr (inl x))))) = kind_dt
to_kind (inr (inr (inr (inr (inr (inl x)))))) = kind_tm
to_kind (inr (inr (inr (inr (inr (inr z)))))) = absurd z

abbrev pub of_kind : Kind → RawKind
of_kind kind_an = inl tt
of_kind kind_id = inr (inl tt)
of_kind (kind_n x) = inr (inr (inl x))
of_kind (kind_r x) = inr (inr (inr (inl x)))
of_kind kind_dt = inr (inr (inr (inr (inl tt))))
of_kind kind_tm = inr (inr (inr (inr (inr (inl tt)))))

pub kind_to_of : (v : Kind) → to_kind (of_kind v) ≡ v
kind_to_of kind_an = refl
kind_to_of kind_id = refl
kind_to_of (kind_n x) = refl
kind_to_of (kind_r x) = refl
kind_to_of kind_dt = refl
kind_to_of kind_tm = refl

pub kind_of_to : (v : RawKind) → of_kind (to_kind v) ≡ v
kind_of_to (inl x) = refl
kind_of_to (inr (inl x)) = refl
kind_of_to (inr (inr (inl x))) = refl
kind_of_to (inr (inr (inr (inl x)))) = refl
kind_of_to (inr (inr (inr (inr (inl x))))) = refl
kind_of_to (inr (inr (inr (inr (inr (inl x)))))) = refl
kind_of_to (inr (inr (inr (inr (inr (inr z)))))) = absurd z

unfoldable pub kind_c : Codec Kind
kind_c = map_c to_kind of_kind kind_to_of kind_of_to (enum_c (unit_c ⊕ unit_c ⊕ byte_c ⊕ byte_c ⊕ unit_c ⊕ unit_c ⊕ end_c))

-- a component has no further components
pub record ComponentDef : Type 0 where
  pub kind : Kind
  pub min : Option ℕ
  pub max : Option ℕ
  pub codes : List (List ℕ)

unfoldable pub component_c : Codec ComponentDef
component_c = map_c
    (λ t. record { kind = t.0; min = t.1.0; max = t.1.1.0; codes = t.1.1.1 })
    (λ v. (v.kind, (v.min, (v.max, v.codes)))) (λ y. refl) (λ x. refl)
    (kind_c ⊗ opt_c num_c ⊗ opt_c num_c ⊗ list_c bytes_c)

pub record ElementDef : Type 0 where
  pub kind : Kind
  pub min : Option ℕ
  pub max : Option ℕ
  pub components : List (ℕ × ComponentDef)
  pub codes : List (List ℕ)

unfoldable pub element_c : Codec ElementDef
element_c = map_c
    (λ t. record { kind = t.0; min = t.1.0; max = t.1.1.0; components = t.1.1.1.0; codes = t.1.1.1.1 })
    (λ v. (v.kind, (v.min, (v.max, (v.components, v.codes))))) (λ y. refl) (λ x. refl)
    (kind_c ⊗ opt_c num_c ⊗ opt_c num_c ⊗ num_map_c component_c ⊗ list_c bytes_c)

-- the elements of a segment, by number
abbrev pub SegmentDef : Type 0
SegmentDef = List (ℕ × ElementDef)

abbrev pub segment_c : Codec SegmentDef
segment_c = num_map_c element_c

pub record Repeat : Type 0 where
  pub from : ℕ
  pub step : ℕ

unfoldable pub repeat_c : Codec Repeat
repeat_c = map_c
    (λ t. record { from = t.0; step = t.1 })
    (λ v. (v.from, v.step)) (λ y. refl) (λ x. refl)
    (num_c ⊗ num_c)

-- `segment` says whether the table is one of repeat segments
pub record Table : Type 0 where
  pub loops : List ℕ
  pub segment : Bool
  pub repeat : Option Repeat
  pub columns : ℕ
  pub parent : Option ℕ
  pub ancestors : List ℕ

unfoldable pub table_c : Codec Table
table_c = map_c
    (λ t. record { loops = t.0; segment = t.1.0; repeat = t.1.1.0; columns = t.1.1.1.0; parent = t.1.1.1.1.0; ancestors = t.1.1.1.1.1 })
    (λ v. (v.loops, (v.segment, (v.repeat, (v.columns, (v.parent, v.ancestors)))))) (λ y. refl) (λ x. refl)
    (list_c num_c ⊗ flag_c ⊗ opt_c repeat_c ⊗ num_c ⊗ opt_c num_c ⊗ list_c num_c)

pub record Version : Type 0 where
  pub segment : List ℕ
  pub element : ℕ
  pub first : List ℕ

unfoldable pub version_c : Codec Version
version_c = map_c
    (λ t. record { segment = t.0; element = t.1.0; first = t.1.1 })
    (λ v. (v.segment, (v.element, v.first))) (λ y. refl) (λ x. refl)
    (bytes_c ⊗ num_c ⊗ bytes_c)

pub record Spec : Type 0 where
  pub loops : List Loop
  pub roots : List ℕ
  pub segments : List (List ℕ × SegmentDef)
  pub tables : List Table
  pub version : Option Version

unfoldable pub spec_c : Codec Spec
spec_c = map_c
    (λ t. record { loops = t.0; roots = t.1.0; segments = t.1.1.0; tables = t.1.1.1.0; version = t.1.1.1.1 })
    (λ v. (v.loops, (v.roots, (v.segments, (v.tables, v.version))))) (λ y. refl) (λ x. refl)
    (list_c loop_c ⊗ list_c num_c ⊗ bytes_map_c segment_c ⊗ list_c table_c ⊗ opt_c version_c)

-- ---- what stands for one that is not there
abbrev pub no_loop : Loop
no_loop = record { parent = None; trigger = []; occurrences = []; usage = required; end = None; control = None; children = [] }

abbrev pub no_table : Table
no_table = record { loops = []; segment = false; repeat = None; columns = 0; parent = None; ancestors = [] }

abbrev pub no_spec : Spec
no_spec = record { loops = []; roots = []; segments = []; tables = []; version = None }
