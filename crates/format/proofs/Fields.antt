-- Laws of the definitions of specs/Fields, and words that only proofs use.
use Rattle.std.specs.Prelude.{ℕ, ◌+◌, ◌≡◌, List, get_or}
use Rattle.std.proofs.Common.{sym}
use Rattle.codec.specs.Codec.{◌⊗◌, ◌⊕◌, list_c}
use Rattle.codec.specs.Forms.{num_c, byte_c, long_c, wide_c, bytes_c, opt_c, flag_c}
use Rattle.codec.specs.Maps.{num_map_c, bytes_map_c}
use Rattle.codec.specs.Skip.{skip, Is}
use Rattle.codec.proofs.Field.{is_map, is_pair, is_enum, is_first, is_later}
use Rattle.format.specs.Spec.{Control, control_c, Loop, loop_c, ComponentDef, component_c, ElementDef, element_c, Repeat, repeat_c, Table, table_c, Version, version_c, Spec, spec_c, Usage, required, situational, usage_c, Counted, count_segments, count_children, counted_c, Kind, kind_an, kind_id, kind_n, kind_r, kind_dt, kind_tm, kind_c, segment_c}
use Rattle.format.specs.Plan.{ElementPlan, element_plan_c, SegmentPlan, segment_plan_c, LoopPlan, loop_plan_c, Instances, absent, enveloped, rows_of, inside, groups_of, implied, instances_c, Source, from_envelope, from_row, from_repeat, source_c, Value, from_column, from_group, from_code, value_c}
use Rattle.format.specs.Layout.{Layout, layout_c, Item, segment_item, loop_item, item_c}
use Rattle.format.specs.Envelope.{Envelope, envelope_c}
use Rattle.format.specs.Data.{Column, column_c, TableData, table_data_c, Values, binary, int64, decimal, date32, time32, values_c}
use Rattle.format.specs.Fields.{loop_trigger, loop_occurrences, loop_usage, loop_end, loop_control, loop_children, element_min, element_max, element_components, table_segment, table_repeat, table_columns, table_parent, table_ancestors, spec_roots, spec_segments, spec_tables, layout_forced, layout_group_columns, layout_depth, layout_capacity, envelope_sender_id, envelope_receiver_qualifier, envelope_receiver_id, envelope_application_sender, envelope_application_receiver, envelope_date, envelope_time, envelope_usage_indicator, envelope_control_number, envelope_element, envelope_component, envelope_segment, envelope_repetition, envelope_line_break}

abbrev pub control_closer : List ℕ → ℕ → ℕ → ℕ
control_closer b e at = skip num_c b at e

abbrev pub control_count : List ℕ → ℕ → ℕ → ℕ
control_count b e at = skip num_c b (control_closer b e at) e

abbrev pub control_counted : List ℕ → ℕ → ℕ → ℕ
control_counted b e at = skip num_c b (control_count b e at) e

pub record ControlIs (b : List ℕ) (e at : ℕ) (v : Control) : Type 0 where
  pub opener : Is num_c b e at v.opener
  pub closer : Is num_c b e (control_closer b e at) v.closer
  pub count : Is num_c b e (control_count b e at) v.count
  pub counted : Is counted_c b e (control_counted b e at) v.counted

pub is_control : (b : List ℕ) (e at : ℕ) (v : Control) → Is control_c b e at v → ControlIs b e at v
unfolding control_c
is_control b e at v h =
    let t₀ = is_pair _ _ b e at _ (is_map _ _ _ _ _ b e at v h) in
    let t₁ = is_pair _ _ b e _ _ t₀.1 in
    let t₂ = is_pair _ _ b e _ _ t₁.1 in
    record { opener = t₀.0; closer = t₁.0; count = t₂.0; counted = t₂.1 }

pub record LoopIs (b : List ℕ) (e at : ℕ) (v : Loop) : Type 0 where
  pub parent : Is (opt_c num_c) b e at v.parent
  pub trigger : Is bytes_c b e (loop_trigger b e at) v.trigger
  pub occurrences : Is (list_c bytes_c) b e (loop_occurrences b e at) v.occurrences
  pub usage : Is usage_c b e (loop_usage b e at) v.usage
  pub end : Is (opt_c bytes_c) b e (loop_end b e at) v.end
  pub control : Is (opt_c control_c) b e (loop_control b e at) v.control
  pub children : Is (list_c num_c) b e (loop_children b e at) v.children

pub is_loop : (b : List ℕ) (e at : ℕ) (v : Loop) → Is loop_c b e at v → LoopIs b e at v
unfolding loop_c
is_loop b e at v h =
    let t₀ = is_pair _ _ b e at _ (is_map _ _ _ _ _ b e at v h) in
    let t₁ = is_pair _ _ b e _ _ t₀.1 in
    let t₂ = is_pair _ _ b e _ _ t₁.1 in
    let t₃ = is_pair _ _ b e _ _ t₂.1 in
    let t₄ = is_pair _ _ b e _ _ t₃.1 in
    let t₅ = is_pair _ _ b e _ _ t₄.1 in
    record { parent = t₀.0; trigger = t₁.0; occurrences = t₂.0; usage = t₃.0; end = t₄.0; control = t₅.0; children = t₅.1 }

abbrev pub component_min : List ℕ → ℕ → ℕ → ℕ
component_min b e at = skip kind_c b at e

abbrev pub component_max : List ℕ → ℕ → ℕ → ℕ
component_max b e at = skip (opt_c num_c) b (component_min b e at) e

abbrev pub component_codes : List ℕ → ℕ → ℕ → ℕ
component_codes b e at = skip (opt_c num_c) b (component_max b e at) e

pub record ComponentDefIs (b : List ℕ) (e at : ℕ) (v : ComponentDef) : Type 0 where
  pub kind : Is kind_c b e at v.kind
  pub min : Is (opt_c num_c) b e (component_min b e at) v.min
  pub max : Is (opt_c num_c) b e (component_max b e at) v.max
  pub codes : Is (list_c bytes_c) b e (component_codes b e at) v.codes

pub is_component : (b : List ℕ) (e at : ℕ) (v : ComponentDef) → Is component_c b e at v → ComponentDefIs b e at v
unfolding component_c
is_component b e at v h =
    let t₀ = is_pair _ _ b e at _ (is_map _ _ _ _ _ b e at v h) in
    let t₁ = is_pair _ _ b e _ _ t₀.1 in
    let t₂ = is_pair _ _ b e _ _ t₁.1 in
    record { kind = t₀.0; min = t₁.0; max = t₂.0; codes = t₂.1 }

abbrev pub element_codes : List ℕ → ℕ → ℕ → ℕ
element_codes b e at = skip (num_map_c component_c) b (element_components b e at) e

pub record ElementDefIs (b : List ℕ) (e at : ℕ) (v : ElementDef) : Type 0 where
  pub kind : Is kind_c b e at v.kind
  pub min : Is (opt_c num_c) b e (element_min b e at) v.min
  pub max : Is (opt_c num_c) b e (element_max b e at) v.max
  pub components : Is (num_map_c component_c) b e (element_components b e at) v.components
  pub codes : Is (list_c bytes_c) b e (element_codes b e at) v.codes

pub is_element : (b : List ℕ) (e at : ℕ) (v : ElementDef) → Is element_c b e at v → ElementDefIs b e at v
unfolding element_c
is_element b e at v h =
    let t₀ = is_pair _ _ b e at _ (is_map _ _ _ _ _ b e at v h) in
    let t₁ = is_pair _ _ b e _ _ t₀.1 in
    let t₂ = is_pair _ _ b e _ _ t₁.1 in
    let t₃ = is_pair _ _ b e _ _ t₂.1 in
    record { kind = t₀.0; min = t₁.0; max = t₂.0; components = t₃.0; codes = t₃.1 }

abbrev pub repeat_step : List ℕ → ℕ → ℕ → ℕ
repeat_step b e at = skip num_c b at e

pub record RepeatIs (b : List ℕ) (e at : ℕ) (v : Repeat) : Type 0 where
  pub from : Is num_c b e at v.from
  pub step : Is num_c b e (repeat_step b e at) v.step

pub is_repeat : (b : List ℕ) (e at : ℕ) (v : Repeat) → Is repeat_c b e at v → RepeatIs b e at v
unfolding repeat_c
is_repeat b e at v h =
    let t₀ = is_pair _ _ b e at _ (is_map _ _ _ _ _ b e at v h) in
    record { from = t₀.0; step = t₀.1 }

pub record TableIs (b : List ℕ) (e at : ℕ) (v : Table) : Type 0 where
  pub loops : Is (list_c num_c) b e at v.loops
  pub segment : Is flag_c b e (table_segment b e at) v.segment
  pub repeat : Is (opt_c repeat_c) b e (table_repeat b e at) v.repeat
  pub columns : Is num_c b e (table_columns b e at) v.columns
  pub parent : Is (opt_c num_c) b e (table_parent b e at) v.parent
  pub ancestors : Is (list_c num_c) b e (table_ancestors b e at) v.ancestors

pub is_table : (b : List ℕ) (e at : ℕ) (v : Table) → Is table_c b e at v → TableIs b e at v
unfolding table_c
is_table b e at v h =
    let t₀ = is_pair _ _ b e at _ (is_map _ _ _ _ _ b e at v h) in
    let t₁ = is_pair _ _ b e _ _ t₀.1 in
    let t₂ = is_pair _ _ b e _ _ t₁.1 in
    let t₃ = is_pair _ _ b e _ _ t₂.1 in
    let t₄ = is_pair _ _ b e _ _ t₃.1 in
    record { loops = t₀.0; segment = t₁.0; repeat = t₂.0; columns = t₃.0; parent = t₄.0; ancestors = t₄.1 }

abbrev pub version_element : List ℕ → ℕ → ℕ → ℕ
version_element b e at = skip bytes_c b at e

abbrev pub version_first : List ℕ → ℕ → ℕ → ℕ
version_first b e at = skip num_c b (version_element b e at) e

pub record VersionIs (b : List ℕ) (e at : ℕ) (v : Version) : Type 0 where
  pub segment : Is bytes_c b e at v.segment
  pub element : Is num_c b e (version_element b e at) v.element
  pub first : Is bytes_c b e (version_first b e at) v.first

pub is_version : (b : List ℕ) (e at : ℕ) (v : Version) → Is version_c b e at v → VersionIs b e at v
unfolding version_c
is_version b e at v h =
    let t₀ = is_pair _ _ b e at _ (is_map _ _ _ _ _ b e at v h) in
    let t₁ = is_pair _ _ b e _ _ t₀.1 in
    record { segment = t₀.0; element = t₁.0; first = t₁.1 }

abbrev pub spec_version : List ℕ → ℕ → ℕ → ℕ
spec_version b e at = skip (list_c table_c) b (spec_tables b e at) e

pub record SpecIs (b : List ℕ) (e at : ℕ) (v : Spec) : Type 0 where
  pub loops : Is (list_c loop_c) b e at v.loops
  pub roots : Is (list_c num_c) b e (spec_roots b e at) v.roots
  pub segments : Is (bytes_map_c segment_c) b e (spec_segments b e at) v.segments
  pub tables : Is (list_c table_c) b e (spec_tables b e at) v.tables
  pub version : Is (opt_c version_c) b e (spec_version b e at) v.version

pub is_spec : (b : List ℕ) (e at : ℕ) (v : Spec) → Is spec_c b e at v → SpecIs b e at v
unfolding spec_c
is_spec b e at v h =
    let t₀ = is_pair _ _ b e at _ (is_map _ _ _ _ _ b e at v h) in
    let t₁ = is_pair _ _ b e _ _ t₀.1 in
    let t₂ = is_pair _ _ b e _ _ t₁.1 in
    let t₃ = is_pair _ _ b e _ _ t₂.1 in
    record { loops = t₀.0; roots = t₁.0; segments = t₂.0; tables = t₃.0; version = t₃.1 }

abbrev pub element_plan_component : List ℕ → ℕ → ℕ → ℕ
element_plan_component b e at = skip num_c b at e

abbrev pub element_plan_value : List ℕ → ℕ → ℕ → ℕ
element_plan_value b e at = skip (opt_c num_c) b (element_plan_component b e at) e

pub record ElementPlanIs (b : List ℕ) (e at : ℕ) (v : ElementPlan) : Type 0 where
  pub element : Is num_c b e at v.element
  pub component : Is (opt_c num_c) b e (element_plan_component b e at) v.component
  pub value : Is value_c b e (element_plan_value b e at) v.value

pub is_element_plan : (b : List ℕ) (e at : ℕ) (v : ElementPlan) → Is element_plan_c b e at v → ElementPlanIs b e at v
unfolding element_plan_c
is_element_plan b e at v h =
    let t₀ = is_pair _ _ b e at _ (is_map _ _ _ _ _ b e at v h) in
    let t₁ = is_pair _ _ b e _ _ t₀.1 in
    record { element = t₀.0; component = t₁.0; value = t₁.1 }

abbrev pub segment_plan_source : List ℕ → ℕ → ℕ → ℕ
segment_plan_source b e at = skip num_c b at e

abbrev pub segment_plan_elements : List ℕ → ℕ → ℕ → ℕ
segment_plan_elements b e at = skip source_c b (segment_plan_source b e at) e

pub record SegmentPlanIs (b : List ℕ) (e at : ℕ) (v : SegmentPlan) : Type 0 where
  pub occurrence : Is num_c b e at v.occurrence
  pub source : Is source_c b e (segment_plan_source b e at) v.source
  pub elements : Is (list_c element_plan_c) b e (segment_plan_elements b e at) v.elements

pub is_segment_plan : (b : List ℕ) (e at : ℕ) (v : SegmentPlan) → Is segment_plan_c b e at v → SegmentPlanIs b e at v
unfolding segment_plan_c
is_segment_plan b e at v h =
    let t₀ = is_pair _ _ b e at _ (is_map _ _ _ _ _ b e at v h) in
    let t₁ = is_pair _ _ b e _ _ t₀.1 in
    record { occurrence = t₀.0; source = t₁.0; elements = t₁.1 }

abbrev pub loop_plan_segments : List ℕ → ℕ → ℕ → ℕ
loop_plan_segments b e at = skip instances_c b at e

pub record LoopPlanIs (b : List ℕ) (e at : ℕ) (v : LoopPlan) : Type 0 where
  pub instances : Is instances_c b e at v.instances
  pub segments : Is (list_c segment_plan_c) b e (loop_plan_segments b e at) v.segments

pub is_loop_plan : (b : List ℕ) (e at : ℕ) (v : LoopPlan) → Is loop_plan_c b e at v → LoopPlanIs b e at v
unfolding loop_plan_c
is_loop_plan b e at v h =
    let t₀ = is_pair _ _ b e at _ (is_map _ _ _ _ _ b e at v h) in
    record { instances = t₀.0; segments = t₀.1 }

pub record LayoutIs (b : List ℕ) (e at : ℕ) (v : Layout) : Type 0 where
  pub order : Is (list_c (list_c item_c)) b e at v.order
  pub forced : Is (list_c (list_c flag_c)) b e (layout_forced b e at) v.forced
  pub group_columns : Is (list_c (list_c num_c)) b e (layout_group_columns b e at) v.group_columns
  pub depth : Is (list_c (opt_c num_c)) b e (layout_depth b e at) v.depth
  pub capacity : Is (list_c num_c) b e (layout_capacity b e at) v.capacity

pub is_layout : (b : List ℕ) (e at : ℕ) (v : Layout) → Is layout_c b e at v → LayoutIs b e at v
unfolding layout_c
is_layout b e at v h =
    let t₀ = is_pair _ _ b e at _ (is_map _ _ _ _ _ b e at v h) in
    let t₁ = is_pair _ _ b e _ _ t₀.1 in
    let t₂ = is_pair _ _ b e _ _ t₁.1 in
    let t₃ = is_pair _ _ b e _ _ t₂.1 in
    record { order = t₀.0; forced = t₁.0; group_columns = t₂.0; depth = t₃.0; capacity = t₃.1 }

pub record EnvelopeIs (b : List ℕ) (e at : ℕ) (v : Envelope) : Type 0 where
  pub sender_qualifier : Is bytes_c b e at v.sender_qualifier
  pub sender_id : Is bytes_c b e (envelope_sender_id b e at) v.sender_id
  pub receiver_qualifier : Is bytes_c b e (envelope_receiver_qualifier b e at) v.receiver_qualifier
  pub receiver_id : Is bytes_c b e (envelope_receiver_id b e at) v.receiver_id
  pub application_sender : Is (opt_c bytes_c) b e (envelope_application_sender b e at) v.application_sender
  pub application_receiver : Is (opt_c bytes_c) b e (envelope_application_receiver b e at) v.application_receiver
  pub date : Is num_c b e (envelope_date b e at) v.date
  pub time : Is num_c b e (envelope_time b e at) v.time
  pub usage_indicator : Is bytes_c b e (envelope_usage_indicator b e at) v.usage_indicator
  pub control_number : Is long_c b e (envelope_control_number b e at) v.control_number
  pub element : Is byte_c b e (envelope_element b e at) v.element
  pub component : Is byte_c b e (envelope_component b e at) v.component
  pub segment : Is byte_c b e (envelope_segment b e at) v.segment
  pub repetition : Is (opt_c byte_c) b e (envelope_repetition b e at) v.repetition
  pub line_break : Is flag_c b e (envelope_line_break b e at) v.line_break

pub is_envelope_lem : (b : List ℕ) (e at : ℕ) (v : Envelope) → Is envelope_c b e at v → EnvelopeIs b e at v
unfolding envelope_c
is_envelope_lem b e at v h =
    let t₀ = is_pair _ _ b e at _ (is_map _ _ _ _ _ b e at v h) in
    let t₁ = is_pair _ _ b e _ _ t₀.1 in
    let t₂ = is_pair _ _ b e _ _ t₁.1 in
    let t₃ = is_pair _ _ b e _ _ t₂.1 in
    let t₄ = is_pair _ _ b e _ _ t₃.1 in
    let t₅ = is_pair _ _ b e _ _ t₄.1 in
    let t₆ = is_pair _ _ b e _ _ t₅.1 in
    let t₇ = is_pair _ _ b e _ _ t₆.1 in
    let t₈ = is_pair _ _ b e _ _ t₇.1 in
    let t₉ = is_pair _ _ b e _ _ t₈.1 in
    let t₁₀ = is_pair _ _ b e _ _ t₉.1 in
    let t₁₁ = is_pair _ _ b e _ _ t₁₀.1 in
    let t₁₂ = is_pair _ _ b e _ _ t₁₁.1 in
    let t₁₃ = is_pair _ _ b e _ _ t₁₂.1 in
    record { sender_qualifier = t₀.0; sender_id = t₁.0; receiver_qualifier = t₂.0; receiver_id = t₃.0; application_sender = t₄.0; application_receiver = t₅.0; date = t₆.0; time = t₇.0; usage_indicator = t₈.0; control_number = t₉.0; element = t₁₀.0; component = t₁₁.0; segment = t₁₂.0; repetition = t₁₃.0; line_break = t₁₃.1 }

abbrev pub column_validity : List ℕ → ℕ → ℕ → ℕ
column_validity b e at = skip values_c b at e

abbrev pub column_length : List ℕ → ℕ → ℕ → ℕ
column_length b e at = skip bytes_c b (column_validity b e at) e

pub record ColumnIs (b : List ℕ) (e at : ℕ) (v : Column) : Type 0 where
  pub values : Is values_c b e at v.values
  pub validity : Is bytes_c b e (column_validity b e at) v.validity
  pub length : Is num_c b e (column_length b e at) v.length

pub is_column : (b : List ℕ) (e at : ℕ) (v : Column) → Is column_c b e at v → ColumnIs b e at v
unfolding column_c
is_column b e at v h =
    let t₀ = is_pair _ _ b e at _ (is_map _ _ _ _ _ b e at v h) in
    let t₁ = is_pair _ _ b e _ _ t₀.1 in
    record { values = t₀.0; validity = t₁.0; length = t₁.1 }

abbrev pub table_data_row : List ℕ → ℕ → ℕ → ℕ
table_data_row b e at = skip num_c b at e

abbrev pub table_data_segment : List ℕ → ℕ → ℕ → ℕ
table_data_segment b e at = skip (opt_c column_c) b (table_data_row b e at) e

abbrev pub table_data_refs : List ℕ → ℕ → ℕ → ℕ
table_data_refs b e at = skip (opt_c column_c) b (table_data_segment b e at) e

abbrev pub table_data_columns : List ℕ → ℕ → ℕ → ℕ
table_data_columns b e at = skip (list_c (num_c ⊗ opt_c column_c)) b (table_data_refs b e at) e

pub record TableDataIs (b : List ℕ) (e at : ℕ) (v : TableData) : Type 0 where
  pub rows : Is num_c b e at v.rows
  pub row : Is (opt_c column_c) b e (table_data_row b e at) v.row
  pub segment : Is (opt_c column_c) b e (table_data_segment b e at) v.segment
  pub refs : Is (list_c (num_c ⊗ opt_c column_c)) b e (table_data_refs b e at) v.refs
  pub columns : Is (list_c (opt_c column_c)) b e (table_data_columns b e at) v.columns

pub is_table_data_lem : (b : List ℕ) (e at : ℕ) (v : TableData) → Is table_data_c b e at v → TableDataIs b e at v
unfolding table_data_c
is_table_data_lem b e at v h =
    let t₀ = is_pair _ _ b e at _ (is_map _ _ _ _ _ b e at v h) in
    let t₁ = is_pair _ _ b e _ _ t₀.1 in
    let t₂ = is_pair _ _ b e _ _ t₁.1 in
    let t₃ = is_pair _ _ b e _ _ t₂.1 in
    record { rows = t₀.0; row = t₁.0; segment = t₂.0; refs = t₃.0; columns = t₃.1 }

-- the byte of the case
abbrev pub usage_case : Usage → ℕ
usage_case required = 0
usage_case situational = 1

pub usage_tag : (b : List ℕ) (e at : ℕ) (v : Usage) → Is usage_c b e at v → get_or b at 0 ≡ usage_case v
unfolding usage_c ◌⊕◌
usage_tag b e at required h = sym (is_enum _ b e at _ (is_map _ _ _ _ _ b e at required h)).tag
usage_tag b e at situational h = sym (is_enum _ b e at _ (is_map _ _ _ _ _ b e at situational h)).tag

-- the byte of the case
abbrev pub counted_case : Counted → ℕ
counted_case count_segments = 0
counted_case count_children = 1

pub counted_tag : (b : List ℕ) (e at : ℕ) (v : Counted) → Is counted_c b e at v → get_or b at 0 ≡ counted_case v
unfolding counted_c ◌⊕◌
counted_tag b e at count_segments h = sym (is_enum _ b e at _ (is_map _ _ _ _ _ b e at count_segments h)).tag
counted_tag b e at count_children h = sym (is_enum _ b e at _ (is_map _ _ _ _ _ b e at count_children h)).tag

-- the byte of the case
abbrev pub kind_case : Kind → ℕ
kind_case kind_an = 0
kind_case kind_id = 1
kind_case (kind_n x) = 2
kind_case (kind_r x) = 3
kind_case kind_dt = 4
kind_case kind_tm = 5

pub kind_tag : (b : List ℕ) (e at : ℕ) (v : Kind) → Is kind_c b e at v → get_or b at 0 ≡ kind_case v
unfolding kind_c ◌⊕◌
kind_tag b e at kind_an h = sym (is_enum _ b e at _ (is_map _ _ _ _ _ b e at kind_an h)).tag
kind_tag b e at kind_id h = sym (is_enum _ b e at _ (is_map _ _ _ _ _ b e at kind_id h)).tag
kind_tag b e at (kind_n x) h = sym (is_enum _ b e at _ (is_map _ _ _ _ _ b e at (kind_n x) h)).tag
kind_tag b e at (kind_r x) h = sym (is_enum _ b e at _ (is_map _ _ _ _ _ b e at (kind_r x) h)).tag
kind_tag b e at kind_dt h = sym (is_enum _ b e at _ (is_map _ _ _ _ _ b e at kind_dt h)).tag
kind_tag b e at kind_tm h = sym (is_enum _ b e at _ (is_map _ _ _ _ _ b e at kind_tm h)).tag

pub is_kind_n : (b : List ℕ) (e at : ℕ) (x : ℕ) → Is kind_c b e at (kind_n x) → Is byte_c b e (at + 1) x
unfolding kind_c
is_kind_n b e at x h = is_first _ _ b e (at + 1) _ _ (is_later _ _ b e (at + 1) _ _ (is_later _ _ b e (at + 1) _ _ (is_enum _ b e at _ (is_map _ _ _ _ _ b e at (kind_n x) h)).fields).1).1

pub is_kind_r : (b : List ℕ) (e at : ℕ) (x : ℕ) → Is kind_c b e at (kind_r x) → Is byte_c b e (at + 1) x
unfolding kind_c
is_kind_r b e at x h = is_first _ _ b e (at + 1) _ _ (is_later _ _ b e (at + 1) _ _ (is_later _ _ b e (at + 1) _ _ (is_later _ _ b e (at + 1) _ _ (is_enum _ b e at _ (is_map _ _ _ _ _ b e at (kind_r x) h)).fields).1).1).1

-- the byte of the case
abbrev pub instances_case : Instances → ℕ
instances_case absent = 0
instances_case enveloped = 1
instances_case (rows_of x) = 2
instances_case (inside x) = 3
instances_case (groups_of x) = 4
instances_case implied = 5

pub instances_tag : (b : List ℕ) (e at : ℕ) (v : Instances) → Is instances_c b e at v → get_or b at 0 ≡ instances_case v
unfolding instances_c ◌⊕◌
instances_tag b e at absent h = sym (is_enum _ b e at _ (is_map _ _ _ _ _ b e at absent h)).tag
instances_tag b e at enveloped h = sym (is_enum _ b e at _ (is_map _ _ _ _ _ b e at enveloped h)).tag
instances_tag b e at (rows_of x) h = sym (is_enum _ b e at _ (is_map _ _ _ _ _ b e at (rows_of x) h)).tag
instances_tag b e at (inside x) h = sym (is_enum _ b e at _ (is_map _ _ _ _ _ b e at (inside x) h)).tag
instances_tag b e at (groups_of x) h = sym (is_enum _ b e at _ (is_map _ _ _ _ _ b e at (groups_of x) h)).tag
instances_tag b e at implied h = sym (is_enum _ b e at _ (is_map _ _ _ _ _ b e at implied h)).tag

pub is_rows_of : (b : List ℕ) (e at : ℕ) (x : ℕ) → Is instances_c b e at (rows_of x) → Is num_c b e (at + 1) x
unfolding instances_c
is_rows_of b e at x h = is_first _ _ b e (at + 1) _ _ (is_later _ _ b e (at + 1) _ _ (is_later _ _ b e (at + 1) _ _ (is_enum _ b e at _ (is_map _ _ _ _ _ b e at (rows_of x) h)).fields).1).1

pub is_inside : (b : List ℕ) (e at : ℕ) (x : ℕ) → Is instances_c b e at (inside x) → Is num_c b e (at + 1) x
unfolding instances_c
is_inside b e at x h = is_first _ _ b e (at + 1) _ _ (is_later _ _ b e (at + 1) _ _ (is_later _ _ b e (at + 1) _ _ (is_later _ _ b e (at + 1) _ _ (is_enum _ b e at _ (is_map _ _ _ _ _ b e at (inside x) h)).fields).1).1).1

pub is_groups_of : (b : List ℕ) (e at : ℕ) (x : ℕ) → Is instances_c b e at (groups_of x) → Is num_c b e (at + 1) x
unfolding instances_c
is_groups_of b e at x h = is_first _ _ b e (at + 1) _ _ (is_later _ _ b e (at + 1) _ _ (is_later _ _ b e (at + 1) _ _ (is_later _ _ b e (at + 1) _ _ (is_later _ _ b e (at + 1) _ _ (is_enum _ b e at _ (is_map _ _ _ _ _ b e at (groups_of x) h)).fields).1).1).1).1

-- the byte of the case
abbrev pub source_case : Source → ℕ
source_case from_envelope = 0
source_case (from_row x) = 1
source_case (from_repeat x) = 2

pub source_tag : (b : List ℕ) (e at : ℕ) (v : Source) → Is source_c b e at v → get_or b at 0 ≡ source_case v
unfolding source_c ◌⊕◌
source_tag b e at from_envelope h = sym (is_enum _ b e at _ (is_map _ _ _ _ _ b e at from_envelope h)).tag
source_tag b e at (from_row x) h = sym (is_enum _ b e at _ (is_map _ _ _ _ _ b e at (from_row x) h)).tag
source_tag b e at (from_repeat x) h = sym (is_enum _ b e at _ (is_map _ _ _ _ _ b e at (from_repeat x) h)).tag

pub is_from_row : (b : List ℕ) (e at : ℕ) (x : ℕ) → Is source_c b e at (from_row x) → Is num_c b e (at + 1) x
unfolding source_c
is_from_row b e at x h = is_first _ _ b e (at + 1) _ _ (is_later _ _ b e (at + 1) _ _ (is_enum _ b e at _ (is_map _ _ _ _ _ b e at (from_row x) h)).fields).1

pub is_from_repeat : (b : List ℕ) (e at : ℕ) (x : ℕ) → Is source_c b e at (from_repeat x) → Is num_c b e (at + 1) x
unfolding source_c
is_from_repeat b e at x h = is_first _ _ b e (at + 1) _ _ (is_later _ _ b e (at + 1) _ _ (is_later _ _ b e (at + 1) _ _ (is_enum _ b e at _ (is_map _ _ _ _ _ b e at (from_repeat x) h)).fields).1).1

-- the byte of the case
abbrev pub value_case : Value → ℕ
value_case (from_column x) = 0
value_case (from_group x) = 1
value_case (from_code x) = 2

pub value_tag : (b : List ℕ) (e at : ℕ) (v : Value) → Is value_c b e at v → get_or b at 0 ≡ value_case v
unfolding value_c ◌⊕◌
value_tag b e at (from_column x) h = sym (is_enum _ b e at _ (is_map _ _ _ _ _ b e at (from_column x) h)).tag
value_tag b e at (from_group x) h = sym (is_enum _ b e at _ (is_map _ _ _ _ _ b e at (from_group x) h)).tag
value_tag b e at (from_code x) h = sym (is_enum _ b e at _ (is_map _ _ _ _ _ b e at (from_code x) h)).tag

pub is_from_column : (b : List ℕ) (e at : ℕ) (x : ℕ) → Is value_c b e at (from_column x) → Is num_c b e (at + 1) x
unfolding value_c
is_from_column b e at x h = is_first _ _ b e (at + 1) _ _ (is_enum _ b e at _ (is_map _ _ _ _ _ b e at (from_column x) h)).fields

pub is_from_group : (b : List ℕ) (e at : ℕ) (x : ℕ) → Is value_c b e at (from_group x) → Is num_c b e (at + 1) x
unfolding value_c
is_from_group b e at x h = is_first _ _ b e (at + 1) _ _ (is_later _ _ b e (at + 1) _ _ (is_enum _ b e at _ (is_map _ _ _ _ _ b e at (from_group x) h)).fields).1

pub is_from_code : (b : List ℕ) (e at : ℕ) (x : List ℕ) → Is value_c b e at (from_code x) → Is bytes_c b e (at + 1) x
unfolding value_c
is_from_code b e at x h = is_first _ _ b e (at + 1) _ _ (is_later _ _ b e (at + 1) _ _ (is_later _ _ b e (at + 1) _ _ (is_enum _ b e at _ (is_map _ _ _ _ _ b e at (from_code x) h)).fields).1).1

-- the byte of the case
abbrev pub item_case : Item → ℕ
item_case (segment_item x) = 0
item_case (loop_item x) = 1

pub item_tag : (b : List ℕ) (e at : ℕ) (v : Item) → Is item_c b e at v → get_or b at 0 ≡ item_case v
unfolding item_c ◌⊕◌
item_tag b e at (segment_item x) h = sym (is_enum _ b e at _ (is_map _ _ _ _ _ b e at (segment_item x) h)).tag
item_tag b e at (loop_item x) h = sym (is_enum _ b e at _ (is_map _ _ _ _ _ b e at (loop_item x) h)).tag

pub is_segment_item : (b : List ℕ) (e at : ℕ) (x : ℕ) → Is item_c b e at (segment_item x) → Is num_c b e (at + 1) x
unfolding item_c
is_segment_item b e at x h = is_first _ _ b e (at + 1) _ _ (is_enum _ b e at _ (is_map _ _ _ _ _ b e at (segment_item x) h)).fields

pub is_loop_item : (b : List ℕ) (e at : ℕ) (x : ℕ) → Is item_c b e at (loop_item x) → Is num_c b e (at + 1) x
unfolding item_c
is_loop_item b e at x h = is_first _ _ b e (at + 1) _ _ (is_later _ _ b e (at + 1) _ _ (is_enum _ b e at _ (is_map _ _ _ _ _ b e at (loop_item x) h)).fields).1

-- the byte of the case
abbrev pub values_case : Values → ℕ
values_case (binary x y) = 0
values_case (int64 x y) = 1
values_case (decimal x y) = 2
values_case (date32 x) = 3
values_case (time32 x) = 4

pub values_tag : (b : List ℕ) (e at : ℕ) (v : Values) → Is values_c b e at v → get_or b at 0 ≡ values_case v
unfolding values_c ◌⊕◌
values_tag b e at (binary x y) h = sym (is_enum _ b e at _ (is_map _ _ _ _ _ b e at (binary x y) h)).tag
values_tag b e at (int64 x y) h = sym (is_enum _ b e at _ (is_map _ _ _ _ _ b e at (int64 x y) h)).tag
values_tag b e at (decimal x y) h = sym (is_enum _ b e at _ (is_map _ _ _ _ _ b e at (decimal x y) h)).tag
values_tag b e at (date32 x) h = sym (is_enum _ b e at _ (is_map _ _ _ _ _ b e at (date32 x) h)).tag
values_tag b e at (time32 x) h = sym (is_enum _ b e at _ (is_map _ _ _ _ _ b e at (time32 x) h)).tag

pub is_binary : (b : List ℕ) (e at : ℕ) (x : List ℕ) (y : List ℕ) → Is values_c b e at (binary x y) → Is (list_c num_c) b e (at + 1) x × Is bytes_c b e (skip (list_c num_c) b (at + 1) e) y
unfolding values_c
is_binary b e at x y h = is_pair _ _ b e (at + 1) _ (is_first _ _ b e (at + 1) _ _ (is_enum _ b e at _ (is_map _ _ _ _ _ b e at (binary x y) h)).fields)

pub is_int64 : (b : List ℕ) (e at : ℕ) (x : List ℕ) (y : ℕ) → Is values_c b e at (int64 x y) → Is (list_c long_c) b e (at + 1) x × Is byte_c b e (skip (list_c long_c) b (at + 1) e) y
unfolding values_c
is_int64 b e at x y h = is_pair _ _ b e (at + 1) _ (is_first _ _ b e (at + 1) _ _ (is_later _ _ b e (at + 1) _ _ (is_enum _ b e at _ (is_map _ _ _ _ _ b e at (int64 x y) h)).fields).1)

pub is_decimal : (b : List ℕ) (e at : ℕ) (x : List ℕ) (y : ℕ) → Is values_c b e at (decimal x y) → Is (list_c wide_c) b e (at + 1) x × Is byte_c b e (skip (list_c wide_c) b (at + 1) e) y
unfolding values_c
is_decimal b e at x y h = is_pair _ _ b e (at + 1) _ (is_first _ _ b e (at + 1) _ _ (is_later _ _ b e (at + 1) _ _ (is_later _ _ b e (at + 1) _ _ (is_enum _ b e at _ (is_map _ _ _ _ _ b e at (decimal x y) h)).fields).1).1)

pub is_date32 : (b : List ℕ) (e at : ℕ) (x : List ℕ) → Is values_c b e at (date32 x) → Is (list_c num_c) b e (at + 1) x
unfolding values_c
is_date32 b e at x h = is_first _ _ b e (at + 1) _ _ (is_later _ _ b e (at + 1) _ _ (is_later _ _ b e (at + 1) _ _ (is_later _ _ b e (at + 1) _ _ (is_enum _ b e at _ (is_map _ _ _ _ _ b e at (date32 x) h)).fields).1).1).1

pub is_time32 : (b : List ℕ) (e at : ℕ) (x : List ℕ) → Is values_c b e at (time32 x) → Is (list_c num_c) b e (at + 1) x
unfolding values_c
is_time32 b e at x h = is_first _ _ b e (at + 1) _ _ (is_later _ _ b e (at + 1) _ _ (is_later _ _ b e (at + 1) _ _ (is_later _ _ b e (at + 1) _ _ (is_later _ _ b e (at + 1) _ _ (is_enum _ b e at _ (is_map _ _ _ _ _ b e at (time32 x) h)).fields).1).1).1).1
