-- One job with each kind of loop, computed.
use Rattle.std.specs.Prelude.{refl}
use Rattle.nest.specs.Outline.{loop_of, plan_of, table_of, parent_of, kind_of, order_of, segment_of, has_occurrence, table_parent, row_count, plain, repeated}
use Rattle.nest.specs.Nest.{has_keys, first_row, referred, depth, anchors, claim_in, hook, hangs, held, repeat_rows, nest_record, table_array, nest_array}
use Rattle.nest.specs.NestFindings.{duplicate_at, duplicates, contradiction_at, contradictions, missing_at, row_findings, table_findings, nest_findings}
use Rattle.walk.specs.Instances.{held_in, rows_in, pieces, own_data, has_data, by_kind, instances}
use Rattle.walk.specs.Tour.{segments_in, chunks, row_steps, repeat_steps, due_row, segment_steps, body_steps, opened, children, close_steps, instance_steps, visits, tour_to}
use Rattle.walk.specs.Complete.{climbs, is_root}
use Rattle.walk.specs.Check.{fits, tree_tests, plan_tests, complete_ok}
use Rattle.walk.specs.EachKind.{EachKind}

pub each_kind : EachKind
unfolding has_keys first_row referred depth anchors claim_in hook hangs duplicate_at duplicates contradiction_at contradictions missing_at row_findings table_findings nest_findings loop_of plan_of table_of parent_of kind_of table_parent row_count repeated nest_record table_array nest_array held repeat_rows held_in rows_in pieces own_data has_data by_kind instances segments_in chunks row_steps repeat_steps due_row segment_steps body_steps opened children close_steps instance_steps visits tour_to order_of segment_of has_occurrence plain complete_ok tree_tests plan_tests fits climbs is_root
each_kind = record { findings = refl; places = refl; steps = refl; complete = refl }
