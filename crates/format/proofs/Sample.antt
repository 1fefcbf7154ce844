-- The sample jobs, encoded, decoded and judged by computation.
use Rattle.std.specs.Prelude.{◌≡◌, refl, map, replicate, Some}
use Rattle.codec.specs.Codec.{le, le_c, unit_c, dep_c, map_c, when_c, enum_c, ◌⊕◌, end_c, list_c}
use Rattle.codec.specs.Forms.{opt_c, flag_c}
use Rattle.codec.specs.Maps.{num_map_c, bytes_map_c}
use Rattle.codec.specs.Limits.{any, any_of}
use Rattle.format.specs.Spec.{usage_c, counted_c, control_c, loop_c, kind_c, component_c, element_c, repeat_c, table_c, version_c, spec_c}
use Rattle.format.specs.Plan.{instances_c, source_c, value_c, element_plan_c, segment_plan_c, loop_plan_c}
use Rattle.format.specs.Layout.{item_c, layout_c}
use Rattle.format.specs.Envelope.{envelope_c}
use Rattle.format.specs.Data.{values_c, column_c, table_data_c}
use Rattle.format.specs.Sections.{broken, spoilt, decode, job_of, framed, encode}
use Rattle.format.specs.Words.{any_from, all_of, if_some, present, times_in, member_of, repeats, times}
use Rattle.format.specs.Refusal.{large, over_control, over_loop, over_component, over_element, over_segment, over_step, over_table, over_version, over_element_plan, over_segment_plan, over_loop_plan, over_table_data, rows_of_all, over_spec, over_data, over, loops_in, outside, outside_loop, outside_table, outside_order, not_parent, not_child, disagrees, up, ringed, misrooted, misordered, tangled_loops, tangled, upper, digit, textual, separators, identifier, unnamed, foreign, unfit_loop, unfit_component, unfit_element, unfit_segment, unfit_version, unfit_spec, unfit_envelope, scale, unfit_column, unfit_reference, unfit_table_data, unfit, refusal_in, refusal_of}
use Rattle.format.specs.Sample.{listing, listing_bytes, wrong_trailer, wrong_structure, past_limits, wrong_loops, wrong_texts, at_limits}

pub listing_encodes : encode listing ≡ listing_bytes
unfolding encode framed le le_c unit_c dep_c map_c when_c enum_c ◌⊕◌ end_c list_c opt_c flag_c num_map_c bytes_map_c usage_c counted_c control_c loop_c kind_c component_c element_c repeat_c table_c version_c spec_c instances_c source_c value_c element_plan_c segment_plan_c loop_plan_c item_c layout_c envelope_c values_c column_c table_data_c
listing_encodes = refl

pub listing_decodes : decode listing_bytes ≡ Some listing
unfolding decode broken spoilt any le le_c unit_c dep_c map_c when_c enum_c ◌⊕◌ end_c list_c opt_c flag_c num_map_c bytes_map_c usage_c counted_c control_c loop_c kind_c component_c element_c repeat_c table_c version_c spec_c instances_c source_c value_c element_plan_c segment_plan_c loop_plan_c item_c layout_c envelope_c values_c column_c table_data_c
listing_decodes = refl

pub listing_passes : refusal_of listing_bytes ≡ 0
unfolding refusal_of refusal_in job_of decode broken spoilt encode framed le le_c unit_c dep_c map_c when_c enum_c ◌⊕◌ end_c list_c opt_c flag_c num_map_c bytes_map_c usage_c counted_c control_c loop_c kind_c component_c element_c repeat_c table_c version_c spec_c instances_c source_c value_c element_plan_c segment_plan_c loop_plan_c item_c layout_c envelope_c values_c column_c table_data_c over over_spec over_data any any_of if_some large over_control over_loop over_component over_element over_segment over_step over_table over_version over_element_plan over_segment_plan over_loop_plan over_table_data rows_of_all tangled tangled_loops outside_loop outside_table outside_order outside loops_in disagrees not_parent not_child ringed misrooted misordered up any_from present times_in member_of repeats times unfit unfit_spec unfit_envelope unfit_table_data unfit_reference unfit_column scale unfit_version unfit_segment unfit_element unfit_component unfit_loop foreign unnamed identifier separators textual digit upper all_of
listing_passes = refl

pub refuses_1 : map refusal_of wrong_trailer ≡ replicate 6 1
unfolding refusal_of refusal_in job_of decode broken spoilt encode framed le le_c unit_c dep_c map_c when_c enum_c ◌⊕◌ end_c list_c opt_c flag_c num_map_c bytes_map_c usage_c counted_c control_c loop_c kind_c component_c element_c repeat_c table_c version_c spec_c instances_c source_c value_c element_plan_c segment_plan_c loop_plan_c item_c layout_c envelope_c values_c column_c table_data_c over over_spec over_data any any_of if_some large over_control over_loop over_component over_element over_segment over_step over_table over_version over_element_plan over_segment_plan over_loop_plan over_table_data rows_of_all tangled tangled_loops outside_loop outside_table outside_order outside loops_in disagrees not_parent not_child ringed misrooted misordered up any_from present times_in member_of repeats times unfit unfit_spec unfit_envelope unfit_table_data unfit_reference unfit_column scale unfit_version unfit_segment unfit_element unfit_component unfit_loop foreign unnamed identifier separators textual digit upper all_of
refuses_1 = refl

pub refuses_2 : map refusal_of wrong_structure ≡ replicate 4 2
unfolding refusal_of refusal_in job_of decode broken spoilt encode framed le le_c unit_c dep_c map_c when_c enum_c ◌⊕◌ end_c list_c opt_c flag_c num_map_c bytes_map_c usage_c counted_c control_c loop_c kind_c component_c element_c repeat_c table_c version_c spec_c instances_c source_c value_c element_plan_c segment_plan_c loop_plan_c item_c layout_c envelope_c values_c column_c table_data_c over over_spec over_data any any_of if_some large over_control over_loop over_component over_element over_segment over_step over_table over_version over_element_plan over_segment_plan over_loop_plan over_table_data rows_of_all tangled tangled_loops outside_loop outside_table outside_order outside loops_in disagrees not_parent not_child ringed misrooted misordered up any_from present times_in member_of repeats times unfit unfit_spec unfit_envelope unfit_table_data unfit_reference unfit_column scale unfit_version unfit_segment unfit_element unfit_component unfit_loop foreign unnamed identifier separators textual digit upper all_of
refuses_2 = refl

pub refuses_3 : map refusal_in past_limits ≡ replicate 12 3
unfolding refusal_in over over_spec over_data any any_of if_some large over_control over_loop over_component over_element over_segment over_step over_table over_version over_element_plan over_segment_plan over_loop_plan over_table_data rows_of_all tangled tangled_loops outside_loop outside_table outside_order outside loops_in disagrees not_parent not_child ringed misrooted misordered up any_from present times_in member_of repeats times unfit unfit_spec unfit_envelope unfit_table_data unfit_reference unfit_column scale unfit_version unfit_segment unfit_element unfit_component unfit_loop foreign unnamed identifier separators textual digit upper all_of
refuses_3 = refl

pub refuses_4 : map refusal_in wrong_loops ≡ replicate 15 4
unfolding refusal_in over over_spec over_data any any_of if_some large over_control over_loop over_component over_element over_segment over_step over_table over_version over_element_plan over_segment_plan over_loop_plan over_table_data rows_of_all tangled tangled_loops outside_loop outside_table outside_order outside loops_in disagrees not_parent not_child ringed misrooted misordered up any_from present times_in member_of repeats times unfit unfit_spec unfit_envelope unfit_table_data unfit_reference unfit_column scale unfit_version unfit_segment unfit_element unfit_component unfit_loop foreign unnamed identifier separators textual digit upper all_of
refuses_4 = refl

pub refuses_5 : map refusal_in wrong_texts ≡ replicate 16 5
unfolding refusal_in over over_spec over_data any any_of if_some large over_control over_loop over_component over_element over_segment over_step over_table over_version over_element_plan over_segment_plan over_loop_plan over_table_data rows_of_all tangled tangled_loops outside_loop outside_table outside_order outside loops_in disagrees not_parent not_child ringed misrooted misordered up any_from present times_in member_of repeats times unfit unfit_spec unfit_envelope unfit_table_data unfit_reference unfit_column scale unfit_version unfit_segment unfit_element unfit_component unfit_loop foreign unnamed identifier separators textual digit upper all_of
refuses_5 = refl

pub passes : map refusal_in at_limits ≡ replicate 6 0
unfolding refusal_in over over_spec over_data any any_of if_some large over_control over_loop over_component over_element over_segment over_step over_table over_version over_element_plan over_segment_plan over_loop_plan over_table_data rows_of_all tangled tangled_loops outside_loop outside_table outside_order outside loops_in disagrees not_parent not_child ringed misrooted misordered up any_from present times_in member_of repeats times unfit unfit_spec unfit_envelope unfit_table_data unfit_reference unfit_column scale unfit_version unfit_segment unfit_element unfit_component unfit_loop foreign unnamed identifier separators textual digit upper all_of
passes = refl
