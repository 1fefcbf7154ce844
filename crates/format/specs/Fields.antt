-- Not to be believed: words of inner contracts, on which no contract of what users call rests.
-- From a structure to its fields: where each stands, and that what stands there is the field. One record of laws for each structure.
use Rattle.std.specs.Prelude.{ℕ, List}
use Rattle.codec.specs.Codec.{list_c}
use Rattle.codec.specs.Forms.{num_c, byte_c, long_c, bytes_c, opt_c, flag_c}
use Rattle.codec.specs.Maps.{bytes_map_c}
use Rattle.codec.specs.Skip.{skip}
use Rattle.format.specs.Spec.{control_c, loop_c, repeat_c, usage_c, kind_c, segment_c}
use Rattle.format.specs.Layout.{item_c}

abbrev pub loop_trigger : List ℕ → ℕ → ℕ → ℕ
loop_trigger b e at = skip (opt_c num_c) b at e

abbrev pub loop_occurrences : List ℕ → ℕ → ℕ → ℕ
loop_occurrences b e at = skip bytes_c b (loop_trigger b e at) e

abbrev pub loop_usage : List ℕ → ℕ → ℕ → ℕ
loop_usage b e at = skip (list_c bytes_c) b (loop_occurrences b e at) e

abbrev pub loop_end : List ℕ → ℕ → ℕ → ℕ
loop_end b e at = skip usage_c b (loop_usage b e at) e

abbrev pub loop_control : List ℕ → ℕ → ℕ → ℕ
loop_control b e at = skip (opt_c bytes_c) b (loop_end b e at) e

abbrev pub loop_children : List ℕ → ℕ → ℕ → ℕ
loop_children b e at = skip (opt_c control_c) b (loop_control b e at) e

abbrev pub element_min : List ℕ → ℕ → ℕ → ℕ
element_min b e at = skip kind_c b at e

abbrev pub element_max : List ℕ → ℕ → ℕ → ℕ
element_max b e at = skip (opt_c num_c) b (element_min b e at) e

abbrev pub element_components : List ℕ → ℕ → ℕ → ℕ
element_components b e at = skip (opt_c num_c) b (element_max b e at) e

abbrev pub table_segment : List ℕ → ℕ → ℕ → ℕ
table_segment b e at = skip (list_c num_c) b at e

abbrev pub table_repeat : List ℕ → ℕ → ℕ → ℕ
table_repeat b e at = skip flag_c b (table_segment b e at) e

abbrev pub table_columns : List ℕ → ℕ → ℕ → ℕ
table_columns b e at = skip (opt_c repeat_c) b (table_repeat b e at) e

abbrev pub table_parent : List ℕ → ℕ → ℕ → ℕ
table_parent b e at = skip num_c b (table_columns b e at) e

abbrev pub table_ancestors : List ℕ → ℕ → ℕ → ℕ
table_ancestors b e at = skip (opt_c num_c) b (table_parent b e at) e

abbrev pub spec_roots : List ℕ → ℕ → ℕ → ℕ
spec_roots b e at = skip (list_c loop_c) b at e

abbrev pub spec_segments : List ℕ → ℕ → ℕ → ℕ
spec_segments b e at = skip (list_c num_c) b (spec_roots b e at) e

abbrev pub spec_tables : List ℕ → ℕ → ℕ → ℕ
spec_tables b e at = skip (bytes_map_c segment_c) b (spec_segments b e at) e

abbrev pub layout_forced : List ℕ → ℕ → ℕ → ℕ
layout_forced b e at = skip (list_c (list_c item_c)) b at e

abbrev pub layout_group_columns : List ℕ → ℕ → ℕ → ℕ
layout_group_columns b e at = skip (list_c (list_c flag_c)) b (layout_forced b e at) e

abbrev pub layout_depth : List ℕ → ℕ → ℕ → ℕ
layout_depth b e at = skip (list_c (list_c num_c)) b (layout_group_columns b e at) e

abbrev pub layout_capacity : List ℕ → ℕ → ℕ → ℕ
layout_capacity b e at = skip (list_c (opt_c num_c)) b (layout_depth b e at) e

abbrev pub envelope_sender_id : List ℕ → ℕ → ℕ → ℕ
envelope_sender_id b e at = skip bytes_c b at e

abbrev pub envelope_receiver_qualifier : List ℕ → ℕ → ℕ → ℕ
envelope_receiver_qualifier b e at = skip bytes_c b (envelope_sender_id b e at) e

abbrev pub envelope_receiver_id : List ℕ → ℕ → ℕ → ℕ
envelope_receiver_id b e at = skip bytes_c b (envelope_receiver_qualifier b e at) e

abbrev pub envelope_application_sender : List ℕ → ℕ → ℕ → ℕ
envelope_application_sender b e at = skip bytes_c b (envelope_receiver_id b e at) e

abbrev pub envelope_application_receiver : List ℕ → ℕ → ℕ → ℕ
envelope_application_receiver b e at = skip (opt_c bytes_c) b (envelope_application_sender b e at) e

abbrev pub envelope_date : List ℕ → ℕ → ℕ → ℕ
envelope_date b e at = skip (opt_c bytes_c) b (envelope_application_receiver b e at) e

abbrev pub envelope_time : List ℕ → ℕ → ℕ → ℕ
envelope_time b e at = skip num_c b (envelope_date b e at) e

abbrev pub envelope_usage_indicator : List ℕ → ℕ → ℕ → ℕ
envelope_usage_indicator b e at = skip num_c b (envelope_time b e at) e

abbrev pub envelope_control_number : List ℕ → ℕ → ℕ → ℕ
envelope_control_number b e at = skip bytes_c b (envelope_usage_indicator b e at) e

abbrev pub envelope_element : List ℕ → ℕ → ℕ → ℕ
envelope_element b e at = skip long_c b (envelope_control_number b e at) e

abbrev pub envelope_component : List ℕ → ℕ → ℕ → ℕ
envelope_component b e at = skip byte_c b (envelope_element b e at) e

abbrev pub envelope_segment : List ℕ → ℕ → ℕ → ℕ
envelope_segment b e at = skip byte_c b (envelope_component b e at) e

abbrev pub envelope_repetition : List ℕ → ℕ → ℕ → ℕ
envelope_repetition b e at = skip byte_c b (envelope_segment b e at) e

abbrev pub envelope_line_break : List ℕ → ℕ → ℕ → ℕ
envelope_line_break b e at = skip (opt_c byte_c) b (envelope_repetition b e at) e
