-- The job of docs/RULES.md, "The listing": a complete plan; its steps. A row that lacks its parent (row 1 of table 1) has no stop, and the segment of
-- row 2 of table 1, whose cell is null, is skipped.
use mathlib.Core.Path.{◌≡◌, refl}
use mathlib.Core.Bool.{true}
use mathlib.Core.List.{[], ◌∷◌}
use Rattle.nest.specs.Outline.{loop_of, plan_of, table_of, parent_of, kind_of, order_of, segment_of, has_occurrence, table_parent, row_count, plain, repeated}
use Rattle.nest.specs.Nest.{has_keys, first_row, referred, held}
use Rattle.nest.specs.Example.{listing}
use Rattle.walk.specs.Instances.{held_in, rows_in, by_kind, instances}
use Rattle.walk.specs.Tour.{enters, stop, row_segment, segments_in, enters_in, stops_in, stop_list, due_list, due_row, segment_steps, body_steps, opened, children, close_steps, instance_steps, visits, tour_to, tour, census}
use Rattle.walk.specs.Complete.{climbs, is_root}
use Rattle.walk.specs.Check.{fits, tree_tests, plan_tests, complete_ok}
use Rattle.walk.specs.Example.{at, ExampleWalked}

steps : tour listing
    ≡ enters 0 ∷ stop 0 0 0 ∷ row_segment 0 0 0 0 ∷ enters 1 ∷ stop 1 1 0 ∷ row_segment 1 0 1 0 ∷ enters 1 ∷ stop 1 1 2 ∷ enters 0 ∷ stop 0 0 1 ∷ row_segment 0 0 0 1 ∷ []
unfolding has_keys first_row referred held held_in rows_in by_kind instances due_row segment_steps body_steps opened children close_steps instance_steps visits tour_to loop_of plan_of table_of parent_of kind_of order_of segment_of has_occurrence table_parent row_count plain repeated
steps = refl

-- three segments, four stops, four instances
sizes : (segments_in (tour listing) ≡ 3) × (stops_in (tour listing) ≡ 4) × (census listing ≡ 4)
unfolding segments_in stops_in enters_in census
sizes = rw steps (refl, refl, refl)

-- R 0 0 0, R 1 1 0, R 1 1 2, R 0 0 1
stops : stop_list (tour listing) ≡ at 0 0 0 ∷ at 1 1 0 ∷ at 1 1 2 ∷ at 0 0 1 ∷ []
unfolding stop_list
stops = rw steps

segments : due_list (tour listing) ≡ row_segment 0 0 0 0 ∷ row_segment 1 0 1 0 ∷ row_segment 0 0 0 1 ∷ []
unfolding due_list
segments = rw steps

complete : complete_ok listing ≡ true
unfolding complete_ok tree_tests plan_tests fits climbs is_root loop_of plan_of table_of parent_of kind_of order_of segment_of table_parent plain repeated
complete = refl

pub walked : ExampleWalked
walked = record { steps = steps; segments = sizes.0; stops = sizes.1; entered = sizes.2; stopped = stops; due = segments; complete = complete }
