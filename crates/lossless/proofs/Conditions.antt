-- What the walk's laws ask of a plan, from the conditions of a complete one and the tree that the loops are, and back.
use mathlib.Core.Path.{sym, ◌∙◌}
use Rattle.format.specs.Job.{Job}
use Rattle.nest.specs.OfJob.{outline_of}
use Rattle.nest.proofs.Bridge.{loop_count_is, plan_count_is, order_count_is}
use Rattle.walk.specs.Complete.{Tree, Complete}
use Rattle.complete.specs.Complete.{RowLoops, Entries, EntriesAndOrders, AboveRowLoop, RepeatLoops, Places, CompletePlan}

pub walk_complete : (j : Job) → Tree (outline_of j) → CompletePlan j → Complete (outline_of j)
walk_complete j T C =
    let a = C.row_loops in
    let b = C.entries_and_orders in
    let c = C.above_row_loop in
    let d = C.repeat_loops in
    record {
      tree = T;
      row_loop = a.row_loop;
      rows_plain = a.rows_plain;
      groups_plain = a.groups_plain;
      plan_entries = plan_count_is j ∙ b.entries.plan ∙ sym (loop_count_is j);
      order_entries = order_count_is j ∙ b.entries.order ∙ sym (loop_count_is j);
      order_loops = b.order_loops;
      order_segments = b.order_segments;
      occurrences = b.occurrences;
      parents_plain = b.parents_plain;
      above_kinds = c.kinds;
      above_only = c.only_parents;
      above_all = c.all_parents;
      groups_end = c.groups_end;
      repeat_planned = d.planned;
      no_other_repeat = d.no_other;
    }

-- the walk's conditions with the rest of the entries and with the places
pub plan_complete : (j : Job) → Complete (outline_of j) → Entries j → Places j → CompletePlan j
plan_complete j C e f = record {
  row_loops = record { row_loop = C.row_loop; rows_plain = C.rows_plain; groups_plain = C.groups_plain };
  entries_and_orders = record { entries = e; order_loops = C.order_loops; order_segments = C.order_segments; occurrences = C.occurrences; parents_plain = C.parents_plain };
  above_row_loop = record { kinds = C.above_kinds; only_parents = C.above_only; all_parents = C.above_all; groups_end = C.groups_end };
  repeat_loops = record { planned = C.repeat_planned; no_other = C.no_other_repeat };
  places = f;
}
