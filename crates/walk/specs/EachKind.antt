-- One job with each kind of loop but `Absent`, a repeat table with two anchors, and a closer: what nest and the walk make of it, by computation
-- (docs/RULES.md, "Instances"). The Rust's `nest` and `walk`, run on this job under the control flow of `emit`, give the same findings, places and steps.
use Rattle.std.specs.Prelude.{ℕ, ◌≡◌, true, false, List, [], ◌∷◌, get_or, eqb, Option, None, Some}
use Rattle.nest.specs.Outline.{Outline, Loop, envelope, implied, rows, inside, groups, of_envelope, of_row, of_repeat, segment, loop}
use Rattle.nest.specs.Nest.{nest_array}
use Rattle.nest.specs.Finding.{missing, mismatch}
use Rattle.nest.specs.NestFindings.{nest_findings}
use Rattle.nest.specs.Example.{cells}
use Rattle.walk.specs.Tour.{enters, stop, opener, row_segment, fill, chunk, closer, tour}
use Rattle.walk.specs.Check.{complete_ok}

abbrev pub under : Option ℕ → List ℕ → Loop
under p ks = record { parent = p; children = ks; occurrences = 2; required = false; ends = false; controlled = false }

-- Loop 0 is an envelope with opener and closer; loop 1 groups the rows of table 0, which loop 2 enters; loop 3 stands inside a row of table 0, loop 4 is implied by
-- loop 5, which enters the rows of table 1. Table 2 repeats in loops 2 and 5, two rows a segment.
abbrev pub kinds : Outline
kinds = record {
  loops = record { parent = None; children = 1 ∷ []; occurrences = 2; required = false; ends = true; controlled = true }
      ∷ under (Some 0) (2 ∷ []) ∷ under (Some 1) (3 ∷ 4 ∷ []) ∷ under (Some 2) [] ∷ under (Some 2) (5 ∷ []) ∷ under (Some 4) [] ∷ [];
  roots = 0 ∷ [];
  tables = record { loops = 2 ∷ []; repeats = false; parent = None; ancestors = [] }
      ∷ record { loops = 5 ∷ []; repeats = false; parent = Some 0; ancestors = 0 ∷ [] }
      ∷ record { loops = 2 ∷ 5 ∷ []; repeats = true; parent = None; ancestors = 0 ∷ 1 ∷ [] } ∷ [];
  plan = record { instances = envelope; segments = record { occurrence = 0; source = of_envelope } ∷ [] }
      ∷ record { instances = groups 0; segments = [] }
      ∷ record { instances = rows 0; segments = record { occurrence = 0; source = of_row 0 } ∷ record { occurrence = 1; source = of_repeat 2 } ∷ [] }
      ∷ record { instances = inside 0; segments = record { occurrence = 0; source = of_row 0 } ∷ [] }
      ∷ record { instances = implied; segments = [] }
      ∷ record { instances = rows 1; segments = record { occurrence = 0; source = of_row 1 } ∷ record { occurrence = 1; source = of_repeat 2 } ∷ [] } ∷ [];
  order = (segment 0 ∷ loop 1 ∷ []) ∷ (loop 2 ∷ []) ∷ (segment 0 ∷ segment 1 ∷ loop 3 ∷ loop 4 ∷ []) ∷ (segment 0 ∷ []) ∷ (loop 5 ∷ []) ∷ (segment 0 ∷ segment 1 ∷ []) ∷ [];
  row_counts = 3 ∷ 2 ∷ 6 ∷ [];
  key = cells ((10 ∷ 11 ∷ 12 ∷ []) ∷ (0 ∷ 1 ∷ []) ∷ (0 ∷ 1 ∷ 2 ∷ 3 ∷ 4 ∷ 5 ∷ []) ∷ []) 0;
  reference = λ t u r.
      cells (
      cells (
      []
      ∷ ((Some 10 ∷ Some 12 ∷ []) ∷ [])
      ∷ ((Some 12 ∷ Some 10 ∷ Some 10 ∷ Some 10 ∷ Some 11 ∷ None ∷ []) ∷ (Some 0 ∷ None ∷ None ∷ None ∷ None ∷ None ∷ []) ∷ [])
      ∷ []
      ) [] t u
      ∷ []
      ) None 0 r;
  same_group = λ l a b. eqb (get_or (0 ∷ 0 ∷ 1 ∷ []) a 0) (get_or (0 ∷ 0 ∷ 1 ∷ []) b 0);
  same_chunk = λ l i a b. true;
  capacity = λ t. get_or (1 ∷ 1 ∷ 2 ∷ []) t 1;
  forced = λ l i. eqb l 2;
  filled = λ l i t r. cells ([] ∷ [] ∷ [] ∷ (false ∷ true ∷ false ∷ []) ∷ [] ∷ (true ∷ false ∷ []) ∷ []) false l r;
}

pub record EachKind : Type 0 where
  -- row 0 of table 2 goes by its reference to table 1, the deeper anchor, and refers to another row of table 0 than the row that it hangs on; row 5 has
  -- no reference
  pub findings : nest_findings kinds ≡ mismatch 2 0 0 12 1 0 10 ∷ missing 2 5 0 None ∷ []
  -- where each row hangs
  pub places : nest_array kinds
      ≡ 0 ∷ 0 ∷ 0 ∷ 0 ∷ 0 ∷ 0 ∷ 0 ∷ 0 ∷ 0 ∷ 1 ∷ 0 ∷ 0 ∷ 3 ∷ 0 ∷ 0 ∷ 1 ∷ 5 ∷ 1 ∷ 1 ∷ 2 ∷ 0 ∷ 1 ∷ 2 ∷ 0 ∷ 1 ∷ 2 ∷ 0 ∷ 2 ∷ 2 ∷ 0 ∷ 0 ∷ 0 ∷ 0 ∷ []
  -- the walk
  pub steps : tour kinds
      ≡ enters 0 ∷ opener 0
      ∷ enters 1 ∷ enters 2 ∷ stop 2 0 0 ∷ row_segment 2 0 0 0 ∷ stop 2 2 1 ∷ fill 2 1 2 0 1 ∷ stop 2 2 2 ∷ fill 2 1 2 1 2 ∷ chunk 2 1 2 (1 ∷ 2 ∷ []) ∷ stop 2 2 3 ∷ fill 2 1 2 0 3 ∷ chunk 2 1 2 (3 ∷ [])
      ∷ enters 4 ∷ enters 5 ∷ stop 5 1 0 ∷ row_segment 5 0 1 0 ∷ stop 5 2 0 ∷ fill 5 1 2 0 0 ∷ chunk 5 1 2 (0 ∷ [])
      ∷ enters 2 ∷ stop 2 0 1 ∷ row_segment 2 0 0 1 ∷ stop 2 2 4 ∷ fill 2 1 2 0 4 ∷ chunk 2 1 2 (4 ∷ []) ∷ enters 3 ∷ row_segment 3 0 0 1
      ∷ enters 1 ∷ enters 2 ∷ stop 2 0 2 ∷ row_segment 2 0 0 2 ∷ enters 4 ∷ enters 5 ∷ stop 5 1 1
      ∷ closer 0 true 2 11 ∷ []
  -- the plan is complete
  pub complete : complete_ok kinds ≡ true
