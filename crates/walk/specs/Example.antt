-- The walk of a small job, by computation (docs/RULES.md, "The walk").
use Rattle.std.specs.Prelude.{ℕ, ◌≡◌, true, [], ◌∷◌}
use Rattle.nest.specs.Example.{listing}
use Rattle.walk.specs.Tour.{enters, stop, row_segment, segments_in, stops_in, Stop, stop_list, due_list, tour, census}
use Rattle.walk.specs.Check.{complete_ok}

abbrev pub at : ℕ → ℕ → ℕ → Stop
at l t r = record { loop = l; table = t; row = r }

pub record ExampleWalked : Type 0 where
  -- its steps: row 1 of table 1 lacks its parent and has no stop, and the segment of row 2, whose cell is null, is skipped
  pub steps : tour listing
      ≡ enters 0 ∷ stop 0 0 0 ∷ row_segment 0 0 0 0 ∷ enters 1 ∷ stop 1 1 0 ∷ row_segment 1 0 1 0 ∷ enters 1 ∷ stop 1 1 2 ∷ enters 0 ∷ stop 0 0 1 ∷ row_segment 0 0 0 1 ∷ []
  -- three segments, four stops, four instances
  pub segments : segments_in (tour listing) ≡ 3
  pub stops : stops_in (tour listing) ≡ 4
  pub entered : census listing ≡ 4
  -- the stops and the segments that are due, in order
  pub stopped : stop_list (tour listing) ≡ at 0 0 0 ∷ at 1 1 0 ∷ at 1 1 2 ∷ at 0 0 1 ∷ []
  pub due : due_list (tour listing) ≡ row_segment 0 0 0 0 ∷ row_segment 1 0 1 0 ∷ row_segment 0 0 0 1 ∷ []
  -- the plan is complete
  pub complete : complete_ok listing ≡ true
