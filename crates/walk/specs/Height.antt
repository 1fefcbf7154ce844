-- A law of the walk: as many levels as there are loops are enough (docs/RULES.md, "The walk").
use Rattle.std.specs.Prelude.{ℕ, ◌+◌, ◌<◌, ◌≡◌, length}
use Rattle.nest.specs.Outline.{Outline}
use Rattle.walk.specs.Instances.{has_data}
use Rattle.walk.specs.Tour.{tour_to, tour}
use Rattle.walk.specs.Complete.{Tree}

pub record HeightEnough : Type 0 where
  -- more levels change nothing of the walk
  pub walk : (j : Outline) → Tree j → (n : ℕ) → tour_to j (length j.loops + n) ≡ tour j
  -- nor of the data that is found below a loop
  pub data-below : (j : Outline) → Tree j → (t r l n : ℕ) → l < length j.loops → has_data j (length j.loops + n) l t r ≡ has_data j (length j.loops) l t r
