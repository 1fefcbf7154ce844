-- Laws of the definitions of specs/Went, and words that only proofs use.
use Rattle.std.specs.Prelude.{ℕ, List, length}
use Rattle.nest.specs.Outline.{Item, segment, loop}
use Rattle.walk.specs.Instances.{Context}

-- how many child instances an item gives
abbrev pub item_count : (ℕ → Context → List Context) → Context → Item → ℕ
item_count inner c (segment i) = 0
item_count inner c (loop k) = length (inner k c)
