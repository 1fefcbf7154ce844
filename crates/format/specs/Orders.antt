-- Not to be believed: words of inner contracts, beside those of Ask, on which no contract of what users call rests.
use Rattle.std.specs.Prelude.{ℕ, List, [], get_or}
use Rattle.format.specs.Layout.{Item}
use Rattle.format.specs.Job.{Job}

-- ---- the plan and the layout

unfoldable pub order_of : Job → ℕ → List Item
order_of j l = get_or j.layout.order l []
