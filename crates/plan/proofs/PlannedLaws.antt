-- Laws of the definitions of specs/Planned, and words that only proofs use.
use mathlib.Core.Path.{refl}
use Rattle.std.specs.Prelude.{ℕ, ◌+◌, ◌*◌, ◌<◌, List}
use Rattle.codec.specs.Field.{Stands}
use Rattle.codec.proofs.Field.{stands_at}
use Rattle.format.specs.Layout.{item_c}
use Rattle.plan.specs.declared.answers.Order.{Order}
use Rattle.plan.specs.Planned.{OrderIs}

-- an item that it counts stands there
pub order_stands : {b : List ℕ} {l k : ℕ} {r : Order} → OrderIs b l r → k < r.count → Stands item_c b (r.first + k * 5)
order_stands {b} o h = stands_at item_c b _ _ _ _ refl o.within (o.item _ h)
