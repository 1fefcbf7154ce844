use Rattle.std.proofs.Common.{rules}
use Rattle.format.specs.Plan.{ElementPlan}
use Rattle.places.specs.Spots.{clash, kind_by, room_by, spot_of, step_by}
use Rattle.places.proofs.Reading.{spot_alone, spot_then}
use Rattle.places.proofs.spots.spot_fails.Goals as goal

pub returns-then-spot_wrong : goal.returns-then-spot_wrong
returns-then-spot_wrong c = spot_alone _ _ _ _ _ _ _ _ _ _ c.spot_at-x.ensures c.spot_wrong.ensures c.if-spot_wrong.true

pub returns-else-spot_wrong : goal.returns-else-spot_wrong
returns-else-spot_wrong c = spot_then _ _ _ _ _ _ _ _ _ _ c.spot_at-x.ensures c.spot_wrong.ensures c.if-spot_wrong.false _
    (c.any_rest.ensures.says (λ (e : ElementPlan). clash (kind_by c.args.filled) (step_by c.args.filled) c.spot_at-x.result (spot_of (room_by c.args.filled) e)) (λ p r h q. search rules))
