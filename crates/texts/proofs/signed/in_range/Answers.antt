use Rattle.std.proofs.Common.{◌∙◌, ap}
use Rattle.texts.specs.Ranged.{ranged_of}
use Rattle.texts.proofs.Ranges.{no_u32, u32_is, contained}
use Rattle.texts.proofs.signed.in_range.Goals as goal

pub returns-in_err-n : goal.returns-in_err-n
returns-in_err-n c = c.from_residual.ensures ∙ no_u32 _ _ _ _ c.ranges.d c.try_from.ensures c.in_err-n.ensures.variant

pub returns : goal.returns
returns c =
    let a = c.args in
    let r = c.new.ensures in
    c.then_some.ensures ∙ contained _ _ _ _ _ r.start r.end r.exhausted c.contains.ensures.value ∙ ap (ranged_of a.low a.high) (u32_is _ _ _ c.ranges.d c.try_from.ensures c.in_ok-n.ensures.value)
