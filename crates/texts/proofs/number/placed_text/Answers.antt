use Rattle.texts.proofs.Passes.{text_plain, text_pointed, minus_short}
use Rattle.texts.proofs.number.placed_text.Goals as goal

pub returns-then-low-scale : goal.returns-then-low-scale
returns-then-low-scale c =
    text_plain _ _ _ _ _ _ _ _ c.places_of-p.ensures c.first_filled-low.ensures c.requires (minus_short c.args.negative) c.max-top.ensures
    c.sign.ensures.0 c.with_places-whole.ensures.0 c.if-low-scale.true

pub returns : goal.returns
returns c =
    text_pointed _ _ _ _ _ _ _ _ c.places_of-p.ensures c.first_filled-low.ensures c.requires (minus_short c.args.negative) c.max-top.ensures
    c.sign.ensures.0 c.with_places-whole.ensures.0 _ _ c.if-low-scale.false c.with.ensures.0 c.with_places.ensures.0
