use Rattle.format.proofs.Fields.{is_element}
use Rattle.codec.proofs.Field.{is_at, stands_at}
use Rattle.spec.proofs.segments.element_min.Goals as goal

pub number_at-requires : goal.number_at-requires
number_at-requires c = stands_at _ _ _ _ _ _ c.ends_at-min.ensures c.args.s.within c.requires.min

pub returns : goal.returns
returns c = λ d h. c.number_at.ensures _ _ (is_at _ _ _ _ _ _ c.ends_at-min.ensures (is_element _ _ _ d h).min)
