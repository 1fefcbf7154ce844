use mathlib.Core.Path.{refl}
use Rattle.spec.proofs.Found.{sized_max, element_max_at, component_max_at}
use Rattle.codec.proofs.Field.{stands_at}
use Rattle.spec.proofs.segments.max_at.Goals as goal

pub number_at-requires : goal.number_at-requires
number_at-requires c = stands_at _ _ _ _ _ _ refl c.args.s.within (sized_max _ _ _ _ _ c.ends_at-min.ensures c.opt_num_at-max.ensures c.requires)

pub returns : goal.returns
returns c = record {
  element = λ d h. c.number_at.ensures _ _ (element_max_at _ _ _ _ _ c.ends_at-min.ensures c.opt_num_at-max.ensures d h);
  component = λ d h. c.number_at.ensures _ _ (component_max_at _ _ _ _ _ c.ends_at-min.ensures c.opt_num_at-max.ensures d h);
}
