use mathlib.Core.Path.{sym, ◌∙◌}
use native.Mathlib.Omega.{arith}
use Rattle.instances.proofs.Stretches.{climbs}
use Rattle.instances.proofs.stretch.narrowed.Goals as goal

pub stretch-requires : goal.stretch-requires
stretch-requires c = (c.requires.0.inner, climbs c.args.nest.nested _ c.requires.0 c.requires.1 (sym c.rises.ensures ∙ c.if-rises.true), omega (arith, c.if-cur-gt0.true))
