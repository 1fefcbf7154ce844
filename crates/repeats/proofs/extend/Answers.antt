use native.Mathlib.Omega.{arith}
use Rattle.repeats.proofs.Adding.{row_joins}
use Rattle.repeats.proofs.extend.Goals as goal

pub returns : goal.returns
returns c = λ d g hd hg. row_joins _ _ _ _ _ _ _ _ (omega (arith, c.requires.3.fits, c.requires.3.few, c.requires.3.space)) c.add_row-n.ensures.1 (c.add_row-n.ensures.0 d g hd hg)
