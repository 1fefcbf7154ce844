use Rattle.paths.proofs.Answers.{up_yes, up_no, up_end}
use Rattle.paths.proofs.up.fits.Goals as goal

pub returns-in-Top : goal.returns-in-Top
returns-in-Top c = up_yes _ _ _ _ _ _ _ _ c.loop-i.invariant _ c.loop-i-test.true c.step_up.ensures c.in-Top.is

pub returns-in-No : goal.returns-in-No
returns-in-No c = up_no _ _ _ _ _ _ _ _ c.loop-i.invariant _ c.loop-i-test.true c.step_up.ensures c.in-No.is

pub returns : goal.returns
returns c = up_end _ _ _ _ _ _ _ _ c.loop-i.invariant c.loop-i-test.false
