use Rattle.column.specs.Answers.{cell_at}
use Rattle.emit.specs.Puts.{cell_text}
use Rattle.emit.specs.Written.{tried}
use Rattle.emit.proofs.FindingLaws.{none_found}
use Rattle.repeat_segment.proofs.FillLaws.{own_quiet}
use mathlib.Core.Path.{refl}
use native.Mathlib.Omega.{arith}
use Rattle.repeat_segment.proofs.fill.quiet.Goals as goal

pub returns-in-None : goal.returns-in-None
unfolding cell_text cell_at
returns-in-None c = λ o p max e. let a = c.args in own_quiet a.job.now a.cell max (tried a.d) c.requires.0.fit c.requires.1 (rw c.in-None.is refl) (rw c.in-None.is (omega arith)) o p

pub returns-in-Null : goal.returns-in-Null
unfolding cell_text cell_at
returns-in-Null c = λ o p max e. let a = c.args in own_quiet a.job.now a.cell max (tried a.d) c.requires.0.fit c.requires.1 (rw c.in-Null.is refl) (rw c.in-Null.is (omega arith)) o p

pub returns-else-stretch_holds : goal.returns-else-stretch_holds
unfolding cell_text cell_at
returns-else-stretch_holds c = λ o p max e. rw c.in-Bytes.is (none_found o p 0 _ _ (omega arith) (c.stretch_holds.ensures o p c.if-stretch_holds.false))

pub returns-in-Int : goal.returns-in-Int
unfolding cell_text cell_at
returns-in-Int c = λ o p max e. let a = c.args in own_quiet a.job.now a.cell max (tried a.d) c.requires.0.fit c.requires.1 (rw c.in-Int.is refl) (rw c.in-Int.is (omega arith)) o p

pub returns-in-Wide : goal.returns-in-Wide
unfolding cell_text cell_at
returns-in-Wide c = λ o p max e. let a = c.args in own_quiet a.job.now a.cell max (tried a.d) c.requires.0.fit c.requires.1 (rw c.in-Wide.is refl) (rw c.in-Wide.is (omega arith)) o p
