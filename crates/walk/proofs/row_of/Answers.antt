use mathlib.Core.Path.{◌≡◌, ◌∙◌}
use native.Mathlib.Omega.{arith}
use lib.ListN.{length}
use borrow.Author.Rules.{rules}
use Rattle.walk.proofs.ContextLaws.{row_kept, row_past}
use Rattle.walk.proofs.row_of.Goals as goal

pub returns-then-t-lt16 : goal.returns-then-t-lt16
returns-then-t-lt16 c = c.row_in.ensures ∙ row_kept _ _

pub returns-else-t-lt16 : goal.returns-else-t-lt16
returns-else-t-lt16 c = let w : length c.args.c.rows ≡ 16 = search rules in row_past _ _ (omega (arith, w, c.if-t-lt16.false))
