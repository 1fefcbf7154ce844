use mathlib.Core.Path.{ap, ◌∙◌}
use Rattle.std.specs.Prelude.{Some}
use Rattle.std.specs.Option.{option_eq}
use lib.Dec.{eqb}
use Rattle.walk.proofs.OutlineLaws.{parent_eq}
use Rattle.walk.proofs.outline.parent_is.Goals as goal

pub returns : goal.returns
returns c = c.eq.ensures ∙ ap (λ x. option_eq eqb x (Some c.args.u.0)) c.table_parent.ensures ∙ parent_eq _ _ _
