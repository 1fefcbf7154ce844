use Rattle.std.proofs.Common.{[], ◌∙◌, arith}
use Rattle.texts.specs.DateText.{two}
use Rattle.texts.proofs.Texts.{len_is}
use Rattle.texts.proofs.Rendered.{paired}
use Rattle.texts.proofs.Text.four.Goals as goal

pub pair-requires : goal.pair-requires
pair-requires c = (omega (arith, len_is _ [] c.empty.ensures), c.requires.0)

pub pair-requires-2 : goal.pair-requires-2
pair-requires-2 c = (omega (arith, len_is _ (two c.args.a) (c.pair.ensures ∙ paired _ [] _ c.empty.ensures (omega arith))), c.requires.1)

pub returns : goal.returns
returns c = c.pair-2.ensures ∙ paired _ (two c.args.a) _ (c.pair.ensures ∙ paired _ [] _ c.empty.ensures (omega arith)) (omega arith)
