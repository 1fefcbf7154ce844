use Rattle.std.proofs.Common.{◌++◌, ◌∙◌, arith}
use Rattle.texts.specs.DateText.{two}
use Rattle.texts.proofs.Texts.{len_is}
use Rattle.texts.proofs.Rendered.{paired}
use Rattle.texts.proofs.Text.six.Goals as goal

pub pair-requires : goal.pair-requires
pair-requires c = let a = c.args in (omega (arith, len_is _ (two a.a ++ two a.b) c.four.ensures), c.requires.2)

pub returns : goal.returns
returns c = let a = c.args in c.pair.ensures ∙ paired _ (two a.a ++ two a.b) _ c.four.ensures (omega arith)
