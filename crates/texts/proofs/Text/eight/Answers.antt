use Rattle.std.proofs.Common.{◌++◌, ◌∙◌, arith}
use Rattle.texts.specs.DateText.{two}
use Rattle.texts.proofs.Texts.{len_is}
use Rattle.texts.proofs.Rendered.{paired}
use Rattle.texts.proofs.Text.eight.Goals as goal

pub pair-requires : goal.pair-requires
pair-requires c = let a = c.args in (omega (arith, len_is _ (two a.a ++ two a.b ++ two a.c) c.six.ensures), c.requires.3)

pub returns : goal.returns
returns c = let a = c.args in c.pair.ensures ∙ paired _ (two a.a ++ two a.b ++ two a.c) _ c.six.ensures (omega arith)
