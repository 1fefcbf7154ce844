use Rattle.walk.proofs.EachKind.{each_kind}
use Rattle.walk.proofs.laws.each_kind.Goals as goal

pub returns : goal.returns
returns c = each_kind
