use Rattle.codec.proofs.Skip.{skip_pair}
use Rattle.codec.proofs.forms.Tuple2Form.ends_at.Goals as goal

pub returns : goal.returns
returns g c = cc (skip_pair g.F.Form.codec g.G.Form.codec c.args.s.bytes.now c.args.at c.args.s.end)
