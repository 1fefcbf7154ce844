use Rattle.lossless.proofs.Sample.{passes, complete}
use Rattle.lossless.proofs.laws.sample_complete.Goals as goal

pub returns : goal.returns
returns c = (passes, complete)
