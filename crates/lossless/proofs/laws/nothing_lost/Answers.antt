use Rattle.format.proofs.Passed.{passed}
use Rattle.lossless.proofs.Theorem.{nothing_lost}
use Rattle.lossless.proofs.laws.nothing_lost.Goals as goal

pub returns : goal.returns
returns c = λ b e. nothing_lost b (passed b e)
