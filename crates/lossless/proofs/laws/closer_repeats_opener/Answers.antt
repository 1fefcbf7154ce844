use Rattle.lossless.proofs.Numbers.{taken_again, kept_else}
use Rattle.lossless.proofs.laws.closer_repeats_opener.Goals as goal

pub returns : goal.returns
returns c = record { taken = taken_again; kept = kept_else }
