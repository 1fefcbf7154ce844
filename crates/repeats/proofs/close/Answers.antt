use mathlib.Core.Path.{refl}
use Rattle.repeats.proofs.Adding.{chunk_closed}
use Rattle.repeats.proofs.close.Goals as goal

pub returns : goal.returns
returns c = ((λ f p. chunk_closed _ _ _ _ _ _ _ (c.write_chunk-counts.ensures f p)), refl)
