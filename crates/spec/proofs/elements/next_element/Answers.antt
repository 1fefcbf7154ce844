use Rattle.format.specs.Spec.{element_c}
use Rattle.codec.specs.Forms.{num_c}
use Rattle.codec.proofs.Skip.{skip_pair}
use Rattle.spec.proofs.Cursor.{entries_next}
use mathlib.Core.Path.{refl}
use Rattle.spec.proofs.elements.next_element.Goals as goal

pub returns : goal.returns
returns c = λ x xs h. entries_next _ _ _ c.spec_of-s.ensures.1 x xs h _ refl (cc (skip_pair num_c element_c _ _ _))
