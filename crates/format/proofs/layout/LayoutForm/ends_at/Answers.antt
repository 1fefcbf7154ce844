use Rattle.format.specs.Layout.{layout_c}
use Rattle.codec.proofs.Skip.{skip_map, skip_pair}
use Rattle.format.proofs.layout.LayoutForm.ends_at.Goals as goal

pub returns : goal.returns
unfolding layout_c
returns c = simp (skip_map, skip_pair) (cc)
