use Rattle.codec.proofs.Field.{is_at, stands_at}
use Rattle.spec.proofs.loops.root.Goals as goal

pub item_at-requires : goal.item_at-requires
item_at-requires c = stands_at _ _ _ _ _ _ c.place-p.ensures.0 c.requires.within c.requires.roots

pub returns : goal.returns
returns c = c.item_at.ensures _ _ (is_at _ _ _ _ _ _ c.place-p.ensures.0 c.requires.roots)
