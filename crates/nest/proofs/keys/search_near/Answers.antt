use Rattle.nest.proofs.Rising.{key_here}
use Rattle.nest.proofs.keys.search_near.Goals as goal

pub returns-then-is_key : goal.returns-then-is_key
returns-then-is_key c = key_here _ _ _ _ c.requires (c.is_key.ensures.there c.if-is_key.true)

pub returns-then-is_key-2 : goal.returns-then-is_key-2
returns-then-is_key-2 c = key_here _ _ _ _ c.requires (c.is_key-2.ensures.there c.if-is_key-2.true)
