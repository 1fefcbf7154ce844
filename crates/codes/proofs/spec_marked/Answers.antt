use Rattle.codec.proofs.Maps.{is_bytes_map}
use Rattle.format.proofs.Fields.{is_spec}
use Rattle.codes.specs.Codes.{marked_spec}
use Rattle.codes.proofs.Laws.{either_first, either_next}
use Rattle.says.proofs.Walk.{says_at}
use Rattle.codes.proofs.spec_marked.Goals as goal

pub returns-then-segments_marked : goal.returns-then-segments_marked
unfolding marked_spec
returns-then-segments_marked c v i = let l = is_spec _ _ _ v i in
    either_first _ _ _ (says_at _ _ _ _ _ _ _ _ c.segments_marked.ensures (is_bytes_map _ _ _ _ _ l.segments).0 (cc)) c.if-segments_marked.true

pub returns-else-segments_marked : goal.returns-else-segments_marked
unfolding marked_spec
returns-else-segments_marked c v i = let l = is_spec _ _ _ v i in
    either_next _ _ _ _ (says_at _ _ _ _ _ _ _ _ c.segments_marked.ensures (is_bytes_map _ _ _ _ _ l.segments).0 (cc)) c.if-segments_marked.false
    (says_at _ _ _ _ _ _ _ _ c.opt_version_marked.ensures l.version (cc))
