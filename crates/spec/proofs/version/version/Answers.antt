use Rattle.codec.proofs.Field.{is_at, stands_at}
use Rattle.spec.proofs.version.version.Goals as goal

pub version_at-requires : goal.version_at-requires
version_at-requires c = stands_at _ _ _ _ _ _ c.place-p.ensures.0 c.requires.within c.requires.version

pub returns : goal.returns
returns c = c.version_at.ensures _ _ c.requires.within (is_at _ _ _ _ _ _ c.place-p.ensures.0 c.requires.version)
