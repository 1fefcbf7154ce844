use mathlib.Core.Path.{refl}
use Rattle.codec.proofs.Field.{stands_le, stands_opt, stands_list}
use Rattle.spec.proofs.VersionIs.{version_none, version_is, version_stands}
use Rattle.spec.proofs.Held.{is_unset, is_set}
use Rattle.spec.proofs.version.version_at.Goals as goal

pub flag_at-requires : goal.flag_at-requires
flag_at-requires c = stands_opt _ _ _ c.requires

pub returns-then-not-flag_at : goal.returns-then-not-flag_at
returns-then-not-flag_at c = λ e v r. version_none _ _ (is_unset c.flag_at.ensures c.if-not-flag_at.true) e v

pub num_in-n-requires : goal.num_in-n-requires
num_in-n-requires c = stands_list _ _ _ (version_stands _ _ _ refl (is_set c.flag_at.ensures c.if-not-flag_at.false) c.requires).segment

pub stretch_at-segment-requires : goal.stretch_at-segment-requires
stretch_at-segment-requires c = (version_stands _ _ _ refl (is_set c.flag_at.ensures c.if-not-flag_at.false) c.requires).segment

pub num_in-element-requires : goal.num_in-element-requires
num_in-element-requires c = stands_le _ _ _ (version_stands _ _ _ c.num_in-n.ensures.0 (is_set c.flag_at.ensures c.if-not-flag_at.false) c.requires).element

pub stretch_at-first-requires : goal.stretch_at-first-requires
stretch_at-first-requires c = (version_stands _ _ _ c.num_in-n.ensures.0 (is_set c.flag_at.ensures c.if-not-flag_at.false) c.requires).first

pub returns : goal.returns
returns c = version_is _ _ _ _ (is_set c.flag_at.ensures c.if-not-flag_at.false) c.num_in-n.ensures.0 c.stretch_at-segment.ensures c.num_in-element.ensures.0 c.stretch_at-first.ensures
