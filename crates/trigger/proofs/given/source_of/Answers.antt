use Rattle.trigger.proofs.Givens.{tells_as, by_field, by_spec, field_there, field_gone}
use mathlib.Core.Path.{sym}
use Rattle.trigger.proofs.given.source_of.Goals as goal

pub returns-in-Some : goal.returns-in-Some
returns-in-Some c = λ y h. tells_as (sym (by_field _ _ _ y.0 y.1 _ (field_there _ _ _ c.field_at-held.result c.field_at-held.ensures h.number _ c.in-Some.is))) (c.field_source.ensures y h)

pub returns-in-None : goal.returns-in-None
returns-in-None c = λ y h. tells_as (sym (by_spec _ _ _ y.0 y.1 (field_gone _ _ _ c.field_at-held.result c.field_at-held.ensures h.number c.in-None.is))) (c.spec_source.ensures y h)
