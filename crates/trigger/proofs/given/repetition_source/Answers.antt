use Rattle.trigger.proofs.Givens.{tells_as, field_code, field_again, field_neither, code_there, code_gone, code_holds, again_there, again_gone}
use mathlib.Core.Path.{refl, sym}
use Rattle.trigger.proofs.given.repetition_source.Goals as goal

pub returns-in-Some : goal.returns-in-Some
returns-in-Some c = λ y h. tells_as (sym (field_code _ y.1 _ c.requires _ (code_there h _ c.in-Some.is))) (c.of_stretch.ensures _ _ (code_holds h _ c.in-Some.is))

pub returns-in_err-b : goal.returns-in_err-b
returns-in_err-b c = λ y h. rw c.from_residual.ensures (tells_as (sym (field_neither _ y.1 _ c.requires (code_gone h c.in_default.is) (again_gone _ _ c.repetition_of.ensures c.in_err-b.was))) (record { says = refl; short = tt }))

pub returns : goal.returns
returns c = λ y h. tells_as (sym (field_again _ y.1 _ c.requires _ (code_gone h c.in_default.is) (again_there _ _ c.repetition_of.ensures _ c.in_ok-b.was))) (c.of_byte.ensures _)
