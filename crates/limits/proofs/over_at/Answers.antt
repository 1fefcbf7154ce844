use mathlib.Core.Path.{refl, sym, ◌∙◌}
use Rattle.limits.proofs.Known.{no_parts, some_parts}
use native.Mathlib.Omega.{arith}
use Rattle.codec.proofs.Limits.{any_nil}
use Rattle.format.proofs.Decoding.{read_job, sound_of}
use Rattle.format.specs.Refusal.{over}
use Rattle.says.proofs.Walk.{section_says}
use Rattle.says.proofs.Pass.{section_is, any_here, any_later, any_not, told_none, told_some}
use Rattle.limits.proofs.over_at.Goals as goal

pub invariant_of-spec_over : goal.invariant_of-spec_over
invariant_of-spec_over c = record { within = omega (arith, sound_of _ c.requires.0) }

pub invariant_of-plan_over : goal.invariant_of-plan_over
invariant_of-plan_over c = record { within = omega (arith, sound_of _ c.requires.0) }

pub invariant_of-layout_over : goal.invariant_of-layout_over
invariant_of-layout_over c = record { within = omega (arith, sound_of _ c.requires.0) }

pub returns-in_err-parts : goal.returns-in_err-parts
unfolding over
returns-in_err-parts c =
    let r = read_job _ c.requires.0 c.requires.1 in
    let k = c.spec_over.ensures _ (section_is _ _ _ _ _ _ _ refl c.start-plan.ensures r.spec) in
    rw c.from_residual.ensures (any_here _ _ (no_parts _ _ _ _ k c.in_err-parts.was))

pub returns-in_err-plan_over : goal.returns-in_err-plan_over
unfolding over
returns-in_err-plan_over c =
    let r = read_job _ c.requires.0 c.requires.1 in
    rw c.from_residual-in_err-plan_over.ensures (any_later _ _ (any_here _ _ (told_none _ _ _ _ _ _ _ _ c.plan_over.ensures (section_is _ _ _ _ _ _ _ c.start-plan.ensures c.start-layout.ensures r.plan) refl c.in_err-plan_over.was)))

pub returns-then-layout_over : goal.returns-then-layout_over
unfolding over
returns-then-layout_over c =
    let r = read_job _ c.requires.0 c.requires.1 in
    any_later _ _ (any_later _ _ (any_here _ _ (sym (section_says _ _ _ _ _ _ _ _ _ c.layout_over.ensures c.start-layout.ensures c.start-envelope.ensures r.layout) ∙ c.if-layout_over.true)))

pub returns-then-data_over : goal.returns-then-data_over
unfolding over
returns-then-data_over c =
    let r = read_job _ c.requires.0 c.requires.1 in
    any_later _ _ (any_later _ _ (any_later _ _ (any_here _ _ (sym (section_says _ _ _ _ _ _ _ _ _ c.data_over.ensures c.start-data.ensures c.trailer-t.ensures r.tables) ∙ c.if-data_over.true))))

pub returns : goal.returns
unfolding over
returns c =
    let r = read_job _ c.requires.0 c.requires.1 in
    let k = some_parts _ _ _ _ _ (c.spec_over.ensures _ (section_is _ _ _ _ _ _ _ refl c.start-plan.ensures r.spec)) c.in_ok-parts.was in
    let l = told_some _ _ _ _ _ _ _ _ c.plan_over.ensures (section_is _ _ _ _ _ _ _ c.start-plan.ensures c.start-layout.ensures r.plan) refl _ c.in_ok-plan_over.was in
    (any_not _ _ k.0 (any_not _ _ l.0 (any_not _ _ (sym (section_says _ _ _ _ _ _ _ _ _ c.layout_over.ensures c.start-layout.ensures c.start-envelope.ensures r.layout) ∙ c.if-layout_over.false) (any_not _ _ (sym (section_says _ _ _ _ _ _ _ _ _ c.data_over.ensures c.start-data.ensures c.trailer-t.ensures r.tables) ∙ c.if-data_over.false) any_nil))), rw (← c.start-plan.ensures) k.1, rw (← c.start-plan.ensures) k.2)
