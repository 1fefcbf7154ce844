use mathlib.Core.Path.{refl}
use native.Mathlib.Omega.{arith}
use Rattle.format.proofs.Decoding.{read_job, sound_of}
use Rattle.says.proofs.Walk.{section_says}
use Rattle.says.proofs.Walk.{count_length}
use Rattle.loops.proofs.Forest.{order_says, order_out, roots_for, spec_loops, spec_roots_lem, tangled_outside, tangled_order, tangled_rest, tangled_roots, tangled_spec_lem}
use Rattle.loops.proofs.tangled_at.Goals as goal

pub invariant_of-spec : goal.invariant_of-spec
invariant_of-spec c = record { within = omega (arith, sound_of _ c.requires.0) }

pub invariant_of-orders : goal.invariant_of-orders
invariant_of-orders c = record { within = omega (arith, sound_of _ c.requires.0) }

pub returns-then-spec_outside : goal.returns-then-spec_outside
returns-then-spec_outside c = let r = read_job _ c.requires.0 c.requires.1 in tangled_outside _ _ r _ (section_says _ _ _ _ _ _ _ _ _ c.spec_outside.ensures.says refl c.start-plan.ensures r.spec) c.if-spec_outside.true

pub returns-then-orders_outside : goal.returns-then-orders_outside
returns-then-orders_outside c =
    let r = read_job _ c.requires.0 c.requires.1 in
    let z = count_length _ _ _ _ _ _ c.count_at-n.ensures.0 (spec_loops _ _ _ _ c.start-plan.ensures r.spec) in
    tangled_order _ _ r _ (section_says _ _ _ _ _ _ _ _ _ c.spec_outside.ensures.says refl c.start-plan.ensures r.spec) _
    (order_out _ _ r _ _ _ _ c.orders_outside.ensures.says c.start-layout.ensures c.start-envelope.ensures z) c.if-spec_outside.false c.if-orders_outside.true

pub returns-then-repeats_at : goal.returns-then-repeats_at
returns-then-repeats_at c =
    let r = read_job _ c.requires.0 c.requires.1 in
    let z = count_length _ _ _ _ _ _ c.count_at-n.ensures.0 (spec_loops _ _ _ _ c.start-plan.ensures r.spec) in
    tangled_roots _ _ r _ (section_says _ _ _ _ _ _ _ _ _ c.spec_outside.ensures.says refl c.start-plan.ensures r.spec) _
    (order_out _ _ r _ _ _ _ c.orders_outside.ensures.says c.start-layout.ensures c.start-envelope.ensures z) c.if-spec_outside.false c.if-orders_outside.false
    _ (spec_roots_lem _ _ _ _ _ _ c.repeats_at.ensures.says (roots_for _ _ _ _ c.start-plan.ensures c.requires.2) c.start-plan.ensures r.spec) c.if-repeats_at.true

pub returns-then-spec_tangled : goal.returns-then-spec_tangled
returns-then-spec_tangled c =
    let r = read_job _ c.requires.0 c.requires.1 in
    let z = count_length _ _ _ _ _ _ c.count_at-n.ensures.0 (spec_loops _ _ _ _ c.start-plan.ensures r.spec) in
    tangled_spec_lem _ _ r _ (section_says _ _ _ _ _ _ _ _ _ c.spec_outside.ensures.says refl c.start-plan.ensures r.spec) _
    (order_out _ _ r _ _ _ _ c.orders_outside.ensures.says c.start-layout.ensures c.start-envelope.ensures z) c.if-spec_outside.false c.if-orders_outside.false
    _ (section_says _ _ _ _ _ _ _ _ _ c.spec_tangled.ensures refl c.start-plan.ensures r.spec) c.if-spec_tangled.true

pub returns : goal.returns
returns c =
    let r = read_job _ c.requires.0 c.requires.1 in
    let ls = spec_loops _ _ _ _ c.start-plan.ensures r.spec in
    let z = count_length _ _ _ _ _ _ c.count_at-n.ensures.0 ls in
    tangled_rest _ _ r _ (section_says _ _ _ _ _ _ _ _ _ c.spec_outside.ensures.says refl c.start-plan.ensures r.spec) _
    (order_out _ _ r _ _ _ _ c.orders_outside.ensures.says c.start-layout.ensures c.start-envelope.ensures z) c.if-spec_outside.false c.if-orders_outside.false
    _ _ (section_says _ _ _ _ _ _ _ _ _ c.spec_tangled.ensures refl c.start-plan.ensures r.spec) c.if-spec_tangled.false
    (order_says _ _ _ _ _ _ _ _ (c.misorders.ensures _ ls) c.start-layout.ensures c.start-envelope.ensures r.layout)
