use Rattle.std.specs.Prelude.{◌-◌, ◌+◌, ◌≡◌}
use mathlib.Core.Path.{refl, ◌∙◌}
use native.Mathlib.Omega.{arith}
use Rattle.tree.proofs.Names.{noting_start, noting_again, noting_full, noting_done}
use Rattle.loops.proofs.Items.{loops_first, loops_none}
use Rattle.loops.proofs.note_names.Goals as goal

pub loop-i-init : goal.loop-i-init
loop-i-init c = let z : c.count_at-n.result - 0 ≡ c.count_at-n.result = omega arith in (refl, (omega arith, rw z (noting_start _ _ _ _ _ _ _ _ c.count_at-n.ensures.0 c.le_at-p.ensures)))

pub returns-then-names-k : goal.returns-then-names-k
returns-then-names-k c = let i = c.loop-i.invariant in (i.0, (i.1.0, noting_full _ _ _ _ _ _ _ _ _ i.1.1 (omega (arith, c.if-names-k.true, i.0))))

pub loop-i-preserved : goal.loop-i-preserved
loop-i-preserved c =
    let i = c.loop-i.invariant in
    let f = c.note_name-k.ensures in
    let z : c.count_at-n.result - (c.loop-i._i + 1) ≡ c.count_at-n.result - c.loop-i._i - 1 = omega arith in
    (f.0 ∙ i.0, (omega (arith, f.0, f.1.0, c.if-names-k.false, i.0), rw z (noting_again _ _ _ _ _ _ loops_first _ _ _ _ _ _ i.1.1 (omega arith) c.ends_at-p.ensures f.1.1)))

pub returns : goal.returns
returns c = let i = c.loop-i.invariant in (i.0, (i.1.0, noting_done _ _ _ _ _ _ loops_none _ _ _ i.1.1 (omega arith)))
