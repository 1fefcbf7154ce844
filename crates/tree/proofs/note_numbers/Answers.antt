use Rattle.std.specs.Prelude.{◌-◌, ◌+◌, ◌≡◌}
use mathlib.Core.Path.{refl, ◌∙◌}
use native.Mathlib.Omega.{arith}
use lib.ListN.{length-set}
use Rattle.tree.proofs.Names.{number_there, name_in, noting_start, noting_again, noting_full, noting_done}
use Rattle.tree.proofs.note_numbers.Goals as goal

pub loop-k-init : goal.loop-k-init
loop-k-init c = let z : c.count_at-n.result - 0 ≡ c.count_at-n.result = omega arith in (refl, (omega arith, rw z (noting_start _ _ _ _ _ _ _ _ c.count_at-n.ensures.0 c.le_at-p.ensures)))

pub returns-then-names-k : goal.returns-then-names-k
returns-then-names-k c = let i = c.loop-k.invariant in (i.0, (i.1.0, noting_full _ _ _ _ _ _ _ _ _ i.1.1 (omega (arith, c.if-names-k.true, i.0))))

pub loop-k-preserved : goal.loop-k-preserved
loop-k-preserved c =
    let l = c.loop-k in
    let x = c.count_at.result in
    let z : c.count_at-n.result - (l.k + 1) ≡ c.count_at-n.result - l.k - 1 = omega arith in (
      length-set l.names l.k x ∙ l.invariant.0,
      (
        omega (arith, length-set l.names l.k x, c.if-names-k.false, l.invariant.0),
        rw z (noting_again _ _ _ _ _ _ (λ y ys. refl) _ _ _ _ _ _ l.invariant.1.1 (omega arith) c.le_at-p-in-loop-k.ensures
            (λ y i. name_in l.names l.k x _ (omega (arith, c.if-names-k.false, l.invariant.0)) (number_there _ _ _ _ c.count_at.ensures.0 y i))),
      ),
    )

pub returns : goal.returns
returns c =
    let i = c.loop-k.invariant in
    let z : c.count_at-n.result ≡ c.loop-k.k = omega arith in
    (i.0, (omega (arith, i.1.0), rw z (noting_done _ _ _ _ _ _ refl _ _ _ i.1.1 (omega arith))))
