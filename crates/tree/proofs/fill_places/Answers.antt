use mathlib.Core.Path.{refl, ◌∙◌}
use native.Mathlib.Omega.{arith}
use lib.ListN.{length-set}
use Rattle.std.proofs.lemmas.List.{drop-set-lt}
use Rattle.tree.proofs.Places.{filling_start, filling_again}
use Rattle.tree.proofs.fill_places.Goals as goal

pub loop-k-init : goal.loop-k-init
loop-k-init c = (refl, filling_start _ _ _ _ _ c.le_at-p.ensures, refl)

pub loop-k-preserved : goal.loop-k-preserved
loop-k-preserved c =
    let l = c.loop-k in (
      length-set l.places l.k (l.p, c.children_at-children.result) ∙ l.invariant.0,
      filling_again _ _ _ _ _ _ _ _ l.invariant.1 (omega (arith, c.if-places-k.false, l.invariant.0)) c.children_at-children.ensures c.les_at-p.ensures,
      drop-set-lt c.count_at-n.result l.places l.k (l.p, c.children_at-children.result) (omega arith) ∙ l.invariant.2,
    )
