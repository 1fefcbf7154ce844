use Rattle.column.proofs.Columns.{values_in}
use Rattle.column.proofs.Values.{ends_at, ends_plain}
use native.Mathlib.Omega.{arith}
use mathlib.Core.Path.{refl, sym, ◌∙◌}
use Rattle.column.proofs.get.after_values.Goals as goal

pub num_in-m-requires : goal.num_in-m-requires
num_in-m-requires c = omega (arith, values_in (rw c.if-kind-eq0.true at c.head-kind.ensures))

pub returns-then-kind-eq0 : goal.returns-then-kind-eq0
returns-then-kind-eq0 c = ends_at _ _ _ 0 _ c.head-kind.ensures.count (sym c.head-kind.ensures.kind ∙ c.if-kind-eq0.true) (cc)

pub returns-then-kind-eq1 : goal.returns-then-kind-eq1
returns-then-kind-eq1 c = ends_at _ _ _ 1 _ c.head-kind.ensures.count (sym c.head-kind.ensures.kind ∙ c.if-kind-eq1.true) refl

pub returns-then-kind-eq2 : goal.returns-then-kind-eq2
returns-then-kind-eq2 c = ends_at _ _ _ 2 _ c.head-kind.ensures.count (sym c.head-kind.ensures.kind ∙ c.if-kind-eq2.true) refl

pub returns : goal.returns
returns c = let k = c.head-kind.result.0 in ends_at _ _ _ k _ c.head-kind.ensures.count (sym c.head-kind.ensures.kind) (ends_plain _ _ _ k _ (omega arith) refl)
