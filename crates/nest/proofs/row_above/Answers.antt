use mathlib.Core.Path.{◌≡◌, sym, ap, ◌∙◌}
use Prim.Native.Nat.{ℕ, ◌+◌, ◌*◌}
use lib.ListN.{get_or}
use native.Mathlib.Omega.{arith}
use Rattle.nest.proofs.FoundLaws.{above_none, above_row}
use Rattle.nest.proofs.row_above.Goals as goal

pub returns-then-p-eq0 : goal.returns-then-p-eq0
returns-then-p-eq0 c =
    let a = c.args in
    let e : (a.base + a.r.0) * 3 + 0 ≡ (a.base + a.r.0) * 3 = omega arith in
    sym (above_none a.nest.now a.base a.r.0 (ap (λ (i : ℕ). get_or a.nest.now i 0) e ∙ c.if-p-eq0.true))

pub returns : goal.returns
returns c =
    let a = c.args in
    let e : (a.base + a.r.0) * 3 ≡ (a.base + a.r.0) * 3 + 0 = omega arith in
    sym (above_row a.nest.now a.base a.r.0 _ (ap (λ (i : ℕ). get_or a.nest.now i 0) e) c.if-p-eq0.false)
