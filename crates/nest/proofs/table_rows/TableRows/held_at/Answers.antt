use mathlib.Core.Path.{ap}
use Prim.Native.Nat.{◌+◌}
use lib.Dec.{eqb}
use Rattle.nest.specs.Found.{held_at}
use Rattle.nest.proofs.table_rows.TableRows.held_at.Goals as goal

pub returns : goal.returns
unfolding held_at
returns c = ap (λ n. eqb n (c.args.p.0 + 1)) c.above.ensures
