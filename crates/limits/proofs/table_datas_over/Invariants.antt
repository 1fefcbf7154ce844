use Rattle.std.specs.Prelude.{◌-◌, ◌≤◌}
use Rattle.limits.proofs.Rows.{Summed}
use Rattle.limits.proofs.table_datas_over.Given as goal

abbrev pub invariant-loop-i : goal.invariant-loop-i
invariant-loop-i l = (l.rows ≤ 4096) × Summed l.s.bytes.now l.s.end l.at l.rows (l.n - l._i) l.p
