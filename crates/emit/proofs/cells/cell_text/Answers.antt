use Prim.Native.Nat.{◌≤◌}
use Rattle.emit.specs.Written.{scale_in}
use Rattle.emit.proofs.ScaleLaws.{scale_read, scales_low}
use Rattle.emit.proofs.cells.cell_text.Goals as goal

pub read_text-requires : goal.read_text-requires
read_text-requires c = let low : scale_in c.cell-cell.result ≤ 38 = rw (scale_read _ _ _ c.cell-cell.ensures) (scales_low _ c.args.job.ready.passed.fit _ _ _) in (c.requires, low)
