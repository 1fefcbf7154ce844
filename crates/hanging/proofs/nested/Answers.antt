use native.Mathlib.Omega.{arith}
use Rattle.nest.specs.Nest.{nest_array}
use Rattle.nest.specs.OutlineAt.{outline_at}
use Rattle.hanging.proofs.Laws.{copied}
use Rattle.hanging.proofs.nested.Goals as goal

pub returns : goal.returns
returns c = copied _ _ _ _ (nest_array (outline_at c.args.job.at.bytes.now)) _ c.nest_rows.ensures c.nest_count-count.ensures.0 (omega arith) c.put_stretch.ensures.stored
