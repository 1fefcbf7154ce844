use Rattle.std.proofs.Common.{rules}
use Rattle.segment.specs.Parts.{here, component_text}
use Rattle.row_segment.specs.Stream.{ahead}
use Rattle.row_segment.proofs.join.put_next.Goals as goal

pub returns : goal.returns
returns c = let a = c.args in let f = component_text (here a.e (ahead a.job.at.bytes.now a.x a.a).parts) in
    (record { last = c.scan-g.result.last; scans = c.scan-g.ensures.0; group = c.put_components-q.ensures f (λ n v h. search rules) }, c.scan-g.ensures.1)
