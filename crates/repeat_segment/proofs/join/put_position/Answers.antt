use Rattle.std.proofs.Common.{rules}
use Rattle.segment.specs.Calls.{repeat_text}
use Rattle.repeat_segment.proofs.JoinLaws.{component_last}
use Rattle.repeat_segment.specs.Chunk.{parts_in}
use Rattle.repeat_segment.proofs.join.put_position.Goals as goal

pub returns : goal.returns
returns c = let a = c.args in
    let parts = parts_in a.chunk in
    rw (← component_last a.p parts c.highest_in-last.ensures) (c.put_components.ensures (repeat_text parts a.p) (λ n v h. search rules))
