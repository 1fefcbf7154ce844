use Prim.Native.Nat.{◌≤◌}
use mathlib.Core.Path.{refl}
use Rattle.emit.specs.Written.{scale_in}
use Rattle.emit.proofs.ScaleLaws.{scale_read, scales_low}
use Rattle.row_segment.proofs.FeedLaws.{said_part, stood_own}
use Rattle.row_segment.proofs.feed.put_own.Goals as goal

pub own_text-w-requires : goal.own_text-w-requires
own_text-w-requires c = let q = c.requires in let low : scale_in c.args.cell ≤ 38 = rw (scale_read _ _ _ q.3) (scales_low _ c.args.job.ready.passed.fit _ _ _) in (q.0.id.within, low)

pub returns : goal.returns
returns c = let a = c.args in
    let q = c.requires in
    let b = a.job.at.bytes.now in
    stood_own b a.x a.p a.column a.cell q.3 q.2 c.own_text-w.result _ _ a.job.ready.passed c.text_in-text.ensures c.err.ensures.value q.4
    (said_part b a.x a.p a.column a.cell q.3 q.2 q.0 (c.own_text-w.ensures b q.4))
    c.component_of-c.ensures c.put_text-q.ensures c.note_refused-f.ensures refl
