use Rattle.row_segment.proofs.StreamLaws.{through_start, through_stands, looks_found, through_next, through_end, looks_ended}
use Rattle.row_segment.proofs.parts.next_part.Goals as goal

pub loop-i-init : goal.loop-i-init
loop-i-init c = through_start _ _ _ _ c.requires.1

pub element_at-e-requires : goal.element_at-e-requires
element_at-e-requires c = through_stands c.args.job.ready.plan _ c.requires.0 _ _ _ c.loop-i.invariant c.loop-i-test.true

pub returns-in-Some : goal.returns-in-Some
returns-in-Some c = looks_found c.args.job.ready.plan _ c.requires.0 _ _ _ c.loop-i.invariant c.loop-i-test.true _ c.element_at-e.ensures _ c.seen.ensures c.in-Some.is

pub loop-i-preserved : goal.loop-i-preserved
loop-i-preserved c = through_next c.args.job.ready.plan _ c.requires.0 _ _ _ c.loop-i.invariant c.loop-i-test.true _ c.element_at-e.ensures _ c.seen.ensures c.in_default.is

pub returns : goal.returns
returns c =
    let h = c.loop-i-test.false in
    looks_ended c.args.job.ready.plan _ c.requires.0 _ _ _ c.loop-i.invariant _ (through_end c.args.job.ready.plan _ c.requires.0 _ _ _ c.loop-i.invariant h) h
