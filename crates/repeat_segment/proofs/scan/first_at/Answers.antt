use Rattle.repeat_segment.specs.Places.{rank_of}
use Rattle.repeat_segment.proofs.FirstLaws.{first_start, first_next, first_end}
use Rattle.repeat_segment.proofs.Steps.{stands_here, read_step}
use Rattle.repeat_segment.proofs.scan.first_at.Goals as goal

pub loop-i-init : goal.loop-i-init
loop-i-init c = let a = c.args in first_start _ _ c.requires.0 a.count a.p (rank_of a.c) c.requires.1 _ c.nothing_yet-f.ensures

pub element_at-e-requires : goal.element_at-e-requires
element_at-e-requires c = stands_here _ _ c.requires.0 _ _ c.loop-i.invariant.along c.loop-i-test.true

pub loop-i-preserved : goal.loop-i-preserved
loop-i-preserved c = let a = c.args in first_next _ _ c.requires.0 a.count a.p (rank_of a.c) c.requires.1 c.element_at-e.result c.loop-i-test.true c.loop-i.invariant (read_step _ _ c.requires.0 _ _ c.loop-i.invariant.along c.loop-i-test.true _ c.element_at-e.ensures) (c.earlier-f.ensures _)

pub returns : goal.returns
returns c = let a = c.args in first_end _ _ c.requires.0 a.count a.p (rank_of a.c) c.requires.1 c.loop-i-test.false c.loop-i.invariant
