-- Not to be believed: words of inner contracts, on which no contract of what users call rests.
-- A part of `Places` (complete/specs/Complete) that a function of its own decides (docs/RULES.md, "Places").
use Rattle.format.specs.Job.{Job}
use Rattle.complete.specs.Complete.{Segments, SegmentFits}

-- of the segments of a plan
abbrev pub SegmentsFit : Job → Type 0
SegmentsFit j = Segments (SegmentFits j) j
