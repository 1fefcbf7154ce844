-- Not to be believed: words of inner contracts, on which no contract of what users call rests.
-- The index over the segment map: at 4096 the place of the map, behind it the place of each entry.
use Rattle.std.specs.Prelude.{ℕ, ◌+◌, ◌≤◌, ◌<◌, List, [], length, get_or}
use Rattle.codec.specs.Codec.{◌⊗◌, list_c}
use Rattle.codec.specs.Skip.{Is}
use Rattle.codec.specs.Forms.{bytes_c}
use Rattle.format.specs.Spec.{SegmentDef, segment_c}
use Rattle.format.specs.Sections.{plan_start, job_of}

abbrev pub no_entry : List ℕ × SegmentDef
no_entry = ([], [])

pub record SegmentsIndexed (b idx : List ℕ) : Type 0 where
  pub trailed : 24 ≤ length b
  pub short : length b ≤ 65536
  pub within : plan_start b ≤ length b
  pub few : length (job_of b).spec.segments ≤ 6553
  pub entries : Is (list_c (bytes_c ⊗ segment_c)) b (plan_start b) (get_or idx 4096 0) (job_of b).spec.segments
  pub entry : (i : ℕ) → i < length (job_of b).spec.segments → Is (bytes_c ⊗ segment_c) b (plan_start b) (get_or idx (4097 + i) 0) (get_or (job_of b).spec.segments i no_entry)
