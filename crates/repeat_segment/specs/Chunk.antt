-- Not to be believed: words of inner contracts, on which no contract of what users call rests.
-- The parts of a chunk.
use Rattle.std.specs.Prelude.{ℕ, List, length}
use Rattle.segment.specs.Parts.{Part}
use Rattle.repeat_segment.specs.declared.chunk.Chunk.{Chunk}
use Rattle.repeat_segment.specs.Planned.{id_of}
use Rattle.repeat_segment.specs.Places.{parts_of}

abbrev pub parts_in : Chunk → List Part
parts_in c = parts_of c.job.at.bytes.now c.segment c.rows.now (length c.rows.now)

abbrev pub id_in : Chunk → List ℕ
id_in c = id_of c.job.at.bytes.now c.segment
