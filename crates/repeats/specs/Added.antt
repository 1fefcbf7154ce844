-- Not to be believed: words of inner contracts, on which no contract of what users call rests.
-- What the functions of this crate do: the rows of a table, a chunk that rows are added to, and what adding one leaves.
use Rattle.std.specs.Prelude.{ℕ, ◌+◌, ◌≤◌, ◌<◌, max, ◌≡◌, Bool, List, length, take}
use Rattle.format.specs.Job.{Job}
use Rattle.format.specs.Refusal.{rows_of_all}
use Rattle.format.specs.Sections.{job_of}
use Rattle.tables.specs.Parts.{rows_before}
use Rattle.nest.specs.Lists.{keep}
use Rattle.nest.specs.UpTo.{up_to}
use Rattle.nest.specs.Found.{hooked_at}
use Rattle.nest.specs.Outline.{row_count}
use Rattle.nest.specs.Nest.{repeat_rows}
use Rattle.nest.specs.OutlineAt.{outline_at}
use Rattle.walk.specs.Tour.{Step, segments_in}
use Rattle.emit.specs.Fold.{steps_out}
use Rattle.emit.specs.declared.state.Counts.{Counts}
use Rattle.emit.specs.Did.{Mark, DidMark}
use Rattle.repeats.specs.declared.Table.{Table}
use Rattle.repeats.specs.declared.Part.{Part}
use Rattle.repeats.specs.declared.Chunk.{Chunk}
use Rattle.repeats.specs.declared.Repeated.{Repeated}
use Rattle.repeats.specs.Going.{going, row_adds, head_then, rows_then, count_then}

-- where the rows of a table stand among all, that no more are gone through than it has, and how many go into a segment
pub record TableIs (b : List ℕ) (w : Table) : Type 0 where
  pub base : w.base ≡ rows_before (job_of b).tables w.t.0
  pub rows : w.rows ≤ row_count (outline_at b) w.t.0
  pub within : w.base + w.rows ≤ 4096
  pub among : w.base + w.rows ≤ rows_of_all (job_of b).tables
  pub room : w.room ≡ max 1 ((outline_at b).capacity w.t.0)
  pub few : w.room < 256

-- a part of table t that has all rows that go into the instance of loop l that row p opens
pub record PartIs (b n : List ℕ) (t l p : ℕ) (r : Part) : Type 0 where
  pub is : TableIs b r.table
  pub table : r.table.t.0 ≡ t
  pub same : repeat_rows (outline_at b) t l p ≡ keep (hooked_at n r.table.base l p) (up_to r.from r.table.rows)

-- a chunk has a row, no more than go into it, and its rows stand in a list that has room for them
pub record Holds (w : Table) (c : Chunk) (rows : List ℕ) : Type 0 where
  pub some_row : 0 < c.count
  pub fits : c.count ≤ w.room
  pub few : w.room < 256
  pub space : 256 ≤ length rows

-- what is still to come of chunk c, whose rows stand in a, when the rows from k on go through nest's numbers n: loop, planned segment and its table, where the rows stand, opening row
abbrev pub left : List ℕ → List ℕ → ℕ → ℕ → ℕ → Table → ℕ → Chunk → List ℕ → ℕ → List Step
left b n l i t w p c a k = going ((outline_at b).same_chunk l i) w.room l i t c.head.0 (take c.count a) c.count (keep (hooked_at n w.base l p) (up_to k w.rows))

-- row r came to the chunk c, which is n then; the list of its rows went from a to a', the others as in `Did`
pub record Added (j : Job) (l i t : ℕ) (joins : Bool) (r : ℕ) (c n : Chunk) (a a' d d' g g' f f' p p' : List ℕ) : Type 0 where
  pub did : DidMark t (steps_out j (row_adds l i t c.count (take c.count a) joins r)) c.mark n.mark c.counts n.counts d d' g g' f f' p p'
  pub written : n.written ≡ c.written + segments_in (row_adds l i t c.count (take c.count a) joins r)
  pub head : n.head.0 ≡ head_then c.head.0 joins r
  pub rows : take n.count a' ≡ rows_then (take c.count a) joins r
  pub count : n.count ≡ count_then c.count joins
  pub long : length a' ≡ length a

-- these steps were taken from the highest row m of table t and the counts s on
pub record Repeats (j : Job) (xs : List Step) (t : ℕ) (m : Mark) (s : Counts) (r : Repeated) (d d' g g' f f' p p' : List ℕ) : Type 0 where
  pub did : DidMark t (steps_out j xs) m r.mark s r.counts d d' g g' f f' p p'
  pub written : r.written ≡ segments_in xs
