-- Not to be believed: words of inner contracts, on which no contract of what users call rests.
-- What the walk asks for and what it did (write/emit.rs, `run` and `instance`).
use Rattle.std.specs.Prelude.{ℕ, ◌<◌, ◌≡◌, List, [], ◌∷◌, Some, None, Option}
use Rattle.format.specs.Job.{Job}
use Rattle.spec.specs.declared.ids.RowId.{RowId}
use Rattle.spec.specs.declared.ids.TableId.{TableId}
use Rattle.nest.specs.Outline.{Outline}
use Rattle.nest.specs.Nest.{Row}
use Rattle.walk.specs.declared.Context.{Context as Kept}
use Rattle.walk.specs.Contexts.{context_by}
use Rattle.walk.specs.Nested.{Sound}
use Rattle.walk.specs.Tour.{Step, opener, row_segment, repeat_steps}
use Rattle.emit.specs.declared.state.State.{State}
use Rattle.emit.specs.Did.{Small, Took}
use Rattle.run.specs.declared.Visited.{Visited}
use Rattle.run.specs.declared.own.Owner.{Owner}
use Rattle.run.specs.declared.segments.Due.{Due}
use Rattle.run.specs.declared.segments.Due.TheVariants as due

-- a state whose counts are within the cap, a context whose rows are there, and a loop by its number
pub record Walks (o : Outline) (s : State) (l : ℕ) (c : Kept) : Type 0 where
  pub small : Small s
  pub sound : Sound o (context_by c)
  pub loop : l < 32

-- these steps were taken from the state s to the state t, with n instances of the loops directly below
pub record Went (j : Job) (xs : List Step) (n : ℕ) (s t : State) (r : Visited) (d d' g g' f f' p p' : List ℕ) : Type 0 where
  pub took : Took j xs s (record { state = t; written = r.written }) d d' g g' f f' p p'
  pub instances : r.instances ≡ n

-- the row that opened an instance, as an answer of code
abbrev pub owner_by : Option Owner → Option Row
owner_by None = None
owner_by (Some x) = Some (record { table = x.table.0; row = x.row.0 })

-- the steps of what planned segment i gives
abbrev pub kind_steps : Outline → ℕ → ℕ → Due → List Step
kind_steps o l i due.Opener = opener l ∷ []
kind_steps o l i (due.Row t r) = row_segment l i t.0 r.0 ∷ []
kind_steps o l i (due.Repeat t p) = repeat_steps o l i t.0 p.0

abbrev pub due_steps : Outline → ℕ → ℕ → Option Due → List Step
due_steps o l i None = []
due_steps o l i (Some x) = kind_steps o l i x

-- these steps are what is due; there are at most 16 tables, and a table has at most 4,096 rows
pub record Gives (o : Outline) (l i : ℕ) (xs : List Step) (x : Option Due) : Type 0 where
  pub steps : xs ≡ due_steps o l i x
  pub few : (t : TableId) (p : RowId) → x ≡ Some (due.Repeat t p) → (p.0 < 4096) × (t.0 < 16)
