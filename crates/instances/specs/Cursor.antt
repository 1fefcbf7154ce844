-- Not to be believed: words of inner contracts, on which no contract of what users call rests.
-- What a cursor has still to give (write/walk.rs, `instances`): the same list as the definition of the walk, from a place on.
use Rattle.std.specs.Prelude.{ℕ, suc, ◌+◌, ◌-◌, ◌*◌, ◌≤◌, ◌<◌, max, ◌≡◌, Bool, true, false, cond, ◌||◌, List, [], ◌∷◌, map, length, take, drop, eqb, Option, Some, None}
use Rattle.nest.specs.Lists.{keep, on, is}
use Rattle.nest.specs.UpTo.{up_to}
use Rattle.nest.specs.Found.{nest_at}
use Rattle.nest.specs.Outline.{Outline, Kind, rows, absent, envelope, implied, inside, groups, row_count, table_parent}
use Rattle.walk.specs.declared.Context.{Context as Kept}
use Rattle.walk.specs.Instances.{Context, Piece, pieces, pieces_of, in_row, in_piece, rows_in, shown, instances}
use Rattle.walk.specs.Bounds.{held_by}
use Rattle.walk.specs.Contexts.{context_by, start_by, end_by, kept_row, kept_piece}
use Rattle.walk.specs.Nested.{Sound}
use Rattle.spec.specs.declared.ids.LoopId.{LoopId}
use Rattle.spec.specs.declared.ids.TableId.{TableId}
use Rattle.instances.specs.declared.Cursor.{Cursor}
use Rattle.instances.specs.declared.Left.{Left}
use Rattle.instances.specs.declared.Left.TheVariants.{Nothing, Itself, Rows, Runs}
use Rattle.instances.specs.declared.Next.{Next}
use Rattle.instances.specs.declared.rows.RowAhead.{RowAhead}
use Rattle.instances.specs.declared.pieces.RunEnd.{RunEnd}

-- ---- the rows that are left

-- row r hangs on the row above, or nothing is asked of it
unfoldable pub passes : List ℕ → ℕ → ℕ → ℕ → Bool
passes n base above r = eqb above 0 || eqb (nest_at n base r 0) above

abbrev pub start_of : Cursor → ℕ
start_of cur = start_by cur.context cur.table.0

abbrev pub end_of : Cursor → ℕ
end_of cur = end_by cur.context cur.table.0 cur.rows

-- from row k on, where `seen` stood before it: those of the context's run
unfoldable pub left_at : List ℕ → Cursor → ℕ → ℕ → List ℕ
unfolding passes
left_at n cur seen k =
    take (end_of cur - max (start_of cur) seen) (drop (start_of cur - seen) (keep (passes n cur.base cur.above) (up_to k cur.rows)))

abbrev pub left : List ℕ → Cursor → List ℕ
left n cur = left_at n cur cur.seen cur.next

-- ---- what is still to come

-- the pieces of a list whose first row has this place
abbrev pub pieces_at : (ℕ → ℕ → Bool) → ℕ → List ℕ → List Piece
pieces_at same at [] = []
pieces_at same at (r ∷ more) = pieces same r at (at + 1) more

abbrev pub runs : Outline → List ℕ → Cursor → List Piece
runs o n cur = pieces_at (o.same_group cur.l.0) (cur.seen - start_of cur) (left n cur)

abbrev pub coming_by : Outline → List ℕ → Cursor → Left → List Context
coming_by o n cur Nothing = []
coming_by o n cur Itself = context_by cur.context ∷ []
coming_by o n cur Rows = map (in_row cur.table.0 (context_by cur.context)) (left n cur)
coming_by o n cur Runs = map (in_piece cur.table.0 (context_by cur.context)) (runs o n cur)

unfoldable pub coming : Outline → List ℕ → Cursor → List Context
coming o n cur = coming_by o n cur cur.kind

-- ---- what a cursor needs

-- to look for rows: they stand in nest's array, and so many of the parent's list stand before `next`
pub record Inside (n : List ℕ) (cur : Cursor) : Type 0 where
  pub room : (cur.base + cur.rows) * 3 ≤ length n
  pub few : cur.rows ≤ 4096
  pub small : cur.above ≤ 4096
  pub counted : length (keep (passes n cur.base cur.above) (up_to 0 cur.next)) ≡ cur.seen
  pub behind : cur.seen ≤ cur.next
  pub within : cur.next ≤ cur.rows

-- to be asked
pub record Going (o : Outline) (n : List ℕ) (cur : Cursor) : Type 0 where
  pub inner : Inside n cur
  pub a_table : cur.table.0 < 16
  pub a_loop : cur.l.0 < 32
  pub there : cur.rows ≤ row_count o cur.table.0
  pub list : (r : ℕ) → r < cur.rows → passes n cur.base cur.above r ≡ held_by o cur.table.0 (context_by cur.context).row r
  pub sound : Sound o (context_by cur.context)

-- ---- what code makes of one

abbrev pub moved : Cursor → ℕ → ℕ → Cursor
moved cur seen next = record {
  kind = cur.kind;
  l = cur.l;
  table = cur.table;
  context = cur.context;
  base = cur.base;
  rows = cur.rows;
  above = cur.above;
  seen = seen;
  next = next;
}

-- with nothing left, or with the context itself
abbrev pub rowless : Left → LoopId → Kept → Cursor
rowless kind l c = record { kind = kind; l = l; table = record { 0 = 0 }; context = c; base = 0; rows = 0; above = 0; seen = 0; next = 0 }

-- with rows left, or with their runs
abbrev pub rows_from : Left → LoopId → TableId → Kept → ℕ → ℕ → ℕ → Cursor
rows_from kind l t c base count above = record { kind = kind; l = l; table = t; context = c; base = base; rows = count; above = above; seen = 0; next = 0 }

-- the same at the first row of the context's run: the rows before it stand before the run. A table that is its own parent has another list in the run
unfoldable pub from_run : Outline → Cursor → Cursor
from_run o cur =
    cond (eqb (start_of cur) 0 || is (table_parent o cur.table.0) cur.table.0) cur
    (on ((context_by cur.context).row cur.table.0) (moved cur (start_of cur)) cur)

-- the row that the rows of a table hang on in a context, plus one; 0 where the table has no parent; none where the context has no row of the parent
unfoldable pub above_in : Outline → ℕ → Context → Option ℕ
above_in o t c = on (table_parent o t) (λ u. on (c.row u) (λ p. Some (p + 1)) None) (Some 0)

abbrev pub is_implied : Kind → Bool
is_implied absent = false
is_implied envelope = false
is_implied implied = true
is_implied (rows t) = false
is_implied (inside t) = false
is_implied (groups t) = false

-- the instance of an `Inside` loop is there
unfoldable pub shown_in : Outline → ℕ → ℕ → Context → Bool
shown_in o l t c = on (c.row t) (shown o l t) false

abbrev pub itself_if : Bool → Left
itself_if true = Itself
itself_if false = Nothing

-- a cursor over the rows of a table, or over their runs
pub record Lists (o : Outline) (n : List ℕ) (kind : Left) (l t : ℕ) (c : Context) (r : Cursor) : Type 0 where
  pub each_row : kind ≡ Rows → coming o n r ≡ map (in_row t c) (rows_in o t c)
  pub each_run : kind ≡ Runs → coming o n r ≡ map (in_piece t c) (pieces_of (o.same_group l) (rows_in o t c))
  pub going : Going o n r

-- a cursor over the instances of a loop, whatever the height
pub record OfLoop (o : Outline) (n : List ℕ) (l : ℕ) (c : Context) (r : Cursor) : Type 0 where
  pub all : (h : ℕ) → coming o n r ≡ instances o (suc h) l c
  pub going : Going o n r

-- ---- the next row

-- row r is the next, the list goes on behind it, and the row's place in its parent's list is r.seen less one
pub record Here (n : List ℕ) (cur : Cursor) (r : RowAhead) : Type 0 where
  pub rest : left n cur ≡ r.row.0 ∷ left_at n cur r.seen r.next
  pub exists : r.row.0 < cur.rows
  pub later : cur.next < r.next
  pub inner : Inside n (moved cur r.seen r.next)
  pub place : start_of cur + (cur.seen - start_of cur) + 1 ≡ r.seen
  pub before : length (keep (passes n cur.base cur.above) (up_to 0 r.row.0)) + 1 ≡ r.seen

pub record Ahead (n : List ℕ) (cur : Cursor) (r : Option RowAhead) : Type 0 where
  pub over : r ≡ None → left n cur ≡ []
  pub row : (a : RowAhead) → r ≡ Some a → Here n cur a

-- the run of `head` that has come to the cursor goes on up to r.seen, and the next begins there
pub record RunEnds (o : Outline) (n : List ℕ) (cur : Cursor) (head : ℕ) (r : RunEnd) : Type 0 where
  pub run : (start : ℕ)
      → pieces (o.same_group cur.l.0) head start (cur.seen - start_of cur) (left n cur)
      ≡ record { head = head; start = start; end = r.seen - start_of cur } ∷ runs o n (moved cur r.seen r.next)
  pub on : cur.seen ≤ r.seen
  pub inner : Inside n (moved cur r.seen r.next)

-- ---- the next instance

-- the context that code makes for it
abbrev pub context_of : Cursor → Next → Left → Kept
context_of cur r Itself = cur.context
context_of cur r Rows = kept_row cur.context cur.table.0 r.row.0
context_of cur r Nothing = kept_piece cur.context cur.table.0 r.row.0 r.start r.seen
context_of cur r Runs = kept_piece cur.context cur.table.0 r.row.0 r.start r.seen

unfoldable pub context_in : Cursor → Next → Kept
context_in cur r = context_of cur r cur.kind

-- the cursor behind it
abbrev pub behind : Cursor → Next → Cursor
behind cur r = record {
  kind = r.kind;
  l = cur.l;
  table = cur.table;
  context = cur.context;
  base = cur.base;
  rows = cur.rows;
  above = cur.above;
  seen = r.seen;
  next = r.next;
}

-- r is the next, and the cursor can go on behind it
pub record Given (o : Outline) (n : List ℕ) (cur : Cursor) (r : Next) : Type 0 where
  pub came : coming o n cur ≡ context_by (context_in cur r) ∷ coming o n (behind cur r)
  pub sound : Sound o (context_by (context_in cur r))
  pub still : Going o n (behind cur r)
  pub small : r.row.0 < 4096

pub record Came (o : Outline) (n : List ℕ) (cur : Cursor) (r : Option Next) : Type 0 where
  pub ended : r ≡ None → coming o n cur ≡ []
  pub given : (a : Next) → r ≡ Some a → Given o n cur a
