-- The instances of a loop inside an instance (write/walk.rs; docs/RULES.md, "Instances" and "Groups").
use Rattle.std.specs.Prelude.{ℕ, zero, suc, ◌+◌, Bool, false, cond, not, ◌&&◌, ◌||◌, List, [], ◌∷◌, map, length, eqb, Option, None, Some}
use Rattle.nest.specs.Lists.{some_of, is_empty_list, on, from, is, part}
use Rattle.nest.specs.Outline.{Outline, Kind, rows, absent, envelope, implied, inside, groups, inside_table, source_table, loop_of, kind_of, segment_of, planned, table_parent, row_count, plain}
use Rattle.nest.specs.Nest.{held}

-- a run of grouped rows: its table, and its bounds counted from the start of the parent's list
pub record Run : Type 0 where
  pub table : ℕ
  pub start : ℕ
  pub end : ℕ

-- the rows an instance sits in
pub record Context : Type 0 where
  pub row : ℕ → Option ℕ  -- by table
  pub run : Option Run

abbrev pub outside : Context
outside = record { row = λ t. None; run = None }

abbrev pub at : ℕ → ℕ → (ℕ → Option ℕ) → ℕ → Option ℕ
at t r old u = cond (eqb u t) (Some r) (old u)

-- ---- the rows of a table in a context

-- those that its parent's row holds, none where there is no such row; all of them where it has no parent
unfoldable pub held_in : Outline → ℕ → (ℕ → Option ℕ) → List ℕ
held_in j t row = on (table_parent j t) (λ u. on (row u) (held j t u) []) (from 0 (row_count j t))

-- cut to the run where it is of that table; a run never passes the end of its list (proofs/Runs)
abbrev pub cut_to : ℕ → Option Run → List ℕ → List ℕ
cut_to t run xs = on run (λ p. cond (eqb p.table t) (part p.start p.end xs) xs) xs

unfoldable pub rows_in : Outline → ℕ → Context → List ℕ
rows_in j t c = cond (plain j t) (cut_to t c.run (held_in j t c.row)) []

-- ---- groups

pub record Piece : Type 0 where
  pub head : ℕ
  pub start : ℕ
  pub end : ℕ

-- the list cut where a row differs from the first of its piece; a piece began at `start` with `head`, and has come to `end`
unfoldable pub pieces : (ℕ → ℕ → Bool) → ℕ → ℕ → ℕ → List ℕ → List Piece
pieces same head start end [] = record { head = head; start = start; end = end } ∷ []
pieces same head start end (r ∷ more) =
    cond (same head r) (pieces same head start (suc end) more) (record { head = head; start = start; end = end } ∷ pieces same r end (suc end) more)

abbrev pub pieces_of : (ℕ → ℕ → Bool) → List ℕ → List Piece
pieces_of same [] = []
pieces_of same (r ∷ more) = pieces same r 0 1 more

-- where the context's list starts in the parent's
abbrev pub offset : ℕ → Option Run → ℕ
offset t run = on run (λ p. cond (eqb p.table t) p.start 0) 0

-- ---- data below an `Inside` loop

-- a column of the table writes a value in a row segment of the loop
unfoldable pub own_data : Outline → ℕ → ℕ → ℕ → Bool
own_data j l t r = some_of (λ i. is (source_table (segment_of j l i).source) t && j.filled l i t r) (from 0 (planned j l))

-- or in an `Inside` loop of the same table below it, looking h levels down
unfoldable pub has_data : Outline → ℕ → ℕ → ℕ → ℕ → Bool
has_data j zero l t r = false
has_data j (suc h) l t r = own_data j l t r || some_of (λ k. is (inside_table (kind_of j k)) t && has_data j h k t r) (loop_of j l).children

-- ---- the six kinds

abbrev pub in_row : ℕ → Context → ℕ → Context
in_row t c r = record { row = at t r c.row; run = None }

abbrev pub in_piece : ℕ → Context → Piece → Context
in_piece t c p = record {
  row = at t p.head c.row;
  run = Some (record { table = t; start = offset t c.run + p.start; end = offset t c.run + p.end });
}

-- a required loop, or one with data
abbrev pub shown : Outline → ℕ → ℕ → ℕ → Bool
shown j l t r = (loop_of j l).required || has_data j (length j.loops) l t r

-- `below` gives the instances of the loops one level down
unfoldable pub by_kind : (ℕ → Context → List Context) → Outline → ℕ → Context → Kind → List Context
by_kind below j l c absent = []
by_kind below j l c envelope = c ∷ []
by_kind below j l c (rows t) = map (in_row t c) (rows_in j t c)
by_kind below j l c (groups t) = map (in_piece t c) (pieces_of (j.same_group l) (rows_in j t c))
by_kind below j l c (inside t) = on (c.row t) (λ r. cond (shown j l t r) (c ∷ []) []) []
by_kind below j l c implied = cond (some_of (λ k. not (is_empty_list (below k c))) (loop_of j l).children) (c ∷ []) []

-- the instances of loop l in context c, looking h levels down
unfoldable pub instances : Outline → ℕ → ℕ → Context → List Context
instances j zero l c = []
instances j (suc h) l c = by_kind (instances j h) j l c (kind_of j l)
