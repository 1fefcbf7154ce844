-- A lent list that holds nest's numbers says where each row hangs, and so what is found of it.
use Prim.Native.Nat.{ℕ, zero, suc, ◌+◌, ◌*◌, ◌≤◌, ◌<◌}
use mathlib.Core.Path.{◌≡◌, refl, sym, ap, ap₂, ◌∙◌}
use mathlib.Core.List.{List, [], ◌∷◌, ◌++◌, map}
use native.Mathlib.Omega.{arith}
use native.Mathlib.Decide.{dec_lt}
use native.Mathlib.Numerals.{add-one}
use Rattle.std.proofs.lemmas.Option.{same_Some, none-some}
use Rattle.std.specs.Option.{option_map}
use lib.ListN.{length, get_or, drop, get_or-append}
use lib.Seq.{sets, sets-eq, length-sets}
use Rattle.format.specs.Data.{TableData, no_table_data}
use Rattle.format.specs.Job.{Job}
use Rattle.format.specs.Ask as A
use Rattle.format.specs.Refusal.{rows_of_all}
use Rattle.tables.specs.Parts as T
use Rattle.nest.specs.Lists.{from, sum}
use Rattle.nest.specs.Outline.{Outline, row_count}
use Rattle.nest.specs.Nest.{Row, row_of, hangs, nest_record, nest_array}
use Rattle.std.specs.Prelude.{Option, Some, None}
use Rattle.spec.specs.declared.ids.RowId.{RowId}
use Rattle.spec.specs.declared.ids.TableId.{TableId}
use Rattle.nest.specs.Found.{row_place, nest_at, row_above, ArrayIs}
use Rattle.nest.specs.NestFindings.{contradictions, missing_at, row_findings}
use Rattle.nest.specs.OfJob.{outline_of}
use Rattle.nest.proofs.Bridge.{rows_is, data-count-is}
use Rattle.nest.proofs.NestLaws.{rows_before, before_none, before_next, array_length, record-hangs, record-loose}
use Rattle.nest.proofs.Sizes.{rows_past, rows_all}
use Rattle.nest.proofs.ArrayLaws.{number_at}
use Rattle.nest.proofs.Reports.{found_row, found_none}
use Rattle.nest.proofs.FindingLaws.{row_hangs, row_loose}
use Rattle.nest.proofs.Placing.{before_all, table_length, table_next, room_for, rows_room}

-- ---- where a row's numbers stand

-- a table of which a row is there is a table of data
pub row_there : (o : Outline) (t r : ℕ) → r < row_count o t → t < length o.row_counts
row_there o t r h = go (dec_lt t (length o.row_counts))
  where
    go : Dec (t < length o.row_counts) → t < length o.row_counts
    go (yes k) = k
    go (no k) = let q : row_count o t ≡ 0 = rows_past o t (omega arith) in absurd (omega arith)

-- the rows before a table, in data and in the outline
pub before_is : (j : Job) (t : ℕ) → T.rows_before j.tables t ≡ rows_before (outline_of j) t
before_is j zero = before_all j.tables ∙ sym (before_none (outline_of j))
before_is j (suc t) =
    omega (
      arith,
      ap (T.rows_before j.tables) (add-one t),
      ap (rows_before (outline_of j)) (add-one t),
      table_next j t,
      table_length j t,
      rows_is j t,
      before_next (outline_of j) t,
      before_is j t,
    )

pub place_in : (o : Outline) (t r i : ℕ) → r < row_count o t → i < 3 → (rows_before o t + r) * 3 + i < length (nest_array o)
place_in o t r i h k = omega (arith, array_length o, before_next o t, rows_all o (t + 1))

-- ---- the list that nest's array was stored in

later : (f : ℕ → ℕ) (a n : ℕ) → sum f (from (suc a) n) ≡ sum (λ x. f (suc x)) (from a n)
later f a zero = refl
later f a (suc n) = ap (λ (k : ℕ). f (suc a) + k) (later f (suc a) n)

counts_all : (ts : List TableData) → sum (λ t. get_or (map (λ (v : TableData). v.rows) ts) t 0) (from 0 (length (map (λ (v : TableData). v.rows) ts))) ≡ rows_of_all ts
unfolding rows_of_all
counts_all [] = refl
counts_all (x ∷ ts) = ap (λ (k : ℕ). x.rows + k) (later _ 0 (length (map (λ (v : TableData). v.rows) ts)) ∙ counts_all ts)

pub rows_of_all_lem : (j : Job) → rows_before (outline_of j) (length (outline_of j).row_counts) ≡ rows_of_all j.tables
unfolding rows_before row_count outline_of
rows_of_all_lem j = counts_all j.tables

-- the rows before the table behind the last are all
pub rows_counted : (j : Job) (n m : ℕ) → n ≡ length j.tables → m ≡ T.rows_before j.tables n → m ≡ rows_of_all j.tables
rows_counted j n m e q =
    let c : length (outline_of j).row_counts ≡ n = data-count-is j ∙ sym e in
    let b = ap (rows_before (outline_of j)) c ∙ sym (before_is j n) in
    omega (arith, rows_of_all_lem j, b, q)

-- three numbers a row
pub array_rows : (j : Job) → length (nest_array (outline_of j)) ≡ rows_of_all j.tables * 3
array_rows j = omega (arith, array_length (outline_of j), rows_of_all_lem j)

pub array_in : (j : Job) (d n : List ℕ) → rows_of_all j.tables * 3 ≤ length d → n ≡ sets d 0 (nest_array (outline_of j)) → ArrayIs (outline_of j) n
array_in j d n l e = record {
  room = omega (arith, array_rows j, ap length e, length-sets d 0 (nest_array (outline_of j)));
  numbers = λ i k. rw (e, there) (get_or-append (nest_array (outline_of j)) _ 0 i k);
}
  where
    there : sets d 0 (nest_array (outline_of j)) ≡ nest_array (outline_of j) ++ drop (0 + length (nest_array (outline_of j))) d
    there = sets-eq (nest_array (outline_of j)) d 0 (omega (arith, array_rows j))

-- the rows of a table stand in it
pub rows_room_in : (j : Job) (n : List ℕ) → ArrayIs (outline_of j) n → (t base rows : ℕ) → base ≡ T.rows_before j.tables t → rows ≡ (A.data_of j t).rows → (base + rows) * 3 ≤ length n
unfolding A.data_of
rows_room_in j n w t base rows e q = let z : rows ≡ (get_or j.tables t no_table_data).rows = q in omega (arith, e, z, rows_room j.tables t, w.room, array_rows j)

-- ---- what it says

-- number i of row r
pub number_in : (o : Outline) (n : List ℕ) → ArrayIs o n → (t r i : ℕ) → r < row_count o t → i < 3 → nest_at n (rows_before o t) r i ≡ get_or (nest_record o t r) i 0
number_in o n w t r i h k = w.numbers ((rows_before o t + r) * 3 + i) (place_in o t r i h k) ∙ number_at o t (row_there o t r h) r i h k

module _ (j : Job) (n : List ℕ) (w : ArrayIs (outline_of j) n) (t r base : ℕ) (e : base ≡ T.rows_before j.tables t) (h : r < row_count (outline_of j) t) where
  pub numbers_within : (base + r) * 3 + 2 < length n
  numbers_within = omega (arith, room_for j t r (A.data_of j t).rows base e refl (rw (← rows_is j t) h), w.room, array_rows j)

  pub number_of_lem : (i : ℕ) → i < 3 → nest_at n base r i ≡ get_or (nest_record (outline_of j) t r) i 0
  number_of_lem i k = rw (e ∙ before_is j t) (number_in (outline_of j) n w t r i h k)

  abbrev Above : Option Row → Type 0
  Above x = row_place (nest_at n base r 0) ≡ option_map (λ (p : Row). p.row) x

  above_of : (x : Option Row) → hangs (outline_of j) t r ≡ x → Above x
  above_of None q = ap row_place (number_of_lem 0 (omega arith) ∙ ap (λ (xs : List ℕ). get_or xs 0 0) (record-loose (outline_of j) t r q))
  above_of (Some p) q = ap row_place (number_of_lem 0 (omega arith) ∙ (record-hangs (outline_of j) t r p q).0)

  module _ (f : Option RowId) (g : f ≡ row_above n base r) where
    pub row_placed_lem : (p : RowId) (u : TableId) → f ≡ Some p → u.0 ≡ nest_at n base r 2 → row_findings (outline_of j) t r ≡ contradictions (outline_of j) t r (row_of u.0 p.0)
    unfolding row_above
    row_placed_lem p u z y = go (hangs (outline_of j) t r) refl
      where
        go : (x : Option Row) → hangs (outline_of j) t r ≡ x → row_findings (outline_of j) t r ≡ contradictions (outline_of j) t r (row_of u.0 p.0)
        go None q = absurd (none-some p.0 (sym (above_of None q) ∙ found_row _ f p g z))
        go (Some a) q =
            row_hangs (outline_of j) t r a q
            ∙ ap₂ (λ v o. contradictions (outline_of j) t r (row_of v o)) (sym (y ∙ number_of_lem 2 (omega arith) ∙ (record-hangs (outline_of j) t r a q).1)) (same_Some a.row p.0 (sym (above_of (Some a) q) ∙ found_row _ f p g z))

    pub row_unplaced : f ≡ None → row_findings (outline_of j) t r ≡ missing_at (outline_of j) t r
    unfolding row_above
    row_unplaced z = go (hangs (outline_of j) t r) refl
      where
        go : (x : Option Row) → hangs (outline_of j) t r ≡ x → row_findings (outline_of j) t r ≡ missing_at (outline_of j) t r
        go None q = row_loose (outline_of j) t r q
        go (Some a) q = absurd (none-some a.row (sym (found_none _ f g z) ∙ above_of (Some a) q))
