-- A column and an optional column: where it ends, and the cell of a row.
use Prim.Native.Nat.{ℕ, ◌+◌, ◌*◌, ◌≤◌, ◌<◌}
use mathlib.Core.Path.{◌≡◌, refl, sym, ◌∙◌}
use mathlib.Core.List.{List}
use mathlib.Core.Bool.{Bool, true, false}
use native.Mathlib.Omega.{arith}
use Rattle.std.specs.Prelude.{Option, None, Some}
use lib.ListN.{length, get_or}
use Rattle.codec.specs.Codec.{◌⊗◌, le, le_c}
use Rattle.codec.specs.Skip.{skip, Is}
use Rattle.codec.proofs.Skip.{skip_map, skip_pair, skip_le}
use Rattle.codec.specs.Field.{Stands}
use Rattle.codec.proofs.Field.{stands_at, stands_in, is_in, is_map, is_enum, is_pair, is_le, is_some, is_none}
use Rattle.codec.specs.Forms.{num_c, bytes_c, opt_c}
use Rattle.codec.proofs.Ways.{tag_in, opt_none, opt_some, skip_opt}
use Rattle.codec.proofs.Answers.{skip_les}
use Rattle.format.specs.Data.{Values, values_c, Column, column_c}
use Rattle.column.specs.Cell.{Cell, bit_of, value_of, get, opt_get, validated, int64_of}
use Rattle.column.specs.Answers.{Reads}
use Rattle.column.proofs.Parts.{ColumnIs, is_column}
use Rattle.column.specs.Parts.{ColumnOf}
use Rattle.column.specs.declared.Cell.{Cell as Read}
use Rattle.column.specs.declared.Cell.TheVariants.{None as NoAnswer, Null}
use Rattle.column.proofs.Read.{reads_none, reads_null}
use Rattle.column.proofs.Values.{Reader, Ending, value_is, other_value, ending_room, ends_at}

-- ---- p is the place behind the values: there stands the validity, and the column ends behind it
module _ (b : List ℕ) (at p : ℕ) (f : (e : ℕ) (v : Values) → Is values_c b e at v → p ≡ skip values_c b at e) where
  validity_is : (e : ℕ) (v : Column) → Is column_c b e at v → Is (bytes_c ⊗ num_c) b e p (v.validity, v.length)
  validity_is e v is =
      let c : ColumnIs b e at v = is_column b e at v is in
      let q : p ≡ skip values_c b at e = f e v.values c.values in
      rw q c.validity

  pub validity_stands : Stands column_c b at → Stands (bytes_c ⊗ num_c) b p
  validity_stands s = stands_at (bytes_c ⊗ num_c) b p p s.end (s.value.validity, s.value.length) refl s.within (validity_is s.end s.value s.is)

  pub column_end : (n : ℕ) → n ≡ le 4 b p → (e : ℕ) (v : Column) → Is column_c b e at v → p + 4 + n + 4 ≡ skip column_c b at e
  unfolding column_c
  column_end n i e v is =
      let q : p ≡ skip values_c b at e = f e v.values (is_column b e at v is).values in
      let t = is_pair bytes_c num_c b e p (v.validity, v.length) (validity_is e v is) in
      let o : p + 4 + le 4 b p * 1 ≡ p + 4 + n = omega (arith, i) in
      let r : skip bytes_c b p e ≡ p + 4 + n = skip_les 1 b e p v.validity t.0 ∙ o in
      let s : p + 4 + n + 4 ≤ e = rw r at (is_le 4 b e _ v.length t.1).0 in
      sym (skip_map _ _ _ _ _ b at e ∙ skip_pair _ _ b at e ∙ rw (← q) (skip_pair bytes_c num_c b p e ∙ rw r (skip_le 4 b (p + 4 + n) e s)))

-- its kind and the count of its first list are there
pub column_in : {b : List ℕ} {at : ℕ} → Stands column_c b at → at + 5 ≤ length b
column_in {b} {at} s = omega (arith, ending_room b at (le 4 b (at + 1)) (get_or b at 0), stands_in _ _ _ (validity_stands b at _ (ends_at b at _ _ _ refl refl refl) s))

-- ---- a column of kind k
module _ {b : List ℕ} {at k n : ℕ} (w : ColumnOf b at k n) where
  ending_is : (p : ℕ) → p ≡ Ending b at n k → (e : ℕ) (v : Values) → Is values_c b e at v → p ≡ skip values_c b at e
  ending_is p j = ends_at b at n k p w.count (sym w.kind) j

  pub ending_stands : (p : ℕ) → p ≡ Ending b at n k → Stands (bytes_c ⊗ num_c) b p
  ending_stands p j = validity_stands b at p (ending_is p j) w.stands

  -- its values are all there
  pub values_in : Ending b at n k ≤ length b
  values_in = stands_in (bytes_c ⊗ num_c) b _ (ending_stands _ refl)

  -- the cell of a row: its bit decides
  module _ (row p : ℕ) (j : p ≡ Ending b at n k) (bit : Option Bool) (g : (e : ℕ) (bytes : List ℕ) (count : ℕ) → e ≤ length b → Is (bytes_c ⊗ num_c) b e p (bytes, count) → bit ≡ bit_of bytes count row) where
    told : (t : Option Bool) → bit ≡ t → (e : ℕ) (v : Column) → e ≤ length b → Is column_c b e at v → validated t (value_of v.values row) ≡ get v row
    unfolding get
    told t m e v l is = rw ((sym m) ∙ g e v.validity v.length l (validity_is b at p (ending_is p j) e v is))

    pub get_missing : bit ≡ None → (e : ℕ) (v : Column) → e ≤ length b → Is column_c b e at v → Reads b NoAnswer (get v row)
    get_missing m e v l is = reads_none b (told None m e v l is)

    pub get_unset : bit ≡ Some false → (e : ℕ) (v : Column) → e ≤ length b → Is column_c b e at v → Reads b Null (get v row)
    get_unset m e v l is = reads_null b (told (Some false) m e v l is)

    pub get_set : bit ≡ Some true → (r : Read) → Reader b (at + 1) row r k → (e : ℕ) (v : Column) → e ≤ length b → Is column_c b e at v → Reads b r (get v row)
    get_set m r f e v l is = rw (← told (Some true) m e v l is) (value_is b at row r k (sym w.kind) f e v.values l (is_column b e at v is).values)

-- ---- optional columns
pub opt_zero : (b : List ℕ) (at : ℕ) → get_or b at 0 ≡ 0 → (e : ℕ) (o : Option Column) → e ≤ length b → Is (opt_c column_c) b e at o → o ≡ None
opt_zero b at h e None l is = refl
opt_zero b at h e (Some x) l is = absurd (omega (arith, (is_some column_c b e at x is).0))

pub opt_absent : (b : List ℕ) (row : ℕ) (o : Option Column) → o ≡ None → Reads b NoAnswer (opt_get o row)
unfolding opt_get
opt_absent b row o h = rw h (reads_none b refl)

pub opt_there : (b : List ℕ) (at row : ℕ) (r : Read) → (get_or b at 0 ≡ 0 → ⊥) → ((e : ℕ) (v : Column) → e ≤ length b → Is column_c b e (at + 1) v → Reads b r (get v row)) → (e : ℕ) (o : Option Column) → e ≤ length b → Is (opt_c column_c) b e at o → Reads b r (opt_get o row)
unfolding opt_get
opt_there b at row r h f e None l is = absurd (h (is_none column_c b e at is))
opt_there b at row r h f e (Some x) l is = f e x l (is_some column_c b e at x is).1

-- a column that is not there, or of another kind, has no Int64
pub int_absent : (row : ℕ) (o : Option Column) → o ≡ None → None ≡ int64_of (opt_get o row)
unfolding opt_get
int_absent row o h = rw h

pub int_other : (b : List ℕ) (at row : ℕ) → (get_or b (at + 1) 0 ≡ 1 → ⊥) → (e : ℕ) (o : Option Column) → Is (opt_c column_c) b e at o → None ≡ int64_of (opt_get o row)
unfolding opt_get get
int_other b at row h e None is = refl
int_other b at row h e (Some x) is = go (bit_of x.validity x.length row) (value_of x.values row) (other_value b e (at + 1) row x.values (is_column b e (at + 1) x (is_some column_c b e at x is).1).values h)
  where
    go : (t : Option Bool) (y : Option Cell) → None ≡ int64_of y → None ≡ int64_of (validated t y)
    go None y q = refl
    go (Some false) y q = refl
    go (Some true) y q = q

opt_room : (b : List ℕ) (e at : ℕ) (o : Option Column) → Is (opt_c column_c) b e at o → at < e
unfolding opt_c
opt_room b e at o is = (is_enum _ b e at _ (is_map _ _ _ _ _ b e at o is)).room

pub opt_end_absent : (b : List ℕ) (at : ℕ) → get_or b at 0 ≡ 0 → (e : ℕ) (o : Option Column) → Is (opt_c column_c) b e at o → at + 1 ≡ skip (opt_c column_c) b at e
opt_end_absent b at h e o is = sym (skip_opt column_c b at e ∙ opt_none b at e _ (tag_in b at e (opt_room b e at o is) ∙ h))

pub opt_end_there : (b : List ℕ) (at p : ℕ) → (get_or b at 0 ≡ 0 → ⊥) → ((e : ℕ) (v : Column) → Is column_c b e (at + 1) v → p ≡ skip column_c b (at + 1) e) → (e : ℕ) (o : Option Column) → Is (opt_c column_c) b e at o → p ≡ skip (opt_c column_c) b at e
opt_end_there b at p h f e None is = absurd (h (is_none column_c b e at is))
opt_end_there b at p h f e (Some x) is =
    let t = is_some column_c b e at x is in
    let q : at + 1 ≤ e = is_in column_c b e (at + 1) x t.1 in
    let k : skip (le_c 1) b at e ≡ at + 1 = skip_le 1 b at e q in
    f e x t.1 ∙ sym (skip_opt column_c b at e ∙ rw k (opt_some b at e _ (tag_in b at e (omega arith) ∙ t.0)))
