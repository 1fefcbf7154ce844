-- How many bytes a column takes in the data, how long a cell of it is at most, and from which row on it has none.
use Prim.Native.Nat.{ℕ, ◌+◌, ◌*◌, ◌-◌, ◌≤◌, ◌<◌}
use mathlib.Core.Path.{◌≡◌, refl, sym, ◌∙◌}
use mathlib.Core.Bool.{Bool, true, false}
use mathlib.Core.List.{List}
use native.Mathlib.Omega.{arith}
use Rattle.std.specs.Prelude.{Option, None, Some}
use Rattle.std.proofs.lemmas.Option.{none-some}
use lib.ListN.{length, get_or, take, drop, length-append, length-take, length-drop}
use lib.Dec.{leb, ltb}
use borrow.Author.Tests.{le-ltb, ltb-true}
use Rattle.codec.specs.Codec.{Codec, pick, le_c, length_enc_le, map_c, dep_c, enum_c, ◌⊕◌}
use Rattle.codec.specs.Forms.{num_c, byte_c, long_c, wide_c, bytes_c, opt_c}
use Rattle.format.specs.Data as D
use Rattle.format.specs.Data.{Column, values_c, column_c}
use Rattle.column.specs.Cell.{Cell, null, binary, int64, decimal, date32, time32, bit_of, held, between, bytes_of, value_of, validated, get, opt_get, or_null, cell_in, int64_of, ref_column, reference_in}
use Rattle.writer.proofs.Lengths.{list_long, number_long}

-- ---- what a column holds

abbrev value_rows : D.Values → ℕ
value_rows (D.binary offsets bytes) = length offsets
value_rows (D.int64 xs s) = length xs
value_rows (D.decimal xs s) = length xs
value_rows (D.date32 xs) = length xs
value_rows (D.time32 xs) = length xs

abbrev value_bytes : D.Values → ℕ
value_bytes (D.binary offsets bytes) = length bytes
value_bytes (D.int64 xs s) = 0
value_bytes (D.decimal xs s) = 0
value_bytes (D.date32 xs) = 0
value_bytes (D.time32 xs) = 0

abbrev value_ints : D.Values → ℕ
value_ints (D.binary offsets bytes) = 0
value_ints (D.int64 xs s) = length xs
value_ints (D.decimal xs s) = 0
value_ints (D.date32 xs) = 0
value_ints (D.time32 xs) = 0

-- no row from here on has a cell
abbrev pub rows_in : Option Column → ℕ
rows_in None = 0
rows_in (Some c) = value_rows c.values

-- the bytes of its texts
abbrev pub bytes_in : Option Column → ℕ
bytes_in None = 0
bytes_in (Some c) = value_bytes c.values

-- the values of an `Int64` column
abbrev pub ints_in : Option Column → ℕ
ints_in None = 0
ints_in (Some c) = value_ints c.values

-- ---- its bytes in the data

pub byte_long : (n : ℕ) → 1 ≤ length (byte_c.enc n)
unfolding le_c
byte_long n = omega (arith, length_enc_le 1 n)

eight_long : (n : ℕ) → 8 ≤ length (long_c.enc n)
unfolding le_c
eight_long n = omega (arith, length_enc_le 8 n)

wide_long : (n : ℕ) → 4 ≤ length (wide_c.enc n)
unfolding le_c
wide_long n = omega (arith, length_enc_le 16 n)

pub text_long : (xs : List ℕ) → length xs ≤ length (bytes_c.enc xs)
text_long xs = omega (arith, list_long byte_c 1 byte_long xs)

values_take : (v : D.Values) → value_rows v * 4 + value_bytes v ≤ length (values_c.enc v)
unfolding values_c map_c enum_c ◌⊕◌ dep_c
values_take (D.binary offsets bytes) = let h = list_long num_c 4 number_long offsets in let k = text_long bytes in simp length-append (omega arith)
values_take (D.int64 xs s) = let h = list_long long_c 8 eight_long xs in simp length-append (omega arith)
values_take (D.decimal xs s) = let h = list_long wide_c 4 wide_long xs in simp length-append (omega arith)
values_take (D.date32 xs) = let h = list_long num_c 4 number_long xs in omega arith
values_take (D.time32 xs) = let h = list_long num_c 4 number_long xs in omega arith

ints_take : (v : D.Values) → value_ints v * 8 ≤ length (values_c.enc v)
unfolding values_c map_c enum_c ◌⊕◌ dep_c
ints_take (D.binary offsets bytes) = omega arith
ints_take (D.int64 xs s) = let h = list_long long_c 8 eight_long xs in simp length-append (omega arith)
ints_take (D.decimal xs s) = omega arith
ints_take (D.date32 xs) = omega arith
ints_take (D.time32 xs) = omega arith

values_in : (c : Column) → length (values_c.enc c.values) ≤ length (column_c.enc c)
unfolding column_c map_c dep_c
values_in c = simp length-append (omega arith)

pub option_in : {A : Type 0} (C : Codec A) (x : A) → length (C.enc x) ≤ length ((opt_c C).enc (Some x))
unfolding opt_c map_c enum_c ◌⊕◌
option_in C x = omega arith

pub column_takes : (c : Option Column) → rows_in c * 4 + bytes_in c ≤ length ((opt_c column_c).enc c)
column_takes None = omega arith
column_takes (Some c) = omega (arith, values_take c.values, values_in c, option_in column_c c)

pub ints_taken : (c : Option Column) → ints_in c * 8 ≤ length ((opt_c column_c).enc c)
ints_taken None = omega arith
ints_taken (Some c) = omega (arith, ints_take c.values, values_in c, option_in column_c c)

-- ---- references

told : (b : Option Bool) (x : Option Cell) (v : ℕ) → int64_of (validated b x) ≡ Some v → int64_of x ≡ Some v
told None x v e = absurd (none-some v e)
told (Some false) x v e = absurd (none-some v e)
told (Some true) x v e = e

int_held : (xs : List ℕ) (r v : ℕ) → int64_of (held int64 xs r) ≡ Some v → r < length xs
unfolding held
int_held xs r v e = go (ltb r (length xs)) refl e
  where
    go : (b : Bool) → ltb r (length xs) ≡ b → int64_of (pick b (Some (int64 (get_or xs r 0))) None) ≡ Some v → r < length xs
    go true q e = ltb-true r (length xs) q
    go false q e = absurd (none-some v e)

no_int : (f : ℕ → Cell) (xs : List ℕ) (r v : ℕ) → ((x : ℕ) → int64_of (Some (f x)) ≡ None) → int64_of (held f xs r) ≡ Some v → ⊥
unfolding held
no_int f xs r v n e = go (ltb r (length xs)) e
  where
    go : (b : Bool) → int64_of (pick b (Some (f (get_or xs r 0))) None) ≡ Some v → ⊥
    go true e = none-some v (sym (n (get_or xs r 0)) ∙ e)
    go false e = none-some v e

no_text : (offsets bytes : List ℕ) (r v : ℕ) → int64_of (bytes_of offsets bytes r) ≡ Some v → ⊥
unfolding bytes_of between
no_text offsets bytes r v e =
    let a : ℕ = get_or offsets r 0 in
    let z : ℕ = get_or offsets (r + 1) 0 in
    go (ltb (r + 1) (length offsets)) (leb 2147483648 a) (leb 2147483648 z) (ltb z a) (ltb (length bytes) z) _ e
  where
    go : (m n o p q : Bool) (t : List ℕ) → int64_of (pick m (pick n None (pick o None (pick p None (pick q None (Some (binary t)))))) None) ≡ Some v → ⊥
    go false n o p q t e = none-some v e
    go true true o p q t e = none-some v e
    go true false true p q t e = none-some v e
    go true false false true q t e = none-some v e
    go true false false false true t e = none-some v e
    go true false false false false t e = none-some v e

value_int : (x : D.Values) (r v : ℕ) → int64_of (value_of x r) ≡ Some v → r < value_ints x
unfolding value_of
value_int (D.binary offsets bytes) r v e = absurd (no_text offsets bytes r v e)
value_int (D.int64 xs s) r v e = int_held xs r v e
value_int (D.decimal xs s) r v e = absurd (no_int (λ x. decimal x s) xs r v (λ x. refl) e)
value_int (D.date32 xs) r v e = absurd (no_int date32 xs r v (λ x. refl) e)
value_int (D.time32 xs) r v e = absurd (no_int time32 xs r v (λ x. refl) e)

column_int : (c : Option Column) (r v : ℕ) → int64_of (opt_get c r) ≡ Some v → r < ints_in c
unfolding opt_get get
column_int None r v e = absurd (none-some v e)
column_int (Some c) r v e = value_int c.values r v (told (bit_of c.validity c.length r) (value_of c.values r) v e)

-- a row that has a reference stands among the values of its column
pub reference_below : (refs : List (ℕ × Option Column)) (u r v : ℕ) → reference_in refs u r ≡ Some v → r < ints_in (ref_column refs u)
unfolding reference_in
reference_below refs u r v e = column_int (ref_column refs u) r v e

-- ---- cells

-- the bytes of a cell's text and of the component separators before it, at most
abbrev pub weigh : Cell → ℕ
weigh null = 0
weigh (binary bytes) = length bytes + 255
weigh (int64 x) = 303
weigh (decimal x scale) = 303
weigh (date32 x) = 303
weigh (time32 x) = 303

valid_weigh : (b : Option Bool) (x : Option Cell) → weigh (or_null (validated b x)) ≤ weigh (or_null x)
valid_weigh None x = omega arith
valid_weigh (Some false) x = omega arith
valid_weigh (Some true) x = omega arith

held_weigh : (f : ℕ → Cell) (xs : List ℕ) (r : ℕ) → ((x : ℕ) → weigh (f x) ≡ 303) → weigh (or_null (held f xs r)) ≤ 303
unfolding held
held_weigh f xs r n = go (ltb r (length xs))
  where
    go : (b : Bool) → weigh (or_null (pick b (Some (f (get_or xs r 0))) None)) ≤ 303
    go true = omega (arith, n (get_or xs r 0))
    go false = omega arith

held_past : (f : ℕ → Cell) (xs : List ℕ) (r : ℕ) → length xs ≤ r → weigh (or_null (held f xs r)) ≡ 0
unfolding held
held_past f xs r h = rw (le-ltb r (length xs) h)

text_weigh : (offsets bytes : List ℕ) (r : ℕ) → weigh (or_null (bytes_of offsets bytes r)) ≤ length bytes + 303
unfolding bytes_of between
text_weigh offsets bytes r =
    let a : ℕ = get_or offsets r 0 in
    let z : ℕ = get_or offsets (r + 1) 0 in
    go (ltb (r + 1) (length offsets)) (leb 2147483648 a) (leb 2147483648 z) (ltb z a) (ltb (length bytes) z) (take (z - a) (drop a bytes)) (omega (arith, length-take (z - a) (drop a bytes), length-drop a bytes))
  where
    go : (m n o p q : Bool) (t : List ℕ) → length t ≤ length bytes → weigh (or_null (pick m (pick n None (pick o None (pick p None (pick q None (Some (binary t)))))) None)) ≤ length bytes + 303
    go false n o p q t h = omega arith
    go true true o p q t h = omega arith
    go true false true p q t h = omega arith
    go true false false true q t h = omega arith
    go true false false false true t h = omega arith
    go true false false false false t h = omega arith

text_past : (offsets bytes : List ℕ) (r : ℕ) → length offsets ≤ r → weigh (or_null (bytes_of offsets bytes r)) ≡ 0
unfolding bytes_of
text_past offsets bytes r h = rw (le-ltb (r + 1) (length offsets) (omega arith))

value_weigh : (x : D.Values) (r : ℕ) → weigh (or_null (value_of x r)) ≤ value_bytes x + 303
unfolding value_of
value_weigh (D.binary offsets bytes) r = text_weigh offsets bytes r
value_weigh (D.int64 xs s) r = held_weigh int64 xs r (λ x. refl)
value_weigh (D.decimal xs s) r = held_weigh (λ x. decimal x s) xs r (λ x. refl)
value_weigh (D.date32 xs) r = held_weigh date32 xs r (λ x. refl)
value_weigh (D.time32 xs) r = held_weigh time32 xs r (λ x. refl)

value_past : (x : D.Values) (r : ℕ) → value_rows x ≤ r → weigh (or_null (value_of x r)) ≡ 0
unfolding value_of
value_past (D.binary offsets bytes) r h = text_past offsets bytes r h
value_past (D.int64 xs s) r h = held_past int64 xs r h
value_past (D.decimal xs s) r h = held_past (λ x. decimal x s) xs r h
value_past (D.date32 xs) r h = held_past date32 xs r h
value_past (D.time32 xs) r h = held_past time32 xs r h

pub cell_weigh : (c : Option Column) (r : ℕ) → weigh (cell_in c r) ≤ bytes_in c + 303
unfolding cell_in opt_get get
cell_weigh None r = omega arith
cell_weigh (Some c) r = omega (arith, valid_weigh (bit_of c.validity c.length r) (value_of c.values r), value_weigh c.values r)

pub cell_past : (c : Option Column) (r : ℕ) → rows_in c ≤ r → weigh (cell_in c r) ≡ 0
unfolding cell_in opt_get get
cell_past None r h = refl
cell_past (Some c) r h = omega (arith, valid_weigh (bit_of c.validity c.length r) (value_of c.values r), value_past c.values r h)
