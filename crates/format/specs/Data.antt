-- The data of a job: for each table its rows, keys, references and columns, and the codec of each (docs/RULES.md, "Structures").
use Rattle.std.specs.Prelude.{ℕ, ◌≡◌, refl, List, [], ◌⊎◌, Option, None}
use Rattle.std.proofs.Common.{inl, inr}
use Rattle.codec.specs.Codec.{Codec, ◌⊗◌, map_c, enum_c, ◌⊕◌, end_c, list_c}
use Rattle.codec.specs.Forms.{num_c, byte_c, long_c, wide_c, bytes_c, opt_c}

-- Binary with offsets and data, Int64 and Decimal128 with values and scale, Date32, Time32; a signed number is kept as its bits
pub data Values : Type 0 where
  binary : List ℕ → List ℕ → Values
  int64 decimal : List ℕ → ℕ → Values
  date32 time32 : List ℕ → Values

abbrev pub RawValues : Type 0
RawValues = (List ℕ × List ℕ) ⊎ ((List ℕ × ℕ) ⊎ ((List ℕ × ℕ) ⊎ (List ℕ ⊎ (List ℕ ⊎ ⊥))))

abbrev pub to_values : RawValues → Values
to_values (inl x) = binary x.0 x.1
to_values (inr (inl x)) = int64 x.0 x.1
to_values (inr (inr (inl x))) = decimal x.0 x.1
to_values (inr (inr (inr (inl x)))) = date32 x
to_values (inr (inr (inr (inr (inl x))))) = time32 x
to_values (inr (inr (inr (inr (inr z))))) = absurd z

abbrev pub of_values : Values → RawValues
of_values (binary x y) = inl (x, y)
of_values (int64 x y) = inr (inl (x, y))
of_values (decimal x y) = inr (inr (inl (x, y)))
of_values (date32 x) = inr (inr (inr (inl x)))
of_values (time32 x) = inr (inr (inr (inr (inl x))))

pub values_to_of : (v : Values) → to_values (of_values v) ≡ v
values_to_of (binary x y) = refl
values_to_of (int64 x y) = refl
values_to_of (decimal x y) = refl
values_to_of (date32 x) = refl
values_to_of (time32 x) = refl

pub values_of_to : (v : RawValues) → of_values (to_values v) ≡ v
values_of_to (inl x) = refl
values_of_to (inr (inl x)) = refl
values_of_to (inr (inr (inl x))) = refl
values_of_to (inr (inr (inr (inl x)))) = refl
values_of_to (inr (inr (inr (inr (inl x))))) = refl
values_of_to (inr (inr (inr (inr (inr z))))) = absurd z

unfoldable pub values_c : Codec Values
values_c = map_c to_values of_values values_to_of values_of_to (enum_c (list_c num_c ⊗ bytes_c ⊕ list_c long_c ⊗ byte_c ⊕ list_c wide_c ⊗ byte_c ⊕ list_c num_c ⊕ list_c num_c ⊕ end_c))

-- a validity has `length` bits, the lowest of a byte first
pub record Column : Type 0 where
  pub values : Values
  pub validity : List ℕ
  pub length : ℕ

unfoldable pub column_c : Codec Column
column_c = map_c
    (λ t. record { values = t.0; validity = t.1.0; length = t.1.1 })
    (λ v. (v.values, (v.validity, v.length))) (λ y. refl) (λ x. refl)
    (values_c ⊗ bytes_c ⊗ num_c)

pub record TableData : Type 0 where
  pub rows : ℕ
  pub row : Option Column
  pub segment : Option Column
  pub refs : List (ℕ × Option Column)
  pub columns : List (Option Column)

unfoldable pub table_data_c : Codec TableData
table_data_c = map_c
    (λ t. record { rows = t.0; row = t.1.0; segment = t.1.1.0; refs = t.1.1.1.0; columns = t.1.1.1.1 })
    (λ v. (v.rows, (v.row, (v.segment, (v.refs, v.columns))))) (λ y. refl) (λ x. refl)
    (num_c ⊗ opt_c column_c ⊗ opt_c column_c ⊗ list_c (num_c ⊗ opt_c column_c) ⊗ list_c (opt_c column_c))

abbrev pub Data : Type 0
Data = List TableData

abbrev pub data_c : Codec Data
data_c = list_c table_data_c

-- ---- what stands for one that is not there
abbrev pub no_table_data : TableData
no_table_data = record { rows = 0; row = None; segment = None; refs = []; columns = [] }
