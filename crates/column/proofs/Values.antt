-- The values of a column by the byte of their case: their parts, where they end, and the value of a row.
use Prim.Native.Nat.{ℕ, zero, suc, ◌+◌, ◌*◌, ◌-◌, ◌≤◌, ◌<◌}
use mathlib.Core.Path.{◌≡◌, refl, sym, ap, subst, ◌∙◌}
use mathlib.Core.List.{List}
use mathlib.Core.Bool.{Bool, true, false}
use native.Mathlib.Omega.{arith}
use Rattle.std.specs.Prelude.{None, Some}
use lib.ListN.{length, get_or, take, drop}
use lib.Dec.{leb, ltb}
use Rattle.codec.specs.Codec.{◌⊗◌, ◌⊕◌, le, le_c, list_c, pick}
use Rattle.codec.specs.Skip.{skip, Is}
use Rattle.codec.proofs.Skip.{skip_map, skip_pair, skip_enum, skip_case_0, skip_case_suc, skip_le}
use Rattle.codec.proofs.Field.{is_map, is_pair, is_enum, is_first, is_later, is_le}
use Rattle.codec.specs.Forms.{num_c, byte_c, long_c, wide_c, bytes_c}
use Rattle.codec.proofs.Answers.{skip_les}
use Rattle.format.specs.Data.{Values, binary, int64, decimal, date32, time32, values_c}
use Rattle.column.specs.Cell.{Cell, held, between, bytes_of, value_of, int64_of}
use Rattle.column.specs.Answers.{Reads}
use Rattle.column.specs.declared.Cell.{Cell as Read}
use Rattle.column.proofs.Lists.{plain_end, behind}

abbrev case_number : Values → ℕ
case_number (binary x y) = 0
case_number (int64 x y) = 1
case_number (decimal x y) = 2
case_number (date32 x) = 3
case_number (time32 x) = 4

module _ (b : List ℕ) (e at : ℕ) where
  values_tag : (v : Values) → Is values_c b e at v → get_or b at 0 ≡ case_number v
  unfolding values_c ◌⊕◌
  values_tag (binary x y) h = sym (is_enum _ b e at _ (is_map _ _ _ _ _ b e at (binary x y) h)).tag
  values_tag (int64 x y) h = sym (is_enum _ b e at _ (is_map _ _ _ _ _ b e at (int64 x y) h)).tag
  values_tag (decimal x y) h = sym (is_enum _ b e at _ (is_map _ _ _ _ _ b e at (decimal x y) h)).tag
  values_tag (date32 x) h = sym (is_enum _ b e at _ (is_map _ _ _ _ _ b e at (date32 x) h)).tag
  values_tag (time32 x) h = sym (is_enum _ b e at _ (is_map _ _ _ _ _ b e at (time32 x) h)).tag

  Fields : Values → Type 0
  Fields (binary x y) = Is (list_c num_c ⊗ bytes_c) b e (at + 1) (x, y)
  Fields (int64 x y) = Is (list_c long_c ⊗ byte_c) b e (at + 1) (x, y)
  Fields (decimal x y) = Is (list_c wide_c ⊗ byte_c) b e (at + 1) (x, y)
  Fields (date32 x) = Is (list_c num_c) b e (at + 1) x
  Fields (time32 x) = Is (list_c num_c) b e (at + 1) x

  values_fields : (v : Values) → Is values_c b e at v → Fields v
  unfolding values_c Fields
  values_fields (binary x y) h = is_first _ _ b e (at + 1) _ _ (is_enum _ b e at _ (is_map _ _ _ _ _ b e at (binary x y) h)).fields
  values_fields (int64 x y) h = is_first _ _ b e (at + 1) _ _ (is_later _ _ b e (at + 1) _ _ (is_enum _ b e at _ (is_map _ _ _ _ _ b e at (int64 x y) h)).fields).1
  values_fields (decimal x y) h = is_first _ _ b e (at + 1) _ _ (is_later _ _ b e (at + 1) _ _ (is_later _ _ b e (at + 1) _ _ (is_enum _ b e at _ (is_map _ _ _ _ _ b e at (decimal x y) h)).fields).1).1
  values_fields (date32 x) h = is_first _ _ b e (at + 1) _ _ (is_later _ _ b e (at + 1) _ _ (is_later _ _ b e (at + 1) _ _ (is_later _ _ b e (at + 1) _ _ (is_enum _ b e at _ (is_map _ _ _ _ _ b e at (date32 x) h)).fields).1).1).1
  values_fields (time32 x) h = is_first _ _ b e (at + 1) _ _ (is_later _ _ b e (at + 1) _ _ (is_later _ _ b e (at + 1) _ _ (is_later _ _ b e (at + 1) _ _ (is_later _ _ b e (at + 1) _ _ (is_enum _ b e at _ (is_map _ _ _ _ _ b e at (time32 x) h)).fields).1).1).1).1

-- ---- the value of a row
-- what the reader of case k promises of what stands at a place
abbrev pub Reader : List ℕ → ℕ → ℕ → Read → ℕ → Type 0
Reader b at row r zero = (e : ℕ) (xs ys : List ℕ) → e ≤ length b → Is (list_c num_c ⊗ bytes_c) b e at (xs, ys) → Reads b r (bytes_of xs ys row)
Reader b at row r (suc zero) = (e : ℕ) (xs : List ℕ) → Is (list_c long_c) b e at xs → Reads b r (held Cell.int64 xs row)
Reader b at row r (suc (suc zero)) = (e : ℕ) (xs : List ℕ) (scale : ℕ) → Is (list_c wide_c ⊗ byte_c) b e at (xs, scale) → Reads b r (held (λ x. Cell.decimal x scale) xs row)
Reader b at row r (suc (suc (suc zero))) = (e : ℕ) (xs : List ℕ) → Is (list_c num_c) b e at xs → Reads b r (held Cell.date32 xs row)
Reader b at row r (suc (suc (suc (suc k)))) = (e : ℕ) (xs : List ℕ) → Is (list_c num_c) b e at xs → Reads b r (held Cell.time32 xs row)

pub value_is : (b : List ℕ) (at row : ℕ) (r : Read) (k : ℕ) → get_or b at 0 ≡ k → Reader b (at + 1) row r k → (e : ℕ) (v : Values) → e ≤ length b → Is values_c b e at v → Reads b r (value_of v row)
unfolding Fields value_of
value_is b at row r k h f e v l is = go v is (subst (λ (j : ℕ). Reader b (at + 1) row r j) (sym h ∙ values_tag b e at v is) f) (values_fields b e at v is)
  where
    go : (v : Values) → Is values_c b e at v → Reader b (at + 1) row r (case_number v) → Fields b e at v → Reads b r (value_of v row)
    go (binary x y) is f i = f e x y l i
    go (int64 x y) is f i = f e x (is_pair (list_c long_c) byte_c b e (at + 1) (x, y) i).0
    go (decimal x y) is f i = f e x y i
    go (date32 x) is f i = f e x i
    go (time32 x) is f i = f e x i

-- an Int64 stands only in case 1
other_held : (f : ℕ → Cell) → ((x : ℕ) → None ≡ int64_of (Some (f x))) → (xs : List ℕ) (row : ℕ) → None ≡ int64_of (held f xs row)
unfolding held
other_held f g xs row = go (ltb row (length xs))
  where
    go : (t : Bool) → None ≡ int64_of (pick t (Some (f (get_or xs row 0))) None)
    go true = g _
    go false = refl

other_bytes : (xs ys : List ℕ) (row : ℕ) → None ≡ int64_of (bytes_of xs ys row)
unfolding bytes_of between
other_bytes xs ys row = let from = get_or xs row 0 in let to = get_or xs (row + 1) 0 in go (ltb (row + 1) (length xs)) (leb 2147483648 from) (leb 2147483648 to) (ltb to from) (ltb (length ys) to) (take (to - from) (drop from ys))
  where
    go : (t u v w x : Bool) (zs : List ℕ) → None ≡ int64_of (pick t (pick u None (pick v None (pick w None (pick x None (Some (Cell.binary zs)))))) None)
    go false u v w x zs = refl
    go true true v w x zs = refl
    go true false true w x zs = refl
    go true false false true x zs = refl
    go true false false false true zs = refl
    go true false false false false zs = refl

pub other_value : (b : List ℕ) (e at row : ℕ) (v : Values) → Is values_c b e at v → (get_or b at 0 ≡ 1 → ⊥) → None ≡ int64_of (value_of v row)
unfolding value_of
other_value b e at row (binary x y) is h = other_bytes x y row
other_value b e at row (int64 x y) is h = absurd (h (values_tag b e at (int64 x y) is))
other_value b e at row (decimal x y) is h = other_held (λ z. Cell.decimal z y) (λ z. refl) x row
other_value b e at row (date32 x) is h = other_held Cell.date32 (λ z. refl) x row
other_value b e at row (time32 x) is h = other_held Cell.time32 (λ z. refl) x row

-- behind the first three cases stand days, then seconds
pub short_reader : (b : List ℕ) (at row : ℕ) (r : Read) (k : ℕ) → 2 < k → (k ≡ 3 → Reader b at row r 3) → (3 < k → Reader b at row r 4) → Reader b at row r k
short_reader b at row r zero h f g = absurd (omega arith)
short_reader b at row r (suc zero) h f g = absurd (omega arith)
short_reader b at row r (suc (suc zero)) h f g = absurd (omega arith)
short_reader b at row r (suc (suc (suc zero))) h f g = f refl
short_reader b at row r (suc (suc (suc (suc k)))) h f g = g (omega arith)

-- ---- where they end
-- the place behind values of case k, of whose first list n is the count
abbrev pub Ending : List ℕ → ℕ → ℕ → ℕ → ℕ
Ending b at n zero = at + 5 + n * 4 + 4 + le 4 b (at + 5 + n * 4)
Ending b at n (suc zero) = at + 5 + n * 8 + 1
Ending b at n (suc (suc zero)) = at + 5 + n * 16 + 1
Ending b at n (suc (suc (suc k))) = at + 5 + n * 4

module _ (b : List ℕ) (e at n : ℕ) (i : n ≡ le 4 b (at + 1)) where
  scaled_end : (w : ℕ) (xs : List ℕ) (y : ℕ) → Is (list_c (le_c w) ⊗ byte_c) b e (at + 1) (xs, y) → skip (list_c (le_c w) ⊗ byte_c) b (at + 1) e ≡ at + 5 + n * w + 1
  scaled_end w xs y is =
      let t = behind w byte_c b at n i e xs y is in
      skip_pair (list_c (le_c w)) byte_c b (at + 1) e ∙ rw (plain_end w b at n i e xs t.0) (skip_le 1 b (at + 5 + n * w) e (is_le 1 b e _ y t.1).0)

  bytes_end : (xs ys : List ℕ) → Is (list_c num_c ⊗ bytes_c) b e (at + 1) (xs, ys) → skip (list_c num_c ⊗ bytes_c) b (at + 1) e ≡ at + 5 + n * 4 + 4 + le 4 b (at + 5 + n * 4)
  bytes_end xs ys is =
      let t = behind 4 bytes_c b at n i e xs ys is in
      let o : le 4 b (at + 5 + n * 4) * 1 ≡ le 4 b (at + 5 + n * 4) = omega arith in
      skip_pair (list_c num_c) bytes_c b (at + 1) e ∙ rw (plain_end 4 b at n i e xs t.0) (skip_les 1 b e (at + 5 + n * 4) ys t.1 ∙ rw o)

  values_end : (v : Values) → Is values_c b e at v → skip values_c b at e ≡ Ending b at n (case_number v)
  unfolding values_c Fields
  values_end (binary x y) is =
      skip_map _ _ _ _ _ b at e ∙ skip_enum _ b at e (is_enum _ b e at _ (is_map _ _ _ _ _ b e at (binary x y) is)).room
      ∙ rw (values_tag b e at (binary x y) is) (skip_case_0 _ _ b (at + 1) e ∙ bytes_end x y (values_fields b e at (binary x y) is))
  values_end (int64 x y) is =
      skip_map _ _ _ _ _ b at e ∙ skip_enum _ b at e (is_enum _ b e at _ (is_map _ _ _ _ _ b e at (int64 x y) is)).room
      ∙ rw (values_tag b e at (int64 x y) is) (skip_case_suc _ _ b (at + 1) e 0 ∙ skip_case_0 _ _ b (at + 1) e ∙ scaled_end 8 x y (values_fields b e at (int64 x y) is))
  values_end (decimal x y) is =
      skip_map _ _ _ _ _ b at e ∙ skip_enum _ b at e (is_enum _ b e at _ (is_map _ _ _ _ _ b e at (decimal x y) is)).room
      ∙ rw (values_tag b e at (decimal x y) is) (skip_case_suc _ _ b (at + 1) e 1 ∙ skip_case_suc _ _ b (at + 1) e 0 ∙ skip_case_0 _ _ b (at + 1) e ∙ scaled_end 16 x y (values_fields b e at (decimal x y) is))
  values_end (date32 x) is =
      skip_map _ _ _ _ _ b at e ∙ skip_enum _ b at e (is_enum _ b e at _ (is_map _ _ _ _ _ b e at (date32 x) is)).room
      ∙ rw (values_tag b e at (date32 x) is) (skip_case_suc _ _ b (at + 1) e 2 ∙ skip_case_suc _ _ b (at + 1) e 1 ∙ skip_case_suc _ _ b (at + 1) e 0 ∙ skip_case_0 _ _ b (at + 1) e ∙ plain_end 4 b at n i e x (values_fields b e at (date32 x) is))
  values_end (time32 x) is =
      skip_map _ _ _ _ _ b at e ∙ skip_enum _ b at e (is_enum _ b e at _ (is_map _ _ _ _ _ b e at (time32 x) is)).room
      ∙ rw (values_tag b e at (time32 x) is) (skip_case_suc _ _ b (at + 1) e 3 ∙ skip_case_suc _ _ b (at + 1) e 2 ∙ skip_case_suc _ _ b (at + 1) e 1 ∙ skip_case_suc _ _ b (at + 1) e 0 ∙ skip_case_0 _ _ b (at + 1) e ∙ plain_end 4 b at n i e x (values_fields b e at (time32 x) is))

pub ending_room : (b : List ℕ) (at n k : ℕ) → at + 5 ≤ Ending b at n k
ending_room b at n zero = omega arith
ending_room b at n (suc zero) = omega arith
ending_room b at n (suc (suc zero)) = omega arith
ending_room b at n (suc (suc (suc k))) = omega arith

-- the place p is behind whatever values stand there, by the case that does
pub ends_at : (b : List ℕ) (at n k p : ℕ) → n ≡ le 4 b (at + 1) → get_or b at 0 ≡ k → p ≡ Ending b at n k → (e : ℕ) (v : Values) → Is values_c b e at v → p ≡ skip values_c b at e
ends_at b at n k p i h j e v is = j ∙ ap (Ending b at n) (sym h ∙ values_tag b e at v is) ∙ sym (values_end b e at n i v is)

pub ends_plain : (b : List ℕ) (at n k p : ℕ) → 2 < k → p ≡ at + 5 + n * 4 → p ≡ Ending b at n k
ends_plain b at n zero p h j = absurd (omega arith)
ends_plain b at n (suc zero) p h j = absurd (omega arith)
ends_plain b at n (suc (suc zero)) p h j = absurd (omega arith)
ends_plain b at n (suc (suc (suc k))) p h j = j
