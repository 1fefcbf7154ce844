-- Nest's definitions, one law for each way that code takes.
use Prim.Native.Nat.{ℕ, zero, suc, ◌+◌, ◌-◌, ◌*◌, ◌<◌}
use mathlib.Core.Path.{◌≡◌, refl, sym, ap, ◌∙◌}
use mathlib.Core.Bool.{Bool, true, false, cond, ◌&&◌}
use mathlib.Core.List.{List, [], ◌∷◌, ◌++◌, append_assoc}
use native.Mathlib.Numerals.{add-one}
use native.Mathlib.Omega.{arith}
use Rattle.std.specs.Prelude.{Option, None, Some}
use Rattle.std.specs.Option.{option_eq}
use Rattle.std.proofs.lemmas.Option.{none-some, same_Some}
use lib.ListN.{length, get_or, length-append, get_or-append}
use lib.Seq.{get_or-append-add}
use lib.Dec.{eqb}
use borrow.Author.Tests.{eq-eqb, ne_eqb, eqb-true, eqb-false}
use Rattle.nest.specs.Lists.{each, keep, some_of, first, on, from, is, sum}
use Rattle.nest.specs.UpTo.{up_to}
use Rattle.nest.specs.Outline.{Outline, Table, no_table, table_of, table_parent, row_count, repeated}
use Rattle.nest.specs.Nest.{has_keys, first_row, referred, anchors, Claim, claim_in, settle, Hook, hook, Row, row_of, hangs, held, hooked, repeat_rows, loose_record, hook_record, parent_record, nest_record, table_array, nest_array}
use Rattle.nest.proofs.Scan.{up_to_all, some_place}

-- ---- keys: the spec's tables by their numbers

pub keys_by : (j : Outline) (u : ℕ) → some_of (λ i. some_of (eqb u) (table_of j i).ancestors) (up_to 0 (length j.tables)) ≡ has_keys j u
unfolding has_keys table_of
keys_by j u = some_place (λ (d : Table). some_of (eqb u) d.ancestors) no_table j.tables

-- ---- the first row with a key: the rows from k on (then `first_here`, `first_next`, `first_end`)

pub keyless : (j : Outline) (u v : ℕ) → has_keys j u ≡ false → first_row j u v ≡ None
unfolding first_row
keyless j u v e = rw e

pub keyed : (j : Outline) (u v : ℕ) → has_keys j u ≡ true → first_row j u v ≡ first (keep (λ p. eqb (j.key u p) v) (up_to 0 (row_count j u)))
unfolding first_row
keyed j u v e = rw (e, up_to_all (row_count j u))

-- ---- where a row hangs

pub referred_null : (j : Outline) (t r u : ℕ) → j.reference t u r ≡ None → referred j t r u ≡ None
unfolding referred
referred_null j t r u e = rw e

pub referred_by : (j : Outline) (t r u v : ℕ) → j.reference t u r ≡ Some v → referred j t r u ≡ first_row j u v
unfolding referred
referred_by j t r u v e = rw e

pub hook_claim : (j : Outline) (t r : ℕ) (k : Claim) → repeated j t ≡ true → claim_in j t r (anchors j t) ≡ Some k → hook j t r ≡ settle j k
unfolding hook
hook_claim j t r k p e = rw (p, e)

pub hook_none : (j : Outline) (t r : ℕ) → repeated j t ≡ true → claim_in j t r (anchors j t) ≡ None → hook j t r ≡ None
unfolding hook
hook_none j t r p e = rw (p, e)

pub hook_plain : (j : Outline) (t r : ℕ) → repeated j t ≡ false → hook j t r ≡ None
unfolding hook
hook_plain j t r p = rw p

pub hangs_hooked : (j : Outline) (t r : ℕ) (k : Hook) → repeated j t ≡ true → hook j t r ≡ Some k → hangs j t r ≡ Some (row_of k.table k.row)
unfolding hangs
hangs_hooked j t r k p e = rw (p, e)

pub hangs_unhooked : (j : Outline) (t r : ℕ) → repeated j t ≡ true → hook j t r ≡ None → hangs j t r ≡ None
unfolding hangs
hangs_unhooked j t r p e = rw (p, e)

pub hangs_top : (j : Outline) (t r : ℕ) → repeated j t ≡ false → table_parent j t ≡ None → hangs j t r ≡ None
unfolding hangs
hangs_top j t r p q = rw (p, q)

pub hangs_referred : (j : Outline) (t r u o : ℕ) → repeated j t ≡ false → table_parent j t ≡ Some u → referred j t r u ≡ Some o → hangs j t r ≡ Some (row_of u o)
unfolding hangs
hangs_referred j t r u o p q e = rw (p, q) (rw e)

pub hangs_lost : (j : Outline) (t r u : ℕ) → repeated j t ≡ false → table_parent j t ≡ Some u → referred j t r u ≡ None → hangs j t r ≡ None
unfolding hangs
hangs_lost j t r u p q e = rw (p, q) (rw e)

-- ---- a row's three numbers

pub record-hooked : (j : Outline) (t r : ℕ) (k : Hook) → repeated j t ≡ true → hook j t r ≡ Some k → nest_record j t r ≡ hook_record k
unfolding nest_record
record-hooked j t r k p e = rw (p, e)

pub record-unhooked : (j : Outline) (t r : ℕ) → repeated j t ≡ true → hook j t r ≡ None → nest_record j t r ≡ loose_record
unfolding nest_record
record-unhooked j t r p e = rw (p, e)

pub record-top : (j : Outline) (t r : ℕ) → repeated j t ≡ false → table_parent j t ≡ None → nest_record j t r ≡ loose_record
unfolding nest_record
record-top j t r p q = rw (p, q)

pub record-referred : (j : Outline) (t r u o : ℕ) → repeated j t ≡ false → table_parent j t ≡ Some u → referred j t r u ≡ Some o → nest_record j t r ≡ parent_record u o
unfolding nest_record
record-referred j t r u o p q e = rw (p, q) (rw e)

pub record-lost : (j : Outline) (t r u : ℕ) → repeated j t ≡ false → table_parent j t ≡ Some u → referred j t r u ≡ None → nest_record j t r ≡ loose_record
unfolding nest_record
record-lost j t r u p q e = rw (p, q) (rw e)

pub record-three : (j : Outline) (t r : ℕ) → length (nest_record j t r) ≡ 3
unfolding nest_record
record-three j t r = go (repeated j t)
  where
    hung : (u : ℕ) (x : Option ℕ) → length (on x (parent_record u) loose_record) ≡ 3
    hung u None = refl
    hung u (Some o) = refl

    parented : (x : Option ℕ) → length (on x (λ u. on (referred j t r u) (parent_record u) loose_record) loose_record) ≡ 3
    parented None = refl
    parented (Some u) = hung u (referred j t r u)

    anchored : (x : Option Hook) → length (on x hook_record loose_record) ≡ 3
    anchored None = refl
    anchored (Some k) = refl

    go : (b : Bool) → length (cond b (on (hook j t r) hook_record loose_record) (on (table_parent j t) (λ u. on (referred j t r u) (parent_record u) loose_record) loose_record)) ≡ 3
    go true = anchored (hook j t r)
    go false = parented (table_parent j t)

-- the first number is the row above plus one, the third its table
pub record-hangs : (j : Outline) (t r : ℕ) (p : Row) → hangs j t r ≡ Some p → (get_or (nest_record j t r) 0 0 ≡ suc p.row) × (get_or (nest_record j t r) 2 0 ≡ p.table)
unfolding hangs
record-hangs j t r p e = go (repeated j t) refl
  where
    Says : Type 0
    Says = (get_or (nest_record j t r) 0 0 ≡ suc p.row) × (get_or (nest_record j t r) 2 0 ≡ p.table)

    by_hook : (x : Option Hook) → hook j t r ≡ x → repeated j t ≡ true → Says
    by_hook None q f = absurd (none-some p (rw (f, q) at e))
    by_hook (Some k) q f = let z : row_of k.table k.row ≡ p = same_Some (row_of k.table k.row) p (rw (f, q) at e) in rw (record-hooked j t r k f q, ← z) (refl, refl)

    by_row : (u : ℕ) (x : Option ℕ) → referred j t r u ≡ x → table_parent j t ≡ Some u → repeated j t ≡ false → Says
    by_row u None q g f = absurd (none-some p (rw q at (rw (f, g) at e)))
    by_row u (Some o) q g f = let z : row_of u o ≡ p = same_Some (row_of u o) p (rw q at (rw (f, g) at e)) in rw (record-referred j t r u o f g q, ← z) (refl, refl)

    by_parent : (x : Option ℕ) → table_parent j t ≡ x → repeated j t ≡ false → Says
    by_parent None g f = absurd (none-some p (rw (f, g) at e))
    by_parent (Some u) g f = by_row u (referred j t r u) refl g f

    go : (b : Bool) → repeated j t ≡ b → Says
    go true f = by_hook (hook j t r) refl f
    go false f = by_parent (table_parent j t) refl f

-- and all three are 0 where it hangs on none
pub record-loose : (j : Outline) (t r : ℕ) → hangs j t r ≡ None → nest_record j t r ≡ loose_record
unfolding hangs
record-loose j t r e = go (repeated j t) refl
  where
    by_hook : (x : Option Hook) → hook j t r ≡ x → repeated j t ≡ true → nest_record j t r ≡ loose_record
    by_hook None q f = record-unhooked j t r f q
    by_hook (Some k) q f = absurd (none-some (row_of k.table k.row) (sym (rw (f, q) at e)))

    by_row : (u : ℕ) (x : Option ℕ) → referred j t r u ≡ x → table_parent j t ≡ Some u → repeated j t ≡ false → nest_record j t r ≡ loose_record
    by_row u None q g f = record-lost j t r u f g q
    by_row u (Some o) q g f = absurd (none-some (row_of u o) (sym (rw q at (rw (f, g) at e))))

    by_parent : (x : Option ℕ) → table_parent j t ≡ x → repeated j t ≡ false → nest_record j t r ≡ loose_record
    by_parent None g f = record-top j t r f g
    by_parent (Some u) g f = by_row u (referred j t r u) refl g f

    go : (b : Bool) → repeated j t ≡ b → nest_record j t r ≡ loose_record
    go true f = by_hook (hook j t r) refl f
    go false f = by_parent (table_parent j t) refl f

pub turn : (a b : ℕ) → eqb a b ≡ eqb b a
turn a b = go (eqb a b) refl
  where
    go : (s : Bool) → eqb a b ≡ s → s ≡ eqb b a
    go true e = sym (eq-eqb b a (sym (eqb-true a b e)))
    go false e = sym (ne_eqb b a (λ z. eqb-false a b e (sym z)))

-- a number that may be absent, compared with one that is there
pub is_eq : (x : Option ℕ) (k : ℕ) → option_eq eqb x (Some k) ≡ is x k
is_eq None k = refl
is_eq (Some n) k = turn n k

same : (p o : ℕ) → eqb p o ≡ eqb (suc o) (suc p)
same p o = go (eqb p o) refl
  where
    go : (s : Bool) → eqb p o ≡ s → s ≡ eqb (suc o) (suc p)
    go true e = sym (eq-eqb (suc o) (suc p) (ap suc (sym (eqb-true p o e))))
    go false e = sym (ne_eqb (suc o) (suc p) (λ z. eqb-false p o e (omega (arith, z))))

-- ---- the array: where a row's numbers stand

pub length_each : {A B : Type 0} (f : A → List B) (xs : List A) → length (each f xs) ≡ sum (λ x. length (f x)) xs
length_each f [] = refl
length_each f (x ∷ xs) = omega (arith, length-append (f x) (each f xs), length_each f xs)

each_numbers : {B : Type 0} (f : ℕ → List B) (a m n : ℕ) → each f (from a (m + n)) ≡ each f (from a m) ++ each f (from (a + m) n)
each_numbers f a zero n =
    let p : 0 + n ≡ n = omega arith in
    let q : a + 0 ≡ a = omega arith in
    rw (p, q)
each_numbers f a (suc m) n =
    let p : suc m + n ≡ suc (m + n) = omega arith in
    let q : suc a + m ≡ a + suc m = omega arith in
    rw p (ap (λ r. f a ++ r) (each_numbers f (suc a) m n ∙ ap (λ i. each f (from (suc a) m) ++ each f (from i n)) q) ∙ sym (append_assoc (f a) (each f (from (suc a) m)) (each f (from (a + suc m) n))))

-- the part that belongs to number k
get_d_each : {B : Type 0} (f : ℕ → List B) (n k i : ℕ) (d : B) → k < n → i < length (f k) → get_or (each f (from 0 n)) (length (each f (from 0 k)) + i) d ≡ get_or (f k) i d
get_d_each f n k i d h s =
    let q : n ≡ k + suc (n - suc k) = omega arith in
    let z : 0 + k ≡ k = omega arith in
    ap (λ m. get_or (each f (from 0 m)) (length (each f (from 0 k)) + i) d) q
    ∙ ap (λ xs. get_or xs (length (each f (from 0 k)) + i) d) (each_numbers f 0 k (suc (n - suc k)))
    ∙ get_or-append-add (each f (from 0 k)) (each f (from (0 + k) (suc (n - suc k)))) i d
    ∙ ap (λ a. get_or (f a ++ each f (from (suc a) (n - suc k))) i d) z
    ∙ get_or-append (f k) (each f (from (suc k) (n - suc k))) d i s

-- the rows of the tables before t
unfoldable pub rows_before : Outline → ℕ → ℕ
rows_before j t = sum (row_count j) (from 0 t)

sum_threes : (f : ℕ → ℕ) (a n : ℕ) → ((x : ℕ) → f x ≡ 3) → sum f (from a n) ≡ 3 * n
sum_threes f a zero e = refl
sum_threes f a (suc n) e = omega (arith, e a, sum_threes f (suc a) n e)

sum_scaled : (f g : ℕ → ℕ) (xs : List ℕ) → ((x : ℕ) → f x ≡ 3 * g x) → sum f xs ≡ 3 * sum g xs
sum_scaled f g [] e = refl
sum_scaled f g (x ∷ xs) e = omega (arith, e x, sum_scaled f g xs e)

rows_length : (j : Outline) (t n : ℕ) → length (each (nest_record j t) (from 0 n)) ≡ 3 * n
rows_length j t n = length_each (nest_record j t) (from 0 n) ∙ sum_threes (λ r. length (nest_record j t r)) 0 n (record-three j t)

table_length : (j : Outline) (t : ℕ) → length (table_array j t) ≡ 3 * row_count j t
unfolding table_array
table_length j t = rows_length j t (row_count j t)

tables_length : (j : Outline) (t : ℕ) → length (each (table_array j) (from 0 t)) ≡ 3 * rows_before j t
unfolding rows_before
tables_length j t = length_each (table_array j) (from 0 t) ∙ sum_scaled (λ u. length (table_array j u)) (row_count j) (from 0 t) (table_length j)

-- as a loop builds it
pub array_all : (j : Outline) → nest_array j ≡ each (table_array j) (up_to 0 (length j.row_counts))
unfolding nest_array
array_all j = rw (up_to_all (length j.row_counts))

pub table_array_all : (j : Outline) (t : ℕ) → table_array j t ≡ each (nest_record j t) (up_to 0 (row_count j t))
unfolding table_array
table_array_all j t = rw (up_to_all (row_count j t))

-- a table's first row
pub before_none : (j : Outline) → rows_before j 0 ≡ 0
unfolding rows_before
before_none j = refl

pub before_next : (j : Outline) (t : ℕ) → rows_before j (t + 1) ≡ rows_before j t + row_count j t
unfolding rows_before
before_next j t = rw add-one (go t 0 ∙ ap (λ u. sum (row_count j) (from 0 t) + row_count j u) (omega arith))
  where
    go : (n a : ℕ) → sum (row_count j) (from a (suc n)) ≡ sum (row_count j) (from a n) + row_count j (a + n)
    go zero a = let q : a + 0 ≡ a = omega arith in rw q (omega arith)
    go (suc n) a = let q : a + suc n ≡ suc a + n = omega arith in rw q (omega (arith, go n (suc a)))

pub array_length : (j : Outline) → length (nest_array j) ≡ 3 * rows_before j (length j.row_counts)
unfolding nest_array
array_length j = tables_length j (length j.row_counts)

-- number i of the three of row r of table t
pub array_at : (j : Outline) (t r i : ℕ) → t < length j.row_counts → r < row_count j t → i < 3 → get_or (nest_array j) (3 * (rows_before j t + r) + i) 0 ≡ get_or (nest_record j t r) i 0
unfolding nest_array table_array
array_at j t r i h k s =
    let place : 3 * (rows_before j t + r) + i ≡ length (each (table_array j) (from 0 t)) + (3 * r + i) = omega (arith, tables_length j t) in
    let row : 3 * r + i ≡ length (each (nest_record j t) (from 0 r)) + i = omega (arith, rows_length j t r) in
    ap (λ a. get_or (nest_array j) a 0) place
    ∙ get_d_each (table_array j) (length j.row_counts) t (3 * r + i) 0 h (omega (arith, table_length j t))
    ∙ ap (λ a. get_or (table_array j t) a 0) row
    ∙ get_d_each (nest_record j t) (row_count j t) r i 0 k (omega (arith, record-three j t r))

-- ---- what the numbers say: the tests of `held` and `repeat_rows`

-- row p of its parent holds it exactly where its first number is p plus one
pub holds : (j : Outline) (t r u p : ℕ) → repeated j t ≡ false → table_parent j t ≡ Some u → is (referred j t r u) p ≡ eqb (get_or (nest_record j t r) 0 0) (suc p)
holds j t r u p f q = go (referred j t r u) refl
  where
    go : (x : Option ℕ) → referred j t r u ≡ x → is (referred j t r u) p ≡ eqb (get_or (nest_record j t r) 0 0) (suc p)
    go None e = rw (record-lost j t r u f q e, e) (sym (ne_eqb 0 (suc p) (λ z. omega (arith, z))))
    go (Some o) e = rw (record-referred j t r u o f q e, e) (same p o)

-- the instance of loop l that row p opens takes a repeat row exactly where its first two numbers are p plus one and l
pub takes : (j : Outline) (t r l p : ℕ) → repeated j t ≡ true → hooked (hook j t r) l p ≡ eqb (get_or (nest_record j t r) 0 0) (suc p) && eqb (get_or (nest_record j t r) 1 0) l
takes j t r l p f = go (hook j t r) refl
  where
    go : (x : Option Hook) → hook j t r ≡ x → hooked (hook j t r) l p ≡ eqb (get_or (nest_record j t r) 0 0) (suc p) && eqb (get_or (nest_record j t r) 1 0) l
    go None e = rw (record-unhooked j t r f e, e) (sym (ap (λ b. b && eqb 0 l) (ne_eqb 0 (suc p) (λ z. omega (arith, z)))))
    go (Some k) e = rw (record-hooked j t r k f e, e) (both (eqb l k.loop) (eqb p k.row) (eqb (suc k.row) (suc p)) (eqb k.loop l) (turn l k.loop) (same p k.row))
      where
        both : (a b c d : Bool) → a ≡ d → b ≡ c → a && b ≡ c && d
        both true true c d x y = rw (← x, ← y)
        both true false c d x y = rw (← x, ← y)
        both false true c d x y = rw (← x, ← y)
        both false false c d x y = rw (← x, ← y)

-- the rows that a row holds, from row 0 on (then `keep_yes`, `keep_no`, `keep_end`)
pub held_all : (j : Outline) (t u p : ℕ) → held j t u p ≡ keep (λ r. is (referred j t r u) p) (up_to 0 (row_count j t))
unfolding held
held_all j t u p = rw (up_to_all (row_count j t))

-- a table without repeat segment gives no repeat rows
pub takes_none : (j : Outline) (t l p : ℕ) → repeated j t ≡ false → repeat_rows j t l p ≡ []
unfolding repeat_rows
takes_none j t l p f = none_kept (row_count j t) 0
  where
    none_kept : (n a : ℕ) → keep (λ r. hooked (hook j t r) l p) (from a n) ≡ []
    none_kept zero a = refl
    none_kept (suc n) a = rw (hook_plain j t a f) (none_kept n (suc a))
