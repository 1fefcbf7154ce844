-- Where each row hangs (write/nest.rs; docs/RULES.md, "Nesting"): on the first row whose key is its reference.
use Rattle.std.specs.Prelude.{ℕ, zero, suc, ◌≡◌, Bool, true, false, cond, ◌&&◌, ◌||◌, length, eqb, leb, Option, None, Some}
use mathlib.Core.List.{List, [], ◌∷◌, foldr}
use Rattle.std.specs.Option.{option_map}
use Rattle.nest.specs.Lists.{keep, each, some_of, first, on, from, is}
use Rattle.nest.specs.Outline.{Outline, Table, Kind, row_table, table_of, kind_of, parent_of, table_parent, row_count, repeated}

-- ---- keys

-- only tables in some ancestor list have keys
unfoldable pub has_keys : Outline → ℕ → Bool
has_keys j u = some_of (λ (d : Table). some_of (eqb u) d.ancestors) j.tables

-- the first row of u with this key
unfoldable pub first_row : Outline → ℕ → ℕ → Option ℕ
first_row j u v = cond (has_keys j u) (first (keep (λ p. eqb (j.key u p) v) (from 0 (row_count j u)))) None

-- the row of u that row r of t refers to
unfoldable pub referred : Outline → ℕ → ℕ → ℕ → Option ℕ
referred j t r u = on (j.reference t u r) (first_row j u) None

-- ---- the anchors of a repeat table

pub record Anchor : Type 0 where
  pub loop : ℕ
  pub table : ℕ

-- how many loops stand above l, as far as h steps show
unfoldable pub depth : Outline → ℕ → ℕ → ℕ
depth j zero l = 0
depth j (suc h) l = on (parent_of j l) (λ p. suc (depth j h p)) 0

abbrev pub depth_of : Outline → ℕ → ℕ
depth_of j l = depth j (length j.loops) l

-- a loop of the table's list that has rows
abbrev pub anchor_at : ℕ → Kind → List Anchor
anchor_at l k = on (row_table k) (λ u. record { loop = l; table = u } ∷ []) []

-- the deepest first, equal depths in list order
abbrev pub insert : Outline → Anchor → List Anchor → List Anchor
insert j a [] = a ∷ []
insert j a (b ∷ bs) = cond (leb (depth_of j b.loop) (depth_of j a.loop)) (a ∷ b ∷ bs) (b ∷ insert j a bs)

unfoldable pub anchors : Outline → ℕ → List Anchor
anchors j t = foldr (insert j) [] (each (λ l. anchor_at l (kind_of j l)) (table_of j t).loops)

-- ---- where a row hangs

-- what a repeat row goes by: an anchor loop, its table, and the row's reference to it
pub record Claim : Type 0 where
  pub loop : ℕ
  pub table : ℕ
  pub value : ℕ

abbrev pub claim_on : Anchor → ℕ → Claim
claim_on a v = record { loop = a.loop; table = a.table; value = v }

-- the first of these anchors whose reference is present, whether or not a row has that key
unfoldable pub claim_in : Outline → ℕ → ℕ → List Anchor → Option Claim
claim_in j t r [] = None
claim_in j t r (a ∷ more) = on (j.reference t a.table r) (λ v. Some (claim_on a v)) (claim_in j t r more)

-- the anchor loop that nest picks for a repeat row, and the row of its table
pub record Hook : Type 0 where
  pub loop : ℕ
  pub table : ℕ
  pub row : ℕ

abbrev pub hook_on : Claim → ℕ → Hook
hook_on k p = record { loop = k.loop; table = k.table; row = p }

abbrev pub settle : Outline → Claim → Option Hook
settle j k = option_map (hook_on k) (first_row j k.table k.value)

-- a repeat row's place; other rows have none
unfoldable pub hook : Outline → ℕ → ℕ → Option Hook
hook j t r = cond (repeated j t) (on (claim_in j t r (anchors j t)) (settle j) None) None

-- a row of a table
pub record Row : Type 0 where
  pub table : ℕ
  pub row : ℕ

abbrev pub row_of : ℕ → ℕ → Row
row_of u p = record { table = u; row = p }

-- the row that row r of t hangs on
unfoldable pub hangs : Outline → ℕ → ℕ → Option Row
hangs j t r = cond (repeated j t) (option_map (λ k. row_of k.table k.row) (hook j t r)) (on (table_parent j t) (λ u. option_map (row_of u) (referred j t r u)) None)

-- a row of a repeat table, or of a table with a parent, must hang on one
unfoldable pub needs_parent : Outline → ℕ → Bool
needs_parent j t = repeated j t || on (table_parent j t) (λ u. true) false

-- a row that needs to hang on one hangs on none: it lacks its parent (docs/RULES.md, "Nesting")
pub record Lacks (j : Outline) (t r : ℕ) : Type 0 where
  pub needs : needs_parent j t ≡ true
  pub none_there : hangs j t r ≡ None

-- it, or a row above it, lacks its parent
pub data Adrift (j : Outline) : ℕ → ℕ → Type 0 where
  it : {t r : ℕ} → Lacks j t r → Adrift j t r
  above : {t r : ℕ} {a : Row} → hangs j t r ≡ Some a → Adrift j a.table a.row → Adrift j t r

-- ---- the rows that a row holds, in order

-- the rows of t that hang on row p of its parent u
unfoldable pub held : Outline → ℕ → ℕ → ℕ → List ℕ
held j t u p = keep (λ r. is (referred j t r u) p) (from 0 (row_count j t))

abbrev pub hooked : Option Hook → ℕ → ℕ → Bool
hooked k l p = on k (λ k. eqb l k.loop && eqb p k.row) false

-- the rows of a repeat table that go into the instance of loop l opened by row p
unfoldable pub repeat_rows : Outline → ℕ → ℕ → ℕ → List ℕ
repeat_rows j t l p = keep (λ r. hooked (hook j t r) l p) (from 0 (row_count j t))

-- ---- nest's result as numbers, three a row: the row that it hangs on plus one, or 0; the anchor loop; the table that placed it

abbrev pub hook_record : Hook → List ℕ
hook_record k = suc k.row ∷ k.loop ∷ k.table ∷ []

abbrev pub parent_record : ℕ → ℕ → List ℕ
parent_record u p = suc p ∷ 0 ∷ u ∷ []

abbrev pub loose_record : List ℕ
loose_record = 0 ∷ 0 ∷ 0 ∷ []

unfoldable pub nest_record : Outline → ℕ → ℕ → List ℕ
nest_record j t r = cond (repeated j t) (on (hook j t r) hook_record loose_record) (on (table_parent j t) (λ u. on (referred j t r u) (parent_record u) loose_record) loose_record)

unfoldable pub table_array : Outline → ℕ → List ℕ
table_array j t = each (nest_record j t) (from 0 (row_count j t))

-- the rows of all tables of data, one after the other
unfoldable pub nest_array : Outline → List ℕ
nest_array j = each (table_array j) (from 0 (length j.row_counts))
