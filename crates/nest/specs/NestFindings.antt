-- What nest reports (write/nest.rs; docs/RULES.md, "Nest's findings"): duplicate keys first, table by table; then each row in table order.
use Rattle.std.specs.Prelude.{ℕ, ◌<◌, ◌≡◌, cond, ◌&&◌, List, [], ◌∷◌, ◌++◌, length, eqb, ltb, Option, None, Some}
use Rattle.nest.specs.Lists.{once, each, on, from, sum}
use Rattle.nest.specs.Outline.{Outline, table_of, table_parent, row_count, repeated}
use Rattle.nest.specs.Nest.{Anchor, Row, Lacks, first_row, anchors, claim_in, hangs}
use Rattle.nest.specs.Finding.{Finding, duplicate, missing, mismatch, out_of_order, delimiter, not_writable}

-- ---- duplicate keys

-- a row whose key an earlier row has; a table without keys has none
unfoldable pub duplicate_at : Outline → ℕ → ℕ → List Finding
duplicate_at j t r = on (first_row j t (j.key t r)) (λ f. cond (ltb f r) (duplicate t r (j.key t r) f ∷ []) []) []

unfoldable pub duplicates : Outline → ℕ → List Finding
duplicates j t = each (duplicate_at j t) (from 0 (row_count j t))

-- ---- contradictions

-- the row and the row that it hangs on refer to different rows of an ancestor: both references are present
abbrev pub differing : Option ℕ → Option ℕ → (ℕ → ℕ → List Finding) → List Finding
differing x y f = on x (λ v. on y (λ e. cond (eqb v e) [] (f v e)) []) []

unfoldable pub contradiction_at : Outline → ℕ → ℕ → Row → ℕ → List Finding
contradiction_at j t r p a = differing (j.reference t a r) (j.reference p.table a p.row) (λ v e. mismatch t r a v p.table p.row e ∷ [])

-- over the ancestor list of the table that it hangs on, repeats included
unfoldable pub contradictions : Outline → ℕ → ℕ → Row → List Finding
contradictions j t r p = each (contradiction_at j t r p) (table_of j p.table).ancestors

-- ---- missing parents

-- the table of the last of these anchors, or else t
abbrev pub last_table : ℕ → List Anchor → ℕ
last_table t [] = t
last_table t (a ∷ more) = last_table a.table more

-- a repeat row names the anchor that it goes by and its reference; where it has none the last anchor tried. Its table's parent isn't used
abbrev pub missing_anchor : Outline → ℕ → ℕ → Finding
missing_anchor j t r = on (claim_in j t r (anchors j t)) (λ k. missing t r k.table (Some k.value)) (missing t r (last_table t (anchors j t)) None)

unfoldable pub missing_at : Outline → ℕ → ℕ → List Finding
missing_at j t r = cond (repeated j t) (missing_anchor j t r ∷ []) (on (table_parent j t) (λ u. missing t r u (j.reference t u r) ∷ []) [])

-- ---- all of them

unfoldable pub row_findings : Outline → ℕ → ℕ → List Finding
row_findings j t r = on (hangs j t r) (contradictions j t r) (missing_at j t r)

unfoldable pub table_findings : Outline → ℕ → List Finding
table_findings j t = each (row_findings j t) (from 0 (row_count j t))

-- duplicates over the tables of data, also those that the spec lacks; then the spec's tables, those that data lacks having no rows
unfoldable pub nest_findings : Outline → List Finding
nest_findings j = each (duplicates j) (from 0 (length j.row_counts)) ++ each (table_findings j) (from 0 (length j.tables))

-- ---- how often row r of t is reported as lacking its parent

abbrev pub is_missing : ℕ → ℕ → Finding → ℕ
is_missing t r (duplicate u o k f) = 0
is_missing t r (missing u o p v) = once (eqb u t && eqb o r)
is_missing t r (mismatch u o a v p q e) = 0
is_missing t r (out_of_order u o a v h) = 0
is_missing t r (delimiter g p b role) = 0
is_missing t r (not_writable g p reason) = 0

abbrev pub missings_of : ℕ → ℕ → List Finding → ℕ
missings_of t r = sum (is_missing t r)

-- Reports of missing parents are right: a law of these definitions.
pub record MissingRight (j : Outline) : Type 0 where
  -- a row that lacks its parent is reported once as such
  pub one : (t r : ℕ) → t < length j.tables → r < row_count j t → Lacks j t r → missings_of t r (nest_findings j) ≡ 1
  -- no other row is
  pub none_else : (t r : ℕ) → t < length j.tables → r < row_count j t → (Lacks j t r → ⊥) → missings_of t r (nest_findings j) ≡ 0
