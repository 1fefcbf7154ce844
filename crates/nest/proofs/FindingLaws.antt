-- Nest's findings, one law for each way that code takes. Over tables, rows and ancestors go `Each-next`, `each_end`, `each_at`, `each_past` (Scan).
use Prim.Native.Nat.{ℕ, ◌≤◌, ◌<◌}
use mathlib.Core.Path.{◌≡◌, refl}
use mathlib.Core.Bool.{true, false}
use mathlib.Core.List.{[], ◌∷◌, ◌++◌}
use Rattle.std.specs.Prelude.{None, Some}
use lib.ListN.{length, drop}
use borrow.Author.Tests.{lt-ltb, le-ltb, eq-eqb, ne_eqb}
use Rattle.nest.specs.Lists.{each}
use Rattle.nest.specs.UpTo.{up_to}
use Rattle.nest.specs.Outline.{Outline, table_of, table_parent, row_count, repeated}
use Rattle.nest.specs.Nest.{Row, Claim, first_row, anchors, claim_in, hangs}
use Rattle.nest.specs.Finding.{duplicate, missing, mismatch}
use Rattle.nest.specs.NestFindings.{duplicate_at, duplicates, contradiction_at, contradictions, last_table, missing_at, row_findings, table_findings, nest_findings}
use Rattle.nest.proofs.Scan.{up_to_all}

-- ---- the whole, by position

pub findings_all : (j : Outline) → nest_findings j ≡ each (duplicates j) (up_to 0 (length j.row_counts)) ++ each (table_findings j) (up_to 0 (length j.tables))
unfolding nest_findings
findings_all j = rw (up_to_all (length j.row_counts), up_to_all (length j.tables))

pub duplicates_all : (j : Outline) (t : ℕ) → duplicates j t ≡ each (duplicate_at j t) (up_to 0 (row_count j t))
unfolding duplicates
duplicates_all j t = rw (up_to_all (row_count j t))

pub table_all : (j : Outline) (t : ℕ) → table_findings j t ≡ each (row_findings j t) (up_to 0 (row_count j t))
unfolding table_findings
table_all j t = rw (up_to_all (row_count j t))

pub contradictions_all : (j : Outline) (t r : ℕ) (p : Row) → contradictions j t r p ≡ each (contradiction_at j t r p) (drop 0 (table_of j p.table).ancestors)
unfolding contradictions
contradictions_all j t r p = refl

-- ---- a row's key

pub duplicate_none : (j : Outline) (t r : ℕ) → first_row j t (j.key t r) ≡ None → duplicate_at j t r ≡ []
unfolding duplicate_at
duplicate_none j t r e = rw e

pub duplicate_first : (j : Outline) (t r f : ℕ) → first_row j t (j.key t r) ≡ Some f → r ≤ f → duplicate_at j t r ≡ []
unfolding duplicate_at
duplicate_first j t r f e h = rw e (rw (le-ltb f r h))

pub duplicate_later : (j : Outline) (t r f : ℕ) → first_row j t (j.key t r) ≡ Some f → f < r → duplicate_at j t r ≡ duplicate t r (j.key t r) f ∷ []
unfolding duplicate_at
duplicate_later j t r f e h = rw e (rw (lt-ltb f r h))

-- ---- one ancestor

pub agree_null : (j : Outline) (t r : ℕ) (p : Row) (a : ℕ) → j.reference t a r ≡ None → contradiction_at j t r p a ≡ []
unfolding contradiction_at
agree_null j t r p a e = rw e

pub agree_above_null : (j : Outline) (t r : ℕ) (p : Row) (a v : ℕ) → j.reference t a r ≡ Some v → j.reference p.table a p.row ≡ None → contradiction_at j t r p a ≡ []
unfolding contradiction_at
agree_above_null j t r p a v e f = rw e (rw f)

pub agree_same : (j : Outline) (t r : ℕ) (p : Row) (a v w : ℕ) → j.reference t a r ≡ Some v → j.reference p.table a p.row ≡ Some w → v ≡ w → contradiction_at j t r p a ≡ []
unfolding contradiction_at
agree_same j t r p a v w e f q = rw e (rw f (rw (eq-eqb v w q)))

pub differ : (j : Outline) (t r : ℕ) (p : Row) (a v w : ℕ) → j.reference t a r ≡ Some v → j.reference p.table a p.row ≡ Some w → (v ≡ w → ⊥)
    → contradiction_at j t r p a ≡ mismatch t r a v p.table p.row w ∷ []
unfolding contradiction_at
differ j t r p a v w e f q = rw e (rw f (rw (ne_eqb v w q)))

-- ---- a row

pub row_hangs : (j : Outline) (t r : ℕ) (p : Row) → hangs j t r ≡ Some p → row_findings j t r ≡ contradictions j t r p
unfolding row_findings
row_hangs j t r p e = rw e

pub row_loose : (j : Outline) (t r : ℕ) → hangs j t r ≡ None → row_findings j t r ≡ missing_at j t r
unfolding row_findings
row_loose j t r e = rw e

pub missing_top : (j : Outline) (t r : ℕ) → repeated j t ≡ false → table_parent j t ≡ None → missing_at j t r ≡ []
unfolding missing_at
missing_top j t r p q = rw (p, q)

pub missing_parent : (j : Outline) (t r u : ℕ) → repeated j t ≡ false → table_parent j t ≡ Some u → missing_at j t r ≡ missing t r u (j.reference t u r) ∷ []
unfolding missing_at
missing_parent j t r u p q = rw (p, q)

pub missing_claim : (j : Outline) (t r : ℕ) (k : Claim) → repeated j t ≡ true → claim_in j t r (anchors j t) ≡ Some k → missing_at j t r ≡ missing t r k.table (Some k.value) ∷ []
unfolding missing_at
missing_claim j t r k p e = rw (p, e)

pub missing_unclaimed : (j : Outline) (t r : ℕ) → repeated j t ≡ true → claim_in j t r (anchors j t) ≡ None → missing_at j t r ≡ missing t r (last_table t (anchors j t)) None ∷ []
unfolding missing_at
missing_unclaimed j t r p e = rw (p, e)
