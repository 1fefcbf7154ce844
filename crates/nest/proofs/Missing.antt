-- Each row that lacks its parent is reported once as such, and no other row is.
use Prim.Native.Nat.{ℕ, ◌<◌}
use mathlib.Core.Path.{◌≡◌, refl, ap, ◌∙◌}
use mathlib.Core.Bool.{Bool, true, false, cond, ◌&&◌, ◌||◌, false≢true}
use mathlib.Core.List.{List, [], ◌∷◌}
use native.Mathlib.Omega.{arith}
use Rattle.std.specs.Prelude.{Option, None, Some}
use lib.ListN.{length}
use lib.Dec.{eqb, ltb}
use borrow.Author.Tests.{eq-eqb, ne_eqb}
use Rattle.nest.specs.Lists.{once, each, on, from, sum}
use Rattle.nest.specs.Outline.{Outline, table_of, table_parent, row_count, repeated}
use Rattle.nest.specs.Nest.{Row, Claim, first_row, anchors, claim_in, hangs, needs_parent, Lacks}
use Rattle.nest.specs.Finding.{Finding, duplicate, missing, mismatch}
use Rattle.nest.specs.NestFindings.{is_missing, missings_of, MissingRight, duplicate_at, duplicates, differing, contradiction_at, contradictions, last_table, missing_at, row_findings, table_findings, nest_findings}
use Rattle.nest.proofs.Sums.{sum_append, sum_each, sum_zero, sum_one, times_all}

-- it needs a parent and hangs on none
lacking : Outline → ℕ → ℕ → Bool
lacking j t r = on (hangs j t r) (λ p. false) (needs_parent j t)

lacks_lacking : (j : Outline) (t r : ℕ) → Lacks j t r → lacking j t r ≡ true
unfolding lacking
lacks_lacking j t r k = rw k.none_there k.needs

lacking_lacks : (j : Outline) (t r : ℕ) → lacking j t r ≡ true → Lacks j t r
unfolding lacking
lacking_lacks j t r e = go (hangs j t r) refl e
  where
    go : (x : Option Row) → hangs j t r ≡ x → on x (λ p. false) (needs_parent j t) ≡ true → Lacks j t r
    go None q z = record { needs = z; none_there = q }
    go (Some p) q z = absurd (false≢true z)

module _ (j : Outline) (t r : ℕ) where
  abbrev M : List Finding → ℕ
  M fs = missings_of t r fs

  no_duplicate : (u : ℕ) → M (duplicates j u) ≡ 0
  unfolding duplicates duplicate_at
  no_duplicate u = sum_each (is_missing t r) (duplicate_at j u) (from 0 (row_count j u)) ∙ sum_zero _ (from 0 (row_count j u)) (λ o. at_first o (first_row j u (j.key u o)))
    where
      earlier : (o f : ℕ) (b : Bool) → M (cond b (duplicate u o (j.key u o) f ∷ []) []) ≡ 0
      earlier o f true = refl
      earlier o f false = refl

      at_first : (o : ℕ) (x : Option ℕ) → M (on x (λ f. cond (ltb f o) (duplicate u o (j.key u o) f ∷ []) []) []) ≡ 0
      at_first o None = refl
      at_first o (Some f) = earlier o f (ltb f o)

  no_contradiction : (u o : ℕ) (p : Row) → M (contradictions j u o p) ≡ 0
  unfolding contradictions contradiction_at
  no_contradiction u o p =
      sum_each (is_missing t r) (contradiction_at j u o p) (table_of j p.table).ancestors
      ∙ sum_zero _ (table_of j p.table).ancestors (λ a. mine a (j.reference u a o) (j.reference p.table a p.row))
    where
      unlike : (a v e : ℕ) (b : Bool) → M (cond b [] (mismatch u o a v p.table p.row e ∷ [])) ≡ 0
      unlike a v e true = refl
      unlike a v e false = refl

      mine : (a : ℕ) (x y : Option ℕ) → M (differing x y (λ v e. mismatch u o a v p.table p.row e ∷ [])) ≡ 0
      mine a None y = refl
      mine a (Some v) None = refl
      mine a (Some v) (Some e) = unlike a v e (eqb v e)

  -- one row's findings
  of_row_lem : (u o : ℕ) → M (row_findings j u o) ≡ once (lacking j u o && (eqb u t && eqb o r))
  unfolding row_findings missing_at lacking needs_parent
  of_row_lem u o = go (hangs j u o)
    where
      claimed : (x : Option Claim) → M (on x (λ (k : Claim). missing u o k.table (Some k.value)) (missing u o (last_table u (anchors j u)) None) ∷ []) ≡ once (eqb u t && eqb o r)
      claimed None = omega arith
      claimed (Some k) = omega arith

      parented : (x : Option ℕ) → M (on x (λ v. missing u o v (j.reference u v o) ∷ []) []) ≡ once (on x (λ v. true) false && (eqb u t && eqb o r))
      parented None = refl
      parented (Some v) = omega arith

      kept : (b : Bool) → M (cond b (on (claim_in j u o (anchors j u)) (λ (k : Claim). missing u o k.table (Some k.value)) (missing u o (last_table u (anchors j u)) None) ∷ []) (on (table_parent j u) (λ v. missing u o v (j.reference u v o) ∷ []) []))
          ≡ once ((b || on (table_parent j u) (λ v. true) false) && (eqb u t && eqb o r))
      kept true = claimed (claim_in j u o (anchors j u))
      kept false = parented (table_parent j u)

      go : (x : Option Row) → M (on x (contradictions j u o) (missing_at j u o)) ≡ once (on x (λ p. false) (needs_parent j u) && (eqb u t && eqb o r))
      go None = kept (repeated j u)
      go (Some p) = no_contradiction u o p

  off : (a b c : Bool) → b ≡ false → once (a && (b && c)) ≡ 0
  off true b c e = rw e
  off false b c e = refl

  off_row : (a b : Bool) → once (a && (b && false)) ≡ 0
  off_row true true = refl
  off_row true false = refl
  off_row false b = refl

  table_sum : (u : ℕ) → M (table_findings j u) ≡ sum (λ o. M (row_findings j u o)) (from 0 (row_count j u))
  unfolding table_findings
  table_sum u = sum_each (is_missing t r) (row_findings j u) (from 0 (row_count j u))

  other_table : (u : ℕ) → (u ≡ t → ⊥) → M (table_findings j u) ≡ 0
  other_table u d = table_sum u ∙ sum_zero _ (from 0 (row_count j u)) (λ o. of_row_lem u o ∙ off (lacking j u o) (eqb u t) (eqb o r) (ne_eqb u t d))

  reported : t < length j.tables → r < row_count j t → M (nest_findings j) ≡ once (lacking j t r)
  unfolding nest_findings
  reported h k =
      let dups : List Finding = each (duplicates j) (from 0 (length j.row_counts)) in
      let none_there : M dups ≡ 0 = sum_each (is_missing t r) (duplicates j) (from 0 (length j.row_counts)) ∙ sum_zero _ (from 0 (length j.row_counts)) no_duplicate in
      let tables : M (each (table_findings j) (from 0 (length j.tables))) ≡ M (table_findings j t) =
      sum_each (is_missing t r) (table_findings j) (from 0 (length j.tables))
      ∙ sum_one (λ u. M (table_findings j u)) t (from 0 (length j.tables)) (times_all (length j.tables) 0 t (omega arith) (omega arith)) (λ u d q. other_table u d) in
      let rows : M (table_findings j t) ≡ M (row_findings j t r) =
      table_sum t
      ∙ sum_one (λ o. M (row_findings j t o)) r (from 0 (row_count j t)) (times_all (row_count j t) 0 r (omega arith) (omega arith))
      (λ o d q. of_row_lem t o ∙ ap (λ b. once (lacking j t o && (eqb t t && b))) (ne_eqb o r d) ∙ off_row (lacking j t o) (eqb t t)) in
      let here : M (row_findings j t r) ≡ once (lacking j t r) = of_row_lem t r ∙ ap (λ b. once (lacking j t r && (b && eqb r r))) (eq-eqb t t refl) ∙ ap (λ b. once (lacking j t r && b)) (eq-eqb r r refl) ∙ alone (lacking j t r) in
      omega (arith, sum_append (is_missing t r) dups (each (table_findings j) (from 0 (length j.tables))), none_there, tables, rows, here)
    where
      alone : (b : Bool) → once (b && true) ≡ once b
      alone true = refl
      alone false = refl

pub missing_right : (j : Outline) → MissingRight j
missing_right j = record { one = one; none_else = none_else }
  where
    one : (t r : ℕ) → t < length j.tables → r < row_count j t → Lacks j t r → missings_of t r (nest_findings j) ≡ 1
    one t r h k l = reported j t r h k ∙ ap once (lacks_lacking j t r l)

    none_else : (t r : ℕ) → t < length j.tables → r < row_count j t → (Lacks j t r → ⊥) → missings_of t r (nest_findings j) ≡ 0
    none_else t r h k n = go (lacking j t r) refl
      where
        go : (b : Bool) → lacking j t r ≡ b → missings_of t r (nest_findings j) ≡ 0
        go true e = absurd (n (lacking_lacks j t r e))
        go false e = reported j t r h k ∙ ap once e
