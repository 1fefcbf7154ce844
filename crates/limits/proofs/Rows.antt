-- Each table, and the rows of all tables, summed on a walk.
use Prim.Native.Nat.{ℕ, ◌+◌, ◌-◌, ◌≤◌, ◌<◌}
use mathlib.Core.Path.{◌≡◌, refl, sym, ◌∙◌}
use mathlib.Core.List.{List, [], ◌∷◌}
use mathlib.Core.Bool.{Bool, true, false}
use native.Mathlib.Omega.{arith}
use lib.Dec.{ltb}
use borrow.Author.Tests.{lt-ltb, le-ltb}
use Rattle.codec.specs.Codec.{le_c, list_c}
use Rattle.codec.specs.Skip.{skip, count_at, Is}
use Rattle.codec.specs.Limits.{any, any_of}
use Rattle.format.proofs.Fields.{is_table_data_lem}
use Rattle.format.specs.Refusal.{over_table_data, rows_of_all}
use Rattle.format.specs.Data.{TableData, table_data_c}
use Rattle.says.specs.Says.{Says, Clears, Rest}
use Rattle.std.specs.Prelude.{Some, None}
use Rattle.limits.specs.Parts.{over_tables}
use Rattle.says.proofs.Pass.{clear_not, clear_found}
use Rattle.says.proofs.Walk.{Some_of, number_is, rest_start, rest_again, rest_found, rest_done}

-- s rows were met, in tables that pass, and the rest is still to come
abbrev Met : List TableData → ℕ → List TableData → Type 0
Met vs s ws = (rows_of_all vs ≡ s + rows_of_all ws) × Some_of over_table_data vs ws

abbrev pub Summed : List ℕ → ℕ → ℕ → ℕ → ℕ → ℕ → Type 0
Summed b e at s n p = (vs : List TableData) → Is (list_c table_data_c) b e at vs → Rest table_data_c b e (Met vs s) n p

module _ (b : List ℕ) (e at : ℕ) where
  pub sum_start : (n p : ℕ) → n ≡ count_at b at e → p ≡ skip (le_c 4) b at e → Summed b e at 0 n p
  sum_start n p h i vs j = rest_start table_data_c b e (Met vs 0) at n p vs h i j (omega arith, refl)

  pub sum_again : (s n p m q : ℕ) → Summed b e at s n p → 0 < n → m ≡ count_at b p e → Clears table_data_c b e p over_table_data (Some q) → Summed b e at (s + m) (n - 1) q
  unfolding rows_of_all any_of
  sum_again s n p m q d h k t vs j = rest_found table_data_c b e (Met vs s) _ n p (d vs j) h
      (λ y ys o v. rest_again table_data_c b e (Met vs s) (Met vs (s + m)) n p q (d vs j) h (clear_not table_data_c b e p over_table_data y o q t).1
      (λ x xs l w. (omega (arith, w.0, number_is b e m p p x.rows k refl (is_table_data_lem b e p x l).rows), w.1 ∙ rw (clear_not table_data_c b e p over_table_data x l q t).0)))

  pub sum_found : (s n p m : ℕ) → Summed b e at s n p → 0 < n → m ≡ count_at b p e → 4096 < s + m → Says (list_c table_data_c) b e at over_tables true
  unfolding rows_of_all any
  sum_found s n p m d h k o vs j = rest_found table_data_c b e (Met vs s) _ n p (d vs j) h
      (λ x xs l w. sym (rw (lt-ltb 4096 (rows_of_all vs) (omega (arith, w.0, number_is b e m p p x.rows k refl (is_table_data_lem b e p x l).rows)))))

  pub sum_over : (s n p : ℕ) → Summed b e at s n p → 0 < n → Clears table_data_c b e p over_table_data None → Says (list_c table_data_c) b e at over_tables true
  unfolding any_of any
  sum_over s n p d h t vs j = rest_found table_data_c b e (Met vs s) _ n p (d vs j) h
      (λ x xs l w. let z : any_of over_table_data vs ≡ true = w.1 ∙ rw (clear_found table_data_c b e p over_table_data x l t) in rw z (second (ltb 4096 (rows_of_all vs))))
    where
      second : (x : Bool) → true ≡ any (x ∷ true ∷ [])
      second true = refl
      second false = refl

  pub sum_none : (s n p : ℕ) → Summed b e at s n p → n ≤ 0 → s ≤ 4096 → Says (list_c table_data_c) b e at over_tables false
  unfolding rows_of_all any_of any
  sum_none s n p d h o vs j =
      let w = rest_done table_data_c b e (Met vs s) n p (d vs j) h in
      sym (rw (le-ltb 4096 (rows_of_all vs) (omega (arith, w.0)), w.1))
