-- The search in the layout's table finds what the layout has.
use Prim.Native.Nat.{ℕ, zero, suc, ◌+◌, ◌*◌, ◌-◌, ◌≤◌, ◌<◌}
use mathlib.Core.Path.{◌≡◌, refl, sym}
use mathlib.Core.List.{List, []}
use native.Mathlib.Omega.{arith}
use Rattle.std.specs.Prelude.{None, Some}
use lib.ListN.{get_or}
use borrow.Author.Tests.{eq-eqb, ne_eqb}
use Rattle.emit.specs.Envelope.{field_at}
use Rattle.emit.specs.Table.{table, searched}

module _ (row : List ℕ) (e i position : ℕ) where
  pub search_next : i < e → (get_or row (i * 2) 0 ≡ position → ⊥) → searched row (e - i) i position ≡ searched row (e - (i + 1)) (i + 1) position
  unfolding searched
  search_next h n = let q : e - i ≡ suc (e - (i + 1)) = omega arith in rw (q, ne_eqb position (get_or row (i * 2) 0) (λ z. n (sym z)))

  pub search_found : i < e → get_or row (i * 2) 0 ≡ position → searched row (e - i) i position ≡ Some (get_or row (i * 2 + 1) 0)
  unfolding searched
  search_found h z = let q : e - i ≡ suc (e - (i + 1)) = omega arith in rw (q, eq-eqb position (get_or row (i * 2) 0) (sym z))

  pub search_none : e ≤ i → searched row (e - i) i position ≡ None
  unfolding searched
  search_none h = let q : e - i ≡ 0 = omega arith in rw q

-- position 0 stands behind a row's pairs
pub in_table : (depth position : ℕ) → depth < 3 → (position ≡ 0 → ⊥) → searched (get_or table depth []) 9 0 position ≡ field_at depth position
unfolding searched field_at
in_table zero position h n = refl
in_table (suc zero) position h n = rw (ne_eqb position 0 n)
in_table (suc (suc zero)) position h n = rw (ne_eqb position 0 n)
in_table (suc (suc (suc depth))) position h n = absurd (omega arith)

pub none_at_zero : (depth : ℕ) → None ≡ field_at depth 0
unfolding field_at
none_at_zero zero = refl
none_at_zero (suc zero) = refl
none_at_zero (suc (suc zero)) = refl
none_at_zero (suc (suc (suc depth))) = refl

pub none_deeper : (depth position : ℕ) → 3 ≤ depth → None ≡ field_at depth position
unfolding field_at
none_deeper zero position h = absurd (omega arith)
none_deeper (suc zero) position h = absurd (omega arith)
none_deeper (suc (suc zero)) position h = absurd (omega arith)
none_deeper (suc (suc (suc depth))) position h = refl
