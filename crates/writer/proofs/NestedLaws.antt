-- Nest's array and its flags in a list that has room for both, as the walk asks for them.
use Prim.Native.Nat.{ℕ, ◌+◌, ◌-◌, ◌*◌, ◌≤◌}
use mathlib.Core.Path.{◌≡◌, refl, sym, ap, ◌∙◌}
use mathlib.Core.Bool.{true}
use mathlib.Core.List.{List}
use native.Mathlib.Omega.{arith}
use lib.ListN.{length, get_or}
use lib.Seq.{sets, length-sets}
use borrow.Author.Tests.{eqb-true}
use Rattle.codec.proofs.Rows.{get_d_sets_out}
use Rattle.format.specs.Refusal.{rows_of_all}
use Rattle.format.specs.Sections.{job_of}
use Rattle.nest.specs.Nest.{nest_array}
use Rattle.nest.specs.Found.{ArrayIs}
use Rattle.nest.specs.Rising.{rising_flags, rises}
use Rattle.nest.specs.Ready.{Ready}
use Rattle.nest.specs.OutlineAt.{outline_at}
use Rattle.nest.proofs.Bridge.{data-count-is}
use Rattle.nest.proofs.Stored.{array_in, array_rows}
use Rattle.nest.proofs.RisingRows.{flag_right}
use Rattle.walk.specs.Nested.{Nested}

module _ {b idx : List ℕ} (d n : List ℕ) (r : Ready b idx) (l : rows_of_all (job_of b).tables * 3 + 16 ≤ length d) (e : n ≡ sets d 0 (nest_array (outline_at b))) where
  pub array_stored : ArrayIs (outline_at b) n
  array_stored = array_in (job_of b) d n (omega arith) e

  pub array_long : length n ≡ length d
  array_long = ap length e ∙ length-sets d 0 (nest_array (outline_at b))

  flag_set : (m : List ℕ) → length m ≡ length n → (t : ℕ) → rises m t ≡ true → get_or m (length n - 16 + t) 0 ≡ 1
  unfolding rises
  flag_set m h t q = rw (← h) (eqb-true _ _ q)

  pub nested_in : (m : List ℕ) → m ≡ sets n (length n - 16) (rising_flags (outline_at b)) → Nested b idx m
  nested_in m f =
      let h : length m ≡ length n = ap length f ∙ length-sets n (length n - 16) (rising_flags (outline_at b)) in
      record {
        ready = r;
        room = omega (arith, array_long, h);
        numbers = λ i k. ap (λ xs. get_or xs i 0) f ∙ get_d_sets_out (rising_flags (outline_at b)) n (length n - 16) i (omega (arith, k, array_long, array_rows (job_of b))) ∙ array_stored.numbers i k;
        rising = λ t q. flag_right (outline_at b) n m (length n - 16) f (omega (arith, array_long, data-count-is (job_of b), r.tables.few)) t (flag_set m h t q);
      }

pub nested_hung : {b idx : List ℕ} (d m : List ℕ) → Ready b idx → rows_of_all (job_of b).tables * 3 + 16 ≤ length d
    → m ≡ sets (sets d 0 (nest_array (outline_at b))) (length d - 16) (rising_flags (outline_at b)) → Nested b idx m
nested_hung {b} {idx} d m r l e = nested_in d _ r l refl m (e ∙ ap (λ (k : ℕ). sets (sets d 0 (nest_array (outline_at b))) (k - 16) (rising_flags (outline_at b))) (sym (array_long d _ r l refl)))

-- the numbers, then the flags
pub both_stored : (d n m xs ys : List ℕ) → n ≡ sets d 0 xs → m ≡ sets n (length n - 16) ys → m ≡ sets (sets d 0 xs) (length d - 16) ys
both_stored d n m xs ys e f = f ∙ ap (λ (zs : List ℕ). sets zs (length zs - 16) ys) e ∙ ap (λ (k : ℕ). sets (sets d 0 xs) (k - 16) ys) (length-sets d 0 xs)
