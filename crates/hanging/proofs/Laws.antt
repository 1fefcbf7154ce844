-- How long nest's array is, and the two ways of `baktuven_nest`.
use Prim.Native.Nat.{ℕ, ◌+◌, ◌*◌, ◌≤◌}
use mathlib.Core.Path.{◌≡◌, refl, ◌∙◌}
use mathlib.Core.List.{List}
use mathlib.Core.Bool.{false}
use native.Mathlib.Omega.{arith}
use lib.ListN.{length, take, drop}
use lib.Dec.{eqb}
use lib.Seq.{sets, sets-eq, take_at}
use borrow.Author.Tests.{ne_eqb}
use Rattle.format.specs.Job.{Job}
use Rattle.format.specs.Refusal.{refusal_of, rows_of_all}
use Rattle.tables.specs.Parts as T
use Rattle.nest.specs.Nest.{nest_array}
use Rattle.nest.specs.OfJob.{outline_of}
use Rattle.nest.specs.OutlineAt.{outline_at}
use Rattle.nest.proofs.Stored.{rows_counted, array_rows}
use Rattle.refusal.specs.declared.Refusal.{Refusal}
use Rattle.refusal.specs.declared.Refusal.TheVariants as refusal
use Rattle.refusal.specs.Answer.{number}
use Rattle.hanging.specs.Nesting.{nest_lent}

-- three numbers a row, and few rows
pub array_long : (j : Job) (n m : ℕ) → rows_of_all j.tables ≤ 4096 → n ≡ length j.tables → m ≡ T.rows_before j.tables n → (m * 3 ≡ length (nest_array (outline_of j))) × (m * 3 ≤ 12288)
array_long j n m h e q = let c = rows_counted j n m e q in (omega (arith, c, array_rows j), omega (arith, c, h))

-- what was stored at the front of a list that is long enough, copied to the front of another
pub copied : (d d' l l' xs : List ℕ) (n : ℕ) → l' ≡ sets l 0 xs → n ≡ length xs → n ≤ length l → d' ≡ sets d 0 (take n l') → d' ≡ sets d 0 xs
copied d d' l l' xs n e q h f =
    let k : 0 + length xs ≤ length l = omega arith in
    let t : take n l' ≡ xs = rw (e, q, sets-eq xs l 0 k) (take_at xs (drop (0 + length xs) l) (length xs) refl) in
    f ∙ rw t

-- ---- the two ways

some_number : (r : Refusal) → number r ≡ 0 → ⊥
some_number refusal.Size e = omega (arith, e)
some_number refusal.Structure e = omega (arith, e)
some_number refusal.Limit e = omega (arith, e)
some_number refusal.Loops e = omega (arith, e)
some_number refusal.Text e = omega (arith, e)

pub nested : (b n n' : List ℕ) → refusal_of b ≡ 0 → n' ≡ sets n 0 (nest_array (outline_at b)) → n' ≡ nest_lent b n
unfolding nest_lent
nested b n n' z q = rw z q

pub refused : (b n : List ℕ) (r : Refusal) → number r ≡ refusal_of b → n ≡ nest_lent b n
unfolding nest_lent
refused b n r e = let q : eqb (refusal_of b) 0 ≡ false = rw (← e) (ne_eqb _ _ (some_number r)) in rw q
