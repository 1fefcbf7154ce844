-- The steps of repeat segments a row at a time, and that they are those of the whole.
use Prim.Native.Nat.{ℕ, zero, suc, ◌+◌, ◌-◌, ◌≤◌, ◌<◌, max}
use mathlib.Core.Path.{◌≡◌, refl, sym, ap, ap₂, ◌∙◌}
use mathlib.Core.Bool.{Bool, true, false, cond, ◌&&◌}
use mathlib.Core.List.{List, [], ◌∷◌, ◌++◌, append_assoc, append-nil}
use native.Mathlib.Omega.{arith}
use lib.ListN.{length, length-append}
use lib.Dec.{ltb}
use borrow.Author.Tests.{lt-ltb, le-ltb, ltb-true}
use Rattle.nest.specs.Lists.{each}
use Rattle.nest.specs.Outline.{Outline}
use Rattle.nest.specs.Nest.{repeat_rows}
use Rattle.walk.specs.Tour.{Step, stop, fill, chunk, chunks, chunks_of, row_steps, chunk_steps, repeat_steps}
use Rattle.walk.proofs.TourLaws.{repeat_steps_lem}
use Rattle.repeats.specs.Going.{row_adds, head_then, rows_then, count_then, going}

-- ---- one row, or the end

pub going_next : (same : ℕ → ℕ → Bool) (room l i t head : ℕ) (rs : List ℕ) (n r : ℕ) (more : List ℕ)
    → going same room l i t head rs n (r ∷ more)
    ≡ row_adds l i t n rs (ltb n room && same head r) r ++ going same room l i t (head_then head (ltb n room && same head r) r) (rows_then rs (ltb n room && same head r) r) (count_then n (ltb n room && same head r)) more
unfolding going
going_next same room l i t head rs n r more = refl

pub going_end : (same : ℕ → ℕ → Bool) (room l i t head : ℕ) (rs : List ℕ) (n : ℕ) → going same room l i t head rs n [] ≡ chunk l i t rs ∷ []
unfolding going
going_end same room l i t head rs n = refl

-- ---- all rows

rows_more : (l i t k r : ℕ) (rs : List ℕ) → row_steps l i t k (rs ++ (r ∷ [])) ≡ row_steps l i t k rs ++ (stop l t r ∷ fill l i t (k + length rs) r ∷ [])
unfolding row_steps
rows_more l i t k r [] = let q : k + 0 ≡ k = omega arith in rw q
rows_more l i t k r (x ∷ rs) =
    let q : k + suc (length rs) ≡ suc k + length rs = omega arith in
    rw q (ap (λ (s : List Step). stop l t x ∷ fill l i t k x ∷ s) (rows_more l i t (suc k) r rs))

room_left : (n left room : ℕ) → n + left ≡ room → ltb 0 left ≡ ltb n room
room_left n zero room e = sym (le-ltb n room (omega (arith, e)))
room_left n (suc left) room e = lt-ltb 0 (suc left) (omega arith) ∙ sym (lt-ltb n room (omega (arith, e)))

module _ (same : ℕ → ℕ → Bool) (room l i t : ℕ) (roomy : 1 ≤ room) where
  -- a chunk of n rows with room for `left` more
  going_all : (more : List ℕ) (head : ℕ) (rs : List ℕ) (left n : ℕ) → n ≡ length rs → n + left ≡ room
      → each (chunk_steps l i t) (chunks same room head rs left more) ≡ row_steps l i t 0 rs ++ going same room l i t head rs n more
  unfolding chunks going row_adds head_then rows_then count_then row_steps
  going_all [] head rs left n c e = append-nil (row_steps l i t 0 rs ++ (chunk l i t rs ∷ []))
  going_all (r ∷ more) head rs left n c e = rw (room_left n left room e) (go (ltb n room) refl (same head r) (going_all more))
    where
      whole : Bool → List Step
      whole b = row_adds l i t n rs b r ++ going same room l i t (head_then head b r) (rows_then rs b r) (count_then n b) more

      Induction : Type 0
      Induction = (head : ℕ) (rs : List ℕ) (left n : ℕ) → n ≡ length rs → n + left ≡ room
          → each (chunk_steps l i t) (chunks same room head rs left more) ≡ row_steps l i t 0 rs ++ going same room l i t head rs n more

      ends : Induction → each (chunk_steps l i t) (rs ∷ chunks same room r (r ∷ []) (room - 1) more) ≡ row_steps l i t 0 rs ++ whole false
      ends ih = ap (λ (s : List Step). chunk_steps l i t rs ++ s) (ih r (r ∷ []) (room - 1) 1 refl (omega arith)) ∙ append_assoc (row_steps l i t 0 rs) (chunk l i t rs ∷ []) _

      go : (b : Bool) → ltb n room ≡ b → (u : Bool) → Induction
          → each (chunk_steps l i t) (cond (b && u) (chunks same room head (rs ++ (r ∷ [])) (left - 1) more) (rs ∷ chunks same room r (r ∷ []) (room - 1) more)) ≡ row_steps l i t 0 rs ++ whole (b && u)
      go true q true ih =
          let k : n < room = ltb-true n room q in
          let zero-add : 0 + length rs ≡ length rs = omega arith in
          let one : n + 1 ≡ length (rs ++ (r ∷ [])) = simp length-append (omega (arith, c)) in
          ih head (rs ++ (r ∷ [])) (left - 1) (n + 1) one (omega (arith, e, k))
          ∙ ap (λ (s : List Step). s ++ going same room l i t head (rs ++ (r ∷ [])) (n + 1) more) (rows_more l i t 0 r rs ∙ ap (λ m. row_steps l i t 0 rs ++ (stop l t r ∷ fill l i t m r ∷ [])) (zero-add ∙ sym c))
          ∙ append_assoc (row_steps l i t 0 rs) (stop l t r ∷ fill l i t n r ∷ []) _
      go true q false ih = ends ih
      go false q u ih = ends ih

-- the repeat segments of an instance: its first row begins a chunk, and so on
pub repeat_rows_lem : (j : Outline) (l i t p room r : ℕ) (more : List ℕ) → room ≡ max 1 (j.capacity t) → repeat_rows j t l p ≡ r ∷ more
    → repeat_steps j l i t p ≡ (stop l t r ∷ fill l i t 0 r ∷ []) ++ going (j.same_chunk l i) room l i t r (r ∷ []) 1 more
unfolding row_steps
repeat_rows_lem j l i t p room r more e q =
    let k : 1 ≤ room = omega (arith, e) in
    repeat_steps_lem j l i t p
    ∙ ap₂ (λ n xs. each (chunk_steps l i t) (chunks_of (j.same_chunk l i) n xs)) (sym e) q
    ∙ going_all (j.same_chunk l i) room l i t k more r (r ∷ []) (room - 1) 1 refl (omega arith)

pub repeat_none : (j : Outline) (l i t p : ℕ) → repeat_rows j t l p ≡ [] → repeat_steps j l i t p ≡ []
repeat_none j l i t p q = repeat_steps_lem j l i t p ∙ ap (λ xs. each (chunk_steps l i t) (chunks_of (j.same_chunk l i) (max 1 (j.capacity t)) xs)) q
