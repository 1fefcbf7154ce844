-- What holds of each thing that the walk does, and of one thing after another, holds of the whole walk.
use Prim.Native.Nat.{ℕ, zero, suc, ◌+◌, ◌-◌, ◌≤◌, ◌<◌, max}
use mathlib.Core.Path.{◌≡◌, refl}
use mathlib.Core.Bool.{Bool, true, false, cond, ◌&&◌}
use mathlib.Core.List.{List, [], ◌∷◌, ◌++◌}
use native.Mathlib.Omega.{arith}
use Rattle.std.specs.Prelude.{Option, None, Some}
use lib.ListN.{length, length-append}
use lib.Dec.{ltb}
use borrow.Author.Tests.{ltb-true}
use Rattle.nest.specs.Lists.{each, on, All}
use Rattle.nest.specs.Outline.{Outline, Source, of_envelope, of_row, of_repeat, Item, segment, loop, loop_of, kind_of, order_of, segment_of, planned, has_occurrence}
use Rattle.nest.specs.Nest.{Row, repeat_rows}
use Rattle.walk.specs.Instances.{Context, outside, instances}
use Rattle.walk.specs.Tour.{Step, enters, stop, opener, row_segment, closer, segments_in, own_row, stop_at, chunks, chunks_of, chunk_steps, repeat_steps, due_row, from_source, segment_steps, item_steps, body_steps, opened, close_steps, instance_steps, visits, tour_to, tour}
use Rattle.walk.proofs.Tests.{both}

pub record Closed (o : Outline) (P : List Step → Type 0) : Type 0 where
  pub nothing : P []
  pub join : (xs ys : List Step) → P xs → P ys → P (xs ++ ys)
  pub enter : (l : ℕ) → P (enters l ∷ [])
  pub stopped : (l t r : ℕ) → P (stop l t r ∷ [])
  pub opens : (l : ℕ) → P (opener l ∷ [])
  pub row : (l i t r : ℕ) → i < planned o l → (segment_of o l i).source ≡ of_row t → has_occurrence o l i ≡ true → P (row_segment l i t r ∷ [])
  pub filled : (l i t : ℕ) (rs : List ℕ) → i < planned o l → (segment_of o l i).source ≡ of_repeat t → has_occurrence o l i ≡ true → length rs ≤ max 1 (o.capacity t)
      → P (chunk_steps l i t rs)
  pub closes : (l : ℕ) (b : Bool) (n m : ℕ) → P (closer l b n m ∷ [])

-- ---- chunks are as long as they may be at most

chunks_short : (same : ℕ → ℕ → Bool) (room : ℕ) → 1 ≤ room → (rest : List ℕ) (head : ℕ) (rs : List ℕ) (left : ℕ) → length rs + left ≤ room
    → All (λ (c : List ℕ). length c ≤ room) (chunks same room head rs left rest)
unfolding chunks
chunks_short same room p [] head rs left h = (omega arith, tt)
chunks_short same room p (r ∷ rest) head rs left h =
    go (ltb 0 left) refl (same head r)
    (λ q. chunks_short same room p rest head (rs ++ (r ∷ [])) (left - 1) (omega (arith, q, length-append rs (r ∷ []))))
    (omega arith, chunks_short same room p rest r (r ∷ []) (room - 1) (omega arith))
  where
    Short : List (List ℕ) → Type 0
    Short = All (λ (c : List ℕ). length c ≤ room)

    go : (a : Bool) → ltb 0 left ≡ a → (b : Bool) → (0 < left → Short (chunks same room head (rs ++ (r ∷ [])) (left - 1) rest)) → Short (rs ∷ chunks same room r (r ∷ []) (room - 1) rest)
        → Short (cond (a && b) (chunks same room head (rs ++ (r ∷ [])) (left - 1) rest) (rs ∷ chunks same room r (r ∷ []) (room - 1) rest))
    go true q true on-it apart = on-it (ltb-true 0 left q)
    go true q false on-it apart = apart
    go false q b on-it apart = apart

chunks_of_short : (same : ℕ → ℕ → Bool) (room : ℕ) → 1 ≤ room → (rs : List ℕ) → All (λ (c : List ℕ). length c ≤ room) (chunks_of same room rs)
chunks_of_short same room p [] = tt
chunks_of_short same room p (r ∷ rest) = chunks_short same room p rest r (r ∷ []) (room - 1) (omega arith)

-- ---- the whole walk

module _ (o : Outline) (P : List Step → Type 0) (C : Closed o P) where
  each_so : {A : Type 0} (f : A → List Step) (Q : A → Type 0) (xs : List A) → ((x : A) → Q x → P (f x)) → All Q xs → P (each f xs)
  each_so f Q [] g h = C.nothing
  each_so f Q (x ∷ xs) g h = C.join (f x) (each f xs) (g x h.0) (each_so f Q xs g h.1)

  all_so : {A : Type 0} (f : A → List Step) (xs : List A) → ((x : A) → P (f x)) → P (each f xs)
  all_so f [] g = C.nothing
  all_so f (x ∷ xs) g = C.join (f x) (each f xs) (g x) (all_so f xs g)

  chosen : (b : Bool) (xs : List Step) → (b ≡ true → P xs) → P (cond b xs [])
  chosen true xs g = g refl
  chosen false xs g = C.nothing

  repeat_so : (l i t : ℕ) → i < planned o l → (segment_of o l i).source ≡ of_repeat t → has_occurrence o l i ≡ true → (p : ℕ) → P (repeat_steps o l i t p)
  unfolding repeat_steps
  repeat_so l i t h e q p =
      let room = max 1 (o.capacity t) in
      each_so (chunk_steps l i t) (λ (c : List ℕ). length c ≤ room) (chunks_of (o.same_chunk l i) room (repeat_rows o t l p)) (λ rs k. C.filled l i t rs h e q k)
      (chunks_of_short (o.same_chunk l i) room (omega arith) (repeat_rows o t l p))

  segment_so : (l : ℕ) (c : Context) (i : ℕ) → P (segment_steps o l c i)
  unfolding segment_steps
  segment_so l c i = chosen (ltb i (planned o l)) (from_source o l i c (segment_of o l i).source) (λ q. by_source (ltb-true i (planned o l) q) (segment_of o l i).source refl)
    where
      rows : i < planned o l → (t : ℕ) → (segment_of o l i).source ≡ of_row t → (x : Option ℕ)
          → P (on x (λ r. cond (has_occurrence o l i && due_row o l i t r) (row_segment l i t r ∷ []) []) [])
      rows h t e None = C.nothing
      rows h t e (Some r) = chosen (has_occurrence o l i && due_row o l i t r) (row_segment l i t r ∷ []) (λ q. C.row l i t r h e (both (has_occurrence o l i) (due_row o l i t r) q).0)

      owned : i < planned o l → (t : ℕ) → (segment_of o l i).source ≡ of_repeat t → has_occurrence o l i ≡ true → (x : Option Row)
          → P (on x (λ p. repeat_steps o l i t p.row) [])
      owned h t e q None = C.nothing
      owned h t e q (Some p) = repeat_so l i t h e q p.row

      by_source : i < planned o l → (s : Source) → (segment_of o l i).source ≡ s → P (from_source o l i c s)
      by_source h of_envelope e = chosen (loop_of o l).controlled (opener l ∷ []) (λ q. C.opens l)
      by_source h (of_row t) e = rows h t e (c.row t)
      by_source h (of_repeat t) e = chosen (has_occurrence o l i) (on (own_row (kind_of o l) c) (λ p. repeat_steps o l i t p.row) []) (λ q. owned h t e q (own_row (kind_of o l) c))

  stop_so : (l : ℕ) (own : Option Row) → P (stop_at l own)
  stop_so l None = C.nothing
  stop_so l (Some p) = C.stopped l p.table p.row

  close_so : (l n : ℕ) (body : List Step) → P (close_steps o l n body)
  unfolding close_steps
  close_so l n body =
      chosen ((loop_of o l).ends && (loop_of o l).controlled) (closer l (opened o l) n (suc (segments_in body)) ∷ []) (λ q. C.closes l (opened o l) n (suc (segments_in body)))

  instance_so : (inner : ℕ → Context → List Context) (below : ℕ → Context → List Step) → ((k : ℕ) (c : Context) → P (below k c)) → (l : ℕ) (c : Context)
      → P (instance_steps inner below o l c)
  unfolding instance_steps body_steps
  instance_so inner below b l c = C.join (enters l ∷ []) _ (C.enter l) (C.join _ _ (C.join _ _ (stop_so l (own_row (kind_of o l) c)) (all_so (item_steps below o l c) (order_of o l) item)) (close_so l _ _))
    where
      item : (i : Item) → P (item_steps below o l c i)
      item (segment i) = segment_so l c i
      item (loop k) = b k c

  visits_so : (h l : ℕ) (c : Context) → P (visits o h l c)
  unfolding visits
  visits_so zero l c = C.nothing
  visits_so (suc h) l c = all_so (instance_steps (instances o h) (visits o h) o l) (instances o (suc h) l c) (λ d. instance_so (instances o h) (visits o h) (visits_so h) l d)

  pub tour_so : P (tour o)
  unfolding tour_to
  tour_so = all_so (λ l. visits o (length o.loops) l outside) o.roots (λ l. visits_so (length o.loops) l outside)
