-- Not to be believed: words of inner contracts, on which no contract of what users call rests.
-- What an index holds of a list of a job: its place, then the places of its first 32 items.
use Rattle.std.specs.Prelude.{ℕ, ◌+◌, ◌*◌, ◌≤◌, ◌<◌, ◌≡◌, List, length, get_or, set, ltb, Option, None, Some}
use Rattle.codec.specs.Codec.{Codec, pick, le, le_c, list_c}
use Rattle.codec.specs.Skip.{skip, steps, count_at, Is}
use Rattle.codec.specs.Rows.{small}
use Rattle.spec.specs.Kept.{Kept}

-- from k on, the place of a list that stands at at, then the places of its first 32 items
pub record Stored {A : Type 0} (C : Codec A) (b : List ℕ) (e at k : ℕ) (idx : List ℕ) : Type 0 where
  pub list : k < length idx → get_or idx k 0 ≡ small at
  pub item : (i : ℕ) → i < count_at b at e → i < 32 → k + 1 + i < length idx → get_or idx (k + 1 + i) 0 ≡ small (steps C b e i (skip (le_c 4) b at e))

-- the places of the first 32 of n items that were read from start on, the next standing at p, from k + 1 on, and from `from` on the list within each of them, which stands where `at` says
pub record Lists {A B : Type 0} (C : Codec A) (D : Codec B) (b : List ℕ) (e : ℕ) (at : ℕ → ℕ) (k from to start n p : ℕ) (old new : List ℕ) : Type 0 where
  pub place : p ≡ steps C b e n start
  pub kept : Kept (k + 1) to old new
  pub item : (j : ℕ) → j < n → j < 32 → k + 1 + j < length old → get_or new (k + 1 + j) 0 ≡ small (steps C b e j start)
  pub inner : (j : ℕ) → j < n → j < 32 → Stored D b e (at (steps C b e j start)) (from + j * 33) new

-- a list in terms of the job: the list vs, and its first 32 items
pub record Listed {A : Type 0} (C : Codec A) (b : List ℕ) (e : ℕ) (idx : List ℕ) (k : ℕ) (vs : List A) : Type 0 where
  pub list : Is (list_c C) b e (get_or idx k 0) vs
  pub item : (i : ℕ) (d : A) → i < length vs → i < 32 → Is C b e (get_or idx (k + 1 + i) 0) (get_or vs i d)

-- where item i stands, by the index and the count of the list whose numbers begin at k
abbrev pub ItemAt : List ℕ → List ℕ → ℕ → ℕ → Option ℕ → Type 0
ItemAt b idx k i None = le 4 b (get_or idx k 0) ≤ i
ItemAt b idx k i (Some p) = (i < le 4 b (get_or idx k 0)) × (p ≡ get_or idx (k + 1 + i) 0) × (p < 4294967296)

-- the place p of item i stored, if it is among the first 32
unfoldable pub put_item : List ℕ → ℕ → ℕ → ℕ → List ℕ
put_item l k i p = pick (ltb i 32) (set l (k + 1 + i) (small p)) l
