-- What the list of stops of a job with a complete plan is (docs/RULES.md, "Every row stops").
use Rattle.std.specs.Prelude.{ℕ, ◌<◌, ◌≡◌, ◌⊎◌, true, ◌&&◌, List, length, eqb, Some}
use Rattle.nest.specs.Lists.{once, sum, All}
use Rattle.nest.specs.Outline.{Outline, rows, kind_of, row_count, plain}
use Rattle.nest.specs.Nest.{Hook, hook, Adrift}
use Rattle.walk.specs.Tour.{Step, enters, stop, opener, row_segment, fill, chunk, closer, tour}

abbrev pub is_stop : ℕ → ℕ → Step → ℕ
is_stop t r (enters l) = 0
is_stop t r (stop l u o) = once (eqb u t && eqb o r)
is_stop t r (opener l) = 0
is_stop t r (row_segment l i u o) = 0
is_stop t r (fill l i u k o) = 0
is_stop t r (chunk l i u os) = 0
is_stop t r (closer l opened n m) = 0

-- how many stops row r of table t has
abbrev pub stops_of : ℕ → ℕ → List Step → ℕ
stops_of t r = sum (is_stop t r)

-- the loop in which a row stops: its table's row loop, or the anchor that nest picks
abbrev pub RowLoop : Outline → ℕ → ℕ → ℕ → Type 0
RowLoop j l t r = ((plain j t ≡ true) × (kind_of j l ≡ rows t)) ⊎ ((k : Hook) × (hook j t r ≡ Some k) × (k.loop ≡ l))

-- a stop names a row that exists, and its loop
abbrev pub RightStop : Outline → Step → Type 0
RightStop j (enters l) = Unit {0}
RightStop j (stop l t r) = (t < length j.tables) × (r < row_count j t) × RowLoop j l t r
RightStop j (opener l) = Unit {0}
RightStop j (row_segment l i u o) = Unit {0}
RightStop j (fill l i u k o) = Unit {0}
RightStop j (chunk l i u os) = Unit {0}
RightStop j (closer l opened n m) = Unit {0}

pub record StopsRight (j : Outline) : Type 0 where
  pub one : (t r : ℕ) → t < length j.tables → r < row_count j t → (Adrift j t r → ⊥) → stops_of t r (tour j) ≡ 1
  pub none_else : (t r : ℕ) → t < length j.tables → r < row_count j t → Adrift j t r → stops_of t r (tour j) ≡ 0
  pub each_right : All (RightStop j) (tour j)
