-- Storing into a lent list from a place on: as far as it fits, the rest untouched (docs/RULES.md, "Answer 7").
-- `lib.Seq.sets l i vs` stores vs one after the other from index i; a store past the end changes nothing.
use Rattle.std.specs.Prelude.{◌≡◌, ℕ, zero, suc, ◌+◌, ◌-◌, min, List, length, drop}
use lib.Seq.{sets}

-- 2 ^ 63: no slice is that long
abbrev pub cap : ℕ
cap = 9223372036854775808

-- n more, up to the cap: a count that never overflows
abbrev pub more : ℕ → ℕ → ℕ
more at n = min (at + n) cap

-- the list d begins at place k; what is stored before it is left out
abbrev pub placed : {A : Type 0} → ℕ → List A → ℕ → List A → List A
placed zero d at items = sets d at items
placed (suc k) d at items = sets d (at - suc k) (drop (suc k - at) items)

-- `items` were stored from place `at` on in the list d, which begins at place k, as far as they fit, which gives d'; all of them were counted
pub record StoredAt {A : Type 0} (k : ℕ) (d : List A) (at : ℕ) (items : List A) (next : ℕ) (d' : List A) : Type 0 where
  pub counted : next ≡ more at (length items)
  pub stored : d' ≡ placed k d at items

abbrev pub Stored : {A : Type 0} → List A → ℕ → List A → ℕ → List A → Type 0
Stored = StoredAt 0
