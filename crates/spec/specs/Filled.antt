-- Not to be believed: words of inner contracts, on which no contract of what users call rests.
-- What filling makes of the index, and what it leaves as it was.
use Rattle.std.specs.Prelude.{ℕ, ◌≤◌, ◌<◌, ◌≡◌, List, length, get_or}
use Rattle.spec.specs.Index.{SpecIndexed}
use Rattle.spec.specs.Segments.{SegmentsIndexed}
use Rattle.spec.specs.EnvelopeIndex.{EnvelopeIndexed}

-- the regions from 0 to 1024, from 2560 to 2624 and from 4096 to 10752 are filled, of an index that is long enough
pub record Filled (b l m : List ℕ) : Type 0 where
  pub spec : 10752 ≤ length l → SpecIndexed b m
  pub envelope : 10752 ≤ length l → EnvelopeIndexed b m
  pub segments : 10752 ≤ length l → SegmentsIndexed b m
  pub long : length m ≡ length l
  pub second : (i : ℕ) → 1024 ≤ i → i < 2560 → get_or m i 0 ≡ get_or l i 0
  pub fourth : (i : ℕ) → 2624 ≤ i → i < 4096 → get_or m i 0 ≡ get_or l i 0
  pub beyond : (i : ℕ) → 10752 ≤ i → get_or m i 0 ≡ get_or l i 0

-- the first and the last of them
pub record SpecFilled (b l m : List ℕ) : Type 0 where
  pub spec : 10752 ≤ length l → SpecIndexed b m
  pub segments : 10752 ≤ length l → SegmentsIndexed b m
  pub long : length m ≡ length l
  pub between : (i : ℕ) → 1024 ≤ i → i < 4096 → get_or m i 0 ≡ get_or l i 0
  pub beyond : (i : ℕ) → 10752 ≤ i → get_or m i 0 ≡ get_or l i 0
