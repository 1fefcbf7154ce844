-- Not to be believed: words of inner contracts, on which no contract of what users call rests.
-- What the passes over a number's digits promise each other.
use Rattle.std.specs.Prelude.{◌≡◌, ℕ, zero, suc, ◌+◌, ◌-◌, ◌/◌, ◌^◌, ◌<◌, ◌≤◌, List, [], ◌∷◌, ◌≢◌, slice_index}
use Rattle.texts.specs.declared.number.Places.{Places}
use Rattle.texts.specs.declared.number.Shortened.{Shortened}
use Rattle.texts.specs.Number.{digit}

-- the digits of n, the lowest first; n has `count` of them, none for 0
pub record Written (n : ℕ) (p : Places) : Type 0 where
  pub at : (i : ℕ) → i < 48 → slice_index p.bytes i ≡ 48 + digit n i
  pub few : p.count ≤ 39
  pub all : n < 10 ^ p.count
  pub least : (k : ℕ) → n < 10 ^ k → p.count ≤ k

-- the lowest place below `scale` that is no zero, or `scale`
pub record FirstFilled (places : List ℕ) (scale r : ℕ) : Type 0 where
  pub within : r ≤ scale
  pub zeros : (i : ℕ) → i < r → slice_index places i ≡ 48
  pub filled : r < scale → slice_index places r ≢ 48

-- n less zeros at its lowest places, of which `scale` stand behind the point
pub record Shortens (n scale : ℕ) (r : Shortened) : Type 0 where
  pub rest : r.rest ≡ n / 10 ^ (scale - r.scale)
  pub zeros : (i : ℕ) → i < scale - r.scale → digit n i ≡ 0

-- k places from `low` on, the highest first
unfoldable pub down : List ℕ → ℕ → ℕ → List ℕ
down places low zero = []
down places low (suc k) = slice_index places (low + k) ∷ down places low k
