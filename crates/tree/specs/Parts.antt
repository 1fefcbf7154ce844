-- Not to be believed: words of inner contracts, on which no contract of what users call rests.
-- Loops that an order names, places of loops, numbers noted, and loop numbers of the spec that are out of range.
use Rattle.std.specs.Prelude.{ℕ, ◌<◌, ◌^◌, ◌≡◌, List, [], ◌∷◌, ◌++◌, Bool, false, length, get_or, take, Option, Some, None}
use Rattle.codec.specs.Codec.{le_c}
use Rattle.codec.specs.Limits.{any, any_of}
use Rattle.codec.specs.Skip.{count_at, skip, steps}
use Rattle.format.specs.Fields.{loop_children}
use Rattle.format.specs.Layout.{Item, segment_item, loop_item}
use Rattle.format.specs.Refusal.{outside, outside_loop, outside_table}
use Rattle.format.specs.Spec.{Loop, loop_c, Spec}
use Rattle.format.specs.Words.{member_of}
use Rattle.says.specs.Says.{Says}

-- a test of the loops that an order names
abbrev pub on_loop : (ℕ → Bool) → Item → Bool
on_loop f (segment_item k) = false
on_loop f (loop_item l) = f l

-- whether y is among those behind it
abbrev pub again : List ℕ → ℕ → Bool
again ys y = member_of y ys

-- what an option of a job holds, as a function answers it
abbrev pub held : Option ℕ → Option ℕ
held None = None
held (Some x) = Some x

-- ps has, pair by pair, the places of the loops that stand at a place and of their children, of the first ones where it is shorter
abbrev pub Placed : List ℕ → ℕ → ℕ → List (ℕ × ℕ) → Type 0
Placed b e at ps = (i : ℕ) → i < length ps → i < count_at b at e
    → ((get_or ps i (0, 0)).0 ≡ steps loop_c b e i (skip (le_c 4) b at e)) × ((get_or ps i (0, 0)).1 ≡ loop_children b e (steps loop_c b e i (skip (le_c 4) b at e)))

-- loop k of those that stand at a place: it stands at p, and its children at q
pub record LoopAt (b : List ℕ) (e at k p q : ℕ) : Type 0 where
  pub number : k < count_at b at e
  pub place : p ≡ steps loop_c b e k (skip (le_c 4) b at e)
  pub below : q ≡ loop_children b e p
  pub room : (p < 2 ^ 64) × (q < 2 ^ 64)

-- t, told a loop's number and the two places, says of the loop what f does
abbrev pub TestsLoops : List ℕ → ℕ → ℕ → (ℕ → ℕ → ℕ → Bool → Type 0) → (ℕ → Loop → Bool) → Type 0
TestsLoops b e at t f = (k p q : ℕ) (r : Bool) → LoopAt b e at k p q → t k p q r → Says loop_c b e p (f k) r

-- the first n of ps are the first of xs, and all of them where there was room for more
pub record Noted (xs ps : List ℕ) (n : ℕ) : Type 0 where
  pub more : List ℕ
  pub split : xs ≡ take n ps ++ more
  pub all : n < length ps → more ≡ []

-- loop numbers of the spec that are out of range
unfoldable pub outside_spec : Spec → Bool
outside_spec s = any
    (any_of (outside_loop (length s.loops)) s.loops ∷ any_of (outside (length s.loops)) s.roots ∷ any_of (outside_table (length s.loops)) s.tables ∷ [])
