-- Not to be believed: words of inner contracts, on which no contract of what users call rests.
-- Searches by a test.
use Rattle.std.specs.Prelude.{ℕ, ◌≤◌, ◌<◌, ◌≡◌, Bool, true, false}

-- a test, told by what it may answer, answers as p does at the numbers below n
abbrev pub AnswersAs : (ℕ → Bool → Type 0) → (ℕ → Bool) → ℕ → Type 0
AnswersAs post p n = (k : ℕ) (r : Bool) → k < n → post k r → r ≡ p k

-- p passes at the numbers below some number, and at none from there on
abbrev pub Turns : (ℕ → Bool) → ℕ → Type 0
Turns p n = (i k : ℕ) → i ≤ k → k < n → p k ≡ true → p i ≡ true

-- of the numbers from low on, below high, p passes at those before k, and at no others
pub record SplitAt (p : ℕ → Bool) (low high k : ℕ) : Type 0 where
  pub after : low ≤ k
  pub within : k ≤ high
  pub before : (i : ℕ) → low ≤ i → i < k → p i ≡ true
  pub rest : (i : ℕ) → k ≤ i → i < high → p i ≡ false
