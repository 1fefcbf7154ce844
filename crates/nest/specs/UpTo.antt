-- Not to be believed: words of inner contracts, beside those of Lists, on which no contract of what users call rests.
use Rattle.std.specs.Prelude.{ℕ, ◌-◌, List}
use Rattle.nest.specs.Lists.{from}

-- the numbers from k on, below n
abbrev pub up_to : ℕ → ℕ → List ℕ
up_to k n = from k (n - k)
