-- Laws of the definitions of specs/Fit, and words that only proofs use.
use Rattle.std.specs.Prelude.{ℕ}

-- from there up to the cap: no slice of numbers of eight bytes is that long
abbrev pub wide : ℕ
wide = 4611686018427387904
