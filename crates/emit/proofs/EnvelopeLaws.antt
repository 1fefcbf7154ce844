-- Laws of the definitions of specs/Envelope, and words that only proofs use.
use Rattle.std.specs.Prelude.{ℕ}

-- ---- fields, by their case in the Rust's `Field`

abbrev pub date : ℕ
date = 6

abbrev pub time : ℕ
time = 7
