-- A section is read and used up exactly (docs/RULES.md, "Trailer").
use Rattle.std.specs.Prelude.{ℕ, Bool, false, eqb}
use Rattle.codec.specs.Codec.{Got, got, bad}

-- a section is read, and used up exactly
abbrev pub used_up : {A : Type 0} → Got A → ℕ → Bool
used_up (got v n) e = eqb n e
used_up bad e = false
