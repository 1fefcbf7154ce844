-- A number of 32 bits as a signed one: two's complement.
use Rattle.std.specs.Prelude.{ℕ, ◌^◌, ℤ}
use Rattle.texts.specs.Wide.{signed}

-- 32 bits as two's complement
abbrev pub signed32 : ℕ → ℤ
signed32 n = signed (2 ^ 31) n
