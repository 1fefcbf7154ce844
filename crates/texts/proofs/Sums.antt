-- Signed numbers of 32 bits, as they are read back from their bits.
use Rattle.std.proofs.Common.{ℤ, w32, to_z, of_z}

-- a signed number as it is read back from its bits
abbrev pub Back : ℤ → ℤ
Back z = to_z w32 (of_z w32 z)
