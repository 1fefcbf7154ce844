-- Not to be believed: words of inner contracts, beside those of Wide, on which no contract of what users call rests.
use Rattle.std.specs.Prelude.{ℕ, ◌+◌, ◌*◌, ◌^◌}
use Rattle.texts.specs.declared.number.Wide.{Wide}

-- the number of the bits of both halves
abbrev pub value : Wide → ℕ
value w = w.lo + w.hi * 2 ^ 64
