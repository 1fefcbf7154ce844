-- Not to be believed: words of inner contracts, on which no contract of what users call rests.
-- Where a reading ends in a section: the place behind the value, or one past the section's end where there is none.
use Rattle.std.specs.Prelude.{ℕ}
use Rattle.codec.specs.declared.section.Section.{Section}
use Rattle.codec.specs.Codec.{Codec}
use Rattle.codec.specs.Skip.{skip}

abbrev pub ends : {A : Type 0} → Codec A → Section → ℕ → ℕ
ends c s at = skip c s.bytes.now at s.end
