-- An answer's number and counts, and how many items a lent list has room for (docs/RULES.md, "Answers" and "Answer 7").
use Rattle.std.specs.Prelude.{ℕ, ◌/◌, Bool, ◌||◌, List, [], length, ltb}
use Rattle.codec.specs.Codec.{pick}
use Rattle.format.specs.Sections.{job_of}
use Rattle.writer.specs.Result.{Result, result_of, counts_of}
use Rattle.writer.specs.Refused.{first_of, refusal}
use Rattle.writer.specs.Lists.{unless_refused}

-- how many items a list has room for: a segment and a stop take three numbers, a finding ten
abbrev pub threes : List ℕ → ℕ
threes d = length d / 3

-- a list has room for fewer items than there are; d, g, f and p say how many it has room for
abbrev pub short : Result → ℕ → ℕ → ℕ → ℕ → Bool
short r d g f p = ltb d (length r.bytes) || (ltb g (length r.segments) || (ltb f (length r.findings) || ltb p (length r.stops)))

-- 1 to 6, or else 7 where there is room for d bytes, g segments, f findings and p stops, and one of them is too few, or else 0
unfoldable pub number_for : List ℕ → ℕ → ℕ → ℕ → ℕ → ℕ
number_for b d g f p = first_of (refusal b) (pick (short (result_of (job_of b)) d g f p) 7 0)

-- the four counts, with 0 and 7
unfoldable pub values_for : List ℕ → List ℕ
values_for b = unless_refused (refusal b) [] (counts_of (result_of (job_of b)))
