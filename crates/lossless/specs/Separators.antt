-- When a job has a delimiter finding: exactly when a cell or envelope text of a due segment holds a separator (docs/RULES.md, "One reading"). The
-- repetition separator counts where there is one.
use Rattle.std.specs.Prelude.{ℕ, Bool, eqb, List, map, get_or}
use Rattle.format.specs.Words.{member_of}
use Rattle.format.specs.Job.{Job}
use Rattle.format.specs.Refusal.{separators}
use Rattle.nest.specs.Lists.{some_of}
use Rattle.nest.specs.Finding.{Finding, record_of}
use Rattle.lossless.specs.Due.{DueSegment, due_segments}

-- a text holds a separator
abbrev pub holds_separator : Job → List ℕ → Bool
holds_separator j text = some_of (λ b. member_of b text) (separators j.envelope)

-- one of a due segment's texts does
abbrev pub segment_holds : Job → DueSegment → Bool
segment_holds j d = some_of (holds_separator j) d.tried

unfoldable pub separator_held : Job → Bool
separator_held j = some_of (segment_holds j) (due_segments j)

-- ---- among findings

-- the number of a finding's kind is the first of its ten
abbrev pub kinds_of : List Finding → List ℕ
kinds_of = map (λ (x : Finding). get_or (record_of x) 0 0)

-- the same of the kinds alone: a delimiter's is 4
unfoldable pub delimiter_kind : List ℕ → Bool
delimiter_kind = some_of (eqb 4)
