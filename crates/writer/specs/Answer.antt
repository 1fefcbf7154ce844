-- The number and the values for each case of the answer (docs/RULES.md, "Answers").
use Rattle.std.specs.Prelude.{ℕ, List, [], ◌∷◌, Result, Ok, Err}
use Rattle.refusal.specs.Answer.{number}
use Rattle.writer.specs.declared.Totals.{Totals}
use Rattle.writer.specs.declared.Refused.{Refused}
use Rattle.writer.specs.declared.Refused.TheVariants.{Job, Instances, Room}

-- what a call answers
abbrev pub Answered : Type 0
Answered = Result Totals Refused

abbrev pub number_by : Refused → ℕ
number_by (Job r) = number r
number_by Instances = 6
number_by (Room s) = 7

abbrev pub number_of : Result Totals Refused → ℕ
number_of (Ok s) = 0
number_of (Err e) = number_by e

-- the four counts: bytes, segments, findings, stops
abbrev pub numbers : Totals → List ℕ
numbers s = s.bytes ∷ s.segments ∷ s.findings ∷ s.stops ∷ []

abbrev pub values_by : Refused → List ℕ
values_by (Job r) = []
values_by Instances = []
values_by (Room s) = numbers s

abbrev pub values_of : Result Totals Refused → List ℕ
values_of (Ok s) = numbers s
values_of (Err e) = values_by e
