-- The number of each refusal, and of an answer: 0 where there is no refusal from 1 to 5 (docs/RULES.md, "Answers").
use Rattle.std.specs.Prelude.{ℕ, Result, Ok, Err}
use Rattle.refusal.specs.declared.Refusal.{Refusal}
use Rattle.refusal.specs.declared.Refusal.TheVariants.{Size, Structure, Limit, Loops, Text}

abbrev pub number : Refusal → ℕ
number Size = 1
number Structure = 2
number Limit = 3
number Loops = 4
number Text = 5

abbrev pub number_of : {A : Type 0} → Result A Refusal → ℕ
number_of (Ok x) = 0
number_of (Err r) = number r
