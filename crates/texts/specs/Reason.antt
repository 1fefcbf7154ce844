-- The text of a cell, or why it has none: the reasons 1 to 4 (docs/RULES.md, "Reasons").
use Rattle.std.specs.Prelude.{ℕ, Bool, true, false, List, [], nat_lt, Option, Some, None}

-- a text with the reason 0, or no text with its reason
pub record Outcome : Type 0 where
  pub text : List ℕ
  pub reason : ℕ

abbrev pub gives : List ℕ → Outcome
gives t = record { text = t; reason = 0 }

abbrev pub refuses : ℕ → Outcome
refuses n = record { text = []; reason = n }

abbrev pub pick : Bool → Outcome → Outcome → Outcome
pick true a b = a
pick false a b = b

-- how long an element's text is at least, or at most, where the element says so
abbrev pub Width : Type 0
Width = Option ℕ

-- an element's max is below n
abbrev pub shorter : Width → ℕ → Bool
shorter None n = false
shorter (Some m) n = nat_lt m n
