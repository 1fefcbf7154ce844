-- Not to be believed: words of inner contracts, beside those of Reason, on which no contract of what users call rests.
use Rattle.std.specs.Prelude.{◌≡◌, ℕ, [], Option, Some, None, Result, Ok, Err}
use Rattle.texts.specs.declared.render.Refused.{Refused}
use Rattle.texts.specs.declared.render.Refused.TheVariants.{Year, Window, Day, Seconds}
use Rattle.texts.specs.declared.Text.{Text}
use Rattle.texts.specs.Held.{held}
use Rattle.texts.specs.Reason.{Outcome}

abbrev pub reason_of : Refused → ℕ
reason_of Year = 1
reason_of Window = 2
reason_of Day = 3
reason_of Seconds = 4

-- the text of an answer, empty where it is refused, and the reason of that, or 0
abbrev pub text_of : Result Text Refused → Text
text_of (Ok t) = t
text_of (Err e) = held []

abbrev pub why_of : Result Text Refused → ℕ
why_of (Ok t) = 0
why_of (Err e) = reason_of e

-- the same reason alone
abbrev pub why_in : Option Refused → ℕ
why_in None = 0
why_in (Some e) = reason_of e

-- the answer has this text, and this reason
pub record Says (r : Result Text Refused) (o : Outcome) : Type 0 where
  pub text : text_of r ≡ held o.text
  pub reason : why_of r ≡ o.reason
