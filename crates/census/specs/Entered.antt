-- Not to be believed: words of inner contracts, on which no contract of what users call rests.
-- How many instances are entered below an instance (write/emit.rs, `run`), as the count of refusal 6 takes them (docs/RULES.md, "Answer 6"):
-- loop by loop of its order.
use Rattle.std.specs.Prelude.{ℕ}
use Rattle.nest.specs.Lists.{sum}
use Rattle.nest.specs.Outline.{Outline, item_loops, order_of}
use Rattle.walk.specs.Instances.{Context}
use Rattle.walk.specs.Tour.{enters_in, visits}

-- by all instances of loop k in a context, h levels deep
abbrev pub entered_by : Outline → ℕ → Context → ℕ → ℕ
entered_by o h c k = enters_in (visits o h k c)

-- by the loops that the order of loop l names
unfoldable pub entered_below : Outline → ℕ → ℕ → Context → ℕ
entered_below o h l c = sum (entered_by o h c) (item_loops (order_of o l))
