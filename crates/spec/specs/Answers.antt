-- Not to be believed: words of inner contracts, on which no contract of what users call rests.
-- What the answers of the accessors stand for.
use Rattle.std.specs.Prelude.{ℕ, ◌+◌, ◌≤◌, ◌<◌, ◌≡◌, List, Bool, true, false, length, take, drop, Option, None, Some}
use Rattle.format.specs.Spec.{Counted, count_segments, count_children, Control}
use Rattle.spec.specs.declared.ids.Stretch.{Stretch}
use Rattle.spec.specs.declared.ids.ControlRule.{ControlRule}

-- the bytes of a stretch of the job
unfoldable pub stretch_of : List ℕ → Stretch → List ℕ
stretch_of b s = take s.len (drop s.start b)

-- a stretch of the job that holds these bytes
pub record Holds (b : List ℕ) (s : Stretch) (v : List ℕ) : Type 0 where
  pub bytes : stretch_of b s ≡ v
  pub within : s.start + s.len ≤ length b

-- the number, 0 where it is absent
abbrev pub number_in : Option ℕ → ℕ
number_in None = 0
number_in (Some n) = n

-- a byte that may be absent
pub record HoldsByte (r : Option ℕ) (v : Option ℕ) : Type 0 where
  pub says : r ≡ v
  pub low : number_in r < 256

-- a text that may be absent
abbrev pub text_of : List ℕ → Option Stretch → Option (List ℕ)
text_of b None = None
text_of b (Some s) = Some (stretch_of b s)

-- where a text ends
abbrev pub text_end : Option Stretch → ℕ
text_end None = 0
text_end (Some s) = s.start + s.len

pub record HoldsText (b : List ℕ) (t : Option Stretch) (v : Option (List ℕ)) : Type 0 where
  pub bytes : text_of b t ≡ v
  pub within : text_end t ≤ length b

abbrev pub counted_of : Bool → Counted
counted_of false = count_segments
counted_of true = count_children

abbrev pub rule_of : ControlRule → Control
rule_of c = record { opener = c.opener; closer = c.closer; count = c.count; counted = counted_of c.children }

abbrev pub control_of : Option ControlRule → Option Control
control_of None = None
control_of (Some c) = Some (rule_of c)
