-- Padding of envelope values (write/envelope.rs; docs/RULES.md, "Padding"): numbers to the left with 0, fixed widths to the right with spaces.
use Rattle.std.specs.Prelude.{ℕ, ◌-◌, Bool, false, cond, List, ◌++◌, length, replicate, ◌==◌, Some, None}
use Rattle.texts.specs.Number.{count_text}
use Rattle.texts.specs.Reason.{Width}

-- whether an element's max is that width
abbrev pub is_at : Width → ℕ → Bool
is_at None width = false
is_at (Some most) width = most == width

-- zeros to the left up to the element's min, where it has one
unfoldable pub zero_padded : Width → List ℕ → List ℕ
zero_padded None text = text
zero_padded (Some least) text = replicate (least - length text) 48 ++ text

-- an element of one width: min and max are the same
unfoldable pub space_padded : Width → Width → List ℕ → List ℕ
space_padded None max text = text
space_padded (Some least) max text = cond (is_at max least) (text ++ replicate (least - length text) 32) text

unfoldable pub padded : Bool → Width → Width → List ℕ → List ℕ
padded numeric min max text = cond numeric (zero_padded min text) (space_padded min max text)

-- a control number, at the min of its element
unfoldable pub control_text : ℕ → Width → List ℕ
control_text number min = zero_padded min (count_text number)
