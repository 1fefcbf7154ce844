-- Not to be believed: words of inner contracts, on which no contract of what users call rests.
-- A document read by place: what starts at a place, with the places of its terminator and of what follows.
use Rattle.std.specs.Prelude.{ℕ, ◌+◌, Bool, false, List, [], ◌∷◌, length, drop, eqb}
use Rattle.segment.specs.declared.Separators.{Separators}
use Rattle.segment.specs.declared.read.SegmentAt.{SegmentAt}
use Rattle.segment.specs.declared.read.SegmentAt.TheVariants.{Whole, Nameless, NoTerminator, NoLineFeed, End}
use Rattle.segment.specs.Joining.{line_feed}
use Rattle.segment.specs.Reading.{Front, front}
use Rattle.segment.specs.Reading.Front.{done, whole, nameless, unended, unfed}

-- how many bytes the terminator and its line feed take
unfoldable pub ending_of : Separators → ℕ
ending_of s = length (s.segment ∷ line_feed s.line_break)

-- whether a text starts with a line feed
unfoldable pub starts_feed : List ℕ → Bool
starts_feed [] = false
starts_feed (x ∷ rest) = eqb x 10

-- a segment by its identifier
abbrev pub named : List ℕ → ℕ → ℕ → SegmentAt
named [] end next = Nameless end next
named (x ∷ id) end next = Whole end next

-- the front of what is left from a place, in places of the document
abbrev pub placed : Separators → ℕ → Front → SegmentAt
placed s at done = End
placed s at (whole body rest) = Whole (at + length body) (at + length body + ending_of s)
placed s at (nameless body rest) = Nameless (at + length body) (at + length body + ending_of s)
placed s at unended = NoTerminator
placed s at unfed = NoLineFeed

unfoldable pub segment_at : Separators → List ℕ → ℕ → SegmentAt
segment_at s doc at = placed s at (front s (drop at doc))
