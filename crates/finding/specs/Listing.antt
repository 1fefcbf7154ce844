-- The listing's line of a finding: docs/RULES.md, "The listing". A finding is a kind and nine values, in the order in which the line has them.
use Rattle.std.specs.Prelude.{ℕ, ◌-◌, ◌/◌, ◌%◌, ◌==◌, List, [], ◌∷◌, ◌++◌, if◌then◌else◌, codes, decimal, encode_utf8, slice_index}
use Rattle.std.specs.Fmt.{signed_decimal}
use Rattle.std.specs.Int.{w64, cast_signed}
use Rattle.std.specs.List.{join_with_byte}
use Rattle.finding.specs.declared.Finding.{Finding}

-- words, with a space between each two
abbrev pub spaced : List (List ℕ) → List ℕ
spaced = join_with_byte 32

-- a key, a reference or a value, which stands as its 64 bits: a signed number
abbrev pub signed_text : ℕ → List ℕ
signed_text bits = signed_decimal (cast_signed w64 bits)

-- where no value is there, a dash
abbrev pub value_text : ℕ → ℕ → List ℕ
value_text there bits = if there == 0 then codes "-" else signed_text bits

-- a component, which stands as one more than its number: 0 where the element has none, and then a dash
abbrev pub component_text : ℕ → List ℕ
component_text more = if more == 0 then codes "-" else decimal (more - 1)

-- an identifier of two or three letters, which stands as one number, 8 bits a letter, the first the highest
abbrev pub identifier_text : ℕ → List ℕ
identifier_text n =
    (if n / 65536 % 256 == 0 then [] else encode_utf8 (n / 65536 % 256)) ++ (encode_utf8 (n / 256 % 256) ++ encode_utf8 (n % 256))

-- where a text comes from and where it goes, in seven values: C and the table, row and column of a cell, or E and the case of a field of the envelope;
-- then identifier, element, component or a dash
abbrev pub spot_text : List ℕ → List ℕ
spot_text vs = let v = slice_index vs in
    if v 0 == 0
    then spaced (codes "C" ∷ decimal (v 1) ∷ decimal (v 2) ∷ decimal (v 3) ∷ identifier_text (v 4) ∷ decimal (v 5) ∷ component_text (v 6) ∷ [])
    else spaced (codes "E" ∷ decimal (v 1) ∷ identifier_text (v 4) ∷ decimal (v 5) ∷ component_text (v 6) ∷ [])

-- a key that an earlier row has: table, row, key, first row
abbrev pub duplicate_line : List ℕ → List ℕ
duplicate_line vs = let v = slice_index vs in
    spaced (codes "DR" ∷ decimal (v 0) ∷ decimal (v 1) ∷ signed_text (v 2) ∷ decimal (v 3) ∷ [])

-- a row without its parent: table, row, parent, value or a dash
abbrev pub missing_line : List ℕ → List ℕ
missing_line vs = let v = slice_index vs in
    spaced (codes "MP" ∷ decimal (v 0) ∷ decimal (v 1) ∷ decimal (v 2) ∷ value_text (v 3) (v 4) ∷ [])

-- two references to one ancestor that differ: table, row, ancestor, value, parent, parent row, expected
abbrev pub mismatch_line : List ℕ → List ℕ
mismatch_line vs = let v = slice_index vs in
    spaced (codes "MR" ∷ decimal (v 0) ∷ decimal (v 1) ∷ decimal (v 2) ∷ signed_text (v 3) ∷ decimal (v 4) ∷ decimal (v 5) ∷ signed_text (v 6) ∷ [])

-- a row behind a higher one: table, row, table above, reference to it or 0, highest row
abbrev pub order_line : List ℕ → List ℕ
order_line vs = let v = slice_index vs in
    spaced (codes "OO" ∷ decimal (v 0) ∷ decimal (v 1) ∷ decimal (v 2) ∷ signed_text (v 3) ∷ decimal (v 4) ∷ [])

-- a separator in a text: its spot, the separator's byte, its role
abbrev pub delimiter_line : List ℕ → List ℕ
delimiter_line vs = let v = slice_index vs in
    spaced (codes "DV" ∷ spot_text vs ∷ decimal (v 7) ∷ decimal (v 8) ∷ [])

-- a value that has no text: its spot, the reason
abbrev pub unwritable_line : List ℕ → List ℕ
unwritable_line vs = let v = slice_index vs in
    spaced (codes "NW" ∷ spot_text vs ∷ decimal (v 7) ∷ [])

-- by the kind: 0 to 4 are the first five, any other the last
abbrev pub finding_line : Finding → List ℕ
finding_line f =
    if f.kind == 0 then duplicate_line f.values
    else (if f.kind == 1 then missing_line f.values
    else (if f.kind == 2 then mismatch_line f.values
    else (if f.kind == 3 then order_line f.values
    else (if f.kind == 4 then delimiter_line f.values
    else unwritable_line f.values))))
