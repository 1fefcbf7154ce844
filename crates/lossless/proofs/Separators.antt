-- Laws of the definitions of specs/Separators, and words that only proofs use.
use Rattle.std.specs.Prelude.{Bool, true, false, List}
use Rattle.nest.specs.Lists.{some_of}
use Rattle.nest.specs.Finding.{Finding, duplicate, missing, mismatch, out_of_order, delimiter, not_writable}

-- ---- among findings

abbrev pub is_delimiter : Finding → Bool
is_delimiter (duplicate t r k f) = false
is_delimiter (missing t r u v) = false
is_delimiter (mismatch t r a v u p e) = false
is_delimiter (out_of_order t r a v h) = false
is_delimiter (delimiter o p b role) = true
is_delimiter (not_writable o p reason) = false

unfoldable pub delimiter_found : List Finding → Bool
delimiter_found = some_of is_delimiter
