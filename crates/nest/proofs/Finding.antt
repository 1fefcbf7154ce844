-- Laws of the definitions of specs/Finding, and words that only proofs use.
use Rattle.std.specs.Prelude.{ℕ, ◌<◌, List, []}
use Rattle.nest.specs.Lists.{All}
use Rattle.nest.specs.Finding.{Finding, delimiter, duplicate, mismatch, missing, not_writable, out_of_order}

-- ---- as numbers

-- the identifier that a finding names, if it names one: bytes, none of them 0
abbrev pub identifier_of : Finding → List ℕ
identifier_of (duplicate t r k f) = []
identifier_of (missing t r u v) = []
identifier_of (mismatch t r a v u p e) = []
identifier_of (out_of_order t r a v h) = []
identifier_of (delimiter o p b role) = p.identifier
identifier_of (not_writable o p reason) = p.identifier

abbrev pub Byte : ℕ → Type 0
Byte b = (0 < b) × (b < 256)

abbrev pub Named : Finding → Type 0
Named f = All Byte (identifier_of f)
