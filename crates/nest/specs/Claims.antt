-- Not to be believed: words of inner contracts, on which no contract of what users call rests.
-- What the answers of code stand for: the claim of a repeat row, and where a row hangs.
use Rattle.std.specs.Prelude.{ℕ, zero, suc, ◌≡◌, List, [], ◌∷◌, cond, eqb, Result, Ok, Err, Option, None, Some}
use Rattle.spec.specs.declared.ids.TableId.{TableId}
use Rattle.nest.specs.declared.hang.Claimed.{Claimed}
use Rattle.nest.specs.declared.hang.Place.{Place}
use Rattle.nest.specs.Outline.{Outline, row_table, kind_of}
use Rattle.nest.specs.Nest.{Claim, Row, row_of, depth_of, hangs, nest_record}

-- the claim, or else the table of the last anchor tried
abbrev pub claim_by : Option Claim → ℕ → Result Claimed TableId
claim_by (Some k) last = Ok (record { l = record { 0 = k.loop }; table = record { 0 = k.table }; value = k.value })
claim_by None last = Err (record { 0 = last })

-- the table whose row a loop enters, where it stands at depth d
abbrev pub anchor_table : Outline → ℕ → ℕ → Option ℕ
anchor_table j l d = cond (eqb (depth_of j l) d) (row_table (kind_of j l)) None

-- the three numbers of a row
abbrev pub place_record : Place → List ℕ
place_record p = p.above ∷ p.l.0 ∷ p.table.0 ∷ []

abbrev pub row_placed : ℕ → ℕ → Option Row
row_placed zero u = None
row_placed (suc r) u = Some (row_of u r)

-- the row that it hangs on
abbrev pub place_row : Place → Option Row
place_row p = row_placed p.above p.table.0

-- p says where row r of t hangs
pub record Hung (j : Outline) (t r : ℕ) (p : Place) : Type 0 where
  pub numbers : place_record p ≡ nest_record j t r
  pub row : place_row p ≡ hangs j t r
