-- A sample job with a complete plan: its due segments, its document, and what that reads as, by computation (docs/RULES.md, "What is promised").
use Rattle.std.specs.Prelude.{ℕ, ◌≡◌, false, List, [], ◌∷◌, codes, None, Some}
use Rattle.format.specs.Sample.{listing}
use Rattle.segment.specs.Parts.{Part}
use Rattle.complete.specs.Complete.{CompletePlan}
use Rattle.lossless.specs.Due.{due_segments, dues_of, sources_of}
use Rattle.lossless.specs.Separators.{separator_held}
use Rattle.lossless.specs.NothingLost.{walked_out, ReadsDue}

abbrev pub at : ℕ → List ℕ → Part
at e text = record { element = e; component = None; text = text }

abbrev pub CLP : List ℕ
CLP = codes "CLP"

abbrev pub SVC : List ℕ
SVC = codes "SVC"

pub record ExampleReadsBack : Type 0 where
  -- the plan is complete
  pub complete : CompletePlan listing
  -- three segments are due
  pub due : dues_of (due_segments listing)
      ≡ record { id = CLP; parts = at 1 (codes "A1") ∷ [] } ∷ record { id = SVC; parts = at 1 (codes "HC") ∷ at 2 (codes "100") ∷ [] } ∷ record { id = CLP; parts = at 1 (codes "B2") ∷ [] } ∷ []
  -- the table and the row that each comes from
  pub sources : sources_of (due_segments listing) ≡ Some (0, 0) ∷ Some (1, 0) ∷ Some (0, 1) ∷ []
  -- no text of theirs holds a separator
  pub no_separator : separator_held listing ≡ false
  -- the document, which has one reading: these segments
  pub document : (walked_out listing).bytes ≡ codes "CLP*A1~SVC*HC*100~CLP*B2~"
  pub reads_back : ReadsDue listing (walked_out listing).bytes
