-- What a caller reads from the four lists after a call (docs/RULES.md, "What a call tells"), and that nothing is lost of what they hold
-- (docs/RULES.md, "Nothing is lost").
use Rattle.std.specs.Prelude.{ℕ, zero, suc, List, [], ◌∷◌, map, take, drop, get_or, Option, None, Some}
use Rattle.finding.specs.declared.Finding.{Finding}
use Rattle.format.specs.Job.{Job}
use Rattle.walk.specs.Tour.{Stop}
use Rattle.emit.specs.Fold.{Traced}
use Rattle.lossless.specs.NothingLost.{NothingLost}

-- a segment's source, by the second and the third of its numbers: the table plus one, or 0 for the envelope, and the row
abbrev pub source_from : ℕ → ℕ → Option (ℕ × ℕ)
source_from zero r = None
source_from (suc t) r = Some (t, r)

-- the first n segments of a list, three numbers each
unfoldable pub segments_from : ℕ → List ℕ → List Traced
segments_from zero w = []
segments_from (suc n) w = record { entry = get_or w 0 0; row = source_from (get_or w 1 0) (get_or w 2 0) } ∷ segments_from n (drop 3 w)

-- the first n stops of a list, three numbers each: loop, table, row
unfoldable pub stops_from : ℕ → List ℕ → List Stop
stops_from zero w = []
stops_from (suc n) w = record { loop = get_or w 0 0; table = get_or w 1 0; row = get_or w 2 0 } ∷ stops_from n (drop 3 w)

-- of what the lists of document, segments, findings and stops hold, as many of each as the four counts say, nothing is lost
abbrev pub NothingLostIn : Job → List ℕ → List ℕ → List ℕ → List Finding → List ℕ → Type 0
NothingLostIn j counts d g f p =
    NothingLost j (take (get_or counts 0 0) d) (segments_from (get_or counts 1 0) g) (map (λ (x : Finding). x.kind) (take (get_or counts 2 0) f)) (stops_from (get_or counts 3 0) p)
