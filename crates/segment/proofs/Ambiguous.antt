-- Where the element separator and the terminator are one byte some document has two readings.
use Prim.Native.Nat.{ℕ}
use mathlib.Core.Path.{◌≡◌, refl, sym, ap, ◌∙◌, subst}
use mathlib.Core.Logic.{◌≢◌}
use mathlib.Core.Bool.{Bool, true, false, cond}
use mathlib.Core.List.{List, [], ◌∷◌, ◌++◌, append_assoc, cons-ne-nil}
use native.Mathlib.Omega.{arith}
use lib.ListN.{length}
use lib.Dec.{eqb}
use borrow.Author.Tests.{eqb-true, eqb-false}
use Rattle.segment.specs.declared.Separators.{Separators}
use Rattle.segment.specs.Joining.{line_feed, segment_bytes, behind}
use Rattle.segment.specs.Grammar.{Segment, Without, Plain, Grammatical, Reads, document_bytes}
use Rattle.segment.specs.Reading.{segment_of}
use Rattle.segment.specs.OneReading.{Ambiguous}
use Rattle.segment.proofs.Cuts.{all_map, cut_miss, cut_without, joined_cut}
use Rattle.segment.proofs.OneReading.{segment_bytes_lem}

-- a letter that is not the byte
letter : ℕ → ℕ
letter b = cond (eqb b 65) 66 65

letter_other : (b : ℕ) → letter b ≢ b
unfolding letter
letter_other b = go (eqb b 65) refl
  where
    go : (t : Bool) → eqb b 65 ≡ t → cond t 66 65 ≢ b
    go true q e = omega (arith, eqb-true b 65 q)
    go false q e = eqb-false b 65 q (sym e)

module _ (s : Separators) (same : s.element ≡ s.segment) where
  -- a segment that is a letter and nothing else
  alone : Segment
  alone = record { id = letter s.segment ∷ []; elements = [] }

  -- two such segments, one after the other
  twice : List Segment
  twice = alone ∷ alone ∷ []

  -- the same bytes as one segment: the first terminator is taken for an element separator
  body : List ℕ
  body = letter s.segment ∷ s.segment ∷ (line_feed s.line_break ++ letter s.segment ∷ [])

  single : List Segment
  single = segment_of s body ∷ []

  alone_grammatical : Grammatical s alone
  unfolding alone
  alone_grammatical =
      let n : letter s.segment ≢ s.segment = letter_other s.segment in
      record { named = cons-ne-nil _ _; id_plain = record { no_element = ((λ e. n (e ∙ same)), tt); no_segment = (n, tt) }; elements_plain = tt }

  reads_twice : Reads s (document_bytes s twice) twice
  unfolding twice
  reads_twice = record { bytes = refl; each = (alone_grammatical, (alone_grammatical, tt)) }

  single_grammatical : Grammatical s (segment_of s body)
  unfolding body
  single_grammatical =
      let parts = cut_without s.element body in
      let plain : (text : List ℕ) → Without s.element text → Plain s text =
      λ text w. record { no_element = w; no_segment = subst (λ b. Without b text) same w } in
      let n : letter s.segment ≢ s.element = λ e. letter_other s.segment (e ∙ same) in
      record {
        named = λ e. cons-ne-nil _ _ (sym (ap (λ p. p.first) (cut_miss s.element (letter s.segment) _ n)) ∙ e);
        id_plain = plain _ parts.0;
        elements_plain = all_map _ _ plain (segment_of s body).elements parts.1;
      }

  same_bytes_lem : document_bytes s twice ≡ document_bytes s single
  unfolding twice alone single body document_bytes segment_bytes behind
  same_bytes_lem =
      ap (λ r. letter s.segment ∷ s.segment ∷ r) (sym (append_assoc (line_feed s.line_break) (letter s.segment ∷ []) (s.segment ∷ (line_feed s.line_break ++ []))))
      ∙ ap (λ r. r ++ s.segment ∷ (line_feed s.line_break ++ [])) (sym (joined_cut s.element body))
      ∙ sym (segment_bytes_lem s (segment_of s body) [])

  reads_single : Reads s (document_bytes s twice) single
  unfolding single
  reads_single = record { bytes = same_bytes_lem; each = (single_grammatical, tt) }

pub two_readings : Ambiguous
unfolding twice single
two_readings s same =
    record {
      document = document_bytes s (twice s same);
      first = twice s same;
      second = single s same;
      reads_first = reads_twice s same;
      reads_second = reads_single s same;
      differ = λ e. let n : ◌≡◌ {A = ℕ} 2 1 = ap length e in omega arith;
    }
