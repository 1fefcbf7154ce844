-- The elements that the segment map defines: numbers and least lengths of 255 at most, and codes no longer than the spec.
use Prim.Native.Nat.{ℕ, ◌≤◌}
use mathlib.Core.Path.{◌≡◌, refl}
use mathlib.Core.Bool.{Bool, true, false, cond}
use mathlib.Core.List.{List, [], ◌∷◌}
use native.Mathlib.Omega.{arith}
use Rattle.std.specs.Prelude.{Option, None, Some}
use Rattle.std.proofs.lemmas.Option.{none-some}
use lib.ListN.{length, length-append}
use lib.Dec.{eqb}
use Rattle.codec.specs.Codec.{Codec, items_enc, list_c, map_c, dep_c, ◌⊗◌, when_c}
use Rattle.codec.specs.Forms.{num_c, bytes_c}
use Rattle.codec.specs.Maps.{num_map_c}
use Rattle.codec.proofs.Limits.{none_of}
use Rattle.format.specs.Words.{if_some}
use Rattle.format.proofs.Words.{none_some}
use Rattle.format.specs.Spec as S
use Rattle.format.specs.Spec.{ElementDef, SegmentDef, Control, Loop, no_loop}
use Rattle.format.specs.Job.{Job}
use Rattle.format.specs.Ask.{found, same_bytes, segment_def, element_def, min_of, loop_of}
use Rattle.format.specs.Refusal.{large, over_control, over_loop, over_element, over_segment, over_spec, over}
use Rattle.nest.specs.Lists.{on, first, All}
use Rattle.nest.proofs.Alls.{all_weaker}
use Rattle.lossless.proofs.Words.{all_get, all_zip}
use Rattle.writer.proofs.Lengths.{list_within, segments_in_lem}
use Rattle.writer.proofs.BytesColumns.{text_long}
use Rattle.writer.proofs.BytesLimits.{none_all, not_large}
use Rattle.writer.proofs.BytesSections.{spec_bytes}

abbrev pub or_zero : Option ℕ → ℕ
or_zero None = 0
or_zero (Some n) = n

-- its first code
abbrev pub code_of : ElementDef → List ℕ
code_of d = on (first d.codes) (λ c. c) []

-- with n bytes in the spec
pub record Defined (n : ℕ) (x : ℕ × ElementDef) : Type 0 where
  pub number : x.0 ≤ 255
  pub least : or_zero x.1.min ≤ 255
  pub code : length (code_of x.1) ≤ n

-- ---- the one that is found

pub found_is : {K A : Type 0} (P : A → Type 0) (is : K → Bool) (xs : List (K × A)) → All (λ x. P x.1) xs → (d : A) → found is xs ≡ Some d → P d
found_is P is [] h d e = absurd (none-some d e)
found_is {K} {A} P is (x ∷ xs) h d e = go (is x.0) e (found_is P is xs h.1 d)
  where
    go : (t : Bool) → cond t (Some x.1) (found is xs) ≡ Some d → (found is xs ≡ Some d → P d) → P d
    go true e more = let q : x.1 ≡ d = cc in rw (← q) h.0
    go false e more = more e

-- ---- limits

abbrev Limited : ℕ × ElementDef → Type 0
Limited x = (x.0 ≤ 255) × (or_zero x.1.min ≤ 255)

least_small : (m : Option ℕ) → if_some large m ≡ false → or_zero m ≤ 255
unfolding if_some
least_small None h = omega arith
least_small (Some n) h = not_large n h

element_limited : (x : ℕ × ElementDef) → over_element x ≡ false → Limited x
unfolding over_element
element_limited x h = let s = none_of _ _ h in (not_large x.0 s.0, least_small x.1.min (none_of _ _ s.1).0)

segment_limited : (s : List ℕ × SegmentDef) → over_segment s ≡ false → All Limited s.1
unfolding over_segment
segment_limited s h = all_weaker _ Limited s.1 element_limited (none_all over_element s.1 h)

-- ---- codes

items_all : {A : Type 0} (C : Codec A) (xs : List A) → All (λ x. length (C.enc x) ≤ length (items_enc C xs)) xs
items_all C [] = tt
items_all {A} C (x ∷ xs) =
    (omega (arith, length-append (C.enc x) (items_enc C xs)), all_weaker (λ (y : A). length (C.enc y) ≤ length (items_enc C xs)) (λ (y : A). length (C.enc y) ≤ length (items_enc C (x ∷ xs))) xs (λ y h. omega (arith, h, length-append (C.enc x) (items_enc C xs))) (items_all C xs))

first_within : (xs : List (List ℕ)) → length (on (first xs) (λ c. c) []) ≤ length ((list_c bytes_c).enc xs)
first_within [] = omega arith
first_within (x ∷ xs) = list_within bytes_c (λ (y : List ℕ). length y) [] refl text_long (x ∷ xs) 0

code_in : (x : ℕ × ElementDef) → length (code_of x.1) ≤ length ((num_c ⊗ S.element_c).enc x)
unfolding S.element_c map_c dep_c
code_in x = let h = first_within x.1.codes in simp length-append (omega arith)

items_in : (d : SegmentDef) → length (items_enc (num_c ⊗ S.element_c) d) ≤ length ((S.segment_c).enc d)
unfolding num_map_c when_c list_c
items_in d = simp length-append (omega arith)

codes_in : (n : ℕ) (s : List ℕ × SegmentDef) → length ((bytes_c ⊗ S.segment_c).enc s) ≤ n → All (λ (x : ℕ × ElementDef). length (code_of x.1) ≤ n) s.1
unfolding dep_c
codes_in n s h =
    let k : length ((S.segment_c).enc s.1) ≤ n = omega (arith, h, length-append (bytes_c.enc s.0) ((S.segment_c).enc s.1)) in
    all_weaker (λ (x : ℕ × ElementDef). length ((num_c ⊗ S.element_c).enc x) ≤ length (items_enc (num_c ⊗ S.element_c) s.1)) (λ (x : ℕ × ElementDef). length (code_of x.1) ≤ n) s.1
    (λ x m. omega (arith, m, code_in x, items_in s.1, k)) (items_all (num_c ⊗ S.element_c) s.1)

-- ---- all of them

both_all : {A : Type 0} (P Q : A → Type 0) (xs : List A) → All P xs → All Q xs → All (λ x. P x × Q x) xs
both_all P Q xs = all_zip P Q (λ x. P x × Q x) xs (λ x h k. (h, k))

module _ (j : Job) (fits : over j ≡ false) where
  all_defined : All (λ (s : List ℕ × SegmentDef). All (Defined (spec_bytes j)) s.1) j.spec.segments
  unfolding over over_spec
  all_defined =
      let s = none_of _ _ (none_of _ _ fits).0 in
      let segments = (none_of _ _ (none_of _ _ (none_of _ _ s.1).1).1).0 in
      let n : ℕ = spec_bytes j in
      let limits : All (λ (s : List ℕ × SegmentDef). All Limited s.1) j.spec.segments = all_weaker _ (λ (s : List ℕ × SegmentDef). All Limited s.1) j.spec.segments segment_limited (none_all over_segment j.spec.segments segments) in
      let codes : All (λ (s : List ℕ × SegmentDef). All (λ (x : ℕ × ElementDef). length (code_of x.1) ≤ n) s.1) j.spec.segments =
      all_weaker _ (λ (s : List ℕ × SegmentDef). All (λ (x : ℕ × ElementDef). length (code_of x.1) ≤ n) s.1) j.spec.segments (λ s h. codes_in n s (omega (arith, h, segments_in_lem j.spec))) (items_all (bytes_c ⊗ S.segment_c) j.spec.segments) in
      all_weaker _ _ j.spec.segments
      (λ s h. all_weaker _ (Defined n) s.1 (λ x g. record { number = g.0.0; least = g.0.1; code = g.1 }) (both_all Limited (λ (x : ℕ × ElementDef). length (code_of x.1) ≤ n) s.1 h.0 h.1))
      (both_all (λ (s : List ℕ × SegmentDef). All Limited s.1) (λ (s : List ℕ × SegmentDef). All (λ (x : ℕ × ElementDef). length (code_of x.1) ≤ n) s.1) j.spec.segments limits codes)

  segment_is : (id : List ℕ) (d : SegmentDef) → segment_def j id ≡ Some d → All (Defined (spec_bytes j)) d
  unfolding segment_def
  segment_is id d e = found_is (All (Defined (spec_bytes j))) (same_bytes id) j.spec.segments all_defined d e

  pub defined : (id : List ℕ) → All (Defined (spec_bytes j)) (on (segment_def j id) (λ d. d) [])
  defined id = go (segment_def j id) refl
    where
      go : (x : Option SegmentDef) → segment_def j id ≡ x → All (Defined (spec_bytes j)) (on x (λ d. d) [])
      go None e = tt
      go (Some d) e = segment_is id d e

  pub min_small : (id : List ℕ) (e : ℕ) → or_zero (min_of j id e) ≤ 255
  unfolding min_of element_def
  min_small id e = go (segment_def j id) refl
    where
      inner : (d : SegmentDef) → All (Defined (spec_bytes j)) d → (y : Option ElementDef) → found (eqb e) d ≡ y → or_zero (on y (λ (d : ElementDef). d.min) None) ≤ 255
      inner d h None q = omega arith
      inner d h (Some x) q = found_is (λ (x : ElementDef). or_zero x.min ≤ 255) (eqb e) d (all_weaker (Defined (spec_bytes j)) (λ (x : ℕ × ElementDef). or_zero x.1.min ≤ 255) d (λ x g. g.least) h) x q

      go : (x : Option SegmentDef) → segment_def j id ≡ x → or_zero (on (on x (found (eqb e)) None) (λ (d : ElementDef). d.min) None) ≤ 255
      go None q = omega arith
      go (Some d) q = inner d (segment_is id d q) (found (eqb e) d) refl

-- ---- the elements of a closer

pub record Controlled (c : Control) : Type 0 where
  pub closer : c.closer ≤ 255
  pub count : c.count ≤ 255

abbrev LoopControlled : Loop → Type 0
LoopControlled v = (c : Control) → v.control ≡ Some c → Controlled c

loop_controlled : (v : Loop) → over_loop v ≡ false → LoopControlled v
unfolding over_loop over_control
loop_controlled v h c e =
    let s = none_of _ _ (none_some over_control v.control (none_of _ _ (none_of _ _ h).1).0 c e) in
    let t = none_of _ _ s.1 in
    record { closer = not_large c.closer t.0; count = not_large c.count (none_of _ _ t.1).0 }

pub control_small : (j : Job) → over j ≡ false → (l : ℕ) (c : Control) → (loop_of j l).control ≡ Some c → Controlled c
unfolding over over_spec loop_of
control_small j h l =
    let s = none_of _ _ (none_of _ _ h).0 in
    let loops = (none_of _ _ (none_of _ _ s.1).1).0 in
    all_get LoopControlled j.spec.loops no_loop (all_weaker _ LoopControlled j.spec.loops loop_controlled (none_all over_loop j.spec.loops loops)) (λ c e. absurd (none-some c e)) l
