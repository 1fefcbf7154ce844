-- Laws of the definitions of specs/Found, and words that only proofs use.
use Prim.Native.Nat.{ℕ, zero, suc, ◌+◌, ◌*◌, ◌-◌, ◌≤◌, ◌<◌}
use Rattle.std.specs.Prelude.{◌≡◌, refl, List, [], ◌∷◌, Bool, true, cond, length, get_or, take, drop, eqb, Option, None, Some}
use Rattle.std.specs.Cmp.Lexicographic.{pointwise}
use Rattle.std.proofs.Math.Path.{sym, subst}
use Rattle.std.proofs.Common.{◌∙◌}
use mathlib.Core.Bool.{false, ◌&&◌}
use native.Mathlib.Omega.{arith}
use borrow.Author.Tests.{eq-eqb, ne_eqb, eqb-true, eqb-false}
use Rattle.codec.specs.Codec.{Codec, le, le_c, ◌⊗◌}
use Rattle.codec.specs.Skip.{Is, skip, steps, count_at}
use Rattle.codec.proofs.Skip.{steps_last as last_step}
use Rattle.codec.proofs.Ways.{count_is}
use Rattle.codec.specs.Forms.{num_c, bytes_c, opt_c}
use Rattle.codec.specs.Maps.{num_map_c}
use Rattle.codec.proofs.Maps.{is_num_map}
use Rattle.codec.specs.Field.{Stands}
use Rattle.codec.proofs.Field.{is_list, is_pair, is_le, is_in, stands_at}
use Rattle.codec.proofs.Answers.{skip_les}
use Rattle.format.specs.Ask.{found, same_bytes, segment_def, element_def, max_of, min_of}
use Rattle.format.specs.Spec.{SegmentDef, segment_c, ElementDef, element_c, ComponentDef, component_c, kind_c}
use Rattle.format.proofs.Fields.{is_element, is_component}
use Rattle.format.specs.Fields.{element_components}
use Rattle.format.specs.Job.{Job}
use Rattle.format.specs.Sections.{plan_start, job_of}
use Rattle.spec.specs.Answers.{stretch_of, Holds}
use Rattle.spec.specs.Segments.{SegmentsIndexed, no_entry}
use Rattle.spec.specs.declared.ids.Stretch.{Stretch}
use Rattle.spec.specs.Found.{StandsAt, PlaceOf, max_in, ElementAt, Sized}

-- ---- the first entry whose key passes

module _ {K A : Type 0} (P : K → Bool) where
  pub found_first : (xs : List (K × A)) (i : ℕ) (d : K × A) → i < length xs → ((k : ℕ) → k < i → P (get_or xs k d).0 ≡ false) → P (get_or xs i d).0 ≡ true → found P xs ≡ Some (get_or xs i d).1
  found_first [] i d q h k = absurd (omega arith)
  found_first (x ∷ xs) zero d q h k = rw k
  found_first (x ∷ xs) (suc i) d q h k = rw (h 0 (omega arith)) (found_first xs i d (omega arith) (λ j r. h (suc j) (omega arith)) k)

  pub found_none : (xs : List (K × A)) (d : K × A) → ((k : ℕ) → k < length xs → P (get_or xs k d).0 ≡ false) → found P xs ≡ None
  found_none [] d h = refl
  found_none (x ∷ xs) d h = rw (h 0 (omega arith)) (found_none xs d (λ j r. h (suc j) (omega arith)))

-- ---- a map with number keys, entry by entry
pub steps_last : {A : Type 0} (C : Codec A) (b : List ℕ) (e k at p q : ℕ) → p ≡ steps C b e k at → q ≡ skip C b p e → q ≡ steps C b e (k + 1) at
steps_last C b e k at p q h i = i ∙ rw h (sym (last_step C b e k at))

module _ {A : Type 0} (C : Codec A) (b : List ℕ) (e at number : ℕ) where
  -- the entries before k have other keys
  abbrev pub Others : ℕ → Type 0
  Others k = (xs : List (ℕ × A)) (d : ℕ × A) → Is (num_map_c C) b e at xs → (i : ℕ) → i < k → i < length xs → eqb number (get_or xs i d).0 ≡ false

  module _ (k p : ℕ) (step : p ≡ steps (num_c ⊗ C) b e k (at + 4)) where
    entry_at : (xs : List (ℕ × A)) (d : ℕ × A) → Is (num_map_c C) b e at xs → k < length xs → ((get_or xs k d).0 ≡ count_at b p e) × Is C b e (skip (le_c 4) b p e) (get_or xs k d).1
    entry_at xs d h q =
        let l = is_list (num_c ⊗ C) b e at xs (is_num_map C b e at xs h).0 in
        let i : Is (num_c ⊗ C) b e p (get_or xs k d) = rw step (l.item k d q) in
        let t = is_pair num_c C b e p (get_or xs k d) i in
        let n = is_le 4 b e p (get_or xs k d).0 t.0 in
        (n.1 ∙ sym (count_is b p e n.0), t.1)

    pub others_more : (key : ℕ) → Others k → key ≡ count_at b p e → (key ≡ number → ⊥) → Others (k + 1)
    others_more key o c n xs d h i r q = go (eqb i k) refl
      where
        go : (t : Bool) → eqb i k ≡ t → eqb number (get_or xs i d).0 ≡ false
        go true m =
            let s : i ≡ k = eqb-true _ _ m in
            let y : k < length xs = omega arith in
            rw s (ne_eqb _ _ (λ z. n (c ∙ sym (entry_at xs d h y).0 ∙ sym z)))
        go false m = let s : i ≡ k → ⊥ = eqb-false _ _ m in o xs d h i (omega arith) q

    pub number_found : (n key v : ℕ) → Others k → n ≡ count_at b at e → k < n → key ≡ count_at b p e → key ≡ number → v ≡ skip (le_c 4) b p e → (xs : List (ℕ × A)) → Is (num_map_c C) b e at xs → StandsAt C b e v (found (eqb number) xs)
    number_found n key v o c r g z w [] h = absurd (let l = is_list (num_c ⊗ C) b e at [] (is_num_map C b e at [] h).0 in omega (arith, l.counted, count_is b at e l.room))
    number_found n key v o c r g z w (x ∷ xs) h =
        let l = is_list (num_c ⊗ C) b e at (x ∷ xs) (is_num_map C b e at (x ∷ xs) h).0 in
        let m : length (x ∷ xs) ≡ n = l.counted ∙ sym (count_is b at e l.room) ∙ sym c in
        let q : k < length (x ∷ xs) = rw m r in
        let t = entry_at (x ∷ xs) x h q in
        let y : number ≡ (get_or (x ∷ xs) k x).0 = sym z ∙ g ∙ sym t.0 in
        record {
          value = (get_or (x ∷ xs) k x).1;
          there = found_first (eqb number) (x ∷ xs) k x q (λ i u. o (x ∷ xs) x h i u (omega arith)) (eq-eqb _ _ y);
          is = rw w t.1;
        }

  pub number_missing : (n k : ℕ) → Others k → n ≡ count_at b at e → n ≤ k → (xs : List (ℕ × A)) → Is (num_map_c C) b e at xs → found (eqb number) xs ≡ None
  number_missing n k o c r [] h = refl
  number_missing n k o c r (x ∷ xs) h =
      let l = is_list (num_c ⊗ C) b e at (x ∷ xs) (is_num_map C b e at (x ∷ xs) h).0 in
      let m : length (x ∷ xs) ≡ n = l.counted ∙ sym (count_is b at e l.room) ∙ sym c in
      found_none (eqb number) (x ∷ xs) x (λ i u. o (x ∷ xs) x h i (omega arith) u)

-- ---- a stretch against a byte string that stands at a place
pub bytes_pointwise : (v w : List ℕ) → pointwise eqb v w ≡ same_bytes v w
bytes_pointwise [] [] = refl
bytes_pointwise [] (y ∷ w) = refl
bytes_pointwise (x ∷ v) [] = refl
bytes_pointwise (x ∷ v) (y ∷ w) = go (eqb x y) (bytes_pointwise v w)
  where
    go : (t : Bool) {r q : Bool} → r ≡ q → (t && r) ≡ cond t q false
    go true i = i
    go false i = refl

pub key_same : (b : List ℕ) (s t : Stretch) (r : Bool) (k : List ℕ) → r ≡ pointwise eqb (take (s.start + s.len - s.start) (drop s.start b)) (take (t.start + t.len - t.start) (drop t.start b)) → Holds b t k → r ≡ same_bytes (stretch_of b s) k
unfolding stretch_of
key_same b s t r k h w =
    let i : s.start + s.len - s.start ≡ s.len = omega arith in
    let j : t.start + t.len - t.start ≡ t.len = omega arith in
    (rw (i, j, w.bytes) at h) ∙ bytes_pointwise (take s.len (drop s.start b)) k

-- ---- a segment by its identifier
abbrev segs : List ℕ → List (List ℕ × SegmentDef)
segs b = (job_of b).spec.segments

-- the entries before k have other identifiers
abbrev pub OtherNames : List ℕ → List ℕ → ℕ → Type 0
OtherNames b id k = (i : ℕ) → i < k → i < length (segs b) → same_bytes id (get_or (segs b) i no_entry).0 ≡ false

pub names_counted : (b idx : List ℕ) → SegmentsIndexed b idx → (n m : ℕ) → m ≡ get_or idx 4096 0 → n ≡ le 4 b m → n ≡ length (segs b)
names_counted b idx w n m i h = h ∙ rw i (sym (is_list (bytes_c ⊗ segment_c) b (plan_start b) _ (segs b) w.entries).counted)

module _ (b idx : List ℕ) (w : SegmentsIndexed b idx) (id : List ℕ) where
  module _ (k p : ℕ) (q : p ≡ get_or idx (4097 + k) 0) (r : k < length (segs b)) where
    name_at : Is bytes_c b (plan_start b) p (get_or (segs b) k no_entry).0 × Is segment_c b (plan_start b) (skip bytes_c b p (plan_start b)) (get_or (segs b) k no_entry).1
    name_at = is_pair bytes_c segment_c b (plan_start b) p (get_or (segs b) k no_entry) (rw q (w.entry k r))

    pub name_stands : Stands bytes_c b p
    name_stands = stands_at bytes_c b p p (plan_start b) _ refl w.within name_at.0

    pub names_more : (t : Bool) → OtherNames b id k → ((e : ℕ) (v : List ℕ) → e ≤ length b → Is bytes_c b e p v → t ≡ same_bytes id v) → t ≡ false → OtherNames b id (k + 1)
    names_more t o h f i u v = go (eqb i k) refl
      where
        go : (y : Bool) → eqb i k ≡ y → same_bytes id (get_or (segs b) i no_entry).0 ≡ false
        go true m = let s : i ≡ k = eqb-true _ _ m in rw s (sym (h (plan_start b) _ w.within name_at.0) ∙ f)
        go false m = let s : i ≡ k → ⊥ = eqb-false _ _ m in o i (omega arith) v

    pub name_found : (t : Bool) (n : ℕ) → OtherNames b id k → ((e : ℕ) (v : List ℕ) → e ≤ length b → Is bytes_c b e p v → t ≡ same_bytes id v) → t ≡ true → n ≡ le 4 b p → StandsAt segment_c b (plan_start b) (p + 4 + n) (segment_def (job_of b) id)
    unfolding segment_def
    name_found t n o h f c =
        let s : skip bytes_c b p (plan_start b) ≡ p + 4 + le 4 b p * 1 = skip_les 1 b (plan_start b) p (get_or (segs b) k no_entry).0 name_at.0 in
        let z : p + 4 + n ≡ skip bytes_c b p (plan_start b) = omega (arith, s, c) in
        record {
          value = (get_or (segs b) k no_entry).1;
          there = found_first (same_bytes id) (segs b) k no_entry r (λ i u. o i u (omega arith)) (sym (h (plan_start b) _ w.within name_at.0) ∙ f);
          is = rw z name_at.1;
        }

  pub name_missing : (n k : ℕ) → OtherNames b id k → n ≡ length (segs b) → n ≤ k → segment_def (job_of b) id ≡ None
  unfolding segment_def
  name_missing n k o c r = found_none (same_bytes id) (segs b) no_entry (λ i u. o i (omega arith) u)

-- ---- an element of a segment
pub element_nowhere : (j : Job) (id : List ℕ) (n : ℕ) → segment_def j id ≡ None → element_def j id n ≡ None
unfolding element_def
element_nowhere j id n h = rw h

pub element_there : (j : Job) (id : List ℕ) (n : ℕ) (b : List ℕ) (e e' p : ℕ) (r : Option ℕ) → e' ≡ e → StandsAt segment_c b e p (segment_def j id) → ((xs : SegmentDef) → Is segment_c b e' p xs → PlaceOf element_c b e' r (found (eqb n) xs)) → PlaceOf element_c b e r (element_def j id n)
unfolding element_def
element_there j id n b e e' p r i s h = rw (s.there, ← i) (h s.value (rw i s.is))

-- what a place says, by its case
module _ {A : Type 0} (C : Codec A) (b : List ℕ) (e : ℕ) (r : Option ℕ) (v : Option A) (h : PlaceOf C b e r v) where
  pub place_nowhere : r ≡ None → v ≡ None
  unfolding PlaceOf
  place_nowhere i = subst (λ (x : Option ℕ). PlaceOf C b e x v) i h

  pub place_at : (p : ℕ) → r ≡ Some p → StandsAt C b e p v
  unfolding PlaceOf
  place_at p i = subst (λ (x : Option ℕ). PlaceOf C b e x v) i h

pub stands_low : {A : Type 0} (C : Codec A) (b : List ℕ) (e p : ℕ) (v : Option A) → StandsAt C b e p v → p ≤ e
stands_low C b e p v s = is_in C b e p s.value s.is

module _ (j : Job) (id : List ℕ) (n : ℕ) where
  pub max_nowhere : (o : Option ℕ) → element_def j id n ≡ None → None ≡ max_of j id n o
  unfolding max_of
  max_nowhere None h = rw h
  max_nowhere (Some c) h = rw h

  pub max_there : (b : List ℕ) (e e' p : ℕ) (o r : Option ℕ) → e' ≡ e → StandsAt element_c b e p (element_def j id n) → ((d : ElementDef) → Is element_c b e' p d → r ≡ max_in d o) → r ≡ max_of j id n o
  unfolding max_of
  max_there b e e' p None r i s h = rw s.there (h s.value (rw i s.is))
  max_there b e e' p (Some c) r i s h = rw s.there (h s.value (rw i s.is))

  pub min_nowhere : element_def j id n ≡ None → None ≡ min_of j id n
  unfolding min_of
  min_nowhere h = rw h

  pub min_there : (b : List ℕ) (e e' p : ℕ) (r : Option ℕ) → e' ≡ e → StandsAt element_c b e p (element_def j id n) → ((d : ElementDef) → Is element_c b e' p d → r ≡ d.min) → r ≡ min_of j id n
  unfolding min_of
  min_there b e e' p r i s h = rw s.there (h s.value (rw i s.is))

pub component_none : (c : ℕ) (d : ElementDef) → found (eqb c) d.components ≡ None → None ≡ max_in d (Some c)
component_none c d h = rw h

pub component_there : (b : List ℕ) (e p c : ℕ) (r : Option ℕ) (d : ElementDef) → StandsAt component_c b e p (found (eqb c) d.components) → ((k : ComponentDef) → Is component_c b e p k → r ≡ k.max) → r ≡ max_in d (Some c)
component_there b e p c r d s h = rw s.there (h s.value s.is)

pub element_sized : (b : List ℕ) (e at : ℕ) → ElementAt b e at → Sized b e at
element_sized b e at h = let t = is_element b e at h.def h.is in record { least = h.def.min; most = h.def.max; min = t.min; max = t.max }

pub component_sized : (b : List ℕ) (e at : ℕ) (d : ComponentDef) → Is component_c b e at d → Sized b e at
component_sized b e at d h = let t = is_component b e at d h in record { least = d.min; most = d.max; min = t.min; max = t.max }

pub element_found : (b : List ℕ) (e e' at : ℕ) (v : Option ElementDef) → e' ≡ e → StandsAt element_c b e at v → ElementAt b e' at
element_found b e e' at v i s = record { def = s.value; is = rw i s.is }

-- ---- the fields of an element that stands at a place, by the places that were read on the way

module _ (b : List ℕ) (e at kind min : ℕ) (i : kind ≡ skip kind_c b at e) (j : min ≡ skip (opt_c num_c) b kind e) where
  pub sized_max : (z : Sized b e at) → Is (opt_c num_c) b e min z.most
  sized_max z = rw (j, i) z.max

  pub element_max_at : (d : ElementDef) → Is element_c b e at d → Is (opt_c num_c) b e min d.max
  element_max_at d h = rw (j, i) (is_element b e at d h).max

  pub component_max_at : (d : ComponentDef) → Is component_c b e at d → Is (opt_c num_c) b e min d.max
  component_max_at d h = rw (j, i) (is_component b e at d h).max

-- where an element's components stand
pub components_at : (b : List ℕ) (e at p : ℕ) → p ≡ element_components b e at → (d : ElementDef) → Is element_c b e at d → Is (num_map_c component_c) b e p d.components
components_at b e at p i d h = rw i (is_element b e at d h).components
