-- What stands at the places of a segment that was written from texts.
use Prim.Native.Nat.{ℕ, zero, suc, ◌≤◌, ◌<◌}
use mathlib.Core.Path.{◌≡◌, refl, sym, ap, ◌∙◌, subst}
use mathlib.Core.Bool.{Bool, true, false}
use mathlib.Core.Logic.{◌≢◌}
use mathlib.Core.List.{List, [], ◌∷◌, ◌++◌, map}
use native.Mathlib.Omega.{arith}
use borrow.Author.Tests.{leb-true, leb-false}
use lib.Dec.{leb}
use lib.ListN.{length, get_or, replicate, get_or-eq_default}
use Rattle.segment.specs.declared.Separators.{Separators}
use Rattle.segment.specs.Joining.{component_bytes, kept_on, trimmed}
use Rattle.segment.specs.Grammar.{Segment, All, Without, Plain, Apart, Grammatical, Reads, document_bytes}
use Rattle.segment.specs.Reading.{Parts, cut}
use Rattle.segment.specs.Places.{text_at, place, components_of, component, Match}
use Rattle.segment.proofs.Places.{elements_at, Planned, written, Clear, AsPlanned}
use Rattle.segment.proofs.Cuts.{all_append, all_map, behind_without, cut_joined}
use Rattle.segment.proofs.OneReading.{written_reads, written_once}

-- ---- trailing empty texts

kept_on_lem : (text : List ℕ) (texts : List (List ℕ)) (i : ℕ) → get_or (kept_on text texts) i [] ≡ get_or (text ∷ texts) i []
kept_on_lem [] [] zero = refl
kept_on_lem [] [] (suc i) = refl
kept_on_lem [] (t ∷ texts) i = refl
kept_on_lem (x ∷ text) texts i = refl

-- dropping trailing empty texts changes no place
trimmed_get_d : (texts : List (List ℕ)) (i : ℕ) → get_or (trimmed texts) i [] ≡ get_or texts i []
unfolding trimmed
trimmed_get_d [] i = refl
trimmed_get_d (t ∷ texts) zero = kept_on_lem t (trimmed texts) zero
trimmed_get_d (t ∷ texts) (suc i) = kept_on_lem t (trimmed texts) (suc i) ∙ trimmed_get_d texts i

pub trimmed_at : (texts : List (List ℕ)) (p : ℕ) → text_at (trimmed texts) p ≡ text_at texts p
unfolding text_at
trimmed_at texts zero = refl
trimmed_at texts (suc i) = trimmed_get_d texts i

pub place_trimmed : (id : List ℕ) (elements : List (List ℕ)) (p : ℕ)
    → place (record { id = id; elements = trimmed elements }) p ≡ place (record { id = id; elements = elements }) p
unfolding place
place_trimmed id elements p = trimmed_at elements p

kept_all : (P : List ℕ → Type 0) (text : List ℕ) (texts : List (List ℕ)) → P text → All P texts → All P (kept_on text texts)
kept_all P [] [] h k = tt
kept_all P [] (t ∷ texts) h k = (h, k)
kept_all P (x ∷ text) texts h k = (h, k)

pub trimmed_all : (P : List ℕ → Type 0) (texts : List (List ℕ)) → All P texts → All P (trimmed texts)
unfolding trimmed
trimmed_all P [] h = tt
trimmed_all P (t ∷ texts) h = kept_all P t (trimmed texts) h.0 (trimmed_all P texts h.1)

-- nor do empty texts put at the end
padded_get_d : (texts : List (List ℕ)) (n i : ℕ) → get_or (texts ++ replicate n []) i [] ≡ get_or texts i []
padded_get_d [] zero i = refl
padded_get_d [] (suc n) zero = refl
padded_get_d [] (suc n) (suc i) = padded_get_d [] n i
padded_get_d (t ∷ texts) n zero = refl
padded_get_d (t ∷ texts) n (suc i) = padded_get_d texts n i

pub padded_at : (texts : List (List ℕ)) (n p : ℕ) → text_at (texts ++ replicate n []) p ≡ text_at texts p
unfolding text_at
padded_at texts n zero = refl
padded_at texts n (suc i) = padded_get_d texts n i

pub place_padded : (id : List ℕ) (elements : List (List ℕ)) (n p : ℕ)
    → place (record { id = id; elements = elements ++ replicate n [] }) p ≡ place (record { id = id; elements = elements }) p
unfolding place
place_padded id elements n p = padded_at elements n p

-- ---- the texts of places 1 to n

elements_get_d : (f : ℕ → List ℕ) (n i : ℕ) → i < n → get_or (elements_at f n) i [] ≡ f (suc i)
unfolding elements_at
elements_get_d f zero i h = absurd (omega arith)
elements_get_d f (suc n) zero h = refl
elements_get_d f (suc n) (suc i) h = elements_get_d (λ p. f (suc p)) n i (omega arith)

pub length_elements : (f : ℕ → List ℕ) (n : ℕ) → length (elements_at f n) ≡ n
unfolding elements_at
length_elements f zero = refl
length_elements f (suc n) = ap suc (length_elements (λ p. f (suc p)) n)

-- a place up to the last has its text
pub elements_at_lem : (f : ℕ → List ℕ) (n p : ℕ) → 0 < p → p ≤ n → text_at (elements_at f n) p ≡ f p
unfolding text_at
elements_at_lem f n zero h k = absurd (omega arith)
elements_at_lem f n (suc i) h k = elements_get_d f n i (omega arith)

-- a place past the last is empty
pub elements_past : (f : ℕ → List ℕ) (n p : ℕ) → n < p → text_at (elements_at f n) p ≡ []
unfolding text_at
elements_past f n zero k = refl
elements_past f n (suc i) k = get_or-eq_default (elements_at f n) [] (omega (arith, length_elements f n))

-- where every text past the last is empty, every place has its text
pub elements_all_at : (f : ℕ → List ℕ) (n : ℕ) → ((p : ℕ) → n < p → f p ≡ []) → (p : ℕ) → 0 < p → text_at (elements_at f n) p ≡ f p
elements_all_at f n e p h = go (leb p n) refl
  where
    go : (b : Bool) → leb p n ≡ b → text_at (elements_at f n) p ≡ f p
    go true q = elements_at_lem f n p h (leb-true p n q)
    go false q = elements_past f n p (leb-false p n q) ∙ sym (e p (leb-false p n q))

pub elements_each : (P : List ℕ → Type 0) (f : ℕ → List ℕ) (n : ℕ) → ((p : ℕ) → 0 < p → p ≤ n → P (f p)) → All P (elements_at f n)
unfolding elements_at
elements_each P f zero h = tt
elements_each P f (suc n) h = (h 1 (omega arith) (omega arith), elements_each P (λ p. f (suc p)) n (λ p a b. h (suc p) (omega arith) (omega arith)))

-- one place more
pub elements_more : (f : ℕ → List ℕ) (n : ℕ) → elements_at f (suc n) ≡ elements_at f n ++ (f (suc n) ∷ [])
unfolding elements_at
elements_more f zero = refl
elements_more f (suc n) = ap (λ r. f 1 ∷ r) (elements_more (λ p. f (suc p)) n)

-- the same texts up to the last place make the same elements
pub elements_same : (f g : ℕ → List ℕ) (n : ℕ) → ((p : ℕ) → 0 < p → p ≤ n → f p ≡ g p) → elements_at f n ≡ elements_at g n
unfolding elements_at
elements_same f g zero h = refl
elements_same f g (suc n) h =
    let a : f 1 ≡ g 1 = h 1 (omega arith) (omega arith) in
    let b = elements_same (λ p. f (suc p)) (λ p. g (suc p)) n (λ p k l. h (suc p) (omega arith) (omega arith)) in
    cc

-- ---- components

nothing_at : (p : ℕ) → text_at [] p ≡ []
unfolding text_at
nothing_at zero = refl
nothing_at (suc i) = refl

-- joined components read as the components, empty past the end
pub component_at : (s : Separators) (cs : List (List ℕ)) → All (Without s.component) cs → (c : ℕ) → text_at (components_of s (component_bytes s cs)) c ≡ text_at cs c
unfolding text_at components_of component_bytes cut
component_at s [] h zero = refl
component_at s [] h (suc zero) = refl
component_at s [] h (suc (suc i)) = refl
component_at s (t ∷ cs) h c = ap (λ (p : Parts). text_at (p.first ∷ p.more) c) (cut_joined s.component t cs h.0 h.1)

-- also where trailing empty components were dropped
pub component_trimmed_at : (s : Separators) (cs : List (List ℕ)) → All (Without s.component) cs → (c : ℕ)
    → text_at (components_of s (component_bytes s (trimmed cs))) c ≡ text_at cs c
component_trimmed_at s cs h c = component_at s (trimmed cs) (trimmed_all _ cs h) c ∙ trimmed_at cs c

-- an empty element is empty at every component
pub component_empty : (s : Separators) (x : Segment) (p c : ℕ) → place x p ≡ [] → component s x p c ≡ []
unfolding component component_bytes
component_empty s x p c e = ap (λ t. text_at (components_of s t) c) e ∙ component_at s [] tt c ∙ nothing_at c

-- joined components are free of what no component has
pub components_plain : (s : Separators) → Apart s → (cs : List (List ℕ)) → All (Plain s) cs → Plain s (component_bytes s cs)
unfolding component_bytes
components_plain s a [] h = record { no_element = tt; no_segment = tt }
components_plain s a (t ∷ cs) h =
    record {
      no_element = all_append _ t _ h.0.no_element (behind_without _ _ (λ e. a.element_component (sym e)) cs (all_map _ _ (λ u p. p.no_element) cs h.1));
      no_segment = all_append _ t _ h.0.no_segment (behind_without _ _ a.component_segment cs (all_map _ _ (λ u p. p.no_segment) cs h.1));
    }

-- ---- planned segments, written and read

pub written_grammatical : (s : Separators) (p : Planned) → Clear s p → Grammatical s (written p)
unfolding written
written_grammatical s p k =
    record { named = k.named; id_plain = k.id_plain; elements_plain = elements_each (Plain s) p.text p.last k.texts_plain }

pub all_written : (s : Separators) (ps : List Planned) → All (Clear s) ps → All (Grammatical s) (map written ps)
all_written s [] k = tt
all_written s (p ∷ ps) k = (written_grammatical s p k.0, all_written s ps k.1)

-- what is written of a plan has the plan's texts at its places
pub as_planned : (s : Separators) (p : Planned) → AsPlanned s p (written p)
unfolding written place component
as_planned s p =
    record {
      id = refl;
      element_at = elements_at_lem p.text p.last;
      past = elements_past p.text p.last;
      component_at = λ i h k cs w e c.
          ap (λ t. text_at (components_of s t) c) (elements_at_lem p.text p.last i h k ∙ e) ∙ component_at s cs w c;
      component_past = λ i k c. component_empty s (written p) i c (elements_past p.text p.last i k);
    }

-- every place has its text, where the texts past the last are empty
pub planned_everywhere : {s : Separators} {p : Planned} {x : Segment} → AsPlanned s p x → ((i : ℕ) → p.last < i → p.text i ≡ [])
    → (i : ℕ) → 0 < i → place x i ≡ p.text i
planned_everywhere {s} {p} {x} a e i h = go (leb i p.last) refl
  where
    go : (b : Bool) → leb i p.last ≡ b → place x i ≡ p.text i
    go true q = a.element_at i h (leb-true i p.last q)
    go false q = a.past i (leb-false i p.last q) ∙ sym (e i (leb-false i p.last q))

-- an element of the components g 1 to g m, trailing empty ones dropped
module _ {s : Separators} {p : Planned} {x : Segment} (a : AsPlanned s p x) (i : ℕ) (h : 0 < i) (k : i ≤ p.last) (g : ℕ → List ℕ) (m : ℕ)
    (free : (c : ℕ) → 0 < c → c ≤ m → Without s.component (g c)) (made : p.text i ≡ component_bytes s (trimmed (elements_at g m))) where
  components_read : (c : ℕ) → component s x i c ≡ text_at (elements_at g m) c
  components_read c =
      a.component_at i h k (trimmed (elements_at g m)) (trimmed_all _ (elements_at g m) (elements_each (Without s.component) g m free)) made c
      ∙ trimmed_at (elements_at g m) c

  pub planned_component : (c : ℕ) → 0 < c → c ≤ m → component s x i c ≡ g c
  planned_component c l n = components_read c ∙ elements_at_lem g m c l n

  pub planned_no_component : (c : ℕ) → m < c → component s x i c ≡ []
  planned_no_component c n = components_read c ∙ elements_past g m c n

-- a document written of plans has one reading, the planned segments, and each has its plan's texts at its places
pub planned_reads : (s : Separators) (ps : List Planned) → All (Clear s) ps → Reads s (document_bytes s (map written ps)) (map written ps)
planned_reads s ps k = written_reads s (map written ps) (all_written s ps k)

pub planned_once_lem : {s : Separators} (ps : List Planned) {xs : List Segment} → s.element ≢ s.segment → All (Clear s) ps
    → Reads s (document_bytes s (map written ps)) xs → xs ≡ map written ps
planned_once_lem {s} ps d k r = written_once d (all_written s ps k) r

planned_match : (s : Separators) (ps : List Planned) → Match (AsPlanned s) ps (map written ps)
planned_match s [] = tt
planned_match s (p ∷ ps) = (as_planned s p, planned_match s ps)

pub planned_places : {s : Separators} (ps : List Planned) {xs : List Segment} → s.element ≢ s.segment → All (Clear s) ps
    → Reads s (document_bytes s (map written ps)) xs → Match (AsPlanned s) ps xs
planned_places {s} ps {xs} d k r = subst (Match (AsPlanned s) ps) (sym (planned_once_lem ps d k r)) (planned_match s ps)
