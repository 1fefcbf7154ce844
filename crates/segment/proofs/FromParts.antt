-- Segments joined of parts whose places rise and whose texts hold no separators read as those texts, each at its place.
use Prim.Native.Nat.{ℕ, zero, suc, ◌+◌, ◌<◌, max}
use mathlib.Core.Path.{◌≡◌, refl, sym, ap, ◌∙◌, subst}
use mathlib.Core.Logic.{◌≢◌}
use mathlib.Core.Bool.{Bool, true, false}
use mathlib.Core.List.{List, [], ◌∷◌, ◌++◌, map, append_assoc}
use native.Mathlib.Omega.{arith}
use native.Mathlib.Nat.{add-zero}
use Rattle.std.specs.Prelude.{Option, None, Some}
use lib.Dec.{eqb, leb, eqb-suc-suc}
use borrow.Author.Tests.{eq-eqb, ne_eqb, eqb-true, eqb-false, leb-true, leb-false}
use Rattle.segment.specs.declared.Separators.{Separators}
use Rattle.segment.specs.Joining.{component_bytes, segment_bytes}
use Rattle.segment.specs.Parts.{Part, pick, is_empty, rank, is_plain, or_one, component_of, highest, last_element, last_component, here, after, all_plain, first_text, component_text, texts, element_text, elements_from, elements_of, joined}
use Rattle.segment.specs.Grammar.{Segment, All, Without, Plain, Apart, Reads, document_bytes}
use Rattle.segment.specs.Reading.{read_document}
use Rattle.segment.specs.Places.{place, component, Match}
use Rattle.segment.proofs.Places.{elements_at, Planned, written, Clear, AsPlanned}
use Rattle.segment.specs.ReadParts.{Due, joined_all, text_of, PlainAt, ComposedAt, RisesFrom, Free, ReadAs}
use Rattle.segment.proofs.Groups.{texts_same}
use Rattle.segment.proofs.Rows.{highest_tail, component_past}
use Rattle.segment.proofs.Cuts.{all_both}
use Rattle.segment.proofs.OneReading.{reads_found}
use Rattle.segment.proofs.AtPlaces.{elements_each, elements_all_at, component_empty, components_plain, planned_reads, planned_once_lem, planned_everywhere, as_planned}

-- ---- the parts at an element

unfoldable pub parts_at : ℕ → List Part → List Part
parts_at p [] = []
parts_at p (x ∷ xs) = pick (eqb x.element p) (x ∷ parts_at p xs) (parts_at p xs)

parts_hit : (p : ℕ) (x : Part) (xs : List Part) → x.element ≡ p → parts_at p (x ∷ xs) ≡ x ∷ parts_at p xs
unfolding parts_at
parts_hit p x xs e = rw (eq-eqb _ _ e)

parts_miss : (p : ℕ) (x : Part) (xs : List Part) → x.element ≢ p → parts_at p (x ∷ xs) ≡ parts_at p xs
unfolding parts_at
parts_miss p x xs d = rw (ne_eqb _ _ d)

parts_below : (p q : ℕ) (xs : List Part) → p < q → RisesFrom q xs → parts_at p xs ≡ []
unfolding parts_at
parts_below p q [] h r = refl
parts_below p q (x ∷ xs) h r = parts_miss p x xs (omega (arith, r.0)) ∙ parts_below p x.element xs (omega (arith, r.0)) r.1

-- where parts rise, those with which a list begins are all there are
here_all : (p : ℕ) (xs : List Part) → RisesFrom p xs → here p xs ≡ parts_at p xs
unfolding here parts_at
here_all p [] r = refl
here_all p (x ∷ xs) r = go (eqb x.element p) refl (here_all p xs)
  where
    go : (b : Bool) → eqb x.element p ≡ b → (RisesFrom p xs → here p xs ≡ parts_at p xs) → pick b (x ∷ here p xs) [] ≡ pick b (x ∷ parts_at p xs) (parts_at p xs)
    go true q ih = ap (λ ys. x ∷ ys) (ih (subst (λ n. RisesFrom n xs) (eqb-true _ _ q) r.1))
    go false q ih = sym (parts_below p x.element xs (omega (arith, r.0, eqb-false x.element p q)) r.1)

after_other : (p q : ℕ) (xs : List Part) → q ≢ p → parts_at q (after p xs) ≡ parts_at q xs
unfolding after
after_other p q [] d = refl
after_other p q (x ∷ xs) d = go (eqb x.element p) refl (after_other p q xs d)
  where
    go : (b : Bool) → eqb x.element p ≡ b → parts_at q (after p xs) ≡ parts_at q xs → parts_at q (pick b (after p xs) (x ∷ xs)) ≡ parts_at q (x ∷ xs)
    go true e ih = ih ∙ sym (parts_miss q x xs (λ h. d (sym h ∙ eqb-true _ _ e)))
    go false e ih = refl

after_rises : (p : ℕ) (xs : List Part) → RisesFrom p xs → RisesFrom (p + 1) (after p xs)
unfolding after
after_rises p [] r = tt
after_rises p (x ∷ xs) r = go (eqb x.element p) refl (after_rises p xs)
  where
    go : (b : Bool) → eqb x.element p ≡ b → (RisesFrom p xs → RisesFrom (p + 1) (after p xs)) → RisesFrom (p + 1) (pick b (after p xs) (x ∷ xs))
    go true q ih = ih (subst (λ n. RisesFrom n xs) (eqb-true _ _ q) r.1)
    go false q ih = (omega (arith, r.0, eqb-false x.element p q), r.1)

parts_all : (P : Part → Type 0) (p : ℕ) (xs : List Part) → All P xs → All P (parts_at p xs)
unfolding parts_at
parts_all P p [] h = tt
parts_all P p (x ∷ xs) h = go (eqb x.element p) (parts_all P p xs h.1)
  where
    go : (b : Bool) → All P (parts_at p xs) → All P (pick b (x ∷ parts_at p xs) (parts_at p xs))
    go true ih = (h.0, ih)
    go false ih = ih

-- ---- the elements, by place

texts_shift : (f g : ℕ → List ℕ) (n p : ℕ) → ((i : ℕ) → f (p + i) ≡ g (suc i)) → texts f n p ≡ elements_at g n
unfolding texts elements_at
texts_shift f g zero p h = refl
texts_shift f g (suc n) p h =
    let a : f p ≡ g 1 = ap f (sym (add-zero p)) ∙ h 0 in
    let move : (i : ℕ) → p + 1 + i ≡ p + suc i = λ i. omega arith in
    let b : texts f n (p + 1) ≡ elements_at (λ i. g (suc i)) n = texts_shift f (λ i. g (suc i)) n (p + 1) (λ i. ap f (move i) ∙ h (suc i)) in
    cc

-- the texts of n places from 1 on
pub texts_elements : (f : ℕ → List ℕ) (n : ℕ) → texts f n 1 ≡ elements_at f n
texts_elements f n = let one : (i : ℕ) → 1 + i ≡ suc i = λ i. omega arith in texts_shift f f n 1 (λ i. ap f (one i))

elements_from_lem : (s : Separators) (n p : ℕ) (xs : List Part) → RisesFrom p xs → elements_from s n p xs ≡ texts (λ q. element_text s (parts_at q xs)) n p
unfolding elements_from texts
elements_from_lem s zero p xs r = refl
elements_from_lem s (suc n) p xs r =
    let a : element_text s (here p xs) ≡ element_text s (parts_at p xs) = ap (element_text s) (here_all p xs r) in
    let b : elements_from s n (p + 1) (after p xs) ≡ texts (λ q. element_text s (parts_at q xs)) n (p + 1) =
    elements_from_lem s n (p + 1) (after p xs) (after_rises p xs r)
    ∙ texts_same _ _ n (p + 1) (λ q k. ap (element_text s) (after_other p q xs (omega arith))) in
    cc

-- the elements are the texts of the parts at each place
pub elements_of_lem : (s : Separators) (xs : List Part) → RisesFrom 1 xs → elements_of s xs ≡ elements_at (λ p. element_text s (parts_at p xs)) (last_element xs)
unfolding elements_of
elements_of_lem s xs r = elements_from_lem s (last_element xs) 1 xs r ∙ texts_elements _ (last_element xs)

-- ---- past the last filled part every text is empty

-- no part has a text
abbrev Unfilled : List Part → Type 0
Unfilled = All (λ x. x.text ≡ [])

highest_here : (f : Part → ℕ) (x : Part) (xs : List Part) → highest f (x ∷ xs) < f x → x.text ≡ []
unfolding highest
highest_here f x xs h = go x.text h
  where
    go : (t : List ℕ) → max (pick (is_empty t) 0 (f x)) (highest f xs) < f x → t ≡ []
    go [] k = refl
    go (y ∷ t) k = absurd (omega arith)

parts_unfilled : (p : ℕ) (xs : List Part) → last_element xs < p → Unfilled (parts_at p xs)
unfolding parts_at
parts_unfilled p [] h = tt
parts_unfilled p (x ∷ xs) h = go (eqb x.element p) refl (parts_unfilled p xs (omega (arith, highest_tail (λ y. y.element) x xs)))
  where
    go : (b : Bool) → eqb x.element p ≡ b → Unfilled (parts_at p xs) → Unfilled (pick b (x ∷ parts_at p xs) (parts_at p xs))
    go true q ih = (highest_here (λ y. y.element) x xs (omega (arith, eqb-true x.element p q)), ih)
    go false q ih = ih

-- no part is filled: the element is empty
highest_unfilled : (f : Part → ℕ) (xs : List Part) → Unfilled xs → highest f xs ≡ 0
unfolding highest
highest_unfilled f [] u = refl
highest_unfilled f (x ∷ xs) u = rw u.0 (omega (arith, highest_unfilled f xs u.1))

first_unfilled : (xs : List Part) → Unfilled xs → first_text xs ≡ []
unfolding first_text
first_unfilled [] u = refl
first_unfilled (x ∷ xs) u = u.0

component_unfilled : (xs : List Part) (c : ℕ) → Unfilled xs → component_text xs c ≡ []
unfolding component_text
component_unfilled [] c u = refl
component_unfilled (x ∷ xs) c u = go (eqb (component_of x) c) (component_unfilled xs c u.1)
  where
    go : (b : Bool) → component_text xs c ≡ [] → pick b x.text (component_text xs c) ≡ []
    go true ih = u.0
    go false ih = ih

-- ---- an element's text

element_plain : (s : Separators) (xs : List Part) → all_plain xs ≡ true → element_text s xs ≡ first_text xs
unfolding element_text
element_plain s xs e = rw e

element_composed : (s : Separators) (xs : List Part) → all_plain xs ≡ false → element_text s xs ≡ component_bytes s (elements_at (component_text xs) (last_component xs))
unfolding element_text
element_composed s xs e = rw e (ap (component_bytes s) (texts_elements (component_text xs) (last_component xs)))

element_unfilled : (s : Separators) (xs : List Part) → Unfilled xs → element_text s xs ≡ []
unfolding component_bytes elements_at
element_unfilled s xs u = go (all_plain xs) refl
  where
    go : (b : Bool) → all_plain xs ≡ b → element_text s xs ≡ []
    go true q = element_plain s xs q ∙ first_unfilled xs u
    go false q = element_composed s xs q ∙ ap (λ n. component_bytes s (elements_at (component_text xs) n)) (highest_unfilled component_of xs u)

-- what holds of every part's text and of the empty one holds of the text that stands
first_so : (P : List ℕ → Type 0) → P [] → (xs : List Part) → All (λ x. P x.text) xs → P (first_text xs)
unfolding first_text
first_so P n [] h = n
first_so P n (x ∷ xs) h = h.0

component_so : (P : List ℕ → Type 0) → P [] → (xs : List Part) → All (λ x. P x.text) xs → (c : ℕ) → P (component_text xs c)
unfolding component_text
component_so P n [] h c = n
component_so P n (x ∷ xs) h c = go (eqb (component_of x) c) (component_so P n xs h.1 c)
  where
    go : (b : Bool) → P (component_text xs c) → P (pick b x.text (component_text xs c))
    go true ih = h.0
    go false ih = ih

nothing_plain : (s : Separators) → Plain s []
nothing_plain s = record { no_element = tt; no_segment = tt }

element_clear : (s : Separators) → Apart s → (xs : List Part) → All (λ x. Plain s x.text) xs → Plain s (element_text s xs)
element_clear s a xs h = go (all_plain xs) refl
  where
    go : (b : Bool) → all_plain xs ≡ b → Plain s (element_text s xs)
    go true q = rw (element_plain s xs q) (first_so (Plain s) (nothing_plain s) xs h)
    go false q =
        rw (element_composed s xs q)
        (components_plain s a (elements_at (component_text xs) (last_component xs))
        (elements_each (Plain s) (component_text xs) (last_component xs) (λ c k l. component_so (Plain s) (nothing_plain s) xs h c)))

-- ---- what is due, as a plan

unfoldable pub plan_of : Separators → Due → Planned
plan_of s d = record { id = d.id; last = last_element d.parts; text = λ p. element_text s (parts_at p d.parts) }

plan_clear : (s : Separators) → Apart s → (d : Due) → Free s d → Clear s (plan_of s d)
unfolding plan_of
plan_clear s a d f =
    record {
      named = f.named;
      id_plain = f.id_plain;
      texts_plain = λ i h k. element_clear s a (parts_at i d.parts) (parts_all _ i d.parts f.plain);
    }

plan_bytes_lem : (s : Separators) (d : Due) → Free s d → joined s d.id d.parts ≡ segment_bytes s (written (plan_of s d)).id (written (plan_of s d)).elements
unfolding joined written plan_of
plan_bytes_lem s d f = ap (segment_bytes s d.id) (elements_of_lem s d.parts f.rises)

module _ (s : Separators) (apart : Apart s) where
  plans_clear : (ds : List Due) → All (Free s) ds → All (Clear s) (map (plan_of s) ds)
  plans_clear [] f = tt
  plans_clear (d ∷ ds) f = (plan_clear s apart d f.0, plans_clear ds f.1)

  plans_bytes : (ds : List Due) → All (Free s) ds → joined_all s ds ≡ document_bytes s (map written (map (plan_of s) ds))
  unfolding joined_all document_bytes
  plans_bytes [] f = refl
  plans_bytes (d ∷ ds) f =
      let a = plan_bytes_lem s d f.0 in
      let b = plans_bytes ds f.1 in
      cc

-- ---- the parts at an element, and the text planned for a place

-- what holds of the parts at p, where it holds of each part whose element is p
parts_so : (P : Part → Type 0) (p : ℕ) (xs : List Part) → All (λ x. x.element ≡ p → P x) xs → All P (parts_at p xs)
unfolding parts_at
parts_so P p [] h = tt
parts_so P p (x ∷ xs) h = go (eqb x.element p) refl (parts_so P p xs h.1)
  where
    go : (b : Bool) → eqb x.element p ≡ b → All P (parts_at p xs) → All P (pick b (x ∷ parts_at p xs) (parts_at p xs))
    go true q ih = (h.0 (eqb-true _ _ q), ih)
    go false q ih = ih

plain_all : (xs : List Part) → All (λ x. x.component ≡ None) xs → all_plain xs ≡ true
unfolding all_plain
plain_all [] h = refl
plain_all (x ∷ xs) h = rw h.0 (plain_all xs h.1)

composed_not : (x : Part) (xs : List Part) → x.component ≢ None → all_plain (x ∷ xs) ≡ false
unfolding all_plain
composed_not x xs d = go x.component refl
  where
    go : (o : Option ℕ) → x.component ≡ o → pick (is_plain o) (all_plain xs) false ≡ false
    go None e = absurd (d e)
    go (Some c) e = refl

text_miss : (p : ℕ) (c : Option ℕ) (x : Part) (xs : List Part) → x.element ≢ p → text_of (x ∷ xs) p c ≡ text_of xs p c
unfolding text_of
text_miss p c x xs d = rw (ne_eqb _ _ d)

text_hit : (p : ℕ) (c : Option ℕ) (x : Part) (xs : List Part) → x.element ≡ p
    → text_of (x ∷ xs) p c ≡ pick (eqb (rank x.component) (rank c)) x.text (text_of xs p c)
unfolding text_of
text_hit p c x xs e = rw (eq-eqb _ _ e)

-- of plain parts the first stands
first_planned : (p : ℕ) (xs : List Part) → PlainAt p xs → first_text (parts_at p xs) ≡ text_of xs p None
unfolding parts_at text_of first_text
first_planned p [] h = refl
first_planned p (x ∷ xs) h = go (eqb x.element p) refl (first_planned p xs h.1)
  where
    go : (b : Bool) → eqb x.element p ≡ b → first_text (parts_at p xs) ≡ text_of xs p None → first_text (parts_at p (x ∷ xs)) ≡ text_of (x ∷ xs) p None
    go true q ih =
        let e : x.element ≡ p = eqb-true _ _ q in
        ap first_text (parts_hit p x xs e) ∙ sym (text_hit p None x xs e ∙ ap (λ o. pick (eqb (rank o) 0) x.text (text_of xs p None)) (h.0 e))
    go false q ih = ap first_text (parts_miss p x xs (eqb-false _ _ q)) ∙ ih ∙ sym (text_miss p None x xs (eqb-false _ _ q))

same_component : (x : Part) (c : ℕ) → x.component ≢ None → (a b : List ℕ) → a ≡ b
    → pick (eqb (component_of x) c) x.text a ≡ pick (eqb (rank x.component) (suc c)) x.text b
same_component x c d a b e = go x.component refl
  where
    go : (o : Option ℕ) → x.component ≡ o → pick (eqb (or_one o) c) x.text a ≡ pick (eqb (rank o) (suc c)) x.text b
    go None q = absurd (d q)
    go (Some i) q = rw (eqb-suc-suc i c) (ap (pick (eqb i c) x.text) e)

-- of parts at one component the first stands
component_planned : (p c : ℕ) (xs : List Part) → ComposedAt p xs → component_text (parts_at p xs) c ≡ text_of xs p (Some c)
unfolding parts_at text_of component_text
component_planned p c [] h = refl
component_planned p c (x ∷ xs) h = go (eqb x.element p) refl (component_planned p c xs h.1)
  where
    go : (b : Bool) → eqb x.element p ≡ b → component_text (parts_at p xs) c ≡ text_of xs p (Some c) → component_text (parts_at p (x ∷ xs)) c ≡ text_of (x ∷ xs) p (Some c)
    go true q ih =
        let e : x.element ≡ p = eqb-true _ _ q in
        ap (λ ys. component_text ys c) (parts_hit p x xs e)
        ∙ same_component x c (h.0 e) (component_text (parts_at p xs) c) (text_of xs p (Some c)) ih
        ∙ sym (text_hit p (Some c) x xs e)
    go false q ih = ap (λ ys. component_text ys c) (parts_miss p x xs (eqb-false _ _ q)) ∙ ih ∙ sym (text_miss p (Some c) x xs (eqb-false _ _ q))

-- ---- what is read of what is due

-- a segment that reads as planned has each part's text at its place
module _ (s : Separators) (d : Due) (f : Free s d) (x : Segment) (a : AsPlanned s (plan_of s d) x) where
  text_at_lem : (p : ℕ) → 0 < p → place x p ≡ element_text s (parts_at p d.parts)
  unfolding plan_of
  text_at_lem p h = planned_everywhere a (λ i k. element_unfilled s (parts_at i d.parts) (parts_unfilled i d.parts k)) p h

  -- the parts at an element with components hold no component separator
  whole_at : (p : ℕ) → ComposedAt p d.parts → All (λ y. Without s.component y.text) (parts_at p d.parts)
  whole_at p k = parts_so _ p d.parts (all_both _ _ _ (λ y m w e. w (m e)) d.parts k f.whole)

  composed_at : (p : ℕ) → 0 < p → ComposedAt p d.parts → (c : ℕ) → 0 < c → component s x p c ≡ component_text (parts_at p d.parts) c
  unfolding plan_of
  composed_at p h k c n = go (parts_at p d.parts) refl (parts_so (λ y. y.component ≢ None) p d.parts k) (whole_at p k)
    where
      some_part : (xs : List Part) → parts_at p d.parts ≡ xs → all_plain xs ≡ false → All (λ y. Without s.component y.text) xs
          → (b : Bool) → leb p (last_element d.parts) ≡ b → component s x p c ≡ component_text xs c
      some_part xs e q w true l =
          a.component_at p h (leb-true _ _ l) (elements_at (component_text xs) (last_component xs))
          (elements_each (Without s.component) (component_text xs) (last_component xs) (λ i m o. component_so (Without s.component) tt xs w i))
          (ap (element_text s) e ∙ element_composed s xs q) c
          ∙ elements_all_at (component_text xs) (last_component xs) (component_past xs) c n
      some_part xs e q w false l =
          component_empty s x p c (a.past p (leb-false _ _ l))
          ∙ sym (component_unfilled xs c (subst Unfilled e (parts_unfilled p d.parts (leb-false _ _ l))))

      go : (xs : List Part) → parts_at p d.parts ≡ xs → All (λ y. y.component ≢ None) xs → All (λ y. Without s.component y.text) xs
          → component s x p c ≡ component_text xs c
      go [] e m w = component_empty s x p c (text_at_lem p h ∙ ap (element_text s) e ∙ element_unfilled s [] tt) ∙ sym (component_unfilled [] c tt)
      go (y ∷ ys) e m w = some_part (y ∷ ys) e (composed_not y ys m.0) w (leb p (last_element d.parts)) refl

  pub read_as : ReadAs s d x
  unfolding plan_of
  read_as =
      record {
        id = a.id;
        plain_at = λ p h k.
            text_at_lem p h ∙ element_plain s (parts_at p d.parts) (plain_all _ (parts_so (λ y. y.component ≡ None) p d.parts k)) ∙ first_planned p d.parts k;
        component_at = λ p h k c n. composed_at p h k c n ∙ component_planned p c d.parts k;
      }

module _ (s : Separators) (apart : Apart s) (ds : List Due) (f : All (Free s) ds) where
  -- what was joined has a reading
  pub joined_reads : Reads s (joined_all s ds) (map written (map (plan_of s) ds))
  joined_reads = record { bytes = plans_bytes s apart ds f; each = (planned_reads s (map (plan_of s) ds) (plans_clear s apart ds f)).each }

  -- and the segments of its one reading are, in order, those that are due, each part's text at its place
  pub joined_read_as : (xs : List Segment) → Reads s (joined_all s ds) xs → Match (ReadAs s) ds xs
  joined_read_as xs r = subst (Match (ReadAs s) ds) (sym once) (matched ds f)
    where
      once : xs ≡ map written (map (plan_of s) ds)
      once =
          planned_once_lem (map (plan_of s) ds) apart.element_segment (plans_clear s apart ds f)
          (subst (λ doc. Reads s doc xs) (plans_bytes s apart ds f) r)

      matched : (es : List Due) → All (Free s) es → Match (ReadAs s) es (map written (map (plan_of s) es))
      matched [] g = tt
      matched (e ∷ es) g = (read_as s e g.0 (written (plan_of s e)) (as_planned s (plan_of s e)), matched es g.1)

  pub joined_found : read_document s (joined_all s ds) ≡ Some (map written (map (plan_of s) ds))
  joined_found = reads_found apart.element_segment joined_reads

pub joined_append : (s : Separators) (ds es : List Due) → joined_all s (ds ++ es) ≡ joined_all s ds ++ joined_all s es
unfolding joined_all
joined_append s [] es = refl
joined_append s (d ∷ ds) es =
    ap (λ r. joined s d.id d.parts ++ r) (joined_append s ds es) ∙ sym (append_assoc (joined s d.id d.parts) (joined_all s ds) (joined_all s es))
