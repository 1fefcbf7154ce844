-- How many bytes a segment of parts has at most: its identifier, a separator for each element, for each filled part its text and the number of
-- its component, the terminator and a line feed.
use Prim.Native.Nat.{ℕ, zero, suc, ◌+◌, ◌≤◌, ◌<◌}
use mathlib.Core.Path.{◌≡◌, refl}
use mathlib.Core.Bool.{Bool, true, false}
use mathlib.Core.List.{List, [], ◌∷◌, ◌++◌}
use native.Mathlib.Omega.{arith}
use lib.ListN.{length, length-append}
use lib.Dec.{eqb}
use borrow.Author.Tests.{eqb-true, ne_eqb}
use Rattle.segment.specs.declared.Separators.{Separators}
use Rattle.segment.specs.Joining.{behind, component_bytes, segment_bytes, line_feed}
use Rattle.segment.specs.Parts.{Part, pick, is_empty, component_of, highest, last_element, last_component, here, after, all_plain, first_text, component_text, texts, element_text, elements_from, elements_of, joined, not_behind, insert, sorted}
use Rattle.nest.specs.Lists.{sum}

-- a filled part: its text, and a component separator for each component up to its own
abbrev pub charge : List ℕ → ℕ → ℕ
charge [] c = 0
charge (x ∷ xs) c = suc (length xs) + c

abbrev pub cost : Part → ℕ
cost x = charge x.text (component_of x)

charge_text : (t : List ℕ) (c : ℕ) → length t ≤ charge t c
charge_text [] c = omega arith
charge_text (x ∷ xs) c = omega arith

charge_both : (t : List ℕ) (c : ℕ) → pick (is_empty t) 0 c + length t ≤ charge t c
charge_both [] c = omega arith
charge_both (x ∷ xs) c = omega arith

-- ---- components

abbrev long : List (List ℕ) → ℕ
long = sum (λ t. length t)

-- the texts from a place behind the first part's on
module _ (x : Part) (xs : List Part) where
  texts_behind : (n p : ℕ) → component_of x < p → long (texts (component_text (x ∷ xs)) n p) ≤ long (texts (component_text xs) n p)
  unfolding texts component_text
  texts_behind zero p h = omega arith
  texts_behind (suc n) p h = rw (ne_eqb (component_of x) p (λ e. omega (arith, e))) (omega (arith, texts_behind n (p + 1) (omega arith)))

  texts_one : (n p : ℕ) → long (texts (component_text (x ∷ xs)) n p) ≤ length x.text + long (texts (component_text xs) n p)
  unfolding texts component_text
  texts_one zero p = omega arith
  texts_one (suc n) p = go (eqb (component_of x) p) refl (texts_one n (p + 1))
    where
      go : (t : Bool) → eqb (component_of x) p ≡ t → long (texts (component_text (x ∷ xs)) n (p + 1)) ≤ length x.text + long (texts (component_text xs) n (p + 1))
          → length (pick t x.text (component_text xs p)) + long (texts (component_text (x ∷ xs)) n (p + 1)) ≤ length x.text + (length (component_text xs p) + long (texts (component_text xs) n (p + 1)))
      go true e more = let q : component_of x ≡ p = eqb-true (component_of x) p e in omega (arith, texts_behind n (p + 1) (omega arith))
      go false e more = omega (arith, more)

texts_none : (n p : ℕ) → long (texts (component_text []) n p) ≤ 0
unfolding texts component_text
texts_none zero p = omega arith
texts_none (suc n) p = omega (arith, texts_none n (p + 1))

-- each part's text stands at most once, and the last component is one of theirs
texts_all : (n p : ℕ) (xs : List Part) → last_component xs + long (texts (component_text xs) n p) ≤ sum cost xs
unfolding highest
texts_all n p [] = omega (arith, texts_none n p)
texts_all n p (x ∷ xs) = omega (arith, texts_one x xs n p, texts_all n p xs, charge_both x.text (component_of x))

texts_count : (f : ℕ → List ℕ) (n p : ℕ) → length (texts f n p) ≡ n
unfolding texts
texts_count f zero p = refl
texts_count f (suc n) p = omega (arith, texts_count f n (p + 1))

behind_length : (b : ℕ) (ts : List (List ℕ)) → length (behind b ts) ≡ length ts + long ts
unfolding behind
behind_length b [] = refl
behind_length b (t ∷ ts) = omega (arith, length-append t (behind b ts), behind_length b ts)

component_length : (s : Separators) (ts : List (List ℕ)) → length (component_bytes s ts) ≤ length ts + long ts
unfolding component_bytes
component_length s [] = omega arith
component_length s (t ∷ ts) = omega (arith, length-append t (behind s.component ts), behind_length s.component ts)

-- ---- elements

first_within : (xs : List Part) → length (first_text xs) ≤ sum cost xs
unfolding first_text
first_within [] = omega arith
first_within (x ∷ xs) = omega (arith, charge_text x.text (component_of x))

element_within : (s : Separators) (xs : List Part) → length (element_text s xs) ≤ sum cost xs
unfolding element_text
element_within s xs = go (all_plain xs)
  where
    ts : List (List ℕ)
    ts = texts (component_text xs) (last_component xs) 1

    go : (t : Bool) → length (pick t (first_text xs) (component_bytes s ts)) ≤ sum cost xs
    go true = first_within xs
    go false = omega (arith, component_length s ts, texts_count (component_text xs) (last_component xs) 1, texts_all (last_component xs) 1 xs)

apart : (p : ℕ) (xs : List Part) → sum cost (here p xs) + sum cost (after p xs) ≡ sum cost xs
unfolding here after
apart p [] = refl
apart p (x ∷ xs) = go (eqb x.element p) (apart p xs)
  where
    go : (t : Bool) → sum cost (here p xs) + sum cost (after p xs) ≡ sum cost xs → sum cost (pick t (x ∷ here p xs) []) + sum cost (pick t (after p xs) (x ∷ xs)) ≡ sum cost (x ∷ xs)
    go true more = omega (arith, more)
    go false more = omega arith

elements_within : (s : Separators) (n p : ℕ) (rest : List Part) → length (elements_from s n p rest) + long (elements_from s n p rest) ≤ n + sum cost rest
unfolding elements_from
elements_within s zero p rest = omega arith
elements_within s (suc n) p rest = omega (arith, elements_within s n (p + 1) (after p rest), element_within s (here p rest), apart p rest)

feed_short : (b : Bool) → length (line_feed b) ≤ 1
unfolding line_feed
feed_short true = omega arith
feed_short false = omega arith

pub joined_within : (s : Separators) (id : List ℕ) (parts : List Part) → length (joined s id parts) ≤ length id + last_element parts + sum cost parts + 2
unfolding joined segment_bytes elements_of
joined_within s id parts =
    let es : List (List ℕ) = elements_from s (last_element parts) 1 parts in
    let h = behind_length s.element es in
    let k = elements_within s (last_element parts) 1 parts in
    let f = feed_short s.line_break in
    simp length-append (omega arith)

-- ---- sorting

insert_cost : (x : Part) (ys : List Part) → sum cost (insert x ys) ≡ cost x + sum cost ys
unfolding insert
insert_cost x [] = refl
insert_cost x (y ∷ ys) = go (not_behind x y) (insert_cost x ys)
  where
    go : (t : Bool) → sum cost (insert x ys) ≡ cost x + sum cost ys → sum cost (pick t (x ∷ y ∷ ys) (y ∷ insert x ys)) ≡ cost x + sum cost (y ∷ ys)
    go true more = refl
    go false more = omega (arith, more)

pub sorted_cost : (xs : List Part) → sum cost (sorted xs) ≡ sum cost xs
unfolding sorted
sorted_cost [] = refl
sorted_cost (x ∷ xs) = omega (arith, insert_cost x (sorted xs), sorted_cost xs)

-- ---- lists put together

pub highest_append : (f : Part → ℕ) (n : ℕ) (xs ys : List Part) → highest f xs ≤ n → highest f ys ≤ n → highest f (xs ++ ys) ≤ n
unfolding highest
highest_append f n [] ys h k = k
highest_append f n (x ∷ xs) ys h k = omega (arith, highest_append f n xs ys (omega arith) k)
