-- Parts whose places differ, each element plain or with components: each is read at its own place.
use Prim.Native.Nat.{ℕ, ◌≤◌}
use mathlib.Core.Path.{◌≡◌, refl, sym, ap, ◌∙◌}
use mathlib.Core.Logic.{◌≢◌, ◌⊎◌, inl, inr}
use mathlib.Core.Bool.{Bool, true, false}
use mathlib.Core.List.{List, [], ◌∷◌}
use native.Mathlib.Omega.{arith}
use Rattle.std.specs.Prelude.{Option, None, Some}
use Rattle.std.proofs.lemmas.Option.{none-some}
use lib.Dec.{eqb}
use borrow.Author.Tests.{eq-eqb, eqb-true, eqb-false}
use Rattle.format.specs.Job.{Job}
use Rattle.segment.specs.declared.Separators.{Separators}
use Rattle.segment.specs.Grammar.{Segment}
use Rattle.segment.specs.Parts.{Part, pick, rank, sorted}
use Rattle.segment.specs.Places.{Match}
use Rattle.segment.specs.ReadParts.{Due, is_at, text_of, PlainAt, ComposedAt, RisesFrom, Free, ReadAs}
use Rattle.segment.proofs.Sorted.{sorted_all, sorted_text}
use Rattle.segment.proofs.Rows.{rank_same}
use Rattle.nest.specs.Lists.{All}
use Rattle.nest.proofs.Alls.{all_weaker}
use Rattle.emit.specs.Fold.{separators_of}
use Rattle.complete.specs.Complete.{IfThere, Pairs, Each2, Clear}
use Rattle.lossless.specs.NothingLost.{read_at, ReadExactly}
use Rattle.lossless.proofs.Words.{In, all_in, in_all, all_zip}
use Rattle.lossless.proofs.Marks.{clear_plain}

-- two parts stand at different places
abbrev pub NotAt : Part → Part → Type 0
NotAt x y = x.element ≡ y.element → x.component ≢ y.component

-- an element with one plain part has plain parts only
abbrev pub SameKind : Part → Part → Type 0
SameKind x y = x.element ≡ y.element → x.component ≡ None → y.component ≡ None

abbrev pub Starts : Part → Type 0
Starts y = (1 ≤ y.element) × IfThere (λ c. 1 ≤ c) y.component

abbrev pub OwnText : List Part → List Part → Type 0
OwnText xs = All (λ y. text_of xs y.element y.component ≡ y.text)

-- ---- each part's text is the one planned for its place

not_at : (x y : Part) → NotAt x y → is_at y.element y.component x ≡ false
not_at x y n = go (eqb x.element y.element) refl (eqb (rank x.component) (rank y.component)) refl
  where
    go : (a : Bool) → eqb x.element y.element ≡ a → (b : Bool) → eqb (rank x.component) (rank y.component) ≡ b → pick a b false ≡ false
    go true e true q = absurd (n (eqb-true _ _ e) (rank_same _ _ (eqb-true _ _ q)))
    go true e false q = refl
    go false e b q = refl

self_at : (y : Part) → is_at y.element y.component y ≡ true
self_at y = rw (eq-eqb y.element y.element refl) (eq-eqb (rank y.component) (rank y.component) refl)

pub own_text : (xs : List Part) → Pairs NotAt xs → OwnText xs xs
unfolding text_of
own_text [] h = tt
own_text (x ∷ xs) h = (
  ap (λ b. pick b x.text (text_of xs x.element x.component)) (self_at x),
  all_zip (NotAt x) (λ y. text_of xs y.element y.component ≡ y.text) _ xs
      (λ y n e. ap (λ b. pick b x.text (text_of xs y.element y.component)) (not_at x y n) ∙ e) h.0 (own_text xs h.1),
)

pub own_sorted : (xs : List Part) → OwnText xs xs → OwnText (sorted xs) (sorted xs)
own_sorted xs h = sorted_all _ xs (all_weaker _ _ xs (λ y e. sorted_text y.element y.component xs ∙ e) h)

-- ---- an element is plain or has components

pub kinds : (xs : List Part) → Each2 SameKind xs → (p : ℕ) → PlainAt p xs ⊎ ComposedAt p xs
kinds xs h p = go (scan xs)
  where
    Plainly : List Part → Type 0
    Plainly ys = (x : Part) × (In x ys × ((x.element ≡ p) × (x.component ≡ None)))

    first : (y : Part) (ys : List Part) (b : Bool) → eqb y.element p ≡ b → (o : Option ℕ) → y.component ≡ o → Plainly ys ⊎ ComposedAt p ys → Plainly (y ∷ ys) ⊎ ComposedAt p (y ∷ ys)
    first y ys true e None q r = inl (y, (inl refl, (eqb-true _ _ e, q)))
    first y ys true e (Some c) q (inl w) = inl (w.0, (inr w.1.0, w.1.1))
    first y ys true e (Some c) q (inr r) = inr (λ z k. none-some c (sym k ∙ q), r)
    first y ys false e o q (inl w) = inl (w.0, (inr w.1.0, w.1.1))
    first y ys false e o q (inr r) = inr (λ z k. eqb-false _ _ e z, r)

    scan : (ys : List Part) → Plainly ys ⊎ ComposedAt p ys
    scan [] = inr tt
    scan (y ∷ ys) = first y ys (eqb y.element p) refl y.component refl (scan ys)

    go : Plainly xs ⊎ ComposedAt p xs → PlainAt p xs ⊎ ComposedAt p xs
    go (inl w) =
        let x = w.0 in
        inl (all_weaker (SameKind x) _ xs (λ y k e. k (w.1.1.0 ∙ sym e) w.1.1.1) (all_in (λ z. All (SameKind z) xs) xs h x w.1.0))
    go (inr r) = inr r

pub kinds_sorted : (xs : List Part) → ((p : ℕ) → PlainAt p xs ⊎ ComposedAt p xs) → (p : ℕ) → PlainAt p (sorted xs) ⊎ ComposedAt p (sorted xs)
kinds_sorted xs h p = go (h p)
  where
    go : PlainAt p xs ⊎ ComposedAt p xs → PlainAt p (sorted xs) ⊎ ComposedAt p (sorted xs)
    go (inl a) = inl (sorted_all _ xs a)
    go (inr a) = inr (sorted_all _ xs a)

-- ---- a due segment that is read in full

pub record Fine (s : Separators) (d : Due) : Type 0 where
  pub free : Free s d
  pub one_kind : (p : ℕ) → PlainAt p d.parts ⊎ ComposedAt p d.parts
  pub own : OwnText d.parts d.parts
  pub starts : All Starts d.parts

-- no text holds a separator
pub clear_free : (j : Job) (id : List ℕ) (parts : List Part) → (id ≢ []) × Clear j id → RisesFrom 1 parts → All (λ (y : Part). Clear j y.text) parts
    → Free (separators_of j) (record { id = id; parts = parts })
clear_free j id parts n r c = record {
  named = n.0;
  id_plain = clear_plain j id n.1;
  rises = r;
  plain = all_weaker _ _ parts (λ y k. clear_plain j y.text k) c;
  whole = all_weaker _ _ parts (λ y k z. k.no_component) c;
}

module _ (s : Separators) (d : Due) (f : Fine s d) (x : Segment) (r : ReadAs s d x) where
  read_part : (y : Part) → In y d.parts → read_at s x y.element y.component ≡ text_of d.parts y.element y.component
  read_part y i = go y.component refl (f.one_kind y.element) (all_in Starts d.parts f.starts y i)
    where
      go : (o : Option ℕ) → y.component ≡ o → PlainAt y.element d.parts ⊎ ComposedAt y.element d.parts → (1 ≤ y.element) × IfThere (λ c. 1 ≤ c) y.component
          → read_at s x y.element o ≡ text_of d.parts y.element o
      go None e (inl a) q = r.plain_at y.element q.0 a
      go None e (inr a) q = absurd (all_in _ d.parts a y i refl e)
      go (Some c) e (inl a) q = absurd (none-some c (sym (all_in _ d.parts a y i refl) ∙ e))
      go (Some c) e (inr a) q = r.component_at y.element q.0 a c (rw e at q.1)

  read_exactly : ReadExactly s d x
  read_exactly = record { planned = r; one_kind = f.one_kind; each_part = in_all _ d.parts (λ y i. read_part y i ∙ all_in _ d.parts f.own y i) }

pub match_exactly : (s : Separators) (ds : List Due) → All (Fine s) ds → (xs : List Segment) → Match (ReadAs s) ds xs → Match (ReadExactly s) ds xs
match_exactly s [] f [] m = tt
match_exactly s [] f (x ∷ xs) m = m
match_exactly s (d ∷ ds) f [] m = m
match_exactly s (d ∷ ds) f (x ∷ xs) m = (read_exactly s d f.0 x m.0, match_exactly s ds f.1 xs m.1)
