-- Laws of texts without a byte, and of cutting: joining parts and cutting give each other back.
use Prim.Native.Nat.{ℕ, zero, suc, ◌<◌}
use mathlib.Core.Path.{◌≡◌, refl, sym, ap, ◌∙◌, subst}
use mathlib.Core.Logic.{◌≢◌}
use mathlib.Core.Bool.{Bool, true, false}
use mathlib.Core.List.{List, [], ◌∷◌, ◌++◌, append-nil}
use native.Mathlib.Omega.{arith}
use Rattle.std.specs.Prelude.{Option, None, Some}
use Rattle.std.proofs.lemmas.Option.{same_Some, none-some}
use lib.ListN.{length, get_or}
use lib.Dec.{eqb}
use borrow.Author.Tests.{eq-eqb, ne_eqb, eqb-true, eqb-false}
use Rattle.segment.specs.Joining.{behind}
use Rattle.segment.specs.Grammar.{All, Without}
use Rattle.segment.specs.Reading.{Parts, cut, cut_at, ahead, ahead_at}

-- ---- without a byte

pub all_append : {A : Type 0} (P : A → Type 0) (xs ys : List A) → All P xs → All P ys → All P (xs ++ ys)
all_append P [] ys h k = k
all_append P (x ∷ xs) ys h k = (h.0, all_append P xs ys h.1 k)

pub all_map : {A : Type 0} (P Q : A → Type 0) → ((x : A) → P x → Q x) → (xs : List A) → All P xs → All Q xs
all_map P Q f [] h = tt
all_map P Q f (x ∷ xs) h = (f x h.0, all_map P Q f xs h.1)

pub all_both : {A : Type 0} (P Q R : A → Type 0) → ((x : A) → P x → Q x → R x) → (xs : List A) → All P xs → All Q xs → All R xs
all_both P Q R f [] h k = tt
all_both P Q R f (x ∷ xs) h k = (f x h.0 k.0, all_both P Q R f xs h.1 k.1)

-- a byte that is not so is in no text whose bytes are
pub without_of : (P : ℕ → Type 0) (b : ℕ) → (P b → ⊥) → (text : List ℕ) → All P text → Without b text
without_of P b d text h = all_map P (λ x. x ≢ b) (λ x k e. d (subst P e k)) text h

-- a byte that stands at no index is nowhere
pub without_index : (b : ℕ) (text : List ℕ) → ((i : ℕ) → i < length text → get_or text i 0 ≢ b) → Without b text
without_index b [] h = tt
without_index b (x ∷ text) h = (h 0 (omega arith), without_index b text (λ i k. h (suc i) (omega arith)))

pub index_without : (b : ℕ) (text : List ℕ) → Without b text → (i : ℕ) → i < length text → get_or text i 0 ≢ b
index_without b [] h i k = absurd (omega arith)
index_without b (x ∷ text) h zero k = h.0
index_without b (x ∷ text) h (suc i) k = index_without b text h.1 i (omega arith)

-- another byte than the separator: it is in none of the texts, so it is nowhere
pub behind_without : (c b : ℕ) → b ≢ c → (texts : List (List ℕ)) → All (Without c) texts → Without c (behind b texts)
unfolding behind
behind_without c b d [] h = tt
behind_without c b d (text ∷ texts) h = (d, all_append _ text _ h.0 (behind_without c b d texts h.1))

-- ---- cutting at each

-- the parts put together again
abbrev pub joined : ℕ → Parts → List ℕ
joined b p = p.first ++ behind b p.more

-- every part is so
abbrev pub Every : (List ℕ → Type 0) → Parts → Type 0
Every P p = P p.first × All P p.more

pub cut_hit : (b x : ℕ) (xs : List ℕ) → x ≡ b → cut b (x ∷ xs) ≡ record { first = []; more = (cut b xs).first ∷ (cut b xs).more }
unfolding cut
cut_hit b x xs e = rw (eq-eqb x b e)

pub cut_miss : (b x : ℕ) (xs : List ℕ) → x ≢ b → cut b (x ∷ xs) ≡ record { first = x ∷ (cut b xs).first; more = (cut b xs).more }
unfolding cut
cut_miss b x xs d = rw (ne_eqb x b d)

cut_over : (b : ℕ) (text rest : List ℕ) (p : Parts) → Without b text → cut b rest ≡ p → cut b (text ++ rest) ≡ record { first = text ++ p.first; more = p.more }
cut_over b [] rest p h e = e
cut_over b (x ∷ text) rest p h e =
    cut_miss b x (text ++ rest) h.0 ∙ ap (cut_at false x) (cut_over b text rest p h.1 e)

-- what is joined is cut into the same parts
pub cut_joined : (b : ℕ) (first : List ℕ) (more : List (List ℕ)) → Without b first → All (Without b) more
    → cut b (first ++ behind b more) ≡ record { first = first; more = more }
unfolding behind cut
cut_joined b first [] h k = cut_over b first [] _ h refl ∙ rw append-nil
cut_joined b first (text ∷ texts) h k =
    cut_over b first (b ∷ (text ++ behind b texts)) _ h (cut_hit b b (text ++ behind b texts) refl ∙ ap (cut_at true b) (cut_joined b text texts k.0 k.1)) ∙ rw append-nil

-- what is cut is joined again to the same text
pub joined_cut : (b : ℕ) (text : List ℕ) → joined b (cut b text) ≡ text
unfolding cut behind
joined_cut b [] = refl
joined_cut b (x ∷ xs) = go (eqb x b) refl (joined_cut b xs)
  where
    go : (t : Bool) → eqb x b ≡ t → joined b (cut b xs) ≡ xs → joined b (cut_at t x (cut b xs)) ≡ x ∷ xs
    go true q ih = ap (λ r. b ∷ r) ih ∙ ap (λ y. y ∷ xs) (sym (eqb-true x b q))
    go false q ih = ap (λ r. x ∷ r) ih

-- no part has the byte of the cut
pub cut_without : (b : ℕ) (text : List ℕ) → Every (Without b) (cut b text)
unfolding cut
cut_without b [] = (tt, tt)
cut_without b (x ∷ xs) = go (eqb x b) refl (cut_without b xs)
  where
    go : (t : Bool) → eqb x b ≡ t → Every (Without b) (cut b xs) → Every (Without b) (cut_at t x (cut b xs))
    go true q ih = (tt, (ih.0, ih.1))
    go false q ih = ((eqb-false x b q, ih.0), ih.1)

-- no part has a byte that the text does not have
pub cut_keeps : (c b : ℕ) (text : List ℕ) → Without c text → Every (Without c) (cut b text)
unfolding cut
cut_keeps c b [] h = (tt, tt)
cut_keeps c b (x ∷ xs) h = go (eqb x b) (cut_keeps c b xs h.1)
  where
    go : (t : Bool) → Every (Without c) (cut b xs) → Every (Without c) (cut_at t x (cut b xs))
    go true ih = (tt, (ih.0, ih.1))
    go false ih = ((h.0, ih.0), ih.1)

-- ---- cutting at the first

pub ahead_there : (b : ℕ) (text rest : List ℕ) → Without b text → ahead b (text ++ b ∷ rest) ≡ Some (text, rest)
unfolding ahead
ahead_there b [] rest h = rw (eq-eqb b b refl)
ahead_there b (x ∷ text) rest h = rw (ne_eqb x b h.0, ahead_there b text rest h.1)

-- what was found: the text is what stands ahead, the byte, and what stands behind
abbrev pub SplitAt : ℕ → List ℕ → (List ℕ × List ℕ) → Type 0
SplitAt b text p = (text ≡ p.0 ++ b ∷ p.1) × Without b p.0

pub ahead_back : (b : ℕ) (text : List ℕ) (p : List ℕ × List ℕ) → ahead b text ≡ Some p → SplitAt b text p
unfolding ahead
ahead_back b [] p e = absurd (none-some _ e)
ahead_back b (x ∷ xs) p e = go (eqb x b) (ahead b xs) refl refl e (ahead_back b xs)
  where
    go : (t : Bool) (o : Option (List ℕ × List ℕ)) → eqb x b ≡ t → ahead b xs ≡ o → ahead_at t x xs o ≡ Some p
        → ((q : List ℕ × List ℕ) → ahead b xs ≡ Some q → SplitAt b xs q) → SplitAt b (x ∷ xs) p
    go true o q h f ih = subst (SplitAt b (x ∷ xs)) (same_Some _ _ f) (ap (λ y. y ∷ xs) (eqb-true x b q), tt)
    go false None q h f ih = absurd (none-some _ f)
    go false (Some r) q h f ih =
        subst (SplitAt b (x ∷ xs)) (same_Some _ _ f) (ap (λ y. x ∷ y) (ih r h).0, (eqb-false x b q, (ih r h).1))
