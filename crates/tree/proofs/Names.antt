-- Numbers of a list, or of what its items name: the first of them noted one after the other, and looked through for one that repeats.
use Prim.Native.Nat.{ℕ, suc, ◌+◌, ◌-◌, ◌≤◌, ◌<◌}
use mathlib.Core.Path.{◌≡◌, refl, sym, ◌∙◌, ap}
use mathlib.Core.List.{List, [], ◌∷◌, ◌++◌, append_assoc, append-nil}
use mathlib.Core.Bool.{Bool, true, false}
use native.Mathlib.Omega.{arith}
use lib.ListN.{length, get_or, set, take, drop, drop_of_length-le}
use lib.Seq.{take-suc-set}
use lib.Dec.{eqb}
use Rattle.std.specs.List.{list_any}
use Rattle.codec.specs.Codec.{Codec, pick, le_c, list_c}
use Rattle.codec.specs.Forms.{num_c}
use Rattle.codec.specs.Skip.{skip, count_at, Is}
use Rattle.codec.proofs.Field.{is_list, count_list}
use Rattle.format.specs.Words.{member_of, repeats}
use Rattle.says.specs.Says.{Says, Rest}
use Rattle.tree.specs.Parts.{Noted}
use Rattle.says.proofs.Walk.{number_is, rest_start, rest_again, rest_done}
use Rattle.says.proofs.Members.{behind, next}

-- ---- one item
pub number_there : (b : List ℕ) (e at x : ℕ) → x ≡ count_at b at e → (y : ℕ) → Is num_c b e at y → x ∷ [] ≡ y ∷ []
number_there b e at x h y i = let z : x ≡ y = number_is b e x at at y h refl i in rw z

pub name_in : (ps : List ℕ) (k x : ℕ) (ys : List ℕ) → k < length ps → x ∷ [] ≡ ys → take (k + 1) (set ps k x) ≡ take k ps ++ ys
name_in ps k x ys h i = let z : k + 1 ≡ suc k = omega arith in rw (z, ← i) (take-suc-set ps k x h)

pub name_none : (ps : List ℕ) (k : ℕ) (ys : List ℕ) → [] ≡ ys → take k ps ≡ take k ps ++ ys
name_none ps k ys i = rw (← i) (sym (append-nil (take k ps)))

-- ---- what the items of a list name, f: k names are in, and n items are left from p on
pub record Noting {A : Type 0} (C : Codec A) (f : List A → List ℕ) (b : List ℕ) (e at : ℕ) (ps : List ℕ) (k n p : ℕ) : Type 0 where
  pub rest : (o : List A) → Is (list_c C) b e at o → Rest C b e (λ us. f o ≡ take k ps ++ f us) n p

module _ {A : Type 0} (C : Codec A) (f : List A → List ℕ) (b : List ℕ) (e at : ℕ) (ps : List ℕ) where
  pub noting_start : (n p : ℕ) → n ≡ count_at b at e → p ≡ skip (le_c 4) b at e → Noting C f b e at ps 0 n p
  noting_start n p h i = record { rest = λ o j. rest_start C b e (λ us. f o ≡ take 0 ps ++ f us) at n p o h i j refl }

  pub noting_again : ((y : A) (ys : List A) → f (y ∷ ys) ≡ f (y ∷ []) ++ f ys) → (k n p q r : ℕ) (qs : List ℕ) → Noting C f b e at ps k n p → 0 < n → q ≡ skip C b p e
      → ((y : A) → Is C b e p y → take r qs ≡ take k ps ++ f (y ∷ [])) → Noting C f b e at qs r (n - 1) q
  noting_again first k n p q r qs d h i s = record {
    rest = λ o j. rest_again C b e (λ us. f o ≡ take k ps ++ f us) (λ us. f o ≡ take r qs ++ f us) n p q (d.rest o j) h i
        (λ y ys l m. m ∙ ap (λ z. take k ps ++ z) (first y ys) ∙ sym (append_assoc (take k ps) (f (y ∷ [])) (f ys)) ∙ ap (λ z. z ++ f ys) (sym (s y l)));
  }

  pub noting_full : (k n p : ℕ) → Noting C f b e at ps k n p → length ps ≤ k → (o : List A) → Is (list_c C) b e at o → Noted (f o) ps k
  noting_full k n p d h o j = let r = d.rest o j in record { more = f r.items; split = r.holds; all = λ l. absurd (omega (arith, l, h)) }

  pub noting_done : f [] ≡ [] → (k n p : ℕ) → Noting C f b e at ps k n p → n ≤ 0 → (o : List A) → Is (list_c C) b e at o → Noted (f o) ps k
  noting_done none k n p d h o j = record { more = f []; split = rest_done C b e (λ us. f o ≡ take k ps ++ f us) n p (d.rest o j) h; all = λ l. none }

-- ---- the names
module _ (ps : List ℕ) (a r : Bool) (j : ℕ) (d : a ≡ repeats (drop j ps)) where
  module _ (l : j < length ps) (s : r ≡ list_any (λ y. eqb y (get_or ps j 0)) (take (length ps - (j + 1)) (drop (j + 1) ps))) where
    pub repeat_hit : r ≡ true → true ≡ a
    unfolding repeats
    repeat_hit t = sym (d ∙ rw (next ps j l, ← behind (get_or ps j 0) (j + 1) ps, ← s, t))

    pub repeat_miss : r ≡ false → a ≡ repeats (drop (j + 1) ps)
    unfolding repeats
    repeat_miss t = d ∙ rw (next ps j l, ← behind (get_or ps j 0) (j + 1) ps, ← s, t)

pub repeat_end : (ps : List ℕ) (a : Bool) (j : ℕ) → a ≡ repeats (drop j ps) → length ps ≤ j → false ≡ a
unfolding repeats
repeat_end ps a j d l = sym (d ∙ rw (drop_of_length-le ps {i = j} l))

-- ---- more names behind change nothing for those that repeat
member_more : (x : ℕ) (xs ys : List ℕ) → member_of x xs ≡ true → member_of x (xs ++ ys) ≡ true
unfolding member_of
member_more x [] ys h = absurd (let z : ◌≡◌ {A = ℕ} 0 1 = cc in omega arith)
member_more x (y ∷ xs) ys h = go (eqb x y) h (member_more x xs ys)
  where
    go : (t : Bool) → pick t true (member_of x xs) ≡ true → (member_of x xs ≡ true → member_of x (xs ++ ys) ≡ true) → pick t true (member_of x (xs ++ ys)) ≡ true
    go true w ih = refl
    go false w ih = ih w

repeats_more : (xs ys : List ℕ) → repeats xs ≡ true → repeats (xs ++ ys) ≡ true
unfolding repeats
repeats_more [] ys h = absurd (let z : ◌≡◌ {A = ℕ} 0 1 = cc in omega arith)
repeats_more (x ∷ xs) ys h = go (member_of x xs) refl h (repeats_more xs ys)
  where
    go : (t : Bool) → member_of x xs ≡ t → pick t true (repeats xs) ≡ true → (repeats xs ≡ true → repeats (xs ++ ys) ≡ true) → pick (member_of x (xs ++ ys)) true (repeats (xs ++ ys)) ≡ true
    go true q w ih = rw (member_more x xs ys q)
    go false q w ih = rest (member_of x (xs ++ ys)) (ih w)
      where
        rest : (u : Bool) → repeats (xs ++ ys) ≡ true → pick u true (repeats (xs ++ ys)) ≡ true
        rest true v = refl
        rest false v = v

-- whether a list names something twice, from the names noted
module _ {A : Type 0} (C : Codec A) (f : List A → List ℕ) (b : List ℕ) (e at : ℕ) (ps : List ℕ) (n : ℕ) (s : (o : List A) → Is (list_c C) b e at o → Noted (f o) ps n) (r : Bool) (q : r ≡ repeats (take n ps)) where
  pub noted_twice : r ≡ true → Says (list_c C) b e at (λ o. repeats (f o)) true
  noted_twice t o j = let d = s o j in sym (ap repeats d.split ∙ repeats_more (take n ps) d.more (sym q ∙ t))

  pub noted_once : r ≡ false → n < length ps → Says (list_c C) b e at (λ o. repeats (f o)) false
  noted_once t l o j =
      let d = s o j in
      let z : f o ≡ take n ps = d.split ∙ ap (λ m. take n ps ++ m) (d.all l) ∙ append-nil (take n ps) in
      sym (ap repeats z ∙ sym q ∙ t)

-- none of fewer than two items repeats
pub few_once : {A : Type 0} (C : Codec A) (f : List A → List ℕ) (b : List ℕ) (e at n : ℕ) → ((o : List A) → length o < 2 → repeats (f o) ≡ false) → n ≡ count_at b at e → n < 2 → Says (list_c C) b e at (λ o. repeats (f o)) false
few_once C f b e at n few h l o j = sym (few o (omega (arith, h, l, count_list C b e at o (is_list C b e at o j))))

pub few_numbers : (xs : List ℕ) → length xs < 2 → repeats xs ≡ false
unfolding repeats member_of
few_numbers [] h = refl
few_numbers (x ∷ []) h = refl
few_numbers (x ∷ y ∷ xs) h = absurd (omega arith)
