-- Laws of the definitions of specs/Field, and words that only proofs use.
use Prim.Native.Nat.{ℕ, zero, suc, ◌+◌, ◌*◌, ◌≤◌, ◌<◌}
use Rattle.std.proofs.Math.Path.{◌≡◌}
use Rattle.std.specs.Prelude.{refl, List, [], ◌∷◌, ◌⊎◌, Bool, true, false, length, get_or, leb, Option, None, Some}
use Rattle.std.proofs.Common.{sym, ap, subst, ◌∙◌, inl, inr, arith, add-zero, mul-zero, mul-suc, mul_comm, leb-true, leb-false}
use Rattle.codec.specs.Codec.{Got, got, bad, bind, pick, Codec, Cases, le, le_c, unit_c, dep_c, ◌⊗◌, map_c, when_c, enum_c, ◌⊕◌, end_c, list_c, items_read}
use Rattle.codec.specs.Skip.{after, skip, steps, count_at, Is}
use Rattle.codec.proofs.Skip.{skip_case, value_le, skip_le, skip_short, steps_end}
use Rattle.codec.specs.Forms.{opt_c}
use Rattle.codec.specs.Field.{Stands}

-- a value stands within the end
pub is_in : {A : Type 0} (C : Codec A) (b : List ℕ) (e at : ℕ) (v : A) → Is C b e at v → at ≤ e
is_in C b e at v h = go (leb at e) refl
  where
    go : (t : Bool) → leb at e ≡ t → at ≤ e
    go true q = leb-true _ _ q
    go false q = let p : C.read b at e ≡ bad = C.past b at e (leb-false _ _ q) in absurd (let z : ◌≡◌ {A = ℕ} 0 1 = cc in omega arith)

pub is_map : {A B : Type 0} (f : A → B) (g : B → A) (fg : (y : B) → f (g y) ≡ y) (gf : (x : A) → g (f x) ≡ x) (C : Codec A) (b : List ℕ) (e at : ℕ) (v : B) → Is (map_c f g fg gf C) b e at v → Is C b e at (g v)
unfolding map_c skip
is_map {A} f g fg gf C b e at v h = go (C.read b at e) h
  where
    go : (r : Got A) → bind r (λ x n. got (f x) n) ≡ got v (after e (bind r (λ x n. got (f x) n))) → r ≡ got (g v) (after e r)
    go (got x n) k = let i : f x ≡ v = cc in rw (sym (gf x) ∙ ap g i)
    go bad k = absurd (let z : ◌≡◌ {A = ℕ} 0 1 = cc in omega arith)

pub is_pair : {A B : Type 0} (C : Codec A) (D : Codec B) (b : List ℕ) (e at : ℕ) (v : A × B) → Is (C ⊗ D) b e at v → Is C b e at v.0 × Is D b e (skip C b at e) v.1
unfolding dep_c skip
is_pair {A} {B} C D b e at v h = first (C.read b at e) h
  where
    second : (x : A) (n : ℕ) (r : Got B) → bind {B = A × B} r (λ y m. got (x, y) m) ≡ got v (after e (bind {B = A × B} r (λ y m. got (x, y) m))) → (got x n ≡ got v.0 n) × (r ≡ got v.1 (after e r))
    second x n (got y m) k = let i : ◌≡◌ {A = A × B} (x, y) v = cc in (ap (λ (w : A × B). got w.0 n) i, ap (λ (w : A × B). got w.1 m) i)
    second x n bad k = absurd (let z : ◌≡◌ {A = ℕ} 0 1 = cc in omega arith)

    first : (r : Got A) → bind {B = A × B} r (λ x n. bind {B = A × B} (D.read b n e) (λ y m. got (x, y) m)) ≡ got v (after e (bind {B = A × B} r (λ x n. bind {B = A × B} (D.read b n e) (λ y m. got (x, y) m)))) → (r ≡ got v.0 (after e r)) × (D.read b (after e r) e ≡ got v.1 (after e (D.read b (after e r) e)))
    first (got x n) k = second x n (D.read b n e) k
    first bad k = absurd (let z : ◌≡◌ {A = ℕ} 0 1 = cc in omega arith)

pub is_le : (k : ℕ) (b : List ℕ) (e at v : ℕ) → Is (le_c k) b e at v → (at + k ≤ e) × (v ≡ le k b at)
unfolding le_c
is_le k b e at v h = go (leb (at + k) e) refl h
  where
    go : (t : Bool) → leb (at + k) e ≡ t → pick t (got (le k b at) (at + k)) bad ≡ got v (skip (le_c k) b at e) → (at + k ≤ e) × (v ≡ le k b at)
    go true q h = (leb-true _ _ q, cc)
    go false q h = absurd (let z : ◌≡◌ {A = ℕ} 0 1 = cc in omega arith)

-- the items of a list
items_is : {A : Type 0} (C : Codec A) (b : List ℕ) (e n at : ℕ) (vs : List A) (m : ℕ) → items_read C n b at e ≡ got vs m → (length vs ≡ n) × ((i : ℕ) (d : A) → i < length vs → Is C b e (steps C b e i at) (get_or vs i d))
unfolding steps skip
items_is {A} C b e zero at vs m h = subst (λ (ws : List A). (length ws ≡ 0) × ((i : ℕ) (d : A) → i < length ws → Is C b e (steps C b e i at) (get_or ws i d))) (let w : [] ≡ vs = cc in w) (refl, λ i d q. absurd (omega arith))
items_is {A} C b e (suc n) at vs m h = first (C.read b at e) refl h (λ p ys k. items_is C b e n p ys k)
  where
    join : (x : A) (p : ℕ) (xs : List A) → C.read b at e ≡ got x p → (length xs ≡ n) × ((i : ℕ) (d : A) → i < length xs → Is C b e (steps C b e i p) (get_or xs i d)) → (length (x ∷ xs) ≡ suc n) × ((i : ℕ) (d : A) → i < length (x ∷ xs) → Is C b e (steps C b e i at) (get_or (x ∷ xs) i d))
    join x p xs q o = (ap suc o.0, item)
      where
        item : (i : ℕ) (d : A) → i < length (x ∷ xs) → Is C b e (steps C b e i at) (get_or (x ∷ xs) i d)
        item zero d l = rw q
        item (suc i) d l = let s : after e (C.read b at e) ≡ p = rw q in rw s (o.1 i d (omega arith))

    second : (x : A) (p : ℕ) → C.read b at e ≡ got x p → (g : Got (List A)) → items_read C n b p e ≡ g → bind g (λ xs k. got (x ∷ xs) k) ≡ got vs m
        → ((p : ℕ) (ys : List A) (k : ℕ) → items_read C n b p e ≡ got ys k → (length ys ≡ n) × ((i : ℕ) (d : A) → i < length ys → Is C b e (steps C b e i p) (get_or ys i d)))
        → (length vs ≡ suc n) × ((i : ℕ) (d : A) → i < length vs → Is C b e (steps C b e i at) (get_or vs i d))
    second x p q (got xs k) q' r ih =
        let w : x ∷ xs ≡ vs = cc in
        subst (λ (ws : List A). (length ws ≡ suc n) × ((i : ℕ) (d : A) → i < length ws → Is C b e (steps C b e i at) (get_or ws i d))) w (join x p xs q (ih p xs k q'))
    second x p q bad q' r ih = absurd (let z : ◌≡◌ {A = ℕ} 0 1 = cc in omega arith)

    first : (g : Got A) → C.read b at e ≡ g → bind g (λ x p. bind (items_read C n b p e) (λ xs k. got (x ∷ xs) k)) ≡ got vs m
        → ((p : ℕ) (ys : List A) (k : ℕ) → items_read C n b p e ≡ got ys k → (length ys ≡ n) × ((i : ℕ) (d : A) → i < length ys → Is C b e (steps C b e i p) (get_or ys i d)))
        → (length vs ≡ suc n) × ((i : ℕ) (d : A) → i < length vs → Is C b e (steps C b e i at) (get_or vs i d))
    first (got x p) q r ih = second x p q (items_read C n b p e) refl r ih
    first bad q r ih = absurd (let z : ◌≡◌ {A = ℕ} 0 1 = cc in omega arith)

pub record ListIs {A : Type 0} (C : Codec A) (b : List ℕ) (e at : ℕ) (vs : List A) : Type 0 where
  pub counted : length vs ≡ le 4 b at
  pub room : at + 4 ≤ e
  pub item : (i : ℕ) (d : A) → i < length vs → Is C b e (steps C b e i (at + 4)) (get_or vs i d)

pub is_list : {A : Type 0} (C : Codec A) (b : List ℕ) (e at : ℕ) (vs : List A) → Is (list_c C) b e at vs → ListIs C b e at vs
unfolding list_c le_c
is_list {A} C b e at vs h = go (leb (at + 4) e) refl h
  where
    go : (t : Bool) → leb (at + 4) e ≡ t → bind (pick t (got (le 4 b at) (at + 4)) bad) (λ n p. items_read C n b p e) ≡ got vs (skip (list_c C) b at e) → ListIs C b e at vs
    go true q r =
        let o : (length vs ≡ le 4 b at) × ((i : ℕ) (d : A) → i < length vs → Is C b e (steps C b e i (at + 4)) (get_or vs i d)) = items_is C b e (le 4 b at) (at + 4) vs (skip (list_c C) b at e) r in
        record { counted = o.0; room = leb-true _ _ q; item = o.1 }
    go false q r = absurd (let z : ◌≡◌ {A = ℕ} 0 1 = cc in omega arith)

-- ---- enums
abbrev pub IsCase : {A : Type 0} → Cases A → ℕ → List ℕ → ℕ → ℕ → A → Type 0
IsCase C k b e at v = C.read_case k b at e ≡ got v (skip_case C k b at e)

pub record EnumIs {A : Type 0} (C : Cases A) (b : List ℕ) (e at : ℕ) (v : A) : Type 0 where
  pub tag : C.case_of v ≡ get_or b at 0
  pub room : at < e
  pub fields : IsCase C (get_or b at 0) b e (at + 1) v

pub is_enum : {A : Type 0} (C : Cases A) (b : List ℕ) (e at : ℕ) (v : A) → Is (enum_c C) b e at v → EnumIs C b e at v
unfolding enum_c skip skip_case
is_enum C b e at v h = go (leb (at + 1) e) refl h
  where
    go : (t : Bool) → leb (at + 1) e ≡ t → pick t (C.read_case (get_or b at 0) b (at + 1) e) bad ≡ got v (after e (pick t (C.read_case (get_or b at 0) b (at + 1) e) bad)) → EnumIs C b e at v
    go true q r = let p : at + 1 ≤ e = leb-true (at + 1) e q in record { tag = C.is_case _ b (at + 1) e v _ r; room = omega arith; fields = r }
    go false q r = absurd (let z : ◌≡◌ {A = ℕ} 0 1 = cc in omega arith)

module _ {A B : Type 0} (C : Codec A) (D : Cases B) (b : List ℕ) (e at : ℕ) where
  pub is_first : (k : ℕ) (x : A) → IsCase (C ⊕ D) k b e at (inl x) → Is C b e at x
  unfolding ◌⊕◌ skip skip_case
  is_first zero x h = go (C.read b at e) h
    where
      go : (r : Got A) → bind {B = A ⊎ B} r (λ y n. got (inl y) n) ≡ got (inl x) (after e (bind {B = A ⊎ B} r (λ y n. got (inl y) n))) → r ≡ got x (after e r)
      go (got y n) q = let w : y ≡ x = cc in rw w
      go bad q = absurd (let z : ◌≡◌ {A = ℕ} 0 1 = cc in omega arith)
  is_first (suc k) x h = go (D.read_case k b at e) h
    where
      go : (r : Got B) → bind {B = A ⊎ B} r (λ y n. got (inr y) n) ≡ got (inl x) (after e (bind {B = A ⊎ B} r (λ y n. got (inr y) n))) → C.read b at e ≡ got x (after e (C.read b at e))
      go (got y n) q = absurd (let z : ◌≡◌ {A = ℕ} 0 1 = cc in omega arith)
      go bad q = absurd (let z : ◌≡◌ {A = ℕ} 0 1 = cc in omega arith)

  pub is_later : (k : ℕ) (y : B) → IsCase (C ⊕ D) k b e at (inr y) → (j : ℕ) × IsCase D j b e at y
  unfolding ◌⊕◌ skip_case
  is_later zero y h = go (C.read b at e) h
    where
      go : (r : Got A) → bind {B = A ⊎ B} r (λ x n. got (inl x) n) ≡ got (inr y) (after e (bind {B = A ⊎ B} r (λ x n. got (inl x) n))) → (j : ℕ) × IsCase D j b e at y
      go (got x n) q = absurd (let z : ◌≡◌ {A = ℕ} 0 1 = cc in omega arith)
      go bad q = absurd (let z : ◌≡◌ {A = ℕ} 0 1 = cc in omega arith)
  is_later (suc k) y h = (k, go (D.read_case k b at e) h)
    where
      go : (r : Got B) → bind {B = A ⊎ B} r (λ x n. got (inr x) n) ≡ got (inr y) (after e (bind {B = A ⊎ B} r (λ x n. got (inr x) n))) → r ≡ got y (after e r)
      go (got x n) q = let w : x ≡ y = cc in rw w
      go bad q = absurd (let z : ◌≡◌ {A = ℕ} 0 1 = cc in omega arith)

-- an option
pub is_none : {A : Type 0} (C : Codec A) (b : List ℕ) (e at : ℕ) → Is (opt_c C) b e at None → get_or b at 0 ≡ 0
unfolding opt_c ◌⊕◌
is_none C b e at h = sym (is_enum _ b e at _ (is_map _ _ _ _ _ b e at None h)).tag

pub is_some : {A : Type 0} (C : Codec A) (b : List ℕ) (e at : ℕ) (x : A) → Is (opt_c C) b e at (Some x) → (get_or b at 0 ≡ 1) × Is C b e (at + 1) x
unfolding opt_c ◌⊕◌
is_some C b e at x h =
    let i : EnumIs (unit_c ⊕ C ⊕ end_c) b e at (inr (inl x)) = is_enum _ b e at _ (is_map _ _ _ _ _ b e at (Some x) h) in
    let j = is_later unit_c (C ⊕ end_c) b e (at + 1) (get_or b at 0) (inl x) i.fields in
    (sym i.tag, is_first C end_c b e (at + 1) j.0 x j.1)

-- numbers of w bytes, one after the other
pub steps_le : (w : ℕ) (b : List ℕ) (e i at : ℕ) → steps (le_c w) b e i at ≤ e → steps (le_c w) b e i at ≡ at + w * i
unfolding steps
steps_le w b e zero at h = rw (mul-zero, add-zero)
steps_le w b e (suc i) at h = go (leb (at + w) e) refl (steps_le w b e i (at + w))
  where
    m : w * suc i ≡ w * i + w
    m = mul-suc w i

    go : (t : Bool) → leb (at + w) e ≡ t → (steps (le_c w) b e i (at + w) ≤ e → steps (le_c w) b e i (at + w) ≡ at + w + w * i) → steps (le_c w) b e i (skip (le_c w) b at e) ≡ at + w * suc i
    go true q ih =
        let r : skip (le_c w) b at e ≡ at + w = skip_le w b at e (leb-true _ _ q) in
        let h' : steps (le_c w) b e i (at + w) ≤ e = rw r at h in
        rw r (ih h' ∙ (omega (arith, m)))
    go false q ih =
        let r : skip (le_c w) b at e ≡ e + 1 = skip_short w b at e (leb-false _ _ q) in
        let h' : steps (le_c w) b e i (e + 1) ≤ e = rw r at h in
        absurd (omega (arith, steps_end (le_c w) b e i))

-- the items of a list of numbers
pub le_item : (w : ℕ) (b : List ℕ) (e at : ℕ) (vs : List ℕ) (i : ℕ) → Is (list_c (le_c w)) b e at vs → i < length vs → get_or vs i 0 ≡ le w b (at + 4 + w * i)
le_item w b e at vs i h q =
    let l : Is (le_c w) b e (steps (le_c w) b e i (at + 4)) (get_or vs i 0) = (is_list (le_c w) b e at vs h).item i 0 q in
    let s : steps (le_c w) b e i (at + 4) ≡ at + 4 + w * i = steps_le w b e i (at + 4) (is_in (le_c w) b e _ _ l) in
    rw s at (is_le w b e _ _ l).1

pub le_room : (w : ℕ) (b : List ℕ) (e at : ℕ) (vs : List ℕ) (i : ℕ) → Is (list_c (le_c w)) b e at vs → i < length vs → at + 4 + w * i + w ≤ e
le_room w b e at vs i h q =
    let l : Is (le_c w) b e (steps (le_c w) b e i (at + 4)) (get_or vs i 0) = (is_list (le_c w) b e at vs h).item i 0 q in
    let s : steps (le_c w) b e i (at + 4) ≡ at + 4 + w * i = steps_le w b e i (at + 4) (is_in (le_c w) b e _ _ l) in
    rw s at (is_le w b e _ _ l).0

-- ---- what an accessor needs: n was read at the place p, which the index holds, and there stands the list

module _ (b : List ℕ) (e n p q : ℕ) where
  pub count_of : {A : Type 0} (C : Codec A) (vs : List A) → n ≡ le 4 b p → p ≡ q → Is (list_c C) b e q vs → n ≡ length vs
  count_of C vs h i j = h ∙ rw i (sym (is_list C b e q vs j).counted)

  pub item_of : (w k : ℕ) (vs : List ℕ) → n ≡ le w b (p + 4 + k * w) → p ≡ q → Is (list_c (le_c w)) b e q vs → k < length vs → n ≡ get_or vs k 0
  item_of w k vs h i j l = h ∙ rw (i, mul_comm k w) (sym (le_item w b e q vs k j l))

  pub room_of : (w k : ℕ) (vs : List ℕ) → p ≡ q → Is (list_c (le_c w)) b e q vs → k < length vs → p + 4 + k * w + w ≤ e
  room_of w k vs i j l = rw (i, mul_comm k w) (le_room w b e q vs k j l)

pub is_at : {A : Type 0} (C : Codec A) (b : List ℕ) (e p q : ℕ) (v : A) → p ≡ q → Is C b e q v → Is C b e p v
is_at C b e p q v i h = rw i h

pub count_list : {A : Type 0} (C : Codec A) (b : List ℕ) (e at : ℕ) (vs : List A) → ListIs C b e at vs → length vs ≡ count_at b at e
unfolding count_at
count_list C b e at vs l = l.counted ∙ sym (value_le 4 b at e l.room)

-- a value that passes a test
pub is_when : {A : Type 0} (P : A → Bool) (C : Codec A) (b : List ℕ) (e at : ℕ) (v : A) → Is (when_c P C) b e at v → Is C b e at v × (P v ≡ true)
unfolding when_c skip
is_when {A} P C b e at v h = go (C.read b at e) h
  where
    tested : (x : A) (n : ℕ) (t : Bool) → P x ≡ t → pick t (got x n) bad ≡ got v (after e (pick t (got x n) bad)) → (got x n ≡ got v n) × (P v ≡ true)
    tested x n true q k = let w : x ≡ v = cc in (rw w, rw w at q)
    tested x n false q k = absurd (let z : ◌≡◌ {A = ℕ} 0 1 = cc in omega arith)

    go : (r : Got A) → bind r (λ x n. pick (P x) (got x n) bad) ≡ got v (after e (bind r (λ x n. pick (P x) (got x n) bad))) → (r ≡ got v (after e r)) × (P v ≡ true)
    go (got x n) k = tested x n (P x) refl k
    go bad k = absurd (let z : ◌≡◌ {A = ℕ} 0 1 = cc in omega arith)

pub stands_le : (k : ℕ) (b : List ℕ) (at : ℕ) → Stands (le_c k) b at → at + k ≤ length b
stands_le k b at s = omega (arith, s.within, (is_le k b s.end at s.value s.is).0)

-- at the place p that was read, for the place q at which it is known to stand
pub stands_at : {A : Type 0} (C : Codec A) (b : List ℕ) (p q e : ℕ) (v : A) → p ≡ q → e ≤ length b → Is C b e q v → Stands C b p
stands_at C b p q e v h l i = record { end = e; value = v; within = l; is = is_at C b e p q v h i }

-- an enum has the byte of its case
pub stands_case : {A B : Type 0} (f : A → B) (g : B → A) (fg : (y : B) → f (g y) ≡ y) (gf : (x : A) → g (f x) ≡ x) (C : Cases A) (b : List ℕ) (at : ℕ) → Stands (map_c f g fg gf (enum_c C)) b at → at < length b
stands_case f g fg gf C b at s = omega (arith, s.within, (is_enum C b s.end at _ (is_map f g fg gf (enum_c C) b s.end at s.value s.is)).room)

module _ {A : Type 0} (C : Codec A) (b : List ℕ) (at : ℕ) where
  pub stands_in : Stands C b at → at ≤ length b
  stands_in s = omega (arith, s.within, is_in C b s.end at s.value s.is)

  -- an option has its byte, and behind it what it holds
  pub stands_opt : Stands (opt_c C) b at → at < length b
  unfolding opt_c
  stands_opt s = stands_case _ _ _ _ _ b at s

  pub stands_some : Stands (opt_c C) b at → (get_or b at 0 ≡ 0 → ⊥) → Stands C b (at + 1)
  stands_some s h = go s.value s.is
    where
      go : (v : Option A) → Is (opt_c C) b s.end at v → Stands C b (at + 1)
      go None i = absurd (h (is_none C b s.end at i))
      go (Some x) i = stands_at C b (at + 1) (at + 1) s.end x refl s.within (is_some C b s.end at x i).1

  -- a list has its count
  pub stands_list : Stands (list_c C) b at → at + 4 ≤ length b
  stands_list s = omega (arith, s.within, (is_list C b s.end at s.value s.is).room)

-- of two structures, one behind the other
module _ {A B : Type 0} (C : Codec A) (D : Codec B) (b : List ℕ) (at : ℕ) (s : Stands (C ⊗ D) b at) where
  pub stands_first : Stands C b at
  stands_first = stands_at C b at at s.end s.value.0 refl s.within (is_pair C D b s.end at s.value s.is).0

  pub stands_second : (p : ℕ) → ((e : ℕ) (v : A) → Is C b e at v → p ≡ skip C b at e) → Stands D b p
  stands_second p f =
      let t = is_pair C D b s.end at s.value s.is in
      stands_at D b p (skip C b at s.end) s.end s.value.1 (f s.end s.value.0 t.0) s.within t.1

pub stands_next : {A : Type 0} (k : ℕ) (C : Codec A) (b : List ℕ) (at : ℕ) → Stands (le_c k ⊗ C) b at → Stands C b (at + k)
stands_next k C b at s = stands_second (le_c k) C b at s (at + k) (λ e v h. sym (skip_le k b at e (is_le k b e at v h).0))
