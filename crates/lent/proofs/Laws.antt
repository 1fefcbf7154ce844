-- Laws of storing as far as it fits.
use Prim.Native.Nat.{ℕ, zero, suc, ◌+◌, ◌*◌, ◌-◌, ◌≤◌, ◌<◌, min}
use mathlib.Core.Path.{◌≡◌, refl, sym, ap, ◌∙◌}
use mathlib.Core.List.{List, [], ◌∷◌, ◌++◌, append_assoc}
use mathlib.Core.Bool.{Bool, true, false}
use native.Mathlib.Omega.{arith}
use native.Mathlib.Numerals.{add-one}
use native.Mathlib.Nat.{le_of_lt, min-eq_left, min-eq_right, add-zero, not-suc-le-zero, zero-mul, suc-mul, add_comm, mul-sub, mul_comm, le_refl, zero-sub, sub-zero}
use lib.ListN.{length, get_or, set, take, drop, replicate, length-append, length-set, length-take, length-drop, length-replicate, drop_of_length-le}
use borrow.Rule.Slice.PartMut.{put_mid, Post-is}
use lib.Seq.{sets, sets-eq, set_out, length-sets, take-set-le, drop-set-lt, take_all, take-suc, take-take, take-nil, take-append-add, drop-nil}
use Rattle.std.proofs.lemmas.List.{drop_min}
use Rattle.std.proofs.Math.Nat.{min_comm}
use lib.Dec.{leb}
use borrow.Author.Tests.{leb-true, leb-false}
use Rattle.lent.specs.Fit.{cap, more, placed, StoredAt, Stored}
use Rattle.lent.specs.Window.{stretch}

-- a part of a list, replaced by as many items
pub part_put : {A : Type 0} (d x : List A) (at n : ℕ) → length x ≡ n → at + n ≤ length d → put_mid at (at + n - at) d x ≡ sets d at x
part_put d x at n e h =
    let k : at + n ≡ at + length x = omega (arith, e) in
    ap (λ z. take at d ++ (x ++ z)) (Post-is at (at + n) d (omega arith)) ∙ ap (λ m. take at d ++ (x ++ drop m d)) k ∙ sym (append_assoc (take at d) x (drop (at + length x) d)) ∙ sym (sets-eq x d at (omega (arith, e, h)))

-- nothing is stored past the end
pub sets_past : {A : Type 0} (d : List A) (p : ℕ) (bs : List A) → length d ≤ p → sets d p bs ≡ d
sets_past d p [] h = refl
sets_past d p (b ∷ bs) h = rw (set_out d p b h) (sets_past d (suc p) bs (omega arith))

-- xs ++ bs: xs, and then bs behind it
pub sets_append : {A : Type 0} (d : List A) (p : ℕ) (xs bs : List A) → sets (sets d p xs) (p + length xs) bs ≡ sets d p (xs ++ bs)
sets_append d p [] bs = rw add-zero
sets_append d p (a ∷ xs) bs = let e : p + suc (length xs) ≡ suc p + length xs = omega arith in rw e (sets_append (set d p a) (suc p) xs bs)

-- what lies in front stays
pub take_sets : (n : ℕ) (d : List ℕ) (p : ℕ) (bs : List ℕ) → n ≤ p → take n (sets d p bs) ≡ take n d
take_sets n d p [] h = refl
take_sets n d p (b ∷ bs) h = take_sets n (set d p b) (suc p) bs (omega arith) ∙ take-set-le n d p b h

-- what lies behind stays
pub drop_sets : (n : ℕ) (d : List ℕ) (p : ℕ) (bs : List ℕ) → p + length bs ≤ n → drop n (sets d p bs) ≡ drop n d
drop_sets n d p [] h = refl
drop_sets n d p (b ∷ bs) h = drop_sets n (set d p b) (suc p) bs (omega arith) ∙ drop-set-lt n d p b (omega arith)

-- what fits is what counts
pub sets_fits : {A : Type 0} (d : List A) (p : ℕ) (bs : List A) (n : ℕ) → length d - p ≤ n → sets d p (take n bs) ≡ sets d p bs
sets_fits d p [] zero h = refl
sets_fits d p [] (suc n) h = refl
sets_fits d p (b ∷ bs) zero h = sym (sets_past d p (b ∷ bs) (omega arith))
sets_fits d p (b ∷ bs) (suc n) h = sets_fits (set d p b) (suc p) bs n (rw length-set (omega arith))

-- a place at the cap stores what the true place would: both are past the end
pub sets_more : (d : List ℕ) (p n : ℕ) (bs : List ℕ) → length d ≤ cap → sets d (more p n) bs ≡ sets d (p + n) bs
sets_more d p n bs h = go (leb (p + n) cap) refl
  where
    go : (t : Bool) → leb (p + n) cap ≡ t → sets d (min (p + n) cap) bs ≡ sets d (p + n) bs
    go true e = rw (min-eq_left (leb-true _ _ e))
    go false e = let q : cap < p + n = leb-false _ _ e in
        rw (min-eq_right (le_of_lt q)) (sets_past d cap bs h ∙ sym (sets_past d (p + n) bs (omega arith)))

-- a count goes on where it was
pub more_more : (at n m : ℕ) → more (more at n) m ≡ more at (n + m)
more_more at n m = omega arith

-- ---- a list that begins at place k

placed_is : (k : ℕ) (d : List ℕ) (at : ℕ) (items : List ℕ) → placed k d at items ≡ sets d (at - k) (drop (k - at) items)
placed_is zero d at items = rw (zero-sub at, sub-zero at)
placed_is (suc k) d at items = refl

placed_length : (k : ℕ) (d : List ℕ) (at : ℕ) (items : List ℕ) → length (placed k d at items) ≡ length d
placed_length k d at items = rw (placed_is k d at items) (length-sets d (at - k) (drop (k - at) items))

drop_append : (n : ℕ) (xs ys : List ℕ) → drop n (xs ++ ys) ≡ drop n xs ++ drop (n - length xs) ys
drop_append zero xs ys = rw (zero-sub (length xs))
drop_append (suc n) [] ys = rw (sub-zero (suc n))
drop_append (suc n) (x ∷ xs) ys = let e : suc n - suc (length xs) ≡ n - length xs = omega arith in rw e (drop_append n xs ys)

-- a place at the cap stores what the true place would: both are past the end
placed_more : (k : ℕ) (d : List ℕ) (p n : ℕ) (bs : List ℕ) → length d ≤ cap - k → placed k d (more p n) bs ≡ placed k d (p + n) bs
placed_more k d p n bs h = go (leb (p + n) cap) refl
  where
    go : (t : Bool) → leb (p + n) cap ≡ t → placed k d (min (p + n) cap) bs ≡ placed k d (p + n) bs
    go true e = rw (min-eq_left (leb-true _ _ e))
    go false e =
        let q : cap < p + n = leb-false _ _ e in
        let l : length d ≤ p + n - k = omega arith in
        rw (min-eq_right (le_of_lt q)) (placed_is k d cap bs ∙ sets_past d (cap - k) (drop (k - cap) bs) h ∙ sym (sets_past d (p + n - k) (drop (k - (p + n)) bs) l) ∙ sym (placed_is k d (p + n) bs))

-- where xs ends in the list, and how much of bs lies before place k
placed_append : (k : ℕ) (d : List ℕ) (at : ℕ) (xs bs : List ℕ) → placed k (placed k d at xs) (at + length xs) bs ≡ placed k d at (xs ++ bs)
placed_append k d at xs bs =
    let a : k - (at + length xs) ≡ k - at - length xs = omega arith in
    rw (placed_is k d at xs, placed_is k (sets d (at - k) (drop (k - at) xs)) (at + length xs) bs, placed_is k d at (xs ++ bs), drop_append (k - at) xs bs, a)
    (go (leb (k - at) (length xs)) refl)
  where
    go : (t : Bool) → leb (k - at) (length xs) ≡ t → sets (sets d (at - k) (drop (k - at) xs)) (at + length xs - k) (drop (k - at - length xs) bs) ≡ sets d (at - k) (drop (k - at) xs ++ drop (k - at - length xs) bs)
    go true e =
        let q : k - at ≤ length xs = leb-true _ _ e in
        let p : at + length xs - k ≡ at - k + length (drop (k - at) xs) = omega (arith, length-drop (k - at) xs) in
        rw p (sets_append d (at - k) (drop (k - at) xs) (drop (k - at - length xs) bs))
    go false e =
        let q : length xs < k - at = leb-false _ _ e in
        let p : at + length xs - k ≡ at - k = omega arith in
        rw (p, drop_of_length-le xs (le_of_lt q))

-- nothing stored
pub stored_none : {k : ℕ} (d : List ℕ) (at : ℕ) → StoredAt k d at [] (more at 0) d
stored_none {k} d at = record { counted = refl; stored = sym (placed_is k d at [] ∙ rw (drop-nil {A = ℕ} (k - at))) }

pub unmoved : {k : ℕ} {d : List ℕ} {at n : ℕ} → at ≤ cap → n ≡ at → StoredAt k d at [] n d
unmoved {k} {d} {at} h e = record { counted = omega arith; stored = (stored_none {k = k} d at).stored }

-- a, and then b behind it
pub stored_append : {k : ℕ} {d d₁ d₂ : List ℕ} {at p q : ℕ} (a b : List ℕ) → length d ≤ cap - k → StoredAt k d at a p d₁ → StoredAt k d₁ p b q d₂ → StoredAt k d at (a ++ b) q d₂
stored_append {k} {d} {d₁} {d₂} {at} {p} {q} a b h s t = record {
  counted = rw length-append (t.counted ∙ rw s.counted (more_more at (length a) (length b)));
  stored = t.stored ∙ rw (s.stored, s.counted) (placed_more k (placed k d at a) at (length a) b (rw placed_length h) ∙ placed_append k d at a b);
}

-- the list keeps its length
pub stored_length : {k : ℕ} {d d₁ : List ℕ} {at p : ℕ} (a : List ℕ) → StoredAt k d at a p d₁ → length d₁ ≡ length d
stored_length {k} {d} {d₁} {at} {p} a s = rw s.stored (placed_length k d at a)

-- the place behind what was stored is at most the cap
pub stored_small : {k : ℕ} {d d₁ : List ℕ} {at p : ℕ} (a : List ℕ) → StoredAt k d at a p d₁ → p ≤ cap
stored_small {k} {d} {d₁} {at} {p} a s = rw s.counted (omega arith)

-- one more item of a run
pub sets_snoc : {A : Type 0} (d : List A) (p : ℕ) (xs : List A) (n : ℕ) (b : A) → length xs ≡ n → set (sets d p xs) (p + n) b ≡ sets d p (xs ++ (b ∷ []))
sets_snoc d p xs n b e = rw (← e) (sets_append d p xs (b ∷ []))

-- a turn of a loop that stores the list xs item by item
pub sets_next : {A : Type 0} (z : A) (d : List A) (p : ℕ) (xs : List A) (i : ℕ) {e : List A} {v : A} → e ≡ sets d p (take i xs) → i < length xs → v ≡ get_or xs i z
    → set e (p + i) v ≡ sets d p (take (i + 1) xs)
sets_next z d p xs i {e} {v} s h q = rw (add-one, take-suc xs i z, s, q) (sets_snoc d p (take i xs) i (get_or xs i z) (rw length-take (omega arith)))

-- the same of numbers
pub sets_turn : (d : List ℕ) (p : ℕ) (xs : List ℕ) (i : ℕ) {e : List ℕ} {v : ℕ} → e ≡ sets d p (take i xs) → i < length xs → v ≡ get_or xs i 0
    → set e (p + i) v ≡ sets d p (take (i + 1) xs)
sets_turn = sets_next 0

-- so many as fit are as good as all
pub fits_take : {A : Type 0} (d : List A) (p : ℕ) (ys : List A) (len k : ℕ) → k ≡ min (length (take len ys)) (length d - p) → sets d p (take k ys) ≡ sets d p (take len ys)
fits_take d p ys len k e =
    let q : length (take len ys) ≡ min len (length ys) = length-take len ys in
    let h : k ≤ len = omega arith in
    rw (← take-take k len ys h) (go (leb (length d - p) (length (take len ys))) refl)
  where
    go : (t : Bool) → leb (length d - p) (length (take len ys)) ≡ t → sets d p (take k (take len ys)) ≡ sets d p (take len ys)
    go true f = let g : length d - p ≤ length (take len ys) = leb-true _ _ f in sets_fits d p (take len ys) k (omega arith)
    go false f = let g : length (take len ys) < length d - p = leb-false _ _ f in let j : length (take len ys) ≤ k = omega arith in rw (take_all k (take len ys) j)

pub take_replicate : (n k b : ℕ) → k ≤ n → take k (replicate n b) ≡ replicate k b
take_replicate n zero b h = refl
take_replicate zero (suc k) b h = absurd (not-suc-le-zero h)
take_replicate (suc n) (suc k) b h = ap (λ (r : List ℕ). b ∷ r) (take_replicate n k b (omega arith))

-- how much of a stretch there is
pub length_stretch : {A : Type 0} (s : List A) (start len : ℕ) → length (stretch s start len) ≡ min len (length s - start)
length_stretch s start len = length-take len (drop start s) ∙ ap (λ (n : ℕ). min len n) (length-drop start s)

-- what the storing functions show: so many were stored as fit, and all were counted
pub stored_fit : {A : Type 0} (d : List A) (at : ℕ) (ys : List A) (len : ℕ) {n k q : ℕ} {d' : List A}
    → n ≡ length (take len ys) → k ≡ min n (length d - at) → d' ≡ sets d at (take k ys) → q ≡ more at n → Stored d at (take len ys) q d'
stored_fit d at ys len {n} {k} en ek es eq = record {
  counted = rw (← en) eq;
  stored = es ∙ fits_take d at ys len k (rw (← en) ek);
}

pub drop_take : {A : Type 0} (m n : ℕ) (l : List A) → drop m (take n l) ≡ take (n - m) (drop m l)
drop_take zero n l = rw (sub-zero n)
drop_take (suc m) zero l = rw (zero-sub (suc m))
drop_take (suc m) (suc n) [] = sym (take-nil (suc n - suc m))
drop_take (suc m) (suc n) (x ∷ l) = let e : suc n - suc m ≡ n - m = omega arith in rw e (drop_take m n l)

pub sized : (ys : List ℕ) (count n : ℕ) → n ≡ min count (10 - 0) → length ys ≡ 10 → n ≡ length (take count ys)
sized ys count n e l = let q : length (take count ys) ≡ min count (length ys) = length-take count ys in omega arith

-- of a list that begins at place p: `before` of them lie before it, and the first of the others comes to `start`
pub noted_fit : (p : ℕ) (d : List ℕ) (at : ℕ) (ys : List ℕ) (len : ℕ) {n before start q : ℕ} {d' : List ℕ}
    → n ≡ length (take len ys) → before ≡ min n (p - at) → start ≡ at - p → d' ≡ sets d start (stretch ys before (len - before)) → q ≡ more at n
    → StoredAt p d at (take len ys) q d'
noted_fit p d at ys len {n} {before} {start} en eb es ed eq =
    let b : before ≡ min (length (take len ys)) (p - at) = rw (← en) eb in
    let r : drop (p - at) (take len ys) ≡ stretch ys before (len - before) = sym (drop_min (p - at) (take len ys)) ∙ rw (min_comm (p - at) (length (take len ys)), ← b) (drop_take before len ys) in
    record {
      counted = rw (← en) eq;
      stored = ed ∙ rw (← r, es) (sym (placed_is p d at (take len ys)));
    }

pub stored_run : (d : List ℕ) (at b n : ℕ) {k q : ℕ} {d' : List ℕ}
    → k ≡ min n (length d - at) → d' ≡ sets d at (replicate k b) → q ≡ more at n → Stored d at (replicate n b) q d'
stored_run d at b n {k} {q} {d'} ek es eq =
    let all : take n (replicate n b) ≡ replicate n b = take_replicate n n b (omega arith) in
    let some : take k (replicate n b) ≡ replicate k b = take_replicate n k b (omega arith) in
    rw all at (stored_fit d at (replicate n b) n (sym (ap length all ∙ length-replicate n b)) ek (rw (← some) at es) eq)

-- ---- a whole that is stored piece by piece

-- from `start` on the list d₀, which begins at place k, was to take the whole; it is d by now, the next place is `at`, and `rest` is still to come
pub record SoFarAt (k : ℕ) (whole d₀ : List ℕ) (start : ℕ) (d : List ℕ) (at : ℕ) (rest : List ℕ) : Type 0 where
  pub written : List ℕ
  pub stored : StoredAt k d₀ start written at d
  pub adds_up : written ++ rest ≡ whole

abbrev pub SoFar : List ℕ → List ℕ → ℕ → List ℕ → ℕ → List ℕ → Type 0
SoFar = SoFarAt 0

pub nothing_yet : {k : ℕ} {whole d : List ℕ} {start at : ℕ} (written rest : List ℕ) {d₁ : List ℕ} → StoredAt k d start written at d₁ → whole ≡ written ++ rest
    → SoFarAt k whole d start d₁ at rest
nothing_yet written rest s e = record { written = written; stored = s; adds_up = sym e }

-- the next piece
pub go_on : {k : ℕ} {whole d₀ d d₁ : List ℕ} {start at next : ℕ} {rest : List ℕ} (piece rest' : List ℕ) → length d₀ ≤ cap - k
    → SoFarAt k whole d₀ start d at rest → rest ≡ piece ++ rest' → StoredAt k d at piece next d₁ → SoFarAt k whole d₀ start d₁ next rest'
go_on piece rest' h w e s = record {
  written = w.written ++ piece;
  stored = stored_append w.written piece h w.stored s;
  adds_up = append_assoc w.written piece rest' ∙ rw (← e) w.adds_up;
}

-- the last piece
pub all_there : {k : ℕ} {whole d₀ d d₁ : List ℕ} {start at next : ℕ} {rest : List ℕ} → length d₀ ≤ cap - k
    → SoFarAt k whole d₀ start d at rest → StoredAt k d at rest next d₁ → StoredAt k d₀ start whole next d₁
all_there {rest = rest} h w s = rw w.adds_up at (stored_append w.written rest h w.stored s)

-- ---- records of k numbers each

-- one after the other
unfoldable pub flat : List (List ℕ) → List ℕ
flat [] = []
flat (r ∷ rs) = r ++ flat rs

abbrev pub Each : ℕ → List (List ℕ) → Type 0
Each k [] = Unit {0}
Each k (r ∷ rs) = (length r ≡ k) × Each k rs

take_flat : (k : ℕ) (rs : List (List ℕ)) (j : ℕ) → Each k rs → take (j * k) (flat rs) ≡ flat (take j rs)
unfolding flat
take_flat k rs zero h = rw zero-mul
take_flat k [] (suc j) h = take-nil (suc j * k)
take_flat k (r ∷ rs) (suc j) h =
    let e : suc j * k ≡ length r + j * k = rw h.0 (suc-mul j k ∙ add_comm (j * k) k) in
    rw e (take-append-add r (flat rs) (j * k) ∙ ap (λ (l : List ℕ). r ++ l) (take_flat k rs j h.1))

-- where a list holds n records, those that fit are stored whole, and no part of another
pub records_fit : (d : List ℕ) (k n m : ℕ) (rs : List (List ℕ)) → length d ≡ n * k → Each k rs → sets d (m * k) (flat rs) ≡ sets d (m * k) (flat (take (n - m) rs))
records_fit d k n m rs e h =
    sym (sets_fits d (m * k) (flat rs) ((n - m) * k) (rw (e, apart) (le_refl (n * k - m * k))))
    ∙ ap (λ (l : List ℕ). sets d (m * k) l) (take_flat k rs (n - m) h)
  where
    apart : (n - m) * k ≡ n * k - m * k
    apart = mul_comm (n - m) k ∙ mul-sub k n m ∙ rw (mul_comm k n, mul_comm k m)
