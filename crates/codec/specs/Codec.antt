-- Codecs: a reader by place and end, an encoder, and the two laws that tie them, once for each way to build one.
use Rattle.std.specs.Prelude.{ℕ, zero, suc, ◌+◌, ◌*◌, ◌/◌, ◌%◌, ◌≤◌, ◌<◌, ◌≡◌, refl, List, [], ◌∷◌, ◌++◌, ◌⊎◌, Bool, true, false, length, get_or, leb}
use Rattle.std.proofs.Common.{sym, ap, subst, ◌∙◌, inl, inr, arith, add-zero, length-append, le-leb, leb-true}
use Rattle.std.proofs.lemmas.Bool.{lt-leb}

-- what a reader gives: a value and the place behind it, or nothing
pub data Got (A : Type 0) : Type 0 where
  got : A → ℕ → Got A
  bad : Got A

module _ {A B : Type 0} where
  abbrev pub bind : Got A → (A → ℕ → Got B) → Got B
  bind (got v n) f = f v n
  bind bad f = bad

abbrev pub pick {ℓ} : {A : Type ℓ} → Bool → A → A → A
pick true x y = x
pick false x y = y

-- l stands in b from the place at
abbrev pub Here : List ℕ → ℕ → List ℕ → Type 0
Here b at [] = Unit {0}
Here b at (x ∷ l) = (get_or b at 0 ≡ x) × Here b (at + 1) l

abbrev pub Bytes : List ℕ → Type 0
Bytes b = (i : ℕ) → get_or b i 0 < 256

pub here_l : (b : List ℕ) (at : ℕ) (l m : List ℕ) → Here b at (l ++ m) → Here b at l
here_l b at [] m h = tt
here_l b at (x ∷ l) m h = (h.0, here_l b (at + 1) l m h.1)

pub here_r : (b : List ℕ) (at : ℕ) (l m : List ℕ) → Here b at (l ++ m) → Here b (at + length l) m
here_r b at [] m h = rw add-zero h
here_r b at (x ∷ l) m h =
    let e : at + 1 + length l ≡ at + suc (length l) = omega arith in
    rw (← e) (here_r b (at + 1) l m h.1)

pub here_join : (b : List ℕ) (at : ℕ) (l m : List ℕ) → Here b at l → Here b (at + length l) m → Here b at (l ++ m)
here_join b at [] m h k = rw add-zero at k
here_join b at (x ∷ l) m h k =
    let e : at + suc (length l) ≡ at + 1 + length l = omega arith in
    (h.0, here_join b (at + 1) l m h.1 (rw e at k))

-- what a reading shows: the value fits, and its code stands there, up to the next place, within the end
pub record Stood {A : Type 0} (Fits : A → Type 0) (enc : A → List ℕ) (b : List ℕ) (at e : ℕ) (v : A) (n : ℕ) : Type 0 where
  pub fits : Fits v
  pub next : n ≡ at + length (enc v)
  pub within : n ≤ e
  pub here : Here b at (enc v)

pub record Codec (A : Type 0) : Type 1 where
  pub read : List ℕ → ℕ → ℕ → Got A
  pub enc : A → List ℕ
  pub Fits : A → Type 0
  pub past : (b : List ℕ) (at e : ℕ) → e < at → read b at e ≡ bad
  pub there : (b : List ℕ) (at e : ℕ) (v : A) → Fits v → Here b at (enc v) → at + length (enc v) ≤ e → read b at e ≡ got v (at + length (enc v))
  pub back : (b : List ℕ) (at e : ℕ) (v : A) (n : ℕ) → Bytes b → read b at e ≡ got v n → Stood Fits enc b at e v n

-- ---- nothing: no bytes
unfoldable pub unit_c : Codec (Unit {0})
unit_c = record {
  read = λ b at e. pick (leb at e) (got tt at) bad;
  enc = λ v. [];
  Fits = λ v. Unit {0};
  past = λ b at e h. simp (lt-leb _ _ h);
  there = λ b at e v f h q. let p : at ≤ e = omega arith in simp (le-leb _ _ p, add-zero);
  back = λ b at e v n bs r. go b at e v n (leb at e) refl r;
}
  where
    go : (b : List ℕ) (at e : ℕ) (v : Unit {0}) (n : ℕ) (t : Bool) → leb at e ≡ t → pick t (got tt at) bad ≡ got v n → Stood (λ (v : Unit {0}). Unit {0}) (λ v. []) b at e v n
    go b at e v n true q r = let s : at ≡ n = cc in let u : at ≤ e = leb-true _ _ q in record { fits = tt; next = omega arith; within = omega arith; here = tt }
    go b at e v n false q r = absurd (let z : ◌≡◌ {A = ℕ} 0 1 = cc in omega arith)

-- ---- a number in k bytes, the lowest first
unfoldable pub le : ℕ → List ℕ → ℕ → ℕ
le zero b at = 0
le (suc k) b at = get_or b at 0 + 256 * le k b (at + 1)

abbrev pub enc_le : ℕ → ℕ → List ℕ
enc_le zero v = []
enc_le (suc k) v = v % 256 ∷ enc_le k (v / 256)

pub length_enc_le : (k v : ℕ) → length (enc_le k v) ≡ k
length_enc_le zero v = refl
length_enc_le (suc k) v = ap suc (length_enc_le k (v / 256))

-- numbers of k bytes are below this
abbrev pub cap : ℕ → ℕ
cap zero = 1
cap (suc k) = 256 * cap k

pub le_there : (k : ℕ) (b : List ℕ) (at v : ℕ) → v < cap k → Here b at (enc_le k v) → le k b at ≡ v
unfolding le
le_there zero b at v q h = omega arith
le_there (suc k) b at v q h =
    let i : le k b (at + 1) ≡ v / 256 = le_there k b (at + 1) (v / 256) (omega arith) h.1 in
    let j : get_or b at 0 ≡ v % 256 = h.0 in
    rw (i, j) (omega arith)

pub le_back : (k : ℕ) (b : List ℕ) (at : ℕ) → Bytes b → (le k b at < cap k) × Here b at (enc_le k (le k b at))
unfolding le
le_back zero b at bs = (omega arith, tt)
le_back (suc k) b at bs = go (le k b (at + 1)) (bs at) (le_back k b (at + 1) bs)
  where
    go : (y : ℕ) → get_or b at 0 < 256 → (y < cap k) × Here b (at + 1) (enc_le k y) → (get_or b at 0 + 256 * y < 256 * cap k) × Here b at (enc_le (suc k) (get_or b at 0 + 256 * y))
    go y q h =
        let d : (get_or b at 0 + 256 * y) / 256 ≡ y = omega arith in
        (omega arith, (omega arith, rw d h.1))

unfoldable pub le_c : ℕ → Codec ℕ
le_c k = record {
  read = λ b at e. pick (leb (at + k) e) (got (le k b at) (at + k)) bad;
  enc = enc_le k;
  Fits = λ v. v < cap k;
  past = λ b at e h. let q : e < at + k = omega arith in simp (lt-leb _ _ q);
  there = λ b at e v f h q. let p : at + k ≤ e = rw length_enc_le at q in rw (length_enc_le, le-leb _ _ p, le_there k b at v f h);
  back = λ b at e v n bs r. go b at e v n bs (leb (at + k) e) refl r;
}
  where
    go : (b : List ℕ) (at e v n : ℕ) → Bytes b → (t : Bool) → leb (at + k) e ≡ t → pick t (got (le k b at) (at + k)) bad ≡ got v n → Stood (λ (v : ℕ). v < cap k) (enc_le k) b at e v n
    go b at e v n bs true q r =
        let s : at + k ≡ n = cc in
        let w : le k b at ≡ v = cc in
        let u : at + k ≤ e = leb-true _ _ q in
        let l = le_back k b at bs in
        record { fits = rw (← w) l.0; next = rw length_enc_le (sym s); within = omega arith; here = rw (← w) l.1 }
    go b at e v n bs false q r = absurd (let z : ◌≡◌ {A = ℕ} 0 1 = cc in omega arith)

-- ---- one after the other; the second may depend on the first

module _ {A : Type 0} {B : A → Type 0} (C : Codec A) (D : (a : A) → Codec (B a)) where
  abbrev pub pair_read : List ℕ → ℕ → ℕ → Got ((a : A) × B a)
  pair_read b at e = bind (C.read b at e) (λ x n. bind ((D x).read b n e) (λ y m. got (x, y) m))

  abbrev pub pair_enc : (a : A) × B a → List ℕ
  pair_enc v = C.enc v.0 ++ (D v.0).enc v.1

  abbrev pub PairFits : (a : A) × B a → Type 0
  PairFits v = C.Fits v.0 × (D v.0).Fits v.1

  pub pair_there : (b : List ℕ) (at e : ℕ) (v : (a : A) × B a) → PairFits v → Here b at (pair_enc v) → at + length (pair_enc v) ≤ e → pair_read b at e ≡ got v (at + length (pair_enc v))
  pair_there b at e v f h q =
      let x : List ℕ = C.enc v.0 in
      let y : List ℕ = (D v.0).enc v.1 in
      let l : length (pair_enc v) ≡ length x + length y = length-append x y in
      let i : C.read b at e ≡ got v.0 (at + length x) = C.there b at e v.0 f.0 (here_l b at x y h) (omega arith) in
      let j : (D v.0).read b (at + length x) e ≡ got v.1 (at + length x + length y) = (D v.0).there b (at + length x) e v.1 f.1 (here_r b at x y h) (omega arith) in
      let k : at + length x + length y ≡ at + length (pair_enc v) = omega arith in
      rw (i, j, k)

  pub pair_back : (b : List ℕ) (at e : ℕ) (v : (a : A) × B a) (n : ℕ) → Bytes b → pair_read b at e ≡ got v n → Stood PairFits pair_enc b at e v n
  pair_back b at e v n bs r = first (C.read b at e) refl r
    where
      second : (x : A) (p : ℕ) → Stood C.Fits C.enc b at e x p → (g : Got (B x)) → (D x).read b p e ≡ g → bind g (λ y m. got (x, y) m) ≡ got v n → Stood PairFits pair_enc b at e v n
      second x p s (got y m) q r' =
          let t : Stood (D x).Fits (D x).enc b p e y m = (D x).back b p e y m bs q in
          let l : length (C.enc x ++ (D x).enc y) ≡ length (C.enc x) + length ((D x).enc y) = length-append (C.enc x) ((D x).enc y) in
          let i : m ≡ n = cc in
          let w : ◌≡◌ {A = (a : A) × B a} (x, y) v = cc in
          let u : p ≡ at + length (C.enc x) = s.next in
          let u' : m ≡ p + length ((D x).enc y) = t.next in
          let u'' : m ≤ e = t.within in
          subst (λ (z : (a : A) × B a). Stood PairFits pair_enc b at e z n) w
          (record { fits = (s.fits, t.fits); next = omega arith; within = omega arith; here = here_join b at (C.enc x) ((D x).enc y) s.here (rw u at t.here) })
      second x p s bad q r' = absurd (let z : ◌≡◌ {A = ℕ} 0 1 = cc in omega arith)

      first : (g : Got A) → C.read b at e ≡ g → bind g (λ x p. bind ((D x).read b p e) (λ y m. got (x, y) m)) ≡ got v n → Stood PairFits pair_enc b at e v n
      first (got x p) q r' = second x p (C.back b at e x p bs q) ((D x).read b p e) refl r'
      first bad q r' = absurd (let z : ◌≡◌ {A = ℕ} 0 1 = cc in omega arith)

  unfoldable pub dep_c : Codec ((a : A) × B a)
  dep_c = record {
    read = pair_read;
    enc = pair_enc;
    Fits = PairFits;
    past = λ b at e h. rw (C.past b at e h);
    there = pair_there;
    back = pair_back;
  }

infixr 40 ◌⊗◌
abbrev pub ◌⊗◌ : {A B : Type 0} → Codec A → Codec B → Codec (A × B)
C ⊗ D = dep_c C (λ _. D)

-- ---- a record or a case of its own type, for a tuple or a sum

module _ {A B : Type 0} (f : A → B) (g : B → A) (fg : (y : B) → f (g y) ≡ y) (gf : (x : A) → g (f x) ≡ x) (C : Codec A) where
  abbrev pub map_read : List ℕ → ℕ → ℕ → Got B
  map_read b at e = bind (C.read b at e) (λ x n. got (f x) n)

  pub map_back : (b : List ℕ) (at e : ℕ) (v : B) (n : ℕ) → Bytes b → map_read b at e ≡ got v n → Stood (λ y. C.Fits (g y)) (λ y. C.enc (g y)) b at e v n
  map_back b at e v n bs r = go (C.read b at e) refl r
    where
      go : (r' : Got A) → C.read b at e ≡ r' → bind r' (λ x m. got (f x) m) ≡ got v n → Stood (λ y. C.Fits (g y)) (λ y. C.enc (g y)) b at e v n
      go (got x m) q h =
          let s : Stood C.Fits C.enc b at e x m = C.back b at e x m bs q in
          let w : f x ≡ v = cc in
          let k : x ≡ g v = sym (gf x) ∙ ap g w in
          let i : m ≡ n = cc in
          record { fits = rw k at s.fits; next = sym i ∙ s.next ∙ rw k; within = rw i at s.within; here = rw k at s.here }
      go bad q h = absurd (let z : ◌≡◌ {A = ℕ} 0 1 = cc in omega arith)

  unfoldable pub map_c : Codec B
  map_c = record {
    read = map_read;
    enc = λ y. C.enc (g y);
    Fits = λ y. C.Fits (g y);
    past = λ b at e h. rw (C.past b at e h);
    there = λ b at e v fi h q. rw (C.there b at e (g v) fi h q, fg v);
    back = map_back;
  }

-- ---- a value that passes a test

module _ {A : Type 0} (P : A → Bool) (C : Codec A) where
  abbrev pub when_read : List ℕ → ℕ → ℕ → Got A
  when_read b at e = bind (C.read b at e) (λ x n. pick (P x) (got x n) bad)

  pub when_back : (b : List ℕ) (at e : ℕ) (v : A) (n : ℕ) → Bytes b → when_read b at e ≡ got v n → Stood (λ x. C.Fits x × (P x ≡ true)) C.enc b at e v n
  when_back b at e v n bs r = go (C.read b at e) refl r
    where
      tested : (x : A) (m : ℕ) → C.read b at e ≡ got x m → (t : Bool) → P x ≡ t → pick t (got x m) bad ≡ got v n → Stood (λ x. C.Fits x × (P x ≡ true)) C.enc b at e v n
      tested x m q true p h =
          let w : x ≡ v = cc in
          let i : m ≡ n = cc in
          let s : Stood C.Fits C.enc b at e v n = C.back b at e v n bs (cc) in
          record { fits = (s.fits, rw w at p); next = s.next; within = s.within; here = s.here }
      tested x m q false p h = absurd (let z : ◌≡◌ {A = ℕ} 0 1 = cc in omega arith)

      go : (r' : Got A) → C.read b at e ≡ r' → bind r' (λ x m. pick (P x) (got x m) bad) ≡ got v n → Stood (λ x. C.Fits x × (P x ≡ true)) C.enc b at e v n
      go (got x m) q h = tested x m q (P x) refl h
      go bad q h = absurd (let z : ◌≡◌ {A = ℕ} 0 1 = cc in omega arith)

  unfoldable pub when_c : Codec A
  when_c = record {
    read = when_read;
    enc = C.enc;
    Fits = λ x. C.Fits x × (P x ≡ true);
    past = λ b at e h. rw (C.past b at e h);
    there = λ b at e v fi h q. rw (C.there b at e v fi.0 h q, fi.1);
    back = when_back;
  }

-- ---- an enum: the number of the case in a byte, and its fields
pub record Cases (A : Type 0) : Type 1 where
  pub cases : ℕ
  pub case_of : A → ℕ
  pub read_case : ℕ → List ℕ → ℕ → ℕ → Got A
  pub enc_case : A → List ℕ
  pub FitsCase : A → Type 0
  pub above : (k : ℕ) (b : List ℕ) (at e : ℕ) → cases ≤ k → read_case k b at e ≡ bad
  pub is_case : (k : ℕ) (b : List ℕ) (at e : ℕ) (v : A) (n : ℕ) → read_case k b at e ≡ got v n → case_of v ≡ k
  pub there_case : (b : List ℕ) (at e : ℕ) (v : A) → FitsCase v → Here b at (enc_case v) → at + length (enc_case v) ≤ e → read_case (case_of v) b at e ≡ got v (at + length (enc_case v))
  pub back_case : (k : ℕ) (b : List ℕ) (at e : ℕ) (v : A) (n : ℕ) → Bytes b → read_case k b at e ≡ got v n → (case_of v ≡ k) × Stood FitsCase enc_case b at e v n

unfoldable pub end_c : Cases ⊥
end_c = record {
  cases = 0;
  above = λ k b at e h. refl;
  is_case = λ k b at e v. absurd v;
  case_of = λ v. absurd v;
  read_case = λ k b at e. bad;
  enc_case = λ v. absurd v;
  FitsCase = λ v. absurd v;
  there_case = λ b at e v. absurd v;
  back_case = λ k b at e v. absurd v;
}

module _ {A B : Type 0} (C : Codec A) (D : Cases B) where
  abbrev pub sum_case : A ⊎ B → ℕ
  sum_case (inl x) = 0
  sum_case (inr y) = suc (D.case_of y)

  abbrev pub sum_read : ℕ → List ℕ → ℕ → ℕ → Got (A ⊎ B)
  sum_read zero b at e = bind (C.read b at e) (λ x n. got (inl x) n)
  sum_read (suc k) b at e = bind (D.read_case k b at e) (λ y n. got (inr y) n)

  abbrev pub sum_enc : A ⊎ B → List ℕ
  sum_enc (inl x) = C.enc x
  sum_enc (inr y) = D.enc_case y

  abbrev pub SumFits : A ⊎ B → Type 0
  SumFits (inl x) = C.Fits x
  SumFits (inr y) = D.FitsCase y

  pub sum_above : (k : ℕ) (b : List ℕ) (at e : ℕ) → suc D.cases ≤ k → sum_read k b at e ≡ bad
  sum_above zero b at e h = absurd (omega arith)
  sum_above (suc k) b at e h = rw (D.above k b at e (omega arith))

  pub sum_case_lem : (k : ℕ) (b : List ℕ) (at e : ℕ) (v : A ⊎ B) (n : ℕ) → sum_read k b at e ≡ got v n → sum_case v ≡ k
  sum_case_lem zero b at e v n r = go (C.read b at e) r
    where
      go : (r' : Got A) → bind r' (λ x n. got (inl x) n) ≡ got v n → sum_case v ≡ 0
      go (got x m) h = let w : inl x ≡ v = cc in subst (λ (z : A ⊎ B). sum_case z ≡ 0) w refl
      go bad h = absurd (let z : ◌≡◌ {A = ℕ} 0 1 = cc in omega arith)
  sum_case_lem (suc k) b at e v n r = go (D.read_case k b at e) refl r
    where
      go : (r' : Got B) → D.read_case k b at e ≡ r' → bind r' (λ x n. got (inr x) n) ≡ got v n → sum_case v ≡ suc k
      go (got y m) q h = let w : inr y ≡ v = cc in subst (λ (z : A ⊎ B). sum_case z ≡ suc k) w (ap suc (D.is_case k b at e y m q))
      go bad q h = absurd (let z : ◌≡◌ {A = ℕ} 0 1 = cc in omega arith)

  pub sum_there : (b : List ℕ) (at e : ℕ) (v : A ⊎ B) → SumFits v → Here b at (sum_enc v) → at + length (sum_enc v) ≤ e → sum_read (sum_case v) b at e ≡ got v (at + length (sum_enc v))
  sum_there b at e (inl x) f h q = rw (C.there b at e x f h q)
  sum_there b at e (inr y) f h q = rw (D.there_case b at e y f h q)

  pub sum_back : (k : ℕ) (b : List ℕ) (at e : ℕ) (v : A ⊎ B) (n : ℕ) → Bytes b → sum_read k b at e ≡ got v n → (sum_case v ≡ k) × Stood SumFits sum_enc b at e v n
  sum_back zero b at e v n bs r = go (C.read b at e) refl r
    where
      go : (r' : Got A) → C.read b at e ≡ r' → bind r' (λ x n. got (inl x) n) ≡ got v n → (sum_case v ≡ 0) × Stood SumFits sum_enc b at e v n
      go (got x m) q h =
          let w : inl x ≡ v = cc in
          let i : m ≡ n = cc in
          let s : Stood C.Fits C.enc b at e x n = C.back b at e x n bs (rw i at q) in
          subst (λ (z : A ⊎ B). (sum_case z ≡ 0) × Stood SumFits sum_enc b at e z n) w
          (refl, record { fits = s.fits; next = s.next; within = s.within; here = s.here })
      go bad q h = absurd (let z : ◌≡◌ {A = ℕ} 0 1 = cc in omega arith)
  sum_back (suc k) b at e v n bs r = go (D.read_case k b at e) refl r
    where
      go : (r' : Got B) → D.read_case k b at e ≡ r' → bind r' (λ x n. got (inr x) n) ≡ got v n → (sum_case v ≡ suc k) × Stood SumFits sum_enc b at e v n
      go (got y m) q h =
          let w : inr y ≡ v = cc in
          let i : m ≡ n = cc in
          let s : (D.case_of y ≡ k) × Stood D.FitsCase D.enc_case b at e y n = D.back_case k b at e y n bs (rw i at q) in
          subst (λ (z : A ⊎ B). (sum_case z ≡ suc k) × Stood SumFits sum_enc b at e z n) w
          (ap suc s.0, record { fits = s.1.fits; next = s.1.next; within = s.1.within; here = s.1.here })
      go bad q h = absurd (let z : ◌≡◌ {A = ℕ} 0 1 = cc in omega arith)

infixr 30 ◌⊕◌
unfoldable pub ◌⊕◌ : {A B : Type 0} → Codec A → Cases B → Cases (A ⊎ B)
C ⊕ D = record { cases = suc D.cases; above = sum_above C D; is_case = sum_case_lem C D; case_of = sum_case C D; read_case = sum_read C D; enc_case = sum_enc C D; FitsCase = SumFits C D; there_case = sum_there C D; back_case = sum_back C D }

-- n cases that hold nothing
abbrev pub Units : ℕ → Type 0
Units zero = ⊥
Units (suc n) = Unit {0} ⊎ Units n

abbrev pub units_c : (n : ℕ) → Cases (Units n)
units_c zero = end_c
units_c (suc n) = unit_c ⊕ units_c n

module _ {A : Type 0} (C : Cases A) where
  abbrev pub enum_read : List ℕ → ℕ → ℕ → Got A
  enum_read b at e = pick (leb (at + 1) e) (C.read_case (get_or b at 0) b (at + 1) e) bad

  abbrev pub enum_enc : A → List ℕ
  enum_enc v = C.case_of v ∷ C.enc_case v

  abbrev pub EnumFits : A → Type 0
  EnumFits v = (C.case_of v < 256) × C.FitsCase v

  pub enum_there : (b : List ℕ) (at e : ℕ) (v : A) → EnumFits v → Here b at (enum_enc v) → at + length (enum_enc v) ≤ e → enum_read b at e ≡ got v (at + length (enum_enc v))
  enum_there b at e v f h q =
      let p : at + 1 ≤ e = omega arith in
      let k : at + 1 + length (C.enc_case v) ≡ at + suc (length (C.enc_case v)) = omega arith in
      let i : C.read_case (C.case_of v) b (at + 1) e ≡ got v (at + 1 + length (C.enc_case v)) = C.there_case b (at + 1) e v f.1 h.1 (omega arith) in
      rw (le-leb _ _ p, h.0, i, k)

  pub enum_back : (b : List ℕ) (at e : ℕ) (v : A) (n : ℕ) → Bytes b → enum_read b at e ≡ got v n → Stood EnumFits enum_enc b at e v n
  enum_back b at e v n bs r = go (leb (at + 1) e) r
    where
      go : (t : Bool) → pick t (C.read_case (get_or b at 0) b (at + 1) e) bad ≡ got v n → Stood EnumFits enum_enc b at e v n
      go true h =
          let s : (C.case_of v ≡ get_or b at 0) × Stood C.FitsCase C.enc_case b (at + 1) e v n = C.back_case (get_or b at 0) b (at + 1) e v n bs h in
          let i : n ≡ at + 1 + length (C.enc_case v) = s.1.next in
          record { fits = (rw s.0 (bs at), s.1.fits); next = omega arith; within = s.1.within; here = (sym s.0, s.1.here) }
      go false h = absurd (let z : ◌≡◌ {A = ℕ} 0 1 = cc in omega arith)

  unfoldable pub enum_c : Codec A
  enum_c = record {
    read = enum_read;
    enc = enum_enc;
    Fits = EnumFits;
    past = λ b at e h. let q : e < at + 1 = omega arith in simp (lt-leb _ _ q);
    there = enum_there;
    back = enum_back;
  }

-- ---- a list: the count, and the items

module _ {A : Type 0} (C : Codec A) where
  abbrev pub items_read : ℕ → List ℕ → ℕ → ℕ → Got (List A)
  items_read zero b at e = got [] at
  items_read (suc n) b at e = bind (C.read b at e) (λ x p. bind (items_read n b p e) (λ xs m. got (x ∷ xs) m))

  abbrev pub items_enc : List A → List ℕ
  items_enc [] = []
  items_enc (x ∷ xs) = C.enc x ++ items_enc xs

  abbrev pub ItemsFit : List A → Type 0
  ItemsFit [] = Unit {0}
  ItemsFit (x ∷ xs) = C.Fits x × ItemsFit xs

  pub items_there : (b : List ℕ) (at e : ℕ) (vs : List A) → ItemsFit vs → Here b at (items_enc vs) → at + length (items_enc vs) ≤ e → items_read (length vs) b at e ≡ got vs (at + length (items_enc vs))
  items_there b at e [] f h q = simp add-zero
  items_there b at e (x ∷ xs) f h q =
      let l : length (C.enc x ++ items_enc xs) ≡ length (C.enc x) + length (items_enc xs) = length-append (C.enc x) (items_enc xs) in
      let i : C.read b at e ≡ got x (at + length (C.enc x)) = C.there b at e x f.0 (here_l b at (C.enc x) (items_enc xs) h) (omega arith) in
      let p : ℕ = at + length (C.enc x) in
      let j : items_read (length xs) b p e ≡ got xs (p + length (items_enc xs)) = items_there b p e xs f.1 (here_r b at (C.enc x) (items_enc xs) h) (omega arith) in
      let k : p + length (items_enc xs) ≡ at + length (C.enc x ++ items_enc xs) = omega arith in
      rw (i, j, k)

  pub items_back : (n : ℕ) (b : List ℕ) (at e : ℕ) (vs : List A) (m : ℕ) → Bytes b → at ≤ e → items_read n b at e ≡ got vs m → (length vs ≡ n) × Stood ItemsFit items_enc b at e vs m
  items_back zero b at e vs m bs q r =
      let i : at ≡ m = cc in
      let w : [] ≡ vs = cc in
      subst (λ (z : List A). (length z ≡ 0) × Stood ItemsFit items_enc b at e z m) w (refl, record { fits = tt; next = omega arith; within = omega arith; here = tt })
  items_back (suc n) b at e vs m bs q r = first (C.read b at e) refl r (λ p ys. items_back n b p e ys m bs)
    where
      second : (x : A) (p : ℕ) → Stood C.Fits C.enc b at e x p → (g : Got (List A)) → items_read n b p e ≡ g → bind g (λ xs k. got (x ∷ xs) k) ≡ got vs m
          → ((ys : List A) → p ≤ e → items_read n b p e ≡ got ys m → (length ys ≡ n) × Stood ItemsFit items_enc b p e ys m) → (length vs ≡ suc n) × Stood ItemsFit items_enc b at e vs m
      second x p s (got xs k) h r' ih =
          let i : k ≡ m = cc in
          let w : x ∷ xs ≡ vs = cc in
          let t : (length xs ≡ n) × Stood ItemsFit items_enc b p e xs m = ih xs s.within (cc) in
          let l : length (C.enc x ++ items_enc xs) ≡ length (C.enc x) + length (items_enc xs) = length-append (C.enc x) (items_enc xs) in
          let u : p ≡ at + length (C.enc x) = s.next in
          let u' : m ≡ p + length (items_enc xs) = t.1.next in
          subst (λ (z : List A). (length z ≡ suc n) × Stood ItemsFit items_enc b at e z m) w
          (ap suc t.0, record { fits = (s.fits, t.1.fits); next = omega arith; within = t.1.within; here = here_join b at (C.enc x) (items_enc xs) s.here (rw u at t.1.here) })
      second x p s bad h r' ih = absurd (let z : ◌≡◌ {A = ℕ} 0 1 = cc in omega arith)

      first : (g : Got A) → C.read b at e ≡ g → bind g (λ x p. bind (items_read n b p e) (λ xs k. got (x ∷ xs) k)) ≡ got vs m
          → ((p : ℕ) (ys : List A) → p ≤ e → items_read n b p e ≡ got ys m → (length ys ≡ n) × Stood ItemsFit items_enc b p e ys m) → (length vs ≡ suc n) × Stood ItemsFit items_enc b at e vs m
      first (got x p) h r' ih = second x p (C.back b at e x p bs h) (items_read n b p e) refl r' (ih p)
      first bad h r' ih = absurd (let z : ◌≡◌ {A = ℕ} 0 1 = cc in omega arith)

  abbrev pub list_read : List ℕ → ℕ → ℕ → Got (List A)
  list_read b at e = bind ((le_c 4).read b at e) (λ n p. items_read n b p e)

  abbrev pub list_enc : List A → List ℕ
  list_enc vs = (le_c 4).enc (length vs) ++ items_enc vs

  abbrev pub ListFits : List A → Type 0
  ListFits vs = (le_c 4).Fits (length vs) × ItemsFit vs

  pub list_there : (b : List ℕ) (at e : ℕ) (vs : List A) → ListFits vs → Here b at (list_enc vs) → at + length (list_enc vs) ≤ e → list_read b at e ≡ got vs (at + length (list_enc vs))
  list_there b at e vs f h q =
      let x : List ℕ = (le_c 4).enc (length vs) in
      let l : length (list_enc vs) ≡ length x + length (items_enc vs) = length-append x (items_enc vs) in
      let i : (le_c 4).read b at e ≡ got (length vs) (at + length x) = (le_c 4).there b at e (length vs) f.0 (here_l b at x (items_enc vs) h) (omega arith) in
      let j : items_read (length vs) b (at + length x) e ≡ got vs (at + length x + length (items_enc vs)) = items_there b (at + length x) e vs f.1 (here_r b at x (items_enc vs) h) (omega arith) in
      let k : at + length x + length (items_enc vs) ≡ at + length (list_enc vs) = omega arith in
      rw (i, j, k)

  pub list_back : (b : List ℕ) (at e : ℕ) (vs : List A) (m : ℕ) → Bytes b → list_read b at e ≡ got vs m → Stood ListFits list_enc b at e vs m
  list_back b at e vs m bs r = first ((le_c 4).read b at e) refl r
    where
      first : (g : Got ℕ) → (le_c 4).read b at e ≡ g → bind g (λ n p. items_read n b p e) ≡ got vs m → Stood ListFits list_enc b at e vs m
      first (got n p) h r' =
          let s : Stood (le_c 4).Fits (le_c 4).enc b at e n p = (le_c 4).back b at e n p bs h in
          let t : (length vs ≡ n) × Stood ItemsFit items_enc b p e vs m = items_back n b p e vs m bs s.within r' in
          let c : n ≡ length vs = sym t.0 in
          let s' : Stood (le_c 4).Fits (le_c 4).enc b at e (length vs) p = rw c at s in
          let l : length (list_enc vs) ≡ length ((le_c 4).enc (length vs)) + length (items_enc vs) = length-append ((le_c 4).enc (length vs)) (items_enc vs) in
          let u : p ≡ at + length ((le_c 4).enc (length vs)) = s'.next in
          let u' : m ≡ p + length (items_enc vs) = t.1.next in
          record { fits = (s'.fits, t.1.fits); next = omega arith; within = t.1.within; here = here_join b at ((le_c 4).enc (length vs)) (items_enc vs) s'.here (rw u at t.1.here) }
      first bad h r' = absurd (let z : ◌≡◌ {A = ℕ} 0 1 = cc in omega arith)

  unfoldable pub list_c : Codec (List A)
  list_c = record {
    read = list_read;
    enc = list_enc;
    Fits = ListFits;
    past = λ b at e h. rw ((le_c 4).past b at e h);
    there = list_there;
    back = list_back;
  }
