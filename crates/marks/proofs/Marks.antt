-- Bytes, identifiers, separators and scales: what their tests are proved by.
use Prim.Native.Nat.{ℕ, ◌+◌, ◌≤◌, ◌<◌}
use mathlib.Core.Path.{◌≡◌, refl, sym, ◌∙◌}
use mathlib.Core.List.{List, [], ◌∷◌}
use mathlib.Core.Bool.{Bool, true, false, not}
use native.Mathlib.Omega.{arith}
use Rattle.std.specs.Prelude.{Option, None, Some}
use lib.ListN.{length, get_or, drop, drop_of_length-le}
use lib.Dec.{ltb}
use Rattle.codec.specs.Codec.{pick, le_c, list_c}
use Rattle.codec.specs.Forms.{opt_c, byte_c, bytes_c, long_c, wide_c}
use Rattle.codec.specs.Skip.{skip, count_at, tag_at, Is}
use Rattle.codec.proofs.Skip.{skip_le}
use Rattle.codec.proofs.Field.{is_list, is_in, is_none, is_some, count_list}
use Rattle.codec.proofs.Ways.{tag_in, tag_case, tag_read, tag_past, tag_within}
use Rattle.codec.specs.Limits.{any, any_of}
use Rattle.format.specs.Words.{member_of, repeats, all_of, between}
use Rattle.format.proofs.Fields.{values_tag, is_int64, is_decimal}
use Rattle.format.specs.Refusal.{upper, digit, textual, separators, identifier, unnamed, scale}
use Rattle.format.specs.Data.{Values, binary, int64, decimal, date32, time32, values_c}
use Rattle.format.specs.Envelope.{Envelope}
use Rattle.says.specs.Says.{Says}
use Rattle.marks.specs.Parts.{stray, marked}
use Rattle.says.proofs.Walk.{byte_is}
use Rattle.says.proofs.Members.{next}

-- ---- identifiers
not_all : (f : ℕ → Bool) (s : List ℕ) → any_of (λ c. not (f c)) s ≡ not (all_of f s)
unfolding any_of all_of
not_all f [] = refl
not_all f (x ∷ xs) = go (f x) (not_all f xs)
  where
    go : (t : Bool) → any_of (λ c. not (f c)) xs ≡ not (all_of f xs) → pick (not t) true (any_of (λ c. not (f c)) xs) ≡ not (pick t (all_of f xs) false)
    go true h = h
    go false h = refl

module _ (b : List ℕ) (e at n : ℕ) (h : n ≡ count_at b at e) where
  pub named_long : (w r : Bool) → w ≡ between 2 3 n → w ≡ true → Says bytes_c b e at (any_of stray) r → Says bytes_c b e at unnamed r
  unfolding unnamed identifier
  named_long w r i j s v k =
      let z : n ≡ length v = h ∙ sym (count_list byte_c b e at v (is_list byte_c b e at v k)) in
      let y : between 2 3 (length v) ≡ true = rw z at (sym i ∙ j) in
      s v k ∙ not_all (λ c. any (upper c ∷ digit c ∷ [])) v ∙ rw y

  pub named_not : (w : Bool) → w ≡ between 2 3 n → w ≡ false → Says bytes_c b e at unnamed true
  unfolding unnamed identifier
  named_not w i j v k =
      let z : n ≡ length v = h ∙ sym (count_list byte_c b e at v (is_list byte_c b e at v k)) in
      let y : between 2 3 (length v) ≡ false = rw z at (sym i ∙ j) in
      rw y

-- ---- separators
module _ (s : List ℕ) (i : ℕ) (h : marked s ≡ marked (drop i s)) where
  pub marked_textual : i < length s → textual (get_or s i 0) ≡ true → true ≡ marked s
  unfolding marked repeats member_of any_of any
  marked_textual l t = sym (h ∙ rw (next s i l, t) (go (pick (member_of (get_or s i 0) (drop (i + 1) s)) true (repeats (drop (i + 1) s)))))
    where
      go : (u : Bool) → pick u true true ≡ true
      go true = refl
      go false = refl

  pub marked_twice : (r : Bool) → i < length s → r ≡ member_of (get_or s i 0) (drop (i + 1) s) → r ≡ true → true ≡ marked s
  unfolding marked repeats any_of any
  marked_twice r l m t = let z : member_of (get_or s i 0) (drop (i + 1) s) ≡ true = sym m ∙ t in sym (h ∙ rw (next s i l, z))

  pub marked_next : (r : Bool) → i < length s → textual (get_or s i 0) ≡ false → r ≡ member_of (get_or s i 0) (drop (i + 1) s) → r ≡ false → marked s ≡ marked (drop (i + 1) s)
  unfolding marked repeats any_of any
  marked_next r l t m w = let z : member_of (get_or s i 0) (drop (i + 1) s) ≡ false = sym m ∙ w in h ∙ rw (next s i l, z, t)

  pub marked_done : length s ≤ i → false ≡ marked s
  unfolding marked repeats any_of any
  marked_done l = sym (h ∙ rw (drop_of_length-le s {i = i} l))

module _ (b : List ℕ) (e x y z k₀ k₁ k₂ k₃ q₁ q₂ q₃ : ℕ) (v : Envelope)
    (h₀ : x ≡ get_or b k₀ 0) (h₁ : y ≡ get_or b k₁ 0) (h₂ : z ≡ get_or b k₂ 0) (e₁ : k₁ ≡ q₁) (e₂ : k₂ ≡ q₂) (e₃ : k₃ ≡ q₃)
    (i₀ : Is byte_c b e k₀ v.element) (i₁ : Is byte_c b e q₁ v.component) (i₂ : Is byte_c b e q₂ v.segment) (i₃ : Is (opt_c byte_c) b e q₃ v.repetition) where
  pub marks_three : (t : ℕ) (r : Bool) → t ≡ tag_at b k₃ e → (t ≡ 1 → ⊥) → r ≡ marked (x ∷ y ∷ z ∷ []) → r ≡ marked (separators v)
  unfolding separators
  marks_three t r h n s = s ∙ rw (byte_is b e x k₀ k₀ v.element h₀ refl i₀, byte_is b e y k₁ q₁ v.component h₁ e₁ i₁, byte_is b e z k₂ q₂ v.segment h₂ e₂ i₂) (go v.repetition i₃)
    where
      go : (o : Option ℕ) → Is (opt_c byte_c) b e q₃ o → marked (v.element ∷ v.component ∷ v.segment ∷ []) ≡ marked (separators (record { sender_qualifier = v.sender_qualifier; sender_id = v.sender_id; receiver_qualifier = v.receiver_qualifier; receiver_id = v.receiver_id; application_sender = v.application_sender; application_receiver = v.application_receiver; date = v.date; time = v.time; usage_indicator = v.usage_indicator; control_number = v.control_number; element = v.element; component = v.component; segment = v.segment; repetition = o; line_break = v.line_break }))
      go None i = refl
      go (Some w) i =
          let m = is_some byte_c b e q₃ w i in
          let l : q₃ + 1 ≤ e = is_in byte_c b e (q₃ + 1) w m.1 in
          absurd (n (h ∙ rw e₃ (tag_in b q₃ e (omega arith)) ∙ m.0))

  pub marks_four : (t p w : ℕ) (r : Bool) → t ≡ tag_at b k₃ e → t ≡ 1 → p ≡ skip (le_c 1) b k₃ e → w ≡ get_or b p 0 → r ≡ marked (x ∷ y ∷ z ∷ w ∷ []) → r ≡ marked (separators v)
  unfolding separators
  marks_four t p w r h n g u s = s ∙ rw (byte_is b e x k₀ k₀ v.element h₀ refl i₀, byte_is b e y k₁ q₁ v.component h₁ e₁ i₁, byte_is b e z k₂ q₂ v.segment h₂ e₂ i₂) (go v.repetition i₃)
    where
      l : k₃ < e
      l = tag_case b k₃ e 1 (sym h ∙ n) (omega arith)

      go : (o : Option ℕ) → Is (opt_c byte_c) b e q₃ o → marked (v.element ∷ v.component ∷ v.segment ∷ w ∷ []) ≡ marked (separators (record { sender_qualifier = v.sender_qualifier; sender_id = v.sender_id; receiver_qualifier = v.receiver_qualifier; receiver_id = v.receiver_id; application_sender = v.application_sender; application_receiver = v.application_receiver; date = v.date; time = v.time; usage_indicator = v.usage_indicator; control_number = v.control_number; element = v.element; component = v.component; segment = v.segment; repetition = o; line_break = v.line_break }))
      go None i = absurd (omega (arith, is_none byte_c b e q₃ i, rw e₃ at (sym (tag_in b k₃ e l) ∙ sym h ∙ n)))
      go (Some c) i =
          let z : p ≡ q₃ + 1 = g ∙ skip_le 1 b k₃ e (omega (arith, l)) ∙ rw e₃ in
          let y : w ≡ c = byte_is b e w p (q₃ + 1) c u z (is_some byte_c b e q₃ c i).1 in
          rw y

-- two tests, then the others
pub two_first : (r x y p q : Bool) (ts : List Bool) → r ≡ pick x true y → x ≡ any (p ∷ q ∷ []) → y ≡ any ts → r ≡ any (p ∷ q ∷ ts)
unfolding any
two_first r x y p q ts h i j = h ∙ rw (i, j) (go p q)
  where
    go : (p q : Bool) → pick (pick p true (pick q true false)) true (any ts) ≡ pick p true (pick q true (any ts))
    go true q = refl
    go false true = refl
    go false false = refl

-- ---- scales
module _ (b : List ℕ) (e at t : ℕ) (h : t ≡ tag_at b at e) where
  pub scale_int : (p q n : ℕ) → t ≡ 1 → p ≡ skip (le_c 1) b at e → q ≡ skip (list_c long_c) b p e → n ≡ get_or b q 0 → (v : Values) → Is values_c b e at v → ltb 38 n ≡ ltb 38 (scale v)
  unfolding scale
  scale_int p q n i j k m (binary x y) u = absurd (omega (arith, values_tag b e at (binary x y) u, tag_read b at e t h 1 i (omega arith)))
  scale_int p q n i j k m (int64 x y) u = let z : n ≡ y = byte_is b e n q _ y m (k ∙ rw (tag_past b at e t h 1 i (omega arith) p j)) (is_int64 b e at x y u).1 in rw z
  scale_int p q n i j k m (decimal x y) u = absurd (omega (arith, values_tag b e at (decimal x y) u, tag_read b at e t h 1 i (omega arith)))
  scale_int p q n i j k m (date32 x) u = absurd (omega (arith, values_tag b e at (date32 x) u, tag_read b at e t h 1 i (omega arith)))
  scale_int p q n i j k m (time32 x) u = absurd (omega (arith, values_tag b e at (time32 x) u, tag_read b at e t h 1 i (omega arith)))

  pub scale_wide : (p q n : ℕ) → t ≡ 2 → p ≡ skip (le_c 1) b at e → q ≡ skip (list_c wide_c) b p e → n ≡ get_or b q 0 → (v : Values) → Is values_c b e at v → ltb 38 n ≡ ltb 38 (scale v)
  unfolding scale
  scale_wide p q n i j k m (binary x y) u = absurd (omega (arith, values_tag b e at (binary x y) u, tag_read b at e t h 2 i (omega arith)))
  scale_wide p q n i j k m (int64 x y) u = absurd (omega (arith, values_tag b e at (int64 x y) u, tag_read b at e t h 2 i (omega arith)))
  scale_wide p q n i j k m (decimal x y) u = let z : n ≡ y = byte_is b e n q _ y m (k ∙ rw (tag_past b at e t h 2 i (omega arith) p j)) (is_decimal b e at x y u).1 in rw z
  scale_wide p q n i j k m (date32 x) u = absurd (omega (arith, values_tag b e at (date32 x) u, tag_read b at e t h 2 i (omega arith)))
  scale_wide p q n i j k m (time32 x) u = absurd (omega (arith, values_tag b e at (time32 x) u, tag_read b at e t h 2 i (omega arith)))

  pub scale_none : (t ≡ 1 → ⊥) → (t ≡ 2 → ⊥) → (v : Values) → Is values_c b e at v → false ≡ ltb 38 (scale v)
  unfolding scale
  scale_none i j (binary x y) u = refl
  scale_none i j (int64 x y) u = absurd (i (sym (tag_within b at e t h (is_in (list_c long_c) b e _ _ (is_int64 b e at x y u).0)) ∙ values_tag b e at (int64 x y) u))
  scale_none i j (decimal x y) u = absurd (j (sym (tag_within b at e t h (is_in (list_c wide_c) b e _ _ (is_decimal b e at x y u).0)) ∙ values_tag b e at (decimal x y) u))
  scale_none i j (date32 x) u = refl
  scale_none i j (time32 x) u = refl
