-- Laws of the definitions of specs/Reads, and words that only proofs use.
use Rattle.std.specs.Prelude.{ℕ, ◌+◌, ◌*◌, ◌≤◌, ◌<◌, ◌≡◌, Bool, true, false, not, get_or, take, drop, Option, None, Some}
use Rattle.std.proofs.Math.Path.{refl, sym}
use Rattle.std.proofs.Common.{ap, ◌∙◌, length-drop, ext_get_or}
use mathlib.Core.List.{List, []}
use native.Mathlib.Omega.{arith}
use Rattle.std.proofs.Math.ListN.{length, get_or-eq_default}
use Rattle.std.proofs.Math.Seq.{get_or-take, get_or-drop, length-take-le}
use Rattle.codec.specs.Codec.{Codec, ◌⊕◌, le, list_c}
use Rattle.codec.specs.Skip.{Is, steps}
use Rattle.codec.specs.Forms.{num_c, byte_c, bytes_c, opt_c, flag_c}
use Rattle.codec.proofs.Field.{is_enum, is_map, is_le, is_list, is_some, is_none, item_of}
use Rattle.codec.proofs.Answers.{byte_item}
use Rattle.format.specs.Spec.{Usage, required, situational, usage_c, Counted, count_segments, count_children, counted_c, Control, control_c, Repeat, repeat_c}
use Rattle.format.proofs.Fields.{usage_tag, counted_tag}
use Rattle.format.specs.Ask.{on}
use Rattle.spec.proofs.Standing.{les_room, repeat_second, control_parts}
use Rattle.spec.specs.Answers.{stretch_of, Holds, HoldsText, counted_of, control_of}
use Rattle.spec.specs.Usage.{is_required}
use Rattle.spec.specs.declared.ids.Stretch.{Stretch}
use Rattle.spec.specs.declared.ids.ControlRule.{ControlRule}
use Rattle.spec.specs.Reads.{ByteSays}

-- the byte of a flag
abbrev pub flag_byte : Bool → ℕ
flag_byte false = 0
flag_byte true = 1

pub flag_tag : (b : List ℕ) (e at : ℕ) (v : Bool) → Is flag_c b e at v → get_or b at 0 ≡ flag_byte v
unfolding flag_c ◌⊕◌
flag_tag b e at false h = sym (is_enum _ b e at _ (is_map _ _ _ _ _ b e at false h)).tag
flag_tag b e at true h = sym (is_enum _ b e at _ (is_map _ _ _ _ _ b e at true h)).tag

-- a stretch of no bytes
pub nothing_held : (b : List ℕ) (s : Stretch) → s.start ≡ 0 → s.len ≡ 0 → Holds b s []
unfolding stretch_of
nothing_held b s k l = record { bytes = rw l; within = omega arith }

module _ (b : List ℕ) (at : ℕ) where
  -- ---- numbers
  pub num_reads : (n : ℕ) → n ≡ le 4 b at → (e v : ℕ) → Is num_c b e at v → n ≡ v
  num_reads n h e v i = h ∙ sym (is_le 4 b e at v i).1

  pub count_reads : {A : Type 0} (C : Codec A) (n : ℕ) → n ≡ le 4 b at → (e : ℕ) (vs : List A) → Is (list_c C) b e at vs → n ≡ length vs
  count_reads C n h e vs i = h ∙ sym (is_list C b e at vs i).counted

  pub byte_reads : (n : ℕ) → n ≡ get_or b at 0 → (e v : ℕ) → Is byte_c b e at v → n ≡ v
  unfolding le
  byte_reads n h e v i = let j : v ≡ le 1 b at = (is_le 1 b e at v i).1 in omega arith

  pub byte_none : get_or b at 0 ≡ 0 → (e : ℕ) (v : Option ℕ) → Is (opt_c byte_c) b e at v → None ≡ v
  byte_none h e None i = refl
  byte_none h e (Some x) i = absurd (omega (arith, (is_some byte_c b e at x i).0))

  -- ---- items of a list of numbers
  pub item_none : (n k : ℕ) → n ≡ le 4 b at → n ≤ k → (e : ℕ) (vs : List ℕ) → Is (list_c num_c) b e at vs → 0 ≡ get_or vs k 0
  item_none n k h q e vs i =
      let j : n ≡ length vs = count_reads num_c n h e vs i in
      let l : length vs ≤ k = omega arith in
      sym (get_or-eq_default vs 0 l)

  pub item_is : (n k x : ℕ) → n ≡ le 4 b at → k < n → x ≡ le 4 b (at + 4 + k * 4) → (e : ℕ) (vs : List ℕ) → Is (list_c num_c) b e at vs → x ≡ get_or vs k 0
  item_is n k x h q j e vs i = let l : length vs ≡ le 4 b at = (is_list num_c b e at vs i).counted in item_of b e x at at 4 k vs j refl i (omega arith)

  -- ---- byte strings
  pub bytes_are : (e n : ℕ) (v : List ℕ) → e ≤ length b → n ≡ length v → Is bytes_c b e at v → take n (drop (at + 4) b) ≡ v
  bytes_are e n v m q i =
      let c : length v ≡ le 4 b at = (is_list byte_c b e at v i).counted in
      let z : at + 4 + le 4 b at * 1 ≤ e = les_room b e at 1 v i in
      let t : length (take n (drop (at + 4) b)) ≡ n = length-take-le n (drop (at + 4) b) (rw (length-drop) (omega arith)) in
      ext_get_or 0 _ v (t ∙ q) (λ j y. let y' : j < n = omega arith in get_or-take n (drop (at + 4) b) j 0 y' ∙ get_or-drop (at + 4) b j 0 ∙ sym (byte_item b e at v j i (omega arith)))

  pub stretch_is : (s : Stretch) → s.start ≡ at + 4 → s.len ≡ le 4 b at → (e : ℕ) (v : List ℕ) → e ≤ length b → Is bytes_c b e at v → Holds b s v
  unfolding stretch_of
  stretch_is s k l e v m i =
      let c : length v ≡ le 4 b at = (is_list byte_c b e at v i).counted in
      let z : at + 4 + le 4 b at * 1 ≤ e = les_room b e at 1 v i in
      record {
        bytes = rw k (bytes_are e s.len v m (l ∙ sym c) i);
        within = omega (arith, k, l);
      }

  pub text_none : get_or b at 0 ≡ 0 → (e : ℕ) (v : Option (List ℕ)) → Is (opt_c bytes_c) b e at v → HoldsText b None v
  text_none h e None i = record { bytes = refl; within = omega arith }
  text_none h e (Some x) i = absurd (omega (arith, (is_some bytes_c b e at x i).0))

  pub text_is : (s : Stretch) → (get_or b at 0 ≡ 0 → ⊥) → ((e : ℕ) (v : List ℕ) → e ≤ length b → Is bytes_c b e (at + 1) v → Holds b s v) → (e : ℕ) (v : Option (List ℕ)) → e ≤ length b → Is (opt_c bytes_c) b e at v → HoldsText b (Some s) v
  text_is s h q e None r i = absurd (h (is_none bytes_c b e at i))
  text_is s h q e (Some x) r i = let w = q e x r (is_some bytes_c b e at x i).1 in record { bytes = ap Some w.bytes; within = w.within }

  -- ---- items of a list of byte strings
  pub string_none : (n k : ℕ) → n ≡ le 4 b at → n ≤ k → (s : Stretch) → s.start ≡ 0 → s.len ≡ 0 → (e : ℕ) (vs : List (List ℕ)) → Is (list_c bytes_c) b e at vs → Holds b s (get_or vs k [])
  string_none n k h q s i l e vs r =
      let c : n ≡ length vs = count_reads bytes_c n h e vs r in
      let j : length vs ≤ k = omega arith in
      rw (get_or-eq_default vs [] j) (nothing_held b s i l)

  pub string_is : (n k p e : ℕ) → n ≡ le 4 b at → k < n → p ≡ steps bytes_c b e k (at + 4) → (vs : List (List ℕ)) → Is (list_c bytes_c) b e at vs → Is bytes_c b e p (get_or vs k [])
  string_is n k p e h q j vs i =
      let l = is_list bytes_c b e at vs i in
      let c : length vs ≡ le 4 b at = l.counted in
      rw j (l.item k [] (omega arith))

  -- ---- yes or no
  pub flag_reads : (x : Bool) → ByteSays b at x → (e : ℕ) (v : Bool) → Is flag_c b e at v → x ≡ v
  flag_reads x h e false i = h.unset (flag_tag b e at false i)
  flag_reads x h e true i = h.set (λ q. omega (arith, flag_tag b e at true i))

  -- ---- required or not
  pub usage_reads : (x : Bool) → ByteSays b at x → (e : ℕ) (v : Usage) → Is usage_c b e at v → not x ≡ is_required v
  usage_reads x h e required i = rw (h.unset (usage_tag b e at required i))
  usage_reads x h e situational i = rw (h.set (λ q. omega (arith, usage_tag b e at situational i)))

  -- ---- how far a repeat row stands behind the one before
  pub step_none : get_or b at 0 ≡ 0 → (e : ℕ) (v : Option Repeat) → Is (opt_c repeat_c) b e at v → 0 ≡ on v (λ (r : Repeat). r.step) 0
  step_none h e None i = refl
  step_none h e (Some x) i = absurd (omega (arith, (is_some repeat_c b e at x i).0))

  pub step_is : (n : ℕ) → (get_or b at 0 ≡ 0 → ⊥) → n ≡ le 4 b (at + 5) → (e : ℕ) (v : Option Repeat) → Is (opt_c repeat_c) b e at v → n ≡ on v (λ (r : Repeat). r.step) 0
  step_is n h q e None i = absurd (h (is_none repeat_c b e at i))
  step_is n h q e (Some x) i = q ∙ sym (is_le 4 b e _ _ (repeat_second b e at x (is_some repeat_c b e at x i).1)).1

  -- ---- control rules
  pub control_none : get_or b at 0 ≡ 0 → (e : ℕ) (v : Option Control) → Is (opt_c control_c) b e at v → control_of None ≡ v
  control_none h e None i = refl
  control_none h e (Some x) i = absurd (omega (arith, (is_some control_c b e at x i).0))

  counted_is : (x : Bool) (v : Counted) (e p : ℕ) → ByteSays b p x → Is counted_c b e p v → counted_of x ≡ v
  counted_is x count_segments e p h i = rw (h.unset (counted_tag b e p count_segments i))
  counted_is x count_children e p h i = rw (h.set (λ q. omega (arith, counted_tag b e p count_children i)))

  pub control_is : (c : ControlRule) → (get_or b at 0 ≡ 0 → ⊥) → c.opener ≡ le 4 b (at + 1) → c.closer ≡ le 4 b (at + 5) → c.count ≡ le 4 b (at + 9) → ByteSays b (at + 13) c.children
      → (e : ℕ) (v : Option Control) → Is (opt_c control_c) b e at v → control_of (Some c) ≡ v
  control_is c h q₀ q₁ q₂ q₃ e None i = absurd (h (is_none control_c b e at i))
  control_is c h q₀ q₁ q₂ q₃ e (Some x) i =
      let t = control_parts b e at x (is_some control_c b e at x i).1 in
      let e₀ : c.opener ≡ x.opener = q₀ ∙ sym (is_le 4 b e (at + 1) _ t.opener).1 in
      let e₁ : c.closer ≡ x.closer = q₁ ∙ sym (is_le 4 b e (at + 5) _ t.closer).1 in
      let e₂ : c.count ≡ x.count = q₂ ∙ sym (is_le 4 b e (at + 9) _ t.count).1 in
      let e₃ : counted_of c.children ≡ x.counted = counted_is c.children x.counted e (at + 13) q₃ t.counted in
      ap Some (rw (e₀, e₁, e₂, e₃))

pub byte_is : (b : List ℕ) (at n : ℕ) → (get_or b at 0 ≡ 0 → ⊥) → n ≡ get_or b (at + 1) 0 → (e : ℕ) (v : Option ℕ) → Is (opt_c byte_c) b e at v → (Some n) ≡ v
byte_is b at n h q e None i = absurd (h (is_none byte_c b e at i))
byte_is b at n h q e (Some x) i = ap Some (byte_reads b (at + 1) n q e x (is_some byte_c b e at x i).1)
