-- Parents, children, rings and roots.
use Prim.Native.Nat.{ℕ, zero, suc, ◌+◌, ◌-◌, ◌≤◌, ◌<◌}
use mathlib.Core.Path.{◌≡◌, refl, sym, ◌∙◌, ap}
use mathlib.Core.List.{List, [], ◌∷◌}
use mathlib.Core.Bool.{Bool, true, false, not}
use native.Mathlib.Omega.{arith}
use native.Mathlib.Numerals.{sub-one}
use lib.ListN.{length}
use lib.Dec.{eqb}
use borrow.Author.Tests.{eq-eqb, ne_eqb}
use Rattle.std.specs.Prelude.{Some, None, Option}
use Rattle.std.proofs.lemmas.Option.{same_Some}
use Rattle.codec.specs.Codec.{pick, le_c, list_c}
use Rattle.codec.specs.Forms.{num_c}
use Rattle.codec.specs.Skip.{skip, count_at, tag_at, Is}
use Rattle.codec.proofs.Field.{is_list, count_list}
use Rattle.codec.specs.Limits.{any}
use Rattle.format.specs.Words.{if_some, member_of, present, times, times_in}
use Rattle.format.specs.Spec.{Loop, loop_c}
use Rattle.format.proofs.Fields.{is_loop}
use Rattle.format.specs.Refusal.{loop_at, not_parent, not_child, up, ringed, misrooted}
use Rattle.says.specs.Says.{Says, Rest}
use Rattle.tree.specs.Parts.{held}
use mir.Val.{bool_byte}
use Rattle.says.proofs.Walk.{number_is, rest_start, rest_again, rest_done, present_says}

-- ---- one loop's parent and children
pub stranger_says : (b : List ℕ) (e at m i e' loops : ℕ) (r : Bool) → m ≡ count_at b at e → Says (list_c loop_c) b e' loops (λ ls. if_some (eqb i) (loop_at ls m).parent) r
    → (ls : List Loop) → Is (list_c loop_c) b e' loops ls → Says num_c b e at (not_parent ls i) (not r)
unfolding not_parent
stranger_says b e at m i e' loops r h s ls q v j = let z : m ≡ v = number_is b e m at at v h refl j in ap not (s ls q) ∙ rw z

pub unlisted_says : (b : List ℕ) (e at m i e' loops : ℕ) (r : Bool) → m ≡ count_at b at e → Says (list_c loop_c) b e' loops (λ ls. member_of i (loop_at ls m).children) r
    → (ls : List Loop) → Is (list_c loop_c) b e' loops ls → Says num_c b e at (not_child ls i) (not r)
unfolding not_child
unlisted_says b e at m i e' loops r h s ls q v j = let z : m ≡ v = number_is b e m at at v h refl j in ap not (s ls q) ∙ rw z

pub misplaced_says : (b : List ℕ) (e at m k : ℕ) (b' : List ℕ) (e' loops : ℕ) (r : Bool) → m ≡ count_at b at e → Says (list_c loop_c) b' e' loops (λ ls. member_of m (loop_at ls k).children) r
    → (ls : List Loop) → Is (list_c loop_c) b' e' loops ls → Says num_c b e at (λ l. not_child ls l k) (not r)
unfolding not_child
misplaced_says b e at m k b' e' loops r h s ls q v j = let z : m ≡ v = number_is b e m at at v h refl j in ap not (s ls q) ∙ rw z

pub third_true : (a c d : Bool) → d ≡ true → true ≡ any (a ∷ c ∷ d ∷ [])
unfolding any
third_true true c d h = refl
third_true false true d h = refl
third_true false false d h = rw h

pub third_false : (r x y a c d : Bool) → d ≡ false → r ≡ pick x true y → x ≡ a → y ≡ c → r ≡ any (a ∷ c ∷ d ∷ [])
unfolding any
third_false r x y a c d h i j k = i ∙ rw (j, k, h) (go a c)
  where
    go : (a c : Bool) → pick a true c ≡ pick a true (pick c true (pick false true false))
    go true c = refl
    go false true = refl
    go false false = refl

pub second_true : (a d : Bool) → d ≡ true → true ≡ any (a ∷ d ∷ [])
unfolding any
second_true true d h = refl
second_true false d h = rw h

pub second_false : (r a d : Bool) → d ≡ false → r ≡ a → r ≡ any (a ∷ d ∷ [])
unfolding any
second_false r a d h i = i ∙ rw h (go a)
  where
    go : (a : Bool) → a ≡ pick a true (pick false true false)
    go true = refl
    go false = refl

-- ---- rings
abbrev pub Climbs : List ℕ → ℕ → ℕ → ℕ → ℕ → ℕ → Type 0
Climbs b e at i n l = (ls : List Loop) → Is (list_c loop_c) b e at ls → present (times (length ls) (up ls) (Some i)) ≡ present (times n (up ls) (Some l))

module _ (b : List ℕ) (e at i : ℕ) where
  pub ring_start : (n : ℕ) → n ≡ count_at b at e → Climbs b e at i n i
  ring_start n h ls j = let m : length ls ≡ n = count_list loop_c b e at ls (is_list loop_c b e at ls j) ∙ sym h in rw m

  pub ring_again : (n l m : ℕ) (r : Option ℕ) → Climbs b e at i n l → 0 < n → Says (list_c loop_c) b e at (λ ls. held (loop_at ls l).parent) r → r ≡ Some m → Climbs b e at i (n - 1) m
  unfolding present times up
  ring_again zero l m r d h s t ls j = absurd (omega arith)
  ring_again (suc n) l m r d h s t ls j = d ls j ∙ rw sub-one (go (loop_at ls l).parent (sym (s ls j) ∙ t))
    where
      go : (o : Option ℕ) → held o ≡ Some m → present (times n (up ls) o) ≡ present (times n (up ls) (Some m))
      go None w = absurd (let z : ◌≡◌ {A = ℕ} 0 1 = cc in omega arith)
      go (Some x) w = let z : x ≡ m = same_Some _ _ w in rw z

  none_stays : (ls : List Loop) (n : ℕ) → present (times n (up ls) None) ≡ false
  unfolding present times up
  none_stays ls zero = refl
  none_stays ls (suc n) = none_stays ls n

  pub ring_out : (n l : ℕ) (r : Option ℕ) → Climbs b e at i n l → 0 < n → Says (list_c loop_c) b e at (λ ls. held (loop_at ls l).parent) r → r ≡ None
      → (ls : List Loop) → Is (list_c loop_c) b e at ls → (v : Loop) → false ≡ ringed ls i v
  unfolding ringed present times up
  ring_out zero l r d h s t ls j v = absurd (omega arith)
  ring_out (suc n) l r d h s t ls j v = sym (d ls j ∙ go (loop_at ls l).parent (sym (s ls j) ∙ t))
    where
      go : (o : Option ℕ) → held o ≡ None → present (times n (up ls) o) ≡ false
      go None w = none_stays ls n
      go (Some x) w = absurd (let z : ◌≡◌ {A = ℕ} 0 1 = cc in omega arith)

  pub ring_stays : (n l : ℕ) → Climbs b e at i n l → n ≤ 0 → (ls : List Loop) → Is (list_c loop_c) b e at ls → (v : Loop) → true ≡ ringed ls i v
  unfolding ringed present times up
  ring_stays zero l d h ls j v = sym (d ls j)
  ring_stays (suc n) l d h ls j v = absurd (omega arith)

-- ---- roots
abbrev pub Counting : List ℕ → ℕ → ℕ → ℕ → ℕ → ℕ → ℕ → Type 0
Counting b e at x t n p = (vs : List ℕ) → Is (list_c num_c) b e at vs → Rest num_c b e (λ us. times_in x vs ≡ t + times_in x us) n p

pub counted_again : (t i : ℕ) (r : Bool) → t ≤ i → t + bool_byte r ≤ i + 1
counted_again t i true h = omega (arith, h)
counted_again t i false h = omega (arith, h)

module _ (b : List ℕ) (e at x : ℕ) where
  pub times_start : (n p : ℕ) → n ≡ count_at b at e → p ≡ skip (le_c 4) b at e → Counting b e at x 0 n p
  times_start n p h i vs j = rest_start num_c b e (λ us. times_in x vs ≡ 0 + times_in x us) at n p vs h i j (omega arith)

  pub times_again : (t n p q : ℕ) (r : Bool) → Counting b e at x t n p → 0 < n → q ≡ skip num_c b p e → Says num_c b e p (eqb x) r → Counting b e at x (t + bool_byte r) (n - 1) q
  unfolding times_in
  times_again t n p q r d h i s vs j = rest_again num_c b e (λ us. times_in x vs ≡ t + times_in x us) (λ us. times_in x vs ≡ t + bool_byte r + times_in x us) n p q (d vs j) h i
      (λ y ys l w. rw (s y l) (go y ys (eqb x y) w))
    where
      go : (y : ℕ) (ys : List ℕ) (u : Bool) → times_in x vs ≡ t + pick u (times_in x ys + 1) (times_in x ys) → times_in x vs ≡ t + bool_byte u + times_in x ys
      go y ys true w = omega (arith, w)
      go y ys false w = omega (arith, w)

  pub times_done : (t n p : ℕ) → Counting b e at x t n p → n ≤ 0 → Says (list_c num_c) b e at (times_in x) t
  unfolding times_in
  times_done t n p d h vs j = let w : times_in x vs ≡ t + 0 = rest_done num_c b e (λ us. times_in x vs ≡ t + times_in x us) n p (d vs j) h in omega arith

module _ (b : List ℕ) (e at roots i t m : ℕ) (h : t ≡ tag_at b at e) (s : Says (list_c num_c) b e roots (times_in i) m) where
  pub child_roots : t ≡ 1 → (rs : List ℕ) → Is (list_c num_c) b e roots rs → Says loop_c b e at (misrooted rs i) (not (eqb m 0))
  unfolding misrooted
  child_roots k rs q v j =
      let z : present v.parent ≡ true = sym (present_says num_c b e at t h v.parent (is_loop b e at v j).parent) ∙ eq-eqb t 1 k in
      rw (z, s rs q)

  pub root_roots : (t ≡ 1 → ⊥) → (rs : List ℕ) → Is (list_c num_c) b e roots rs → Says loop_c b e at (misrooted rs i) (not (eqb m 1))
  unfolding misrooted
  root_roots k rs q v j =
      let z : present v.parent ≡ false = sym (present_says num_c b e at t h v.parent (is_loop b e at v j).parent) ∙ ne_eqb t 1 k in
      rw (z, s rs q)
