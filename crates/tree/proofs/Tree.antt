-- Loop numbers, items of orders, and a loop by its number.
use Prim.Native.Nat.{ℕ, ◌+◌, ◌≤◌, ◌<◌}
use mathlib.Core.Path.{◌≡◌, refl, sym, ◌∙◌, ap}
use mathlib.Core.List.{List, [], ◌∷◌}
use mathlib.Core.Bool.{Bool, true, false}
use native.Mathlib.Omega.{arith}
use lib.ListN.{length, get_or-eq_default}
use lib.Dec.{leb, eqb}
use Rattle.codec.specs.Codec.{le_c, list_c, pick}
use Rattle.codec.specs.Forms.{opt_c, num_c}
use Rattle.codec.specs.Skip.{skip, steps, count_at, tag_at}
use Rattle.codec.proofs.Skip.{skip_le}
use Rattle.codec.proofs.Field.{ListIs, is_list, is_in, is_none, is_some, count_list}
use Rattle.codec.proofs.Ways.{tag_in, tag_case}
use Rattle.codec.specs.Limits.{any_of}
use Rattle.format.specs.Words.{member_of, repeats}
use Rattle.format.specs.Spec.{Loop, loop_c, no_loop}
use Rattle.format.specs.Layout.{Item, segment_item, loop_item, item_c}
use Rattle.format.specs.Fields.{loop_children}
use Rattle.format.proofs.Fields.{item_tag, is_loop_item, is_loop}
use Rattle.format.specs.Refusal.{loop_at, loops_in, outside}
use Rattle.says.specs.Says.{Says, SaysRest, SaysBefore, any_before}
use Rattle.std.specs.Prelude.{Some, None}
use Rattle.tree.specs.Parts.{again, on_loop, held}
use Rattle.says.proofs.Walk.{number_is, says_at}

pub outside_says : (b : List ℕ) (e at m n : ℕ) → m ≡ count_at b at e → Says num_c b e at (outside n) (leb n m)
unfolding outside
outside_says b e at m n h v i = let z : m ≡ v = number_is b e m at at v h refl i in rw z

pub same_says : (b : List ℕ) (e at m n : ℕ) → m ≡ count_at b at e → Says num_c b e at (eqb n) (eqb n m)
same_says b e at m n h v i = let z : m ≡ v = number_is b e m at at v h refl i in rw z

pub member_any : (n : ℕ) (xs : List ℕ) → any_of (eqb n) xs ≡ member_of n xs
unfolding any_of member_of
member_any n [] = refl
member_any n (x ∷ xs) = rw (member_any n xs)

-- ---- items of an order
module _ (b : List ℕ) (e at t : ℕ) (f : ℕ → Bool) where
  pub item_there : (p : ℕ) (r : Bool) → t ≡ tag_at b at e → t ≡ 1 → p ≡ skip (le_c 1) b at e → Says num_c b e p f r → Says item_c b e at (on_loop f) r
  item_there p r h i q s (segment_item x) k =
      let l : at < e = tag_case b at e 1 (sym h ∙ i) (omega arith) in
      absurd (omega (arith, item_tag b e at (segment_item x) k, tag_in b at e l))
  item_there p r h i q s (loop_item x) k =
      let l : at < e = tag_case b at e 1 (sym h ∙ i) (omega arith) in
      s x (rw (q, skip_le 1 b at e (omega arith)) (is_loop_item b e at x k))

  pub item_not : t ≡ tag_at b at e → (t ≡ 1 → ⊥) → Says item_c b e at (on_loop f) false
  item_not h i (segment_item x) k = refl
  item_not h i (loop_item x) k =
      let l : at + 1 ≤ e = is_in num_c b e (at + 1) x (is_loop_item b e at x k) in
      absurd (i (h ∙ tag_in b at e (omega arith) ∙ item_tag b e at (loop_item x) k))

pub loops_any : (f : ℕ → Bool) (o : List Item) → any_of (on_loop f) o ≡ any_of f (loops_in o)
unfolding any_of loops_in
loops_any f [] = refl
loops_any f (segment_item x ∷ is) = loops_any f is
loops_any f (loop_item x ∷ is) = rw (loops_any f is)

-- ---- the loop of a number: n loops stand at the place
module _ {B : Type 0} (b : List ℕ) (e at n i : ℕ) (f : Loop → B) (r : B) (h : n ≡ count_at b at e) where
  pub loop_says : (p : ℕ) → i < n → (i < count_at b at e → p ≡ steps loop_c b e i (skip (le_c 4) b at e)) → Says loop_c b e p f r → Says (list_c loop_c) b e at (λ ls. f (loop_at ls i)) r
  loop_says p k q s ls j =
      let l : ListIs loop_c b e at ls = is_list loop_c b e at ls j in
      let m : length ls ≡ n = count_list loop_c b e at ls l ∙ sym h in
      let w : p ≡ steps loop_c b e i (at + 4) = q (omega (arith, h, k)) ∙ rw (skip_le 4 b at e l.room) in
      s (loop_at ls i) (rw w (l.item i no_loop (omega (arith, m))))

  pub past_says : n ≤ i → r ≡ f no_loop → Says (list_c loop_c) b e at (λ ls. f (loop_at ls i)) r
  past_says k q ls j =
      let l : ListIs loop_c b e at ls = is_list loop_c b e at ls j in
      let m : length ls ≡ n = count_list loop_c b e at ls l ∙ sym h in
      q ∙ sym (ap f (get_or-eq_default ls no_loop {n = i} (omega (arith, m))))

-- the children of the loop of a number
pub below_says : {B : Type 0} (b : List ℕ) (e at n i : ℕ) (g : List ℕ → B) (r : B) → n ≡ count_at b at e → (q : ℕ) → i < n → (i < count_at b at e → q ≡ loop_children b e (steps loop_c b e i (skip (le_c 4) b at e))) → Says (list_c num_c) b e q g r
    → Says (list_c loop_c) b e at (λ ls. g (loop_at ls i).children) r
below_says b e at n i g r h q k p s = loop_says b e at n i (λ (v : Loop). g v.children) r h (steps loop_c b e i (skip (le_c 4) b at e)) k (λ o. refl)
    (λ v l. says_at (list_c num_c) b e q _ g r v.children s (is_loop b e _ v l).children (p (omega (arith, h, k))))

-- ---- what an option holds: t is the mark, p the place behind it
module _ (b : List ℕ) (e at t : ℕ) (h : t ≡ tag_at b at e) where
  pub held_there : (p m : ℕ) → t ≡ 1 → p ≡ skip (le_c 1) b at e → m ≡ count_at b p e → Says (opt_c num_c) b e at held (Some m)
  held_there p m i q j None k =
      let l : at < e = tag_case b at e 1 (sym h ∙ i) (omega arith) in
      absurd (omega (arith, is_none num_c b e at k, tag_in b at e l))
  held_there p m i q j (Some x) k =
      let l : at < e = tag_case b at e 1 (sym h ∙ i) (omega arith) in
      let z : m ≡ x = number_is b e m p (at + 1) x j (q ∙ skip_le 1 b at e (omega arith)) (is_some num_c b e at x k).1 in
      rw z

  pub held_not : (t ≡ 1 → ⊥) → Says (opt_c num_c) b e at held None
  held_not i None k = refl
  held_not i (Some x) k =
      let m = is_some num_c b e at x k in
      let l : at + 1 ≤ e = is_in num_c b e (at + 1) x m.1 in
      absurd (i (h ∙ tag_in b at e (omega arith) ∙ m.0))

-- ---- numbers that repeat
pub repeats_again : (xs : List ℕ) → any_before again xs ≡ repeats xs
unfolding any_before repeats
repeats_again [] = refl
repeats_again (x ∷ xs) = rw (repeats_again xs)

pub repeat_step_lem : (y : ℕ) (ys : List ℕ) → repeats (y ∷ ys) ≡ pick (again ys y) true (repeats ys)
unfolding repeats
repeat_step_lem y ys = refl

-- the number x that stands at p is met again behind it
pub again_says : (b : List ℕ) (e p x m q : ℕ) (r : Bool) → x ≡ count_at b p e → SaysRest num_c b e m q (member_of x) r → SaysBefore num_c b e p m q again r
again_says b e p x m q r h s ws w v l = let z : x ≡ v = number_is b e x p p v h refl l in s ws w ∙ rw z
