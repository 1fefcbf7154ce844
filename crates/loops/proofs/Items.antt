-- The loops that an order names.
use Prim.Native.Nat.{ℕ, ◌+◌, ◌≤◌, ◌<◌}
use mathlib.Core.Path.{◌≡◌, refl, sym, ◌∙◌}
use mathlib.Core.List.{List, [], ◌∷◌, ◌++◌}
use mathlib.Core.Bool.{Bool, false}
use native.Mathlib.Omega.{arith}
use lib.ListN.{length}
use lib.Dec.{eqb}
use Rattle.codec.specs.Codec.{le_c}
use Rattle.codec.specs.Forms.{num_c}
use Rattle.codec.specs.Skip.{skip, count_at, tag_at, Is}
use Rattle.codec.proofs.Skip.{skip_le}
use Rattle.codec.proofs.Field.{is_in}
use Rattle.codec.proofs.Ways.{tag_in, tag_case}
use Rattle.codec.specs.Limits.{any_of}
use Rattle.format.specs.Words.{member_of, repeats}
use Rattle.format.specs.Layout.{Item, segment_item, loop_item, item_c}
use Rattle.format.proofs.Fields.{item_tag, is_loop_item}
use Rattle.format.specs.Spec.{Loop}
use Rattle.format.specs.Refusal.{loops_in, not_child}
use Rattle.says.specs.Says.{SaysRest, SaysBefore, any_before}
use Rattle.tree.specs.Parts.{on_loop}
use Rattle.loops.specs.Parts.{member_in, repeats_in, again_in, misplaced, misplaced_in}
use Rattle.says.proofs.Walk.{number_is}
use Rattle.tree.proofs.Tree.{item_there, item_not, loops_any, member_any}

module _ (b : List ℕ) (e at t : ℕ) (h : t ≡ tag_at b at e) where
  pub name_there : (p x : ℕ) → t ≡ 1 → p ≡ skip (le_c 1) b at e → x ≡ count_at b p e → (y : Item) → Is item_c b e at y → x ∷ [] ≡ loops_in (y ∷ [])
  unfolding loops_in
  name_there p x i q j (segment_item v) k =
      let l : at < e = tag_case b at e 1 (sym h ∙ i) (omega arith) in
      absurd (omega (arith, item_tag b e at (segment_item v) k, tag_in b at e l))
  name_there p x i q j (loop_item v) k =
      let l : at < e = tag_case b at e 1 (sym h ∙ i) (omega arith) in
      let z : x ≡ v = number_is b e x p (at + 1) v j (q ∙ skip_le 1 b at e (omega arith)) (is_loop_item b e at v k) in
      rw z

  pub name_not : (t ≡ 1 → ⊥) → (y : Item) → Is item_c b e at y → [] ≡ loops_in (y ∷ [])
  unfolding loops_in
  name_not i (segment_item v) k = refl
  name_not i (loop_item v) k =
      let l : at + 1 ≤ e = is_in num_c b e (at + 1) v (is_loop_item b e at v k) in
      absurd (i (h ∙ tag_in b at e (omega arith) ∙ item_tag b e at (loop_item v) k))

pub loops_first : (y : Item) (ys : List Item) → loops_in (y ∷ ys) ≡ loops_in (y ∷ []) ++ loops_in ys
unfolding loops_in
loops_first (segment_item k) ys = refl
loops_first (loop_item l) ys = refl

pub loops_none : loops_in [] ≡ []
unfolding loops_in
loops_none = refl

pub few_loops : (o : List Item) → length o < 2 → repeats (loops_in o) ≡ false
unfolding repeats member_of loops_in
few_loops [] h = refl
few_loops (segment_item k ∷ []) h = refl
few_loops (loop_item l ∷ []) h = refl
few_loops (x ∷ y ∷ o) h = absurd (omega arith)

pub misplaced_any : (ls : List Loop) (k : ℕ) (o : List Item) → any_of (misplaced ls k) o ≡ misplaced_in ls k o
unfolding misplaced
misplaced_any ls k o = loops_any (λ (l : ℕ). not_child ls l k) o

-- ---- searched for one that repeats
pub member_in_any : (x : ℕ) (o : List Item) → any_of (on_loop (eqb x)) o ≡ member_in x o
member_in_any x o = loops_any (eqb x) o ∙ member_any x (loops_in o)

pub repeats_again_in : (o : List Item) → any_before again_in o ≡ repeats_in o
unfolding any_before repeats loops_in
repeats_again_in [] = refl
repeats_again_in (segment_item k ∷ o) = repeats_again_in o
repeats_again_in (loop_item l ∷ o) = rw (repeats_again_in o)

-- the loop that an item of an order names is met again behind it
module _ (b : List ℕ) (e at t m q : ℕ) (h : t ≡ tag_at b at e) where
  pub item_again : (p x : ℕ) (r : Bool) → t ≡ 1 → p ≡ skip (le_c 1) b at e → x ≡ count_at b p e → SaysRest item_c b e m q (member_in x) r → SaysBefore item_c b e at m q again_in r
  item_again p x r i j k s ws w = item_there b e at t (λ y. member_in y ws) p r h i j (λ v l. let z : x ≡ v = number_is b e x p p v k refl l in s ws w ∙ rw z)

  pub item_never : (t ≡ 1 → ⊥) → SaysBefore item_c b e at m q again_in false
  item_never i ws w = item_not b e at t (λ y. member_in y ws) h i
