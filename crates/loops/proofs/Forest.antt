-- Refusal 4 as a whole: its tests joined, over the sections of a job.
use Prim.Native.Nat.{ℕ, ◌+◌, ◌≤◌, ◌<◌}
use mathlib.Core.Path.{◌≡◌, refl, sym, ◌∙◌}
use mathlib.Core.List.{List, [], ◌∷◌}
use mathlib.Core.Bool.{Bool, true, false}
use native.Mathlib.Omega.{arith}
use lib.ListN.{length}
use lib.Dec.{leb, eqb}
use borrow.Author.Tests.{eq-eqb, leb-false, eqb-true, not-false}
use Rattle.codec.specs.Codec.{got, pick, list_c}
use Rattle.codec.specs.Forms.{num_c}
use Rattle.codec.specs.Skip.{skip, Is}
use Rattle.codec.specs.Limits.{any, any_of}
use Rattle.codec.proofs.Limits.{none_of}
use Rattle.format.specs.Words.{any_from, member_of, present, repeats, times_in}
use Rattle.format.proofs.Words.{none_from}
use Rattle.format.specs.Spec.{Loop, loop_c, no_loop, Spec, spec_c}
use Rattle.format.specs.Layout.{Item, item_c, Layout, layout_c}
use Rattle.format.specs.Fields.{spec_roots}
use Rattle.format.proofs.Fields.{is_spec, is_layout}
use Rattle.format.specs.Refusal.{outside, disagrees, ringed, misrooted, misordered, outside_loop, outside_table, outside_order, tangled_loops, tangled}
use Rattle.format.specs.Job.{Job}
use Rattle.format.specs.Decoding.{ReadAs}
use Rattle.format.proofs.Decoding.{is_read}
use Rattle.format.specs.Sections.{layout_start, envelope_start}
use Rattle.says.specs.Says.{Says}
use Rattle.tree.specs.Parts.{outside_spec}
use Rattle.loops.specs.Parts.{repeats_below, tangled_spec}
use Rattle.says.proofs.Walk.{says_at}
use Rattle.loops.proofs.Tangle.{third_true}

-- ---- children that repeat
any_from_lem : {A : Type 0} (f : A → Bool) (g : ℕ → A → Bool) → ((k : ℕ) (v : A) → f v ≡ true → g k v ≡ true) → (k : ℕ) (xs : List A) → any_of f xs ≡ true → any_from g k xs ≡ true
unfolding any_of any_from
any_from_lem f g s k [] h = absurd (let z : ◌≡◌ {A = ℕ} 0 1 = cc in omega arith)
any_from_lem f g s k (x ∷ xs) h = go (f x) refl h (any_from_lem f g s (k + 1) xs)
  where
    go : (t : Bool) → f x ≡ t → pick t true (any_of f xs) ≡ true → (any_of f xs ≡ true → any_from g (k + 1) xs ≡ true) → pick (g k x) true (any_from g (k + 1) xs) ≡ true
    go true q w ih = rw (s k x q)
    go false q w ih = rest (g k x) (ih w)
      where
        rest : (u : Bool) → any_from g (k + 1) xs ≡ true → pick u true (any_from g (k + 1) xs) ≡ true
        rest true v = refl
        rest false v = v

twice_disagrees : (ls : List Loop) (k : ℕ) (v : Loop) → repeats_below v ≡ true → disagrees ls k v ≡ true
unfolding disagrees
twice_disagrees ls k v h = sym (third_true _ _ _ h)

pub children_tangle : (s : Spec) (r : Bool) → r ≡ any_of repeats_below s.loops → r ≡ true → true ≡ tangled_spec s
unfolding tangled_spec any
children_tangle s r h t =
    let z : any_from (disagrees s.loops) 0 s.loops ≡ true = any_from_lem repeats_below (disagrees s.loops) (twice_disagrees s.loops) 0 s.loops (sym h ∙ t) in
    rw z

-- ---- roots that repeat
absent : (x : ℕ) (xs : List ℕ) → times_in x xs ≤ 0 → member_of x xs ≡ false
unfolding times_in member_of
absent x [] h = refl
absent x (y ∷ xs) h = go (eqb x y) h (absent x xs)
  where
    go : (t : Bool) → pick t (times_in x xs + 1) (times_in x xs) ≤ 0 → (times_in x xs ≤ 0 → member_of x xs ≡ false) → pick t true (member_of x xs) ≡ false
    go true w ih = absurd (omega (arith, w))
    go false w ih = ih w

-- numbers below n, none of them twice
once_each : (n : ℕ) (xs : List ℕ) → ((x : ℕ) → x < n → times_in x xs ≤ 1) → any_of (outside n) xs ≡ false → repeats xs ≡ false
unfolding times_in any_of outside repeats
once_each n [] h k = refl
once_each n (y ∷ ys) h k = go (leb n y) refl k (once_each n ys (λ x i. behind x (eqb x y) (h x i)))
  where
    behind : (x : ℕ) (t : Bool) → pick t (times_in x ys + 1) (times_in x ys) ≤ 1 → times_in x ys ≤ 1
    behind x true w = omega (arith, w)
    behind x false w = w

    go : (t : Bool) → leb n y ≡ t → pick t true (any_of (outside n) ys) ≡ false → (any_of (outside n) ys ≡ false → repeats ys ≡ false) → pick (member_of y ys) true (repeats ys) ≡ false
    go true q w ih = absurd (let z : ◌≡◌ {A = ℕ} 0 1 = cc in omega arith)
    go false q w ih =
        let l : times_in y ys + 1 ≤ 1 = rw (eq-eqb y y refl) at (h y (leb-false _ _ q)) in
        let m : member_of y ys ≡ false = absent y ys (omega (arith, l)) in
        rw m (ih w)

rooted_once : (rs : List ℕ) (i : ℕ) (v : Loop) → misrooted rs i v ≡ false → times_in i rs ≤ 1
unfolding misrooted
rooted_once rs i v h = go (present v.parent) (eqb-true _ _ (not-false _ h))
  where
    go : (t : Bool) → times_in i rs ≡ pick t 0 1 → times_in i rs ≤ 1
    go true w = omega (arith, w)
    go false w = omega (arith, w)

roots_twice : (rs : List ℕ) (ls : List Loop) → any_of (outside (length ls)) rs ≡ false → repeats rs ≡ true → any_from (misrooted rs) 0 ls ≡ true
roots_twice rs ls h k = go (any_from (misrooted rs) 0 ls) refl
  where
    once : any_from (misrooted rs) 0 ls ≡ false → (x : ℕ) → x < length ls → times_in x rs ≤ 1
    once w x l = let z : 0 + x ≡ x = omega arith in rooted_once rs x _ (rw z at (none_from (misrooted rs) 0 ls w x no_loop l))

    go : (t : Bool) → any_from (misrooted rs) 0 ls ≡ t → t ≡ true
    go true w = refl
    go false w = sym (once_each (length ls) rs (once w) h) ∙ k

pub roots_tangle : (s : Spec) (x r : Bool) → x ≡ outside_spec s → x ≡ false → r ≡ repeats s.roots → r ≡ true → tangled_spec s ≡ true
unfolding outside_spec tangled_spec
roots_tangle s x r h i q t = sym (third_true _ _ _ (roots_twice s.roots s.loops (none_of _ _ (none_of _ _ (sym h ∙ i)).1).0 (sym q ∙ t)))

-- ---- a test of the orders, which stand first in their section
pub order_says : (b : List ℕ) (at e at' e' : ℕ) (f : List (List Item) → Bool) (r : Bool) (v : Layout) → Says (list_c (list_c item_c)) b e at f r → at ≡ at' → e ≡ e' → layout_c.read b at' e' ≡ got v e' → r ≡ f v.order
order_says b at e at' e' f r v s i j h = s v.order (rw (i, j) (is_layout b e' at' v (is_read layout_c b at' e' v h)).order)

-- where the roots stand in the section that ends at e
pub roots_for : (b : List ℕ) (e e' r : ℕ) → e ≡ e' → r ≡ spec_roots b e' 0 → r ≡ spec_roots b e 0
roots_for b e e' r h i = i ∙ rw h

-- the loops stand first in theirs, and the roots behind them
pub spec_roots_lem : (b : List ℕ) (e e' : ℕ) (v : Spec) (p : ℕ) (r : Bool) → Says (list_c num_c) b e p repeats r → p ≡ skip (list_c loop_c) b 0 e → e ≡ e' → spec_c.read b 0 e' ≡ got v e' → r ≡ repeats v.roots
spec_roots_lem b e e' v p r s q i h = let m : Is spec_c b e 0 v = rw i (is_read spec_c b 0 e' v h) in says_at (list_c num_c) b e p _ repeats r v.roots s (is_spec b e 0 v m).roots q

pub spec_loops : (b : List ℕ) (e e' : ℕ) (v : Spec) → e ≡ e' → spec_c.read b 0 e' ≡ got v e' → Is (list_c loop_c) b e 0 v.loops
spec_loops b e e' v i h = rw i (is_spec b e' 0 v (is_read spec_c b 0 e' v h)).loops

joined : (a b s g h i : Bool) → pick (pick a true (pick b true (pick g true false))) true (pick h true (pick s true i)) ≡ pick (pick a true (pick b true s)) true (pick g true (pick h true (pick i true false)))
joined true b s g h i = refl
joined false true s g h i = refl
joined false false true true h i = refl
joined false false true false true i = refl
joined false false true false false i = refl
joined false false false true h i = refl
joined false false false false true i = refl
joined false false false false false true = refl
joined false false false false false false = refl

-- a test with the number of loops
pub order_out : (b : List ℕ) (j : Job) → ReadAs b j → (at e n : ℕ) (r : Bool) → Says (list_c (list_c item_c)) b e at (any_of (outside_order n)) r → at ≡ layout_start b → e ≡ envelope_start b → n ≡ length j.spec.loops
    → r ≡ any_of (outside_order (length j.spec.loops)) j.layout.order
order_out b j read at e n r s h i k = order_says b at e (layout_start b) (envelope_start b) (any_of (outside_order n)) r j.layout s h i read.layout ∙ rw k

module _ (b : List ℕ) (j : Job) (read : ReadAs b j) (x : Bool) (h : x ≡ outside_spec j.spec) where
  all : (y z w : Bool) → y ≡ any_of (outside_order (length j.spec.loops)) j.layout.order → z ≡ tangled_spec j.spec → w ≡ any_from (misordered j.spec.loops) 0 j.layout.order → pick x true (pick y true (pick z true w)) ≡ tangled j
  unfolding tangled tangled_loops outside_spec tangled_spec any
  all y z w i k l = rw (h, i, k, l) (joined (any_of (outside_loop (length j.spec.loops)) j.spec.loops) (any_of (outside (length j.spec.loops)) j.spec.roots)
      (any (any_from (disagrees j.spec.loops) 0 j.spec.loops ∷ any_from (ringed j.spec.loops) 0 j.spec.loops ∷ any_from (misrooted j.spec.roots) 0 j.spec.loops ∷ []))
      (any_of (outside_table (length j.spec.loops)) j.spec.tables) (any_of (outside_order (length j.spec.loops)) j.layout.order) (any_from (misordered j.spec.loops) 0 j.layout.order))

  pub tangled_outside : x ≡ true → true ≡ tangled j
  tangled_outside t = rw t at (all _ _ _ refl refl refl)

  pub tangled_order : (y : Bool) → y ≡ any_of (outside_order (length j.spec.loops)) j.layout.order → x ≡ false → y ≡ true → true ≡ tangled j
  tangled_order y i t u = rw (t, u) at (all y _ _ i refl refl)

  module _ (y : Bool) (i : y ≡ any_of (outside_order (length j.spec.loops)) j.layout.order) (t : x ≡ false) (u : y ≡ false) where
    pub tangled_spec_lem : (z : Bool) → z ≡ tangled_spec j.spec → z ≡ true → true ≡ tangled j
    tangled_spec_lem z k v = rw (t, u, v) at (all y z _ i k refl)

    pub tangled_roots : (r : Bool) → r ≡ repeats j.spec.roots → r ≡ true → true ≡ tangled j
    tangled_roots r q v = tangled_spec_lem true (sym (roots_tangle j.spec x r h t q v)) refl

    pub tangled_rest : (z w : Bool) → z ≡ tangled_spec j.spec → z ≡ false → w ≡ any_from (misordered j.spec.loops) 0 j.layout.order → w ≡ tangled j
    tangled_rest z w k v l = rw (t, u, v) at (all y z w i k l)
