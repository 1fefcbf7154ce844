-- What may stand above a row loop (docs/RULES.md, "Above a row loop") is told by one walk up from each row loop.
use Prim.Native.Nat.{ℕ, zero, suc, ◌<◌}
use mathlib.Core.Path.{◌≡◌, refl, sym, ap, ◌∙◌, subst}
use mathlib.Core.Logic.{◌⊎◌, inl, inr}
use mathlib.Core.Bool.{Bool, true, false, ◌&&◌, false≢true}
use Rattle.std.specs.Prelude.{Option, None, Some}
use lib.ListN.{length}
use lib.Dec.{eqb}
use borrow.Author.Tests.{eq-eqb, eqb-true}
use Rattle.nest.specs.Lists.{on, is}
use Rattle.nest.specs.Outline.{Outline, Kind, absent, envelope, implied, rows, inside, groups, parent_of, kind_of, table_parent}
use Rattle.walk.specs.Complete.{Above, TableAbove, climbs, Tree, Complete, GroupEnds, may_stand, between}
use Rattle.walk.specs.Check.{past, fits}
use Rattle.walk.proofs.Paths.{above_trans, above_step, no_self, same_some, none_or_some, is_some, rows_same}
use Rattle.walk.proofs.Tests.{both}
use Rattle.walk.proofs.Climb.{not_rows, Stretch, bottom, onward, stretch_above, groups_own, rows_parent, root_table}

-- a step up: what the test says at a parent
up : (j : Outline) (h l w p : ℕ) → fits j (suc h) l w ≡ true → parent_of j l ≡ Some p → past j (fits j h p) w (kind_of j p) ≡ true
unfolding fits
up j h l w p f e = rw e at f

-- what past says of each kind: it may stand, and the walk goes on with the same table or with the parent
past_on : (j : Outline) (g : ℕ → Bool) (w : ℕ) (k : Kind) → past j g w k ≡ true
    → (may_stand k ≡ true) × (((between w k ≡ true) × (g w ≡ true)) ⊎ ((v : ℕ) × (k ≡ rows v) × (table_parent j w ≡ Some v) × (g v ≡ true)))
past_on j g w absent e = absurd (false≢true e)
past_on j g w envelope e = (refl, inl (refl, e))
past_on j g w implied e = (refl, inl (refl, e))
past_on j g w (rows v) e = let b : (is (table_parent j w) v ≡ true) × (g v ≡ true) = both _ _ e in (refl, inr (v, refl, is_some (table_parent j w) v b.0, b.1))
past_on j g w (inside v) e = absurd (false≢true e)
past_on j g w (groups v) e = let b : (eqb v w ≡ true) × (g w ≡ true) = both _ _ e in (refl, inl (b.0, b.1))

not_between : (w v : ℕ) (k : Kind) → k ≡ rows v → between w k ≡ true → ⊥
not_between w v k e b = false≢true (rw e at b)

-- ---- the walk gives what stands above a row loop

kinds_fit : (j : Outline) (h l w m : ℕ) → fits j h l w ≡ true → Above j m l → may_stand (kind_of j m) ≡ true
unfolding fits
kinds_fit j zero l w m f a = absurd (false≢true f)
kinds_fit j (suc h) l w m f (Above.next e) = (past_on j (fits j h m) w (kind_of j m) (up j h l w m f e)).0
kinds_fit j (suc h) l w m f (Above.higher {p = p} e a) = go (past_on j (fits j h p) w (kind_of j p) (up j h l w p f e)).1 (λ v g. kinds_fit j h p v m g a)
  where
    go : ((between w (kind_of j p) ≡ true) × (fits j h p w ≡ true)) ⊎ ((v : ℕ) × (kind_of j p ≡ rows v) × (table_parent j w ≡ Some v) × (fits j h p v ≡ true))
        → ((v : ℕ) → fits j h p v ≡ true → may_stand (kind_of j m) ≡ true) → may_stand (kind_of j m) ≡ true
    go (inl (b, g)) more = more w g
    go (inr (v, k, q, g)) more = more v g

only_fit : (j : Outline) (h l w m u : ℕ) → fits j h l w ≡ true → Above j m l → kind_of j m ≡ rows u → TableAbove j u w
unfolding fits
only_fit j zero l w m u f a k = absurd (false≢true f)
only_fit j (suc h) l w m u f (Above.next e) k = go (past_on j _ w (kind_of j m) (up j h l w m f e)).1
  where
    go : ((between w (kind_of j m) ≡ true) × (fits j h m w ≡ true)) ⊎ ((v : ℕ) × (kind_of j m ≡ rows v) × (table_parent j w ≡ Some v) × (fits j h m v ≡ true)) → TableAbove j u w
    go (inl (b, g)) = absurd (not_between w u (kind_of j m) k b)
    go (inr (v, q, r, g)) = TableAbove.next (r ∙ ap {B = Option ℕ} Some (rows_same q k))
only_fit j (suc h) l w m u f (Above.higher {p = p} e a) k = go (past_on j (fits j h p) w (kind_of j p) (up j h l w p f e)).1 (λ v g. only_fit j h p v m u g a k)
  where
    go : ((between w (kind_of j p) ≡ true) × (fits j h p w ≡ true)) ⊎ ((v : ℕ) × (kind_of j p ≡ rows v) × (table_parent j w ≡ Some v) × (fits j h p v ≡ true))
        → ((v : ℕ) → fits j h p v ≡ true → TableAbove j u v) → TableAbove j u w
    go (inl (b, g)) more = more w g
    go (inr (v, q, r, g)) more = TableAbove.higher r (more v g)

Found : Outline → ℕ → ℕ → Type 0
Found j u l = (m : ℕ) × (kind_of j m ≡ rows u) × Above j m l

all_fit : (j : Outline) (h l w u : ℕ) → fits j h l w ≡ true → TableAbove j u w → Found j u l
unfolding fits Found
all_fit j zero l w u f a = absurd (false≢true f)
all_fit j (suc h) l w u f a = at_parent (parent_of j l) refl (all_fit j h)
  where
    Rest : Type 0
    Rest = (l w u : ℕ) → fits j h l w ≡ true → TableAbove j u w → Found j u l

    raise : (p : ℕ) → parent_of j l ≡ Some p → Found j u p → Found j u l
    raise p e (m, k, b) = (m, k, Above.higher e b)

    parented : TableAbove j u w → (q : ℕ) × (table_parent j w ≡ Some q)
    parented (TableAbove.next {u = q} e) = (q, e)
    parented (TableAbove.higher {p = q} e b) = (q, e)

    no_more : (x : Option ℕ) → table_parent j w ≡ x → on x (λ i. false) true ≡ true → x ≡ None
    no_more None e q = refl
    no_more (Some i) e q = absurd (false≢true q)

    row_step : (p v : ℕ) → parent_of j l ≡ Some p → kind_of j p ≡ rows v → table_parent j w ≡ Some v → fits j h p v ≡ true → Rest → TableAbove j u w → Found j u l
    row_step p v e k q g more (TableAbove.next r) = (p, k ∙ ap rows (same_some q r), Above.next e)
    row_step p v e k q g more (TableAbove.higher {p = i} r b) = raise p e (more p v u g (subst (λ z. TableAbove j u z) (same_some r q) b))

    step : (p : ℕ) → parent_of j l ≡ Some p → Rest → ((between w (kind_of j p) ≡ true) × (fits j h p w ≡ true)) ⊎ ((v : ℕ) × (kind_of j p ≡ rows v) × (table_parent j w ≡ Some v) × (fits j h p v ≡ true)) → Found j u l
    step p e more (inl (b, g)) = raise p e (more p w u g a)
    step p e more (inr (v, k, q, g)) = row_step p v e k q g more a

    at_parent : (x : Option ℕ) → parent_of j l ≡ x → Rest → Found j u l
    at_parent None e more = absurd (none_or_some (no_more (table_parent j w) refl (rw e at f)) (parented a).1)
    at_parent (Some p) e more = step p e more (past_on j (fits j h p) w (kind_of j p) (up j h l w p f e)).1

-- from the row loop b of w up to k, only what may stand between
data Clear (j : Outline) (w b : ℕ) : ℕ → Type 0 where
  none_yet : Clear j w b b
  and_then : {k p : ℕ} → parent_of j k ≡ Some p → between w (kind_of j p) ≡ true → Clear j w b k → Clear j w b p

clear_split : {j : Outline} {w b k m : ℕ} → Clear j w b k → Above j m b → (between w (kind_of j m) ≡ true) ⊎ Above j m k
clear_split none_yet a = inr a
clear_split {j} {w} {m = m} (and_then {k = k} {p = p} e c s) a = go (clear_split s a)
  where
    at_end : (m ≡ p) ⊎ Above j m p → (between w (kind_of j m) ≡ true) ⊎ Above j m p
    at_end (inl z) = inl (ap (λ i. between w (kind_of j i)) z ∙ c)
    at_end (inr q) = inr q

    go : (between w (kind_of j m) ≡ true) ⊎ Above j m k → (between w (kind_of j m) ≡ true) ⊎ Above j m p
    go (inl d) = inl d
    go (inr q) = at_end (above_step q e)

clear_above : {j : Outline} {w b k p : ℕ} → Clear j w b k → parent_of j k ≡ Some p → Above j p b
clear_above none_yet e = Above.next e
clear_above (and_then f d s) e = above_trans (Above.next e) (clear_above s f)

module _ (j : Outline) (T : Tree j) (bottom-loop : ℕ) where
  -- b, the last row loop passed, stands at or above the row loop where the walk began
  ends_fit : (h k w b g u : ℕ) → fits j h k w ≡ true → kind_of j b ≡ rows w → (b ≡ bottom-loop) ⊎ Above j b bottom-loop → Clear j w b k → Above j g k → kind_of j g ≡ groups u → GroupEnds j g u bottom-loop
  unfolding fits
  ends_fit zero k w b g u f r o c a q = absurd (false≢true f)
  ends_fit (suc h) k w b g u f r o c (Above.next e) q = at_group (eqb-true u w (at_kind (kind_of j g) q (up j h k w g f e)))
    where
      at_kind : (i : Kind) → i ≡ groups u → past j (fits j h g) w i ≡ true → eqb u w ≡ true
      at_kind i z p = let p₂ : eqb u w && fits j h g w ≡ true = rw z at p in (both _ _ p₂).0

      ring : (m : ℕ) → Above j g m → (m ≡ g) ⊎ Above j m g → ⊥
      ring m y (inl z) = no_self T (subst (λ i. Above j g i) z y)
      ring m y (inr z) = no_self T (above_trans y z)

      last : (m : ℕ) → u ≡ w → Above j g m → (between w (kind_of j m) ≡ true) ⊎ Above j m k → between u (kind_of j m) ≡ true
      last m s y (inl d) = ap (λ i. between i (kind_of j m)) s ∙ d
      last m s y (inr z) = absurd (ring m y (above_step z e))

      at_group : u ≡ w → GroupEnds j g u bottom-loop
      at_group z = record { m = b; row_loop = r ∙ ap rows (sym z); below = clear_above c e; on_path = o; nothing_else = λ m y i. last m z y (clear_split c i) }
  ends_fit (suc h) k w b g u f r o c (Above.higher {p = p} e a) q = go (past_on j (fits j h p) w (kind_of j p) (up j h k w p f e)).1 (ends_fit h p)
    where
      Rest : Type 0
      Rest = (w b g u : ℕ) → fits j h p w ≡ true → kind_of j b ≡ rows w → (b ≡ bottom-loop) ⊎ Above j b bottom-loop → Clear j w b p → Above j g p → kind_of j g ≡ groups u → GroupEnds j g u bottom-loop

      go : ((between w (kind_of j p) ≡ true) × (fits j h p w ≡ true)) ⊎ ((v : ℕ) × (kind_of j p ≡ rows v) × (table_parent j w ≡ Some v) × (fits j h p v ≡ true)) → Rest → GroupEnds j g u bottom-loop
      go (inl (d, y)) rest = rest w b g u y r o (and_then e d c) a q
      go (inr (v, i, z, y)) rest = rest v p g u y i (inr (climbed o)) none_yet a q
        where
          climbed : (b ≡ bottom-loop) ⊎ Above j b bottom-loop → Above j p bottom-loop
          climbed (inl s) = subst (λ n. Above j p n) s (clear_above c e)
          climbed (inr s) = above_trans (clear_above c e) s

-- ---- what stands above a row loop gives the walk

fits_on : (j : Outline) (C : Complete j) (h l w b : ℕ) → climbs j h l ≡ true → kind_of j b ≡ rows w → Stretch j b l → fits j h l w ≡ true
unfolding fits climbs
fits_on j C zero l w b c k s = absurd (false≢true c)
fits_on j C (suc h) l w b c k s = at_parent (parent_of j l) refl (fits_on j C h)
  where
    Rest : Type 0
    Rest = (l w b : ℕ) → climbs j h l ≡ true → kind_of j b ≡ rows w → Stretch j b l → fits j h l w ≡ true

    at_kind : (p : ℕ) → parent_of j l ≡ Some p → climbs j h p ≡ true → Rest → (i : Kind) → kind_of j p ≡ i → may_stand i ≡ true → past j (fits j h p) w i ≡ true
    at_kind p e d rest absent q m = m
    at_kind p e d rest envelope q m = rest p w b d k (onward e (not_rows j p envelope q refl) s)
    at_kind p e d rest implied q m = rest p w b d k (onward e (not_rows j p implied q refl) s)
    at_kind p e d rest (inside v) q m = m
    at_kind p e d rest (rows v) q m =
        let t : is (table_parent j w) v ≡ true = ap (λ x. is x v) (rows_parent j C b w l p v k s e q) ∙ eq-eqb v v refl in
        rw t (rest p v p d q bottom)
    at_kind p e d rest (groups v) q m =
        let t : eqb v w ≡ true = eq-eqb v w (groups_own j C b w l p v k s e q) in
        rw t (rest p w b d k (onward e (not_rows j p (groups v) q refl) s))

    at_parent : (x : Option ℕ) → parent_of j l ≡ x → Rest → on x (λ p. past j (fits j h p) w (kind_of j p)) (on (table_parent j w) (λ u. false) true) ≡ true
    at_parent None e rest = ap (λ x. on x (λ u. false) true) (root_table j C b w l k s e)
    at_parent (Some p) e rest = at_kind p e (rw e at c) rest (kind_of j p) refl (C.above_kinds b w p k (stretch_above s e))

-- ---- both ways

-- what stands above row loop l of table t, said of loops and tables (docs/RULES.md, "Above a row loop")
pub record Three (j : Outline) (l t : ℕ) : Type 0 where
  pub above_kinds : (m : ℕ) → Above j m l → may_stand (kind_of j m) ≡ true
  pub above_only : (m u : ℕ) → Above j m l → kind_of j m ≡ rows u → TableAbove j u t
  pub above_all : (u : ℕ) → TableAbove j u t → (m : ℕ) × (kind_of j m ≡ rows u) × Above j m l
  pub groups_end : (g u : ℕ) → Above j g l → kind_of j g ≡ groups u → GroupEnds j g u l

pub fits_three : (j : Outline) → Tree j → (h l t : ℕ) → kind_of j l ≡ rows t → fits j h l t ≡ true → Three j l t
unfolding Found
fits_three j T h l t k f = record {
  above_kinds = λ m a. kinds_fit j h l t m f a;
  above_only = λ m u a q. only_fit j h l t m u f a q;
  above_all = λ u a. all_fit j h l t u f a;
  groups_end = λ g u a q. ends_fit j T l h l t l g u f k (inl refl) none_yet a q;
}

pub three_fits : (j : Outline) (C : Complete j) (l t : ℕ) → kind_of j l ≡ rows t → l < length j.loops → fits j (length j.loops) l t ≡ true
three_fits j C l t k h = fits_on j C (length j.loops) l t l (C.tree.no_ring l h) k bottom
