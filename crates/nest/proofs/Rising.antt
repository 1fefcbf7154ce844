-- The ways through keys that rise: whether they do, the search by halving, and that no row is a duplicate.
use Prim.Native.Nat.{ℕ, zero, suc, ◌+◌, ◌≤◌, ◌<◌}
use mathlib.Core.Path.{◌≡◌, refl, sym, ap, subst, ◌∙◌}
use mathlib.Core.Bool.{Bool, true, false, cond, false≢true}
use mathlib.Core.List.{List, []}
use native.Mathlib.Omega.{arith}
use lib.ListN.{length, get_or, set, length-set, get_or-eq_default}
use lib.Seq.{get_or-set_same, get_or-set_other}
use lib.Dec.{eqb, ltb}
use borrow.Author.Count.{below_more}
use borrow.Author.Tests.{eq-eqb, ne_eqb, ltb-true, ltb-false, lt-ltb}
use Rattle.format.specs.Job.{Job}
use Rattle.format.specs.Ask as A
use Rattle.column.specs.Cell.{key_of}
use Rattle.std.specs.Prelude.{Option, None, Some}
use Rattle.spec.specs.declared.ids.RowId.{RowId}
use Rattle.nest.specs.declared.keys.Keys.{Keys}
use Rattle.nest.specs.declared.keys.Keys.TheVariants.{None as NoKeys, Any, Rising}
use Rattle.nest.specs.Lists.{each, keep, first}
use Rattle.nest.specs.UpTo.{up_to}
use Rattle.nest.specs.Outline.{Outline, row_count}
use Rattle.nest.specs.Nest.{has_keys, first_row}
use Rattle.nest.specs.NestFindings.{duplicate_at}
use Rattle.nest.specs.Found.{found_by}
use Rattle.nest.specs.Seek.{Turns, SplitAt}
use Rattle.nest.specs.OfJob.{outline_of}
use Rattle.nest.specs.Keys.{Rises, KeysAre, Keyed, MayRepeat}
use Rattle.nest.proofs.Scan.{first_here, first_next, first_end, each_next, each_end}
use Rattle.nest.proofs.NestLaws.{keyed}
use Rattle.nest.proofs.FindingLaws.{duplicates_all, duplicate_none, duplicate_first}
use Rattle.nest.proofs.Bridge.{key_is, rows_is, data-count-is}
use Rattle.nest.proofs.Ways.{sought}

-- ---- the first number that passes, by all numbers before it
pub first_at_lem : (p : ℕ → Bool) (k n : ℕ) → k < n → p k ≡ true → ((i : ℕ) → i < k → p i ≡ false) → first (keep p (up_to 0 n)) ≡ Some k
first_at_lem p k n h e not_so = go k 0 (omega arith)
  where
    go : (m a : ℕ) → a + m ≡ k → first (keep p (up_to a n)) ≡ Some k
    go zero a z = let y : a ≡ k = omega (arith, z) in rw y (first_here p k n h e)
    go (suc m) a z = first_next p a n (omega (arith, z)) (not_so a (omega (arith, z))) ∙ go m (a + 1) (omega (arith, z))

pub first_none : (p : ℕ → Bool) (n : ℕ) → ((i : ℕ) → i < n → p i ≡ false) → first (keep p (up_to 0 n)) ≡ None
first_none p n not_so = go n 0 (omega arith)
  where
    go : (m a : ℕ) → a + m ≡ n → first (keep p (up_to a n)) ≡ None
    go zero a z = first_end p a n (omega (arith, z))
    go (suc m) a z = first_next p a n (omega (arith, z)) (not_so a (omega (arith, z))) ∙ go m (a + 1) (omega (arith, z))

pub each_none : {B : Type 0} (f : ℕ → List B) (n : ℕ) → ((i : ℕ) → i < n → f i ≡ []) → each f (up_to 0 n) ≡ []
each_none f n not_so = go n 0 (omega arith)
  where
    go : (m a : ℕ) → a + m ≡ n → each f (up_to a n) ≡ []
    go zero a z = each_end f a n (omega (arith, z))
    go (suc m) a z = each_next f a n (omega (arith, z)) ∙ rw (not_so a (omega (arith, z))) (go m (a + 1) (omega (arith, z)))

-- ---- whether they rise: those of the first k rows do, and none is above `last`
pub record Climbing (j : Outline) (u k last : ℕ) : Type 0 where
  pub rise : (q : ℕ) → q < k → (p : ℕ) → p < q → j.key u p < j.key u q
  pub top : (p : ℕ) → p < k → j.key u p ≤ last

module _ (j : Job) (u : ℕ) where
  pub climbing_first : (last : ℕ) → last ≡ key_of (A.data_of j u) 0 → Climbing (outline_of j) u 1 last
  climbing_first last e = record {
    rise = λ q h p k. absurd (omega arith);
    top = λ p h. let z : p ≡ 0 = omega arith in rw z (omega (arith, key_is j u 0, e));
  }

  pub climbing_next : (k last key : ℕ) → Climbing (outline_of j) u k last → key ≡ key_of (A.data_of j u) k → last < key → Climbing (outline_of j) u (k + 1) key
  climbing_next k last key w e h = record {
    rise = below_more (λ q. (p : ℕ) → p < q → (outline_of j).key u p < (outline_of j).key u q) k w.rise (λ p s. omega (arith, w.top p s, key_is j u k, e, h));
    top = below_more (λ p. (outline_of j).key u p ≤ key) k (λ p s. omega (arith, w.top p s, h)) (omega (arith, key_is j u k, e));
  }

  pub climbing_end : (k last n : ℕ) → Climbing (outline_of j) u k last → n ≡ (A.data_of j u).rows → n ≤ k → Rises (outline_of j) u
  climbing_end k last n w c h = record { rise = λ p q s t. w.rise q (omega (arith, t, rows_is j u, c, h)) p s }

-- ---- halving
module _ (j : Job) (u v : ℕ) (r : Rises (outline_of j) u) where
  abbrev pub lower : ℕ → Bool
  lower k = ltb ((outline_of j).key u k) v

  pub lower_turns : (n : ℕ) → n ≡ (A.data_of j u).rows → Turns lower n
  lower_turns n c i k h s e = lt-ltb _ _ (go (ltb i k) refl)
    where
      below : (outline_of j).key u k < v
      below = ltb-true _ _ e

      go : (b : Bool) → ltb i k ≡ b → (outline_of j).key u i < v
      go true q = omega (arith, below, r.rise i k (ltb-true i k q) (omega (arith, s, c, rows_is j u)))
      go false q = let y : i ≡ k = omega (arith, h, ltb-false i k q) in rw y below

  pub lower_none : (n at : ℕ) → n ≡ (A.data_of j u).rows → SplitAt lower 0 n at → (at < row_count (outline_of j) u → (outline_of j).key u at ≡ v → ⊥) → found_by None ≡ found_by (sought j u v 0)
  lower_none n at c w d = ap found_by (sym (first_none (λ p. eqb ((outline_of j).key u p) v) (row_count (outline_of j) u) (λ p k. ne_eqb ((outline_of j).key u p) v (differs p k (ltb p at) refl (ltb at p) refl))))
    where
      differs : (p : ℕ) → p < row_count (outline_of j) u → (b : Bool) → ltb p at ≡ b → (b' : Bool) → ltb at p ≡ b' → (outline_of j).key u p ≡ v → ⊥
      differs p k true q b' q' z = omega (arith, ltb-true _ _ (w.before p (omega arith) (ltb-true p at q)), z)
      differs p k false q true q' z =
          let l : at < p = ltb-true at p q' in
          omega (arith, r.rise at p l k, ltb-false _ _ (w.rest at (omega arith) (omega (arith, l, k, c, rows_is j u))), z)
      differs p k false q false q' z =
          let y : p ≡ at = omega (arith, ltb-false p at q, ltb-false at p q') in
          d (omega (arith, k, y)) (ap (λ (m : ℕ). (outline_of j).key u m) (sym y) ∙ z)

module _ (j : Job) (u v : ℕ) where
  -- a row that is looked at first
  pub key_there : (k n key : ℕ) → n ≡ (A.data_of j u).rows → k < n → key ≡ key_of (A.data_of j u) k → key ≡ v → (k < row_count (outline_of j) u) × ((outline_of j).key u k ≡ v)
  key_there k n key c h e q = (omega (arith, c, h, rows_is j u), key_is j u k ∙ sym e ∙ q)

  pub key_other : (k key : ℕ) → key ≡ key_of (A.data_of j u) k → (key ≡ v → ⊥) → k < row_count (outline_of j) u → (outline_of j).key u k ≡ v → ⊥
  key_other k key e d h z = d (e ∙ sym (key_is j u k) ∙ z)

  pub key_past : (k n : ℕ) → n ≡ (A.data_of j u).rows → n ≤ k → k < row_count (outline_of j) u → (outline_of j).key u k ≡ v → ⊥
  key_past k n c h l z = absurd (omega (arith, h, l, c, rows_is j u))

  pub key_here : (k : ℕ) → Rises (outline_of j) u → (k < row_count (outline_of j) u) × ((outline_of j).key u k ≡ v) → found_by (Some k) ≡ found_by (sought j u v 0)
  key_here k r w = ap found_by (sym (first_at_lem (λ p. eqb ((outline_of j).key u p) v) k (row_count (outline_of j) u) w.0 (eq-eqb ((outline_of j).key u k) v w.1) (λ p h. ne_eqb ((outline_of j).key u p) v (λ z. omega (arith, r.rise p k h w.0, w.1, z)))))

-- ---- what is known of a table's keys
module _ (j : Outline) (u : ℕ) (ks : List Keys) (k : Keys) (w : Keyed j ks) (e : k ≡ get_or ks u NoKeys) where
  pub known_are : KeysAre j u k
  known_are = subst (KeysAre j u) (sym e) (w.of u)

  pub known_any : (v : ℕ) (f : Option RowId) → k ≡ Any → f ≡ found_by (first (keep (λ p. eqb (j.key u p) v) (up_to 0 (row_count j u)))) → f ≡ found_by (first_row j u v)
  known_any v f q h = h ∙ ap found_by (sym (keyed j u v (subst (KeysAre j u) q known_are)))

  pub known_rising : (v : ℕ) (f : Option RowId) → k ≡ Rising → f ≡ found_by (first (keep (λ p. eqb (j.key u p) v) (up_to 0 (row_count j u)))) → f ≡ found_by (first_row j u v)
  known_rising v f q h = let z : KeysAre j u Rising = subst (KeysAre j u) q known_are in h ∙ ap found_by (sym (keyed j u v z.0))

-- ---- of all tables: of the first n it is, the others are still without
pub record Marked (j : Outline) (n : ℕ) (ks : List Keys) : Type 0 where
  pub done : (p : ℕ) → p < n → KeysAre j p (get_or ks p NoKeys)
  pub rest : (p : ℕ) → n ≤ p → get_or ks p NoKeys ≡ NoKeys
  pub size : length ks ≡ 16

pub marked_next : (j : Outline) (n : ℕ) (ks : List Keys) (k : Keys) → n < 16 → Marked j n ks → KeysAre j n k → Marked j (n + 1) (set ks n k)
marked_next j n ks k h w s = record {
  done = below_more (λ p. KeysAre j p (get_or (set ks n k) p NoKeys)) n
      (λ p l. subst (KeysAre j p) (sym (get_or-set_other ks n p k NoKeys (λ z. omega (arith, l, z)))) (w.done p l))
      (subst (KeysAre j n) (sym (get_or-set_same ks n k NoKeys (omega (arith, h, w.size)))) s);
  rest = λ p l. get_or-set_other ks n p k NoKeys (λ z. omega (arith, l, z)) ∙ w.rest p (omega arith);
  size = (simp length-set) ∙ w.size;
}

empty : (j : Outline) (u v : ℕ) → row_count j u ≡ 0 → first_row j u v ≡ None
unfolding first_row
empty j u v e = rw e (go (has_keys j u))
  where
    go : (b : Bool) → cond {A = Option ℕ} b None None ≡ None
    go true = refl
    go false = refl

no_table_lem : (j : Outline) (u : ℕ) → length j.row_counts ≤ u → row_count j u ≡ 0
unfolding row_count
no_table_lem j u h = get_or-eq_default j.row_counts 0 h

pub marked_end : (j : Job) (n m : ℕ) (ks : List Keys) → Marked (outline_of j) n ks → m ≡ length j.tables → m ≤ n → Keyed (outline_of j) ks
marked_end j n m ks w c h = record { of = λ u. go u (ltb u n) refl }
  where
    go : (u : ℕ) (b : Bool) → ltb u n ≡ b → KeysAre (outline_of j) u (get_or ks u NoKeys)
    go u true q = w.done u (ltb-true u n q)
    go u false q =
        let l : n ≤ u = ltb-false u n q in
        subst (KeysAre (outline_of j) u) (sym (w.rest u l)) (λ v. empty (outline_of j) u v (no_table_lem (outline_of j) u (omega (arith, l, h, c, data-count-is j))))

-- ---- duplicates
module _ (j : Outline) (t : ℕ) (k : Keys) (w : KeysAre j t k) where
  pub may_none : k ≡ NoKeys → MayRepeat j t false
  may_none q =
      let e : (v : ℕ) → first_row j t v ≡ None = subst (KeysAre j t) q w in
      record { keyed = λ z. absurd (false≢true z); single = λ z. duplicates_all j t ∙ each_none (duplicate_at j t) (row_count j t) (λ r h. duplicate_none j t r (e _)) }

  pub may_rising : k ≡ Rising → MayRepeat j t false
  may_rising q =
      record { keyed = λ z. absurd (false≢true z); single = λ z. duplicates_all j t ∙ each_none (duplicate_at j t) (row_count j t) (λ r h. duplicate_first j t r r (own r h) (omega arith)) }
    where
      risen : KeysAre j t Rising
      risen = subst (KeysAre j t) q w

      own : (r : ℕ) → r < row_count j t → first_row j t (j.key t r) ≡ Some r
      own r h = keyed j t (j.key t r) risen.0 ∙ first_at_lem (λ p. eqb (j.key t p) (j.key t r)) r (row_count j t) h (eq-eqb (j.key t r) (j.key t r) refl) (λ p s. ne_eqb (j.key t p) (j.key t r) (λ z. omega (arith, risen.1.rise p r s h, z)))
