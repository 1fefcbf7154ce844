-- The rows of a repeat table that go into an instance, as code finds them one after the other.
use Prim.Native.Nat.{ℕ, zero, suc, ◌+◌, ◌-◌, ◌≤◌, ◌<◌, max}
use mathlib.Core.Path.{◌≡◌, refl, sym, ap, ap₂, subst, ◌∙◌}
use mathlib.Core.Bool.{Bool, true, false, cond}
use mathlib.Core.List.{List, [], ◌∷◌}
use native.Mathlib.Omega.{arith}
use native.Mathlib.Decide.{dec_lt}
use native.Mathlib.Numerals.{add-one}
use Rattle.std.proofs.lemmas.Option.{none-some}
use lib.ListN.{length, get_or, get_or-eq_default}
use borrow.Author.Tests.{ltb-false, ne_eqb}
use Rattle.codec.specs.Limits.{any_of}
use Rattle.codec.proofs.Limits.{none_of, none_in}
use Rattle.format.specs.Job.{Job}
use Rattle.format.specs.Sections.{job_of}
use Rattle.format.specs.Refusal.{over, large}
use Rattle.format.specs.Passed.{Passed}
use Rattle.format.specs.Ask as A
use Rattle.tables.specs.Parts as T
use Rattle.spec.specs.declared.ids.LoopId.{LoopId}
use Rattle.spec.specs.declared.ids.RowId.{RowId}
use Rattle.spec.specs.declared.ids.TableId.{TableId}
use Rattle.std.specs.Prelude.{Option, Some, None}
use Rattle.nest.specs.Lists.{keep, first, from}
use Rattle.nest.specs.UpTo.{up_to}
use Rattle.nest.specs.Outline.{Outline, row_count, repeated}
use Rattle.nest.specs.Nest.{hooked, repeat_rows}
use Rattle.nest.specs.Found.{found_by, nest_at, held_at, hooked_at}
use Rattle.nest.specs.Rising.{Climbs, Parted, rises}
use Rattle.nest.specs.Ready.{Ready}
use Rattle.nest.specs.OutlineAt.{outline_at}
use Rattle.nest.specs.OfJob.{outline_of}
use Rattle.nest.proofs.Scan.{keep_alike, keep_none, keep_skip, keep_cut, up_to_all}
use Rattle.nest.proofs.Bridge.{rows_is, data-count-is}
use Rattle.nest.proofs.NestLaws.{rows_before, hook_plain}
use Rattle.nest.proofs.Stored.{row_there, before_is}
use Rattle.nest.proofs.Reports.{found_row, found_none}
use Rattle.nest.proofs.Placing.{repeats_is, rows_room}
use Rattle.walk.specs.Nested.{Nested}
use Rattle.walk.proofs.RowLaws.{repeat_all}
use Rattle.walk.proofs.NestedLaws.{lent_hooked, lent_climbs}
use Rattle.nest.proofs.Bridge.{capacity_is}
use Rattle.repeats.specs.declared.Table.{Table}
use Rattle.repeats.specs.Added.{TableIs, PartIs}

-- ---- the first of the rows from k on, and those behind it

pub record Next (h : ℕ → Bool) (k n r : ℕ) : Type 0 where
  pub from_there : k ≤ r
  pub within : r < n
  pub rest : keep h (up_to k n) ≡ r ∷ keep h (up_to (r + 1) n)

next_in : (h : ℕ → Bool) (m k r : ℕ) → first (keep h (from k m)) ≡ Some r → Next h k (k + m) r
next_in h zero k r e = absurd (none-some r e)
next_in h (suc m) k r e = go (h k) refl e (next_in h m (suc k) r)
  where
    all : up_to k (k + suc m) ≡ k ∷ from (suc k) m
    all = let q : k + suc m - k ≡ suc m = omega arith in rw q

    more : up_to (suc k) (k + suc m) ≡ from (suc k) m
    more = let q : k + suc m - suc k ≡ m = omega arith in rw q

    go : (b : Bool) → h k ≡ b → first (cond b (k ∷ keep h (from (suc k) m)) (keep h (from (suc k) m))) ≡ Some r → (first (keep h (from (suc k) m)) ≡ Some r → Next h (suc k) (suc k + m) r) → Next h k (k + suc m) r
    go true q z ih =
        let y : k ≡ r = cc in
        record { from_there = omega (arith, y); within = omega (arith, y); rest = rw (← y, add-one, all, more) (rw q) }
    go false q z ih =
        let w = ih z in
        let s : suc k + m ≡ k + suc m = omega arith in
        let v : keep h (up_to (suc k) (suc k + m)) ≡ r ∷ keep h (up_to (r + 1) (suc k + m)) = w.rest in
        record { from_there = omega (arith, w.from_there); within = omega (arith, w.within); rest = rw all (rw q (rw (← more) (rw s at v))) }

module _ (h : ℕ → Bool) (k n : ℕ) (f : Option RowId) (e : f ≡ found_by (first (keep h (up_to k n)))) where
  pub next_found : (r : RowId) → f ≡ Some r → Next h k n r.0
  next_found r q = go (dec_lt k n)
    where
      z : first (keep h (up_to k n)) ≡ Some r.0
      z = found_row _ f r e q

      go : Dec (k < n) → Next h k n r.0
      go (yes c) = let s : k + (n - k) ≡ n = omega arith in let w : Next h k (k + (n - k)) r.0 = next_in h (n - k) k r.0 z in rw s at w
      go (no c) = let s : n - k ≡ 0 = omega arith in absurd (none-some r.0 (rw s at z))

  pub next_none : f ≡ None → keep h (up_to k n) ≡ []
  next_none q = go (keep h (up_to k n)) (found_none _ f e q)
    where
      go : (xs : List ℕ) → first xs ≡ None → xs ≡ []
      go [] z = refl
      go (x ∷ xs) z = absurd (none-some x (sym z))

-- ---- the rows of a table in nest's array

pub table_small : {b idx : List ℕ} → Ready b idx → (t r : ℕ) → r < row_count (outline_at b) t → t < 16
table_small {b} R t r h = omega (arith, row_there (outline_at b) t r h, data-count-is (job_of b), R.tables.few)

module _ {b idx n : List ℕ} (N : Nested b idx n) (t p : ℕ) (w : Table) (e : w.t.0 ≡ t) (W : TableIs b w) (q : w.rows ≡ row_count (outline_at b) t) (again : repeated (outline_at b) t ≡ true) where
  abbrev o : Outline
  o = outline_at b

  base_is : w.base ≡ rows_before o t
  base_is = W.base ∙ before_is (job_of b) w.t.0 ∙ ap (rows_before o) e

  rows_hooked : (l : ℕ) → repeat_rows o t l p ≡ keep (hooked_at n w.base l p) (up_to 0 w.rows)
  rows_hooked l = repeat_all o t l p ∙ sym (rw (base_is, q) (keep_alike _ _ 0 (row_count o t) (λ r h. lent_hooked N t r l p (row_there o t r h) h again)))

  -- all rows
  pub part_all : (l : ℕ) → PartIs b n t l p (record { table = w; from = 0 })
  part_all l = record { is = W; table = e; same = rows_hooked l }

  -- those that hang on row p, where the rows climb
  pub part_climbs : rises n t ≡ true → Climbs n w.base w.rows
  part_climbs f = subst (λ (x : ℕ). Climbs n x w.rows) (sym base_is) (lent_climbs N t w.rows f (omega (arith, q)))

  module _ (low high : ℕ) (first : Parted n w.base 0 w.rows (p + 1) low) (second : Parted n w.base low w.rows (p + 2) high) where
    not_hooked : (l r : ℕ) → (nest_at n w.base r 0 ≡ p + 1 → ⊥) → hooked_at n w.base l p r ≡ false
    unfolding hooked_at held_at
    not_hooked l r d = rw (ne_eqb (nest_at n w.base r 0) (p + 1) d)

    pub part_narrow : (l : ℕ) → PartIs b n t l p (record { table = record { t = w.t; base = w.base; rows = high; room = w.room }; from = low })
    part_narrow l =
        let a : 0 + low ≡ low = omega arith in
        let z : high + (w.rows - high) ≡ w.rows = omega (arith, second.within) in
        record {
          is = record { base = W.base; rows = omega (arith, W.rows, second.within); within = omega (arith, W.within, second.within); among = omega (arith, W.among, second.within); room = W.room; few = W.few };
          table = e;
          same =
              rows_hooked l
              ∙ keep_skip (hooked_at n w.base l p) w.rows low 0 (omega (arith, first.within)) (λ r x y. not_hooked l r (λ v. absurd (omega (arith, v, first.below r x (omega (arith, y))))))
              ∙ ap₂ (λ x y. keep (hooked_at n w.base l p) (up_to x y)) a (sym z)
              ∙ keep_cut (hooked_at n w.base l p) low high (w.rows - high) second.after (λ r x y. not_hooked l r (λ v. absurd (omega (arith, v, second.rest r x (omega (arith, y, z))))));
        }

-- a table without repeat segments has no such rows
pub rows_plain : (j : Job) (t l p : ℕ) (x : Bool) → x ≡ (A.table_of j t).segment → x ≡ false → repeat_rows (outline_of j) t l p ≡ []
rows_plain j t l p x e q =
    let o = outline_of j in
    repeat_all o t l p
    ∙ keep_alike _ (λ r. false) 0 (row_count o t) (λ r h. ap (λ k. hooked k l p) (hook_plain o t r (sym (repeats_is j t x e) ∙ q)))
    ∙ ap (keep (λ r. false)) (up_to_all (row_count o t))
    ∙ keep_none (row_count o t) 0

pub loop_low : (x l : LoopId) → x ≡ l → l.0 < 32 → x.0 < 32
loop_low x l e h = rw e h

-- a row that is gone through is one of the table's
pub row_in_lem : {b : List ℕ} (w : Table) (t : TableId) (r : ℕ) → TableIs b w → t ≡ w.t → r < w.rows → r < row_count (outline_at b) t.0
row_in_lem w t r W e h = rw e (omega (arith, h, W.rows))

-- ---- how many rows go into a segment

capacity_few : (b : List ℕ) → Passed b → (t : ℕ) → A.capacity_of (job_of b) t ≤ 255
unfolding A.capacity_of over large
capacity_few b w t = go (dec_lt t (length (job_of b).layout.capacity))
  where
    none_large : any_of large (job_of b).layout.capacity ≡ false
    none_large = (none_of _ _ (none_of _ _ (none_of _ _ w.limits).1).1).0

    go : Dec (t < length (job_of b).layout.capacity) → get_or (job_of b).layout.capacity t 1 ≤ 255
    go (yes h) = ltb-false _ _ (none_in large (job_of b).layout.capacity none_large t 1 h)
    go (no h) = let q = get_or-eq_default (job_of b).layout.capacity 1 {n = t} (omega arith) in omega (arith, q)

module _ (b : List ℕ) (w : Passed b) (t n : ℕ) (e : n ≡ A.capacity_of (job_of b) t) where
  pub room_is : (r : ℕ) → r ≡ max n 1 → (r ≡ max 1 ((outline_at b).capacity t)) × (r < 256)
  room_is r z = (omega (arith, capacity_is (job_of b) t, e, z), omega (arith, capacity_few b w t, e, z))

pub table_is : {b idx : List ℕ} → Ready b idx → (w : Table) → w.base ≡ T.rows_before (job_of b).tables w.t.0 → w.rows ≡ (A.data_of (job_of b) w.t.0).rows
    → (w.room ≡ max 1 ((outline_at b).capacity w.t.0)) × (w.room < 256) → TableIs b w
unfolding A.data_of
table_is {b} R w e h c =
    let q : w.rows ≡ (A.data_of (job_of b) w.t.0).rows = h in
    record {
      base = e;
      rows = omega (arith, q, rows_is (job_of b) w.t.0);
      within = omega (arith, e, h, rows_room (job_of b).tables w.t.0, R.tables.few_rows);
      among = omega (arith, e, h, rows_room (job_of b).tables w.t.0);
      room = c.0;
      few = c.1;
    }
