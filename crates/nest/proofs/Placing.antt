-- The ways through the search for the row that a row hangs on, and through the rows of all tables.
use Prim.Native.Nat.{ℕ, zero, suc, ◌+◌, ◌-◌, ◌*◌, ◌≤◌, ◌<◌}
use mathlib.Core.Path.{◌≡◌, refl, sym, ap, ◌∙◌}
use mathlib.Core.Bool.{Bool, true, false, ◌&&◌}
use mathlib.Core.List.{List, [], ◌∷◌}
use native.Mathlib.Omega.{arith}
use native.Mathlib.Numerals.{add-one}
use Rattle.std.specs.Option.{option_map}
use lib.ListN.{length, get_or, length-append, get_or-eq_default}
use lib.Seq.{sets, length-sets}
use lib.Dec.{ltb}
use borrow.Author.Tests.{ltb-false}
use Rattle.codec.proofs.Rows.{sets_append}
use Rattle.format.specs.Spec as S
use Rattle.format.specs.Data.{TableData, no_table_data}
use Rattle.format.specs.Job.{Job}
use Rattle.format.specs.Refusal.{rows_of_all}
use Rattle.format.specs.Ask as A
use Rattle.tables.specs.Parts as T
use Rattle.spec.specs.declared.ids.RowId.{RowId}
use Rattle.spec.specs.declared.ids.TableId.{TableId}
use Rattle.std.specs.Prelude.{Option, Some, None, Result, Ok, Err}
use Rattle.nest.specs.declared.hang.Claimed.{Claimed}
use Rattle.nest.specs.declared.hang.Place.{Place}
use Rattle.nest.specs.Lists.{each, from}
use Rattle.nest.specs.UpTo.{up_to}
use Rattle.nest.specs.Outline.{table_of, row_count, repeated}
use Rattle.nest.specs.Nest.{Claim, hook_on, first_row, referred, anchors, claim_in, hook, nest_record, table_array}
use Rattle.nest.specs.Found.{found_by}
use Rattle.nest.specs.Claims.{claim_by, Hung}
use Rattle.nest.specs.OfJob.{outline_of}
use Rattle.nest.proofs.Scan.{each_next, each_end}
use Rattle.nest.proofs.NestLaws.{hook_claim, hook_none, hangs_hooked, hangs_unhooked, hangs_top, hangs_referred, hangs_lost, record-hooked, record-unhooked, record-top, record-referred, record-lost, record-three, table_array_all}
use Rattle.nest.proofs.Hanging.{first_exists, referred_exists}
use Rattle.nest.proofs.Bridge.{rows_is, table_is, table_count_is, table_parent_by}
use Rattle.nest.proofs.Reports.{found_row, found_none}

-- ---- a table of repeat segments
none_there : (j : Job) (t : ℕ) → length j.spec.tables ≤ t → A.table_of j t ≡ S.no_table
unfolding A.table_of
none_there j t h = get_or-eq_default j.spec.tables S.no_table h

pub repeats_is : (j : Job) (t : ℕ) (x : Bool) → x ≡ (A.table_of j t).segment → x ≡ repeated (outline_of j) t
unfolding repeated
repeats_is j t x e = e ∙ sym (go (ltb t (length (outline_of j).tables)) refl)
  where
    same : (table_of (outline_of j) t).repeats ≡ (A.table_of j t).segment
    same = ap (λ v. v.repeats) (table_is j t)

    go : (b : Bool) → ltb t (length (outline_of j).tables) ≡ b → (b && (table_of (outline_of j) t).repeats) ≡ (A.table_of j t).segment
    go true q = same
    go false q = sym (ap (λ (v : S.Table). v.segment) (none_there j t (let h : length (outline_of j).tables ≤ t = ltb-false _ _ q in rw (table_count_is j) at h)))

-- ---- rows have small numbers
rows_within : (ts : List TableData) (t : ℕ) → (get_or ts t no_table_data).rows ≤ rows_of_all ts
unfolding rows_of_all
rows_within [] t = omega arith
rows_within (x ∷ ts) zero = omega arith
rows_within (x ∷ ts) (suc t) = omega (arith, rows_within ts t)

pub rows_few : (j : Job) (t : ℕ) → rows_of_all j.tables ≤ 4096 → row_count (outline_of j) t ≤ 4096
unfolding A.data_of
rows_few j t h = let e = rows_is j t in let w = rows_within j.tables t in omega (arith, e, w)

pub first_small : (j : Job) (u v : ℕ) (f : Option RowId) (p : RowId) → rows_of_all j.tables ≤ 4096 → f ≡ found_by (first_row (outline_of j) u v) → f ≡ Some p → p.0 < 4096
first_small j u v f p h e q = let x = first_exists (outline_of j) u v p.0 (found_row _ f p e q) in let y = rows_few j u h in omega (arith, x, y)

pub referred_small : (j : Job) (t r u : ℕ) (f : Option RowId) (p : RowId) → rows_of_all j.tables ≤ 4096 → f ≡ found_by (referred (outline_of j) t r u) → f ≡ Some p → p.0 < 4096
referred_small j t r u f p h e q = let x = referred_exists (outline_of j) t r u p.0 (found_row _ f p e q) in let y = rows_few j u h in omega (arith, x, y)

-- ---- where a row of another table hangs
module _ (j : Job) (t r : ℕ) (plain : repeated (outline_of j) t ≡ false) (x : Option ℕ) (e : x ≡ (A.table_of j t).parent) where
  pub hung_top : x ≡ None → Hung (outline_of j) t r (record { above = 0; l = record { 0 = 0 }; table = record { 0 = 0 } })
  hung_top q =
      let p = table_parent_by j t x e None q in
      record { numbers = sym (record-top (outline_of j) t r plain p); row = sym (hangs_top (outline_of j) t r plain p) }

  module _ (u : ℕ) (q : x ≡ Some u) (f : Option RowId) (g : f ≡ found_by (referred (outline_of j) t r u)) where
    pub hung_parent : (p : RowId) → f ≡ Some p → Hung (outline_of j) t r (record { above = p.0 + 1; l = record { 0 = 0 }; table = record { 0 = u } })
    hung_parent p z =
        let y = found_row _ f p g z in
        let up = table_parent_by j t x e (Some u) q in
        record {
          numbers = rw add-one (sym (record-referred (outline_of j) t r u p.0 plain up y));
          row = rw add-one (sym (hangs_referred (outline_of j) t r u p.0 plain up y));
        }

    pub hung_lost : f ≡ None → Hung (outline_of j) t r (record { above = 0; l = record { 0 = 0 }; table = record { 0 = 0 } })
    hung_lost z =
        let y = found_none _ f g z in
        let up = table_parent_by j t x e (Some u) q in
        record { numbers = sym (record-lost (outline_of j) t r u plain up y); row = sym (hangs_lost (outline_of j) t r u plain up y) }

-- ---- where a repeat row hangs
abbrev claim_is : Result Claimed TableId → Option Claim
claim_is (Ok k) = Some (record { loop = k.l.0; table = k.table.0; value = k.value })
claim_is (Err t) = None

claim_is_lem : (x : Option Claim) (last : ℕ) → claim_is (claim_by x last) ≡ x
claim_is_lem None last = refl
claim_is_lem (Some k) last = refl

module _ (j : Job) (t r : ℕ) (again : repeated (outline_of j) t ≡ true) (a : Result Claimed TableId) (last : ℕ) (e : a ≡ claim_by (claim_in (outline_of j) t r (anchors (outline_of j) t)) last) where
  the_claim : claim_in (outline_of j) t r (anchors (outline_of j) t) ≡ claim_is a
  the_claim = sym (claim_is_lem _ last) ∙ ap claim_is (sym e)

  pub claimed_none : (u : TableId) → a ≡ Err u → claim_in (outline_of j) t r (anchors (outline_of j) t) ≡ None
  claimed_none u q = the_claim ∙ ap claim_is q

  pub claimed_is : (k : Claimed) → a ≡ Ok k → claim_in (outline_of j) t r (anchors (outline_of j) t) ≡ Some (record { loop = k.l.0; table = k.table.0; value = k.value })
  claimed_is k q = the_claim ∙ ap claim_is q

  pub hung_unclaimed : (u : TableId) → a ≡ Err u → Hung (outline_of j) t r (record { above = 0; l = record { 0 = 0 }; table = record { 0 = 0 } })
  hung_unclaimed u q =
      let n = hook_none (outline_of j) t r again (claimed_none u q) in
      record { numbers = sym (record-unhooked (outline_of j) t r again n); row = sym (hangs_unhooked (outline_of j) t r again n) }

  module _ (k : Claimed) (q : a ≡ Ok k) (f : Option RowId) (g : f ≡ found_by (first_row (outline_of j) k.table.0 k.value)) where
    abbrev the : Claim
    the = record { loop = k.l.0; table = k.table.0; value = k.value }

    claimed : claim_in (outline_of j) t r (anchors (outline_of j) t) ≡ Some the
    claimed = claimed_is k q

    pub hung_hooked : (p : RowId) → f ≡ Some p → Hung (outline_of j) t r (record { above = p.0 + 1; l = k.l; table = k.table })
    hung_hooked p z =
        let y = found_row (first_row (outline_of j) k.table.0 k.value) f p g z in
        let n : hook (outline_of j) t r ≡ Some (record { loop = k.l.0; table = k.table.0; row = p.0 }) = hook_claim (outline_of j) t r the again claimed ∙ ap (option_map (hook_on the)) y in
        record { numbers = rw add-one (sym (record-hooked (outline_of j) t r _ again n)); row = rw add-one (sym (hangs_hooked (outline_of j) t r _ again n)) }

    pub hung_unhooked : f ≡ None → Hung (outline_of j) t r (record { above = 0; l = record { 0 = 0 }; table = record { 0 = 0 } })
    hung_unhooked z =
        let y = found_none (first_row (outline_of j) k.table.0 k.value) f g z in
        let n : hook (outline_of j) t r ≡ None = hook_claim (outline_of j) t r the again claimed ∙ ap (option_map (hook_on the)) y in
        record { numbers = sym (record-unhooked (outline_of j) t r again n); row = sym (hangs_unhooked (outline_of j) t r again n) }

-- ---- pieces of numbers stored one after the other: what is left to store gives the same as the whole
pub record Storing (g : ℕ → List ℕ) (n : ℕ) (d₀ : List ℕ) (start : ℕ) (d : List ℕ) (at i : ℕ) : Type 0 where
  pub same : sets d₀ start (each g (up_to 0 n)) ≡ sets d at (each g (up_to i n))
  pub long : length d ≡ length d₀

module _ (g : ℕ → List ℕ) (n : ℕ) (d₀ : List ℕ) (start : ℕ) where
  pub storing_none : (at : ℕ) → at ≡ start → Storing g n d₀ start d₀ at 0
  storing_none at q = record { same = ap (λ k. sets d₀ k (each g (up_to 0 n))) (sym q); long = refl }

  pub storing_next : (d d₁ : List ℕ) (at next i m : ℕ) → Storing g n d₀ start d at i → m ≡ n → i < m → d₁ ≡ sets d at (g i) → next ≡ at + length (g i) → Storing g n d₀ start d₁ next (i + 1)
  storing_next d d₁ at next i m w c h e q = record {
    same = w.same ∙ rw (each_next g i n (omega arith), q, e) (sym (sets_append d at (g i) _));
    long = rw e (length-sets d at (g i)) ∙ w.long;
  }

  pub storing_end : (d : List ℕ) (at i m : ℕ) (ys : List ℕ) → Storing g n d₀ start d at i → m ≡ n → m ≤ i → ys ≡ each g (up_to 0 n) → d ≡ sets d₀ start ys
  storing_end d at i m ys w c h q = rw q (sym (w.same ∙ rw (each_end g i n (omega arith))))

-- ---- where the rows of a table stand among all
pub rows_room : (ts : List TableData) (t : ℕ) → T.rows_before ts t + (get_or ts t no_table_data).rows ≤ rows_of_all ts
unfolding T.rows_before rows_of_all
rows_room [] zero = omega arith
rows_room [] (suc t) = omega arith
rows_room (x ∷ ts) zero = omega arith
rows_room (x ∷ ts) (suc t) = omega (arith, rows_room ts t)

pub before_all : (ts : List TableData) → T.rows_before ts 0 ≡ 0
unfolding T.rows_before rows_of_all
before_all ts = refl

rows_next : (ts : List TableData) (t : ℕ) → T.rows_before ts (suc t) ≡ T.rows_before ts t + (get_or ts t no_table_data).rows
unfolding T.rows_before rows_of_all
rows_next [] zero = refl
rows_next [] (suc t) = refl
rows_next (x ∷ ts) zero = omega arith
rows_next (x ∷ ts) (suc t) = let i = rows_next ts t in omega (arith, i)

pub length_from : (n a : ℕ) → length (from a n) ≡ n
length_from zero a = refl
length_from (suc n) a = ap suc (length_from n (suc a))

each_three : (g : ℕ → List ℕ) → ((x : ℕ) → length (g x) ≡ 3) → (xs : List ℕ) → length (each g xs) ≡ length xs * 3
each_three g h [] = omega arith
each_three g h (x ∷ xs) = length-append (g x) (each g xs) ∙ (let i = each_three g h xs in let k = h x in omega (arith, i, k))

module _ (j : Job) where
  pub room_for : (t r n first : ℕ) → first ≡ T.rows_before j.tables t → n ≡ (A.data_of j t).rows → r < n → first + r < rows_of_all j.tables
  unfolding A.data_of
  room_for t r n first e c k = let q : n ≡ (get_or j.tables t no_table_data).rows = c in let w = rows_room j.tables t in omega (arith, q, w, e, k)

  pub table_length : (t : ℕ) → length (table_array (outline_of j) t) ≡ (A.data_of j t).rows * 3
  table_length t = ap length (table_array_all (outline_of j) t) ∙ each_three (nest_record (outline_of j) t) (record-three (outline_of j) t) (up_to 0 (row_count (outline_of j) t)) ∙ ap (λ k. k * 3) (length_from (row_count (outline_of j) t - 0) 0 ∙ go)
    where
      go : row_count (outline_of j) t - 0 ≡ (A.data_of j t).rows
      go = let e = rows_is j t in omega (arith, e)

  pub table_next : (t : ℕ) → T.rows_before j.tables (t + 1) * 3 ≡ T.rows_before j.tables t * 3 + length (table_array (outline_of j) t)
  unfolding A.data_of
  table_next t =
      let l : length (table_array (outline_of j) t) ≡ (get_or j.tables t no_table_data).rows * 3 = table_length t in
      let n = rows_next j.tables t in
      rw add-one (omega (arith, l, n))

  -- the numbers of one row
  pub stored_row : (t r : ℕ) (p : Place) (d d₁ : List ℕ) (at k : ℕ) → Hung (outline_of j) t r p → at ≡ k → d₁ ≡ sets d at (p.above ∷ p.l.0 ∷ p.table.0 ∷ []) → d₁ ≡ sets d k (nest_record (outline_of j) t r)
  stored_row t r p d d₁ at k h q e = e ∙ rw q (ap (sets d k) h.numbers)

  pub row_next : (t r first : ℕ) → (first + (r + 1)) * 3 ≡ (first + r) * 3 + length (nest_record (outline_of j) t r)
  row_next t r first = let k = record-three (outline_of j) t r in omega (arith, k)
