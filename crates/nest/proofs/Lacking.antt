-- The ways through the reports of a row, and of all rows.
use Prim.Native.Nat.{ℕ, zero, suc, ◌+◌, ◌-◌, ◌≤◌}
use mathlib.Core.Path.{◌≡◌, refl, sym, ap, ◌∙◌}
use mathlib.Core.Bool.{true, false}
use mathlib.Core.List.{List, [], ◌∷◌, ◌++◌}
use native.Mathlib.Omega.{arith}
use native.Mathlib.Numerals.{add-one}
use lib.ListN.{length, get_or, drop}
use Rattle.format.specs.Job.{Job}
use Rattle.format.specs.Ask as A
use Rattle.column.specs.Cell.{reference_of}
use Rattle.lent.proofs.Fit.{wide}
use Rattle.lent.specs.Window.{Noted}
use Rattle.lent.proofs.Laws.{stored_append}
use Rattle.spec.specs.declared.ids.TableId.{TableId}
use Rattle.std.specs.Prelude.{Result, Ok, Err, None, Some, Option}
use Rattle.nest.specs.declared.hang.Claimed.{Claimed}
use Rattle.nest.specs.Lists.{each, from}
use Rattle.nest.specs.UpTo.{up_to}
use Rattle.nest.specs.Outline.{Outline, repeated}
use Rattle.nest.specs.Nest.{anchors, claim_in, row_of}
use Rattle.nest.specs.Finding.{Finding, missing, mismatch, record_of}
use Rattle.nest.specs.NestFindings.{duplicates, contradiction_at, contradictions, missing_at, last_table, table_findings, nest_findings}
use Rattle.nest.specs.Claims.{claim_by}
use Rattle.nest.specs.OfJob.{outline_of}
use Rattle.nest.specs.Ready.{words}
use Rattle.nest.proofs.Scan.{each_at, each_past, each_append}
use Rattle.nest.proofs.FindingLaws.{findings_all, contradictions_all, agree_null, agree_above_null, agree_same, differ, missing_top, missing_parent, missing_claim, missing_unclaimed}
use Rattle.nest.proofs.Bridge.{table_parent_is, ancestors_is}
use Rattle.nest.proofs.Ways.{refers, refers_not}
use Rattle.nest.proofs.Placing.{claimed_none, claimed_is}

-- ---- contradictions
pub agrees_null : (j : Job) (t r u p a : ℕ) (x : Option ℕ) → x ≡ reference_of (A.data_of j t) a r → x ≡ None → contradiction_at (outline_of j) t r (row_of u p) a ≡ []
agrees_null j t r u p a x e q = agree_null (outline_of j) t r (row_of u p) a (refers_not j t r a x e q)

module _ (j : Job) (t r u p a : ℕ) (x y : Option ℕ) (e : x ≡ reference_of (A.data_of j t) a r) (f : y ≡ reference_of (A.data_of j u) a p) where
  pub agrees_above : (v : ℕ) → x ≡ Some v → y ≡ None → contradiction_at (outline_of j) t r (row_of u p) a ≡ []
  agrees_above v q z = agree_above_null (outline_of j) t r (row_of u p) a v (refers j t r a x e v q) (refers_not j u p a y f z)

  pub agrees_same : (v w : ℕ) → x ≡ Some v → y ≡ Some w → v ≡ w → contradiction_at (outline_of j) t r (row_of u p) a ≡ []
  agrees_same v w q z s = agree_same (outline_of j) t r (row_of u p) a v w (refers j t r a x e v q) (refers j u p a y f w z) s

  pub differs : (v w : ℕ) → x ≡ Some v → y ≡ Some w → (v ≡ w → ⊥) → contradiction_at (outline_of j) t r (row_of u p) a ≡ mismatch t r a v u p w ∷ []
  differs v w q z s = differ (outline_of j) t r (row_of u p) a v w (refers j t r a x e v q) (refers j u p a y f w z) s

pub mismatch_words : (t r a v u p w : ℕ) → 2 ∷ t ∷ r ∷ a ∷ v ∷ u ∷ p ∷ w ∷ 0 ∷ 0 ∷ [] ≡ record_of (mismatch t r a v u p w)
unfolding record_of
mismatch_words t r a v u p w = refl

-- over a list by position
module _ {B : Type 0} (f : ℕ → List B) (xs : List ℕ) where
  each_from : (k i : ℕ) → length xs ≡ i + k → each f (drop i xs) ≡ each (λ n. f (get_or xs n 0)) (from i k)
  each_from zero i h = each_past f xs i (omega (arith, h))
  each_from (suc k) i h = each_at f xs i 0 (omega (arith, h)) ∙ ap (λ z. f (get_or xs i 0) ++ z) (rw add-one (each_from k (suc i) (omega (arith, h))))

module _ (j : Job) (t r u p : ℕ) where
  -- of the ancestor at place k
  abbrev pub against : ℕ → List Finding
  against k = contradiction_at (outline_of j) t r (row_of u p) (get_or (A.table_of j u).ancestors k 0)

  pub against_all : contradictions (outline_of j) t r (row_of u p) ≡ each against (up_to 0 (length (A.table_of j u).ancestors))
  against_all = contradictions_all (outline_of j) t r (row_of u p) ∙ rw (ancestors_is j u) (each_from (contradiction_at (outline_of j) t r (row_of u p)) (A.table_of j u).ancestors (length (A.table_of j u).ancestors - 0) 0 (omega arith))

-- ---- missing parents
pub missing_some : (t r u v : ℕ) → 1 ∷ t ∷ r ∷ u ∷ 1 ∷ v ∷ 0 ∷ 0 ∷ 0 ∷ 0 ∷ [] ≡ record_of (missing t r u (Some v))
unfolding record_of
missing_some t r u v = refl

pub missing_none : (t r u : ℕ) → 1 ∷ t ∷ r ∷ u ∷ 0 ∷ 0 ∷ 0 ∷ 0 ∷ 0 ∷ 0 ∷ [] ≡ record_of (missing t r u None)
unfolding record_of
missing_none t r u = refl

module _ (j : Job) (t r : ℕ) (plain : repeated (outline_of j) t ≡ false) (x : Option ℕ) (e : x ≡ (A.table_of j t).parent) where
  pub lacks_top : x ≡ None → missing_at (outline_of j) t r ≡ []
  lacks_top q = missing_top (outline_of j) t r plain (table_parent_is j t ∙ sym e ∙ q)

  module _ (u : ℕ) (q : x ≡ Some u) (y : Option ℕ) (f : y ≡ reference_of (A.data_of j t) u r) where
    lacks : missing_at (outline_of j) t r ≡ missing t r u ((outline_of j).reference t u r) ∷ []
    lacks = missing_parent (outline_of j) t r u plain (table_parent_is j t ∙ sym e ∙ q)

    pub lacks_value : (v : ℕ) → y ≡ Some v → missing_at (outline_of j) t r ≡ missing t r u (Some v) ∷ []
    lacks_value v z = lacks ∙ ap (λ o. missing t r u o ∷ []) (refers j t r u y f v z)

    pub lacks_null : y ≡ None → missing_at (outline_of j) t r ≡ missing t r u None ∷ []
    lacks_null z = lacks ∙ ap (λ o. missing t r u o ∷ []) (refers_not j t r u y f z)

-- the last anchor tried
abbrev last_is : Result Claimed TableId → ℕ → ℕ
last_is (Ok k) d = d
last_is (Err t) d = t.0

module _ (j : Job) (t r : ℕ) (again : repeated (outline_of j) t ≡ true) (a : Result Claimed TableId) (e : a ≡ claim_by (claim_in (outline_of j) t r (anchors (outline_of j) t)) (last_table t (anchors (outline_of j) t))) where
  pub lacks_claim : (k : Claimed) → a ≡ Ok k → missing_at (outline_of j) t r ≡ missing t r k.table.0 (Some k.value) ∷ []
  lacks_claim k q = missing_claim (outline_of j) t r _ again (claimed_is j t r again a _ e k q)

  pub lacks_anchor : (u : TableId) → a ≡ Err u → missing_at (outline_of j) t r ≡ missing t r u.0 None ∷ []
  lacks_anchor u q =
      let c = claimed_none j t r again a _ e u q in
      let l : u.0 ≡ last_table t (anchors (outline_of j) t) = sym (ap (λ x. last_is x u.0) q) ∙ ap (λ x. last_is x u.0) e ∙ ap (λ x. last_is (claim_by x (last_table t (anchors (outline_of j) t))) u.0) c in
      missing_unclaimed (outline_of j) t r again c ∙ ap (λ n. missing t r n None ∷ []) (sym l)

-- ---- a row
pub stored_as : (d d' : List ℕ) (at n : ℕ) (fs gs : List Finding) → fs ≡ gs → Noted d at (words gs) n d' → Noted d at (words fs) n d'
stored_as d d' at n fs gs e s = rw e s

-- ---- duplicate keys, then the rows
pub findings_both : (o : Outline) (d d₁ d₂ : List ℕ) (at p q : ℕ) → length d ≤ wide
    → Noted d at (words (each (duplicates o) (up_to 0 (length o.row_counts)))) p d₁
    → Noted d₁ p (words (each (table_findings o) (up_to 0 (length o.tables)))) q d₂
    → Noted d at (words (nest_findings o)) q d₂
findings_both o d d₁ d₂ at p q h s t =
    let fs = each (duplicates o) (up_to 0 (length o.row_counts)) in
    let gs = each (table_findings o) (up_to 0 (length o.tables)) in
    let e : words (nest_findings o) ≡ words fs ++ words gs = ap words (findings_all o) ∙ each_append record_of fs gs in
    rw e (stored_append (words fs) (words gs) h s t)
