-- The ways through the searches for keys and rows, and up the loops.
use Prim.Native.Nat.{ℕ, ◌+◌, ◌-◌, ◌≤◌, ◌<◌}
use mathlib.Core.Path.{◌≡◌, sym, ap, ◌∙◌}
use native.Mathlib.Omega.{arith}
use lib.ListN.{length}
use lib.Dec.{eqb}
use Rattle.format.specs.Job.{Job}
use Rattle.format.specs.Ask as A
use Rattle.column.specs.Cell.{reference_of}
use Rattle.spec.specs.declared.ids.RowId.{RowId}
use Rattle.std.specs.Prelude.{Option, None, Some}
use Rattle.nest.specs.Lists.{keep, first}
use Rattle.nest.specs.UpTo.{up_to}
use Rattle.nest.specs.Outline.{row_count}
use Rattle.nest.specs.Nest.{first_row, referred, depth, depth_of}
use Rattle.nest.specs.Found.{found_by}
use Rattle.nest.specs.OfJob.{outline_of}
use Rattle.nest.proofs.NestLaws.{referred_null, referred_by}
use Rattle.nest.proofs.Anchors.{depth_top, depth_up, depth_spent}
use Rattle.nest.proofs.Bridge.{reference_is, loop_count_is, parent_is}

-- ---- the first row of u with the key v: none of the first k
module _ (j : Job) (u v : ℕ) where
  abbrev pub sought : ℕ → Option ℕ
  sought k = first (keep (λ p. eqb ((outline_of j).key u p) v) (up_to k (row_count (outline_of j) u)))

-- ---- the row that a reference names
module _ (j : Job) (t r u : ℕ) (x : Option ℕ) (e : x ≡ reference_of (A.data_of j t) u r) where
  pub refers : (v : ℕ) → x ≡ Some v → (outline_of j).reference t u r ≡ Some v
  refers v q = reference_is j t u r ∙ sym e ∙ q

  pub refers_not : x ≡ None → (outline_of j).reference t u r ≡ None
  refers_not q = reference_is j t u r ∙ sym e ∙ q

  pub referred_row : (v : ℕ) (f : Option RowId) → x ≡ Some v → f ≡ found_by (first_row (outline_of j) u v) → f ≡ found_by (referred (outline_of j) t r u)
  referred_row v f q h = h ∙ ap found_by (sym (referred_by (outline_of j) t r u v (refers v q)))

  pub referred_none : x ≡ None → None ≡ found_by (referred (outline_of j) t r u)
  referred_none q = ap found_by (sym (referred_null (outline_of j) t r u (refers_not q)))

-- ---- how deep l stands: d steps up from it is `at`
module _ (j : Job) (l : ℕ) where
  pub climb_start : (n : ℕ) → n ≡ length j.spec.loops → depth_of (outline_of j) l ≡ 0 + depth (outline_of j) (n - 0) l
  climb_start n c =
      let q : length (outline_of j).loops ≡ n = loop_count_is j ∙ sym c in
      let z : n - 0 ≡ n = omega arith in
      rw (q, z) (omega arith)

  module _ (n at d : ℕ) (x : Option ℕ) (e : x ≡ (A.loop_of j at).parent) (i : depth_of (outline_of j) l ≡ d + depth (outline_of j) (n - d) at) where
    pub climb_up : (p : ℕ) → d < n → x ≡ Some p → depth_of (outline_of j) l ≡ (d + 1) + depth (outline_of j) (n - (d + 1)) p
    climb_up p k q =
        let u = depth_up (outline_of j) (n - d) at p (omega arith) (parent_is j at ∙ sym e ∙ q) in
        let z : n - (d + 1) ≡ n - d - 1 = omega arith in
        rw z (omega (arith, i, u))

    pub climb_top : x ≡ None → d ≡ depth_of (outline_of j) l
    climb_top q = let u = depth_top (outline_of j) (n - d) at (parent_is j at ∙ sym e ∙ q) in omega (arith, i, u)

  pub climb_end : (n at d : ℕ) → d ≤ n → n ≤ d → depth_of (outline_of j) l ≡ d + depth (outline_of j) (n - d) at → n ≡ depth_of (outline_of j) l
  climb_end n at d h k i = let z : n - d ≡ 0 = omega arith in let u : depth (outline_of j) (n - d) at ≡ 0 = rw z (depth_spent (outline_of j) at) in omega (arith, i, u)
