-- Numbers of loops that a job which passed names are below 32.
use Prim.Native.Nat.{ℕ, ◌<◌}
use mathlib.Core.Path.{◌≡◌, refl, sym, ap, ◌∙◌}
use mathlib.Core.Bool.{Bool, true, false}
use mathlib.Core.List.{List}
use native.Mathlib.Omega.{arith}
use native.Mathlib.Decide.{dec_lt}
use Rattle.std.specs.Prelude.{None, Some}
use Rattle.std.proofs.lemmas.Option.{none-some}
use lib.ListN.{length, get_or, get_or-eq_default}
use lib.Dec.{ltb}
use borrow.Author.Tests.{ltb-true, ltb-false, leb-false}
use Rattle.codec.proofs.Limits.{none_of, none_in}
use Rattle.format.proofs.Words.{none_some}
use Rattle.format.specs.Spec as S
use Rattle.format.specs.Sections.{job_of}
use Rattle.format.specs.Refusal.{tangled, tangled_loops, outside_loop, outside_table, outside}
use Rattle.format.specs.Passed.{Passed}
use Rattle.format.proofs.Passed.{few}
use Rattle.format.specs.Ask as A

pub parent_small : (b : List ℕ) → Passed b → (l p : ℕ) → (A.loop_of (job_of b) l).parent ≡ Some p → p < 32
unfolding A.loop_of tangled tangled_loops outside_loop outside
parent_small b w l p e = go (ltb l (length (job_of b).spec.loops)) refl e
  where
    go : (u : Bool) → ltb l (length (job_of b).spec.loops) ≡ u → (get_or (job_of b).spec.loops l S.no_loop).parent ≡ Some p → p < 32
    go true q i =
        let x = none_in (outside_loop (length (job_of b).spec.loops)) (job_of b).spec.loops (none_of _ _ (none_of _ _ w.forest).0).0 l S.no_loop (ltb-true _ _ q) in
        let y : outside (length (job_of b).spec.loops) p ≡ false = none_some (outside (length (job_of b).spec.loops)) (get_or (job_of b).spec.loops l S.no_loop).parent (none_of _ _ x).0 p i in
        let z : p < length (job_of b).spec.loops = leb-false _ _ y in
        omega (arith, z, (few (job_of b) w.limits).loops)
    go false q i =
        let z : (get_or (job_of b).spec.loops l S.no_loop).parent ≡ None = ap (λ (s : S.Loop). s.parent) (get_or-eq_default (job_of b).spec.loops S.no_loop {n = l} (ltb-false _ _ q)) in
        absurd (none-some p (sym z ∙ i))

pub table_loop_small : (b : List ℕ) → Passed b → (t k m : ℕ) → m ≡ get_or (A.table_of (job_of b) t).loops k 0 → m < 32
unfolding A.table_of tangled outside_table outside
table_loop_small b w t k m e = rw e (low (dec_lt k (length (get_or (job_of b).spec.tables t S.no_table).loops)))
  where
    go : (u : Bool) → ltb t (length (job_of b).spec.tables) ≡ u → k < length (get_or (job_of b).spec.tables t S.no_table).loops → get_or (get_or (job_of b).spec.tables t S.no_table).loops k 0 < 32
    go true q i =
        let x = none_in (outside_table (length (job_of b).spec.loops)) (job_of b).spec.tables (none_of _ _ (none_of _ _ w.forest).1).0 t S.no_table (ltb-true _ _ q) in
        let y : get_or (get_or (job_of b).spec.tables t S.no_table).loops k 0 < length (job_of b).spec.loops = leb-false _ _ (none_in (outside (length (job_of b).spec.loops)) _ x k 0 i) in
        omega (arith, y, (few (job_of b) w.limits).loops)
    go false q i =
        let z : length (get_or (job_of b).spec.tables t S.no_table).loops ≡ 0 = ap (λ (s : S.Table). length s.loops) (get_or-eq_default (job_of b).spec.tables S.no_table {n = t} (ltb-false _ _ q)) in
        absurd (omega (arith, z, i))

    low : Dec (k < length (get_or (job_of b).spec.tables t S.no_table).loops) → get_or (get_or (job_of b).spec.tables t S.no_table).loops k 0 < 32
    low (yes i) = go (ltb t (length (job_of b).spec.tables)) refl i
    low (no i) = let z : get_or (get_or (job_of b).spec.tables t S.no_table).loops k 0 ≡ 0 = get_or-eq_default (get_or (job_of b).spec.tables t S.no_table).loops 0 {n = k} (omega (arith, i)) in omega (arith, z)
