use Rattle.std.specs.Prelude.{◌≡◌, ℕ, suc, ◌+◌, ◌≤◌, ◌<◌, List, length, map, drop, set, get_or}
use Rattle.std.proofs.Common.{refl, arith, sym, ◌∙◌, add-zero}
use Rattle.std.proofs.lemmas.List.{drop_more, drop_all}
use Rattle.codec.specs.Rows.{stored, small}
use Rattle.codec.proofs.put_all.Goals as goal

next : (l d ps : List ℕ) (k i : ℕ) → i < length ps → d ≡ set l (k + i) (small (get_or ps i 0)) → stored d (k + (i + 1)) (map small (drop (i + 1) ps)) ≡ stored l (k + i) (map small (drop i ps))
unfolding stored
next l d ps k i h j = let e : k + (i + 1) ≡ suc (k + i) = omega arith in rw (drop_more ps i 0 h, j, e) refl

done : (l ps : List ℕ) (k i : ℕ) → length ps ≤ i → stored l (k + i) (map small (drop i ps)) ≡ l
unfolding stored
done l ps k i h = rw (drop_all i ps h) refl

pub loop-i-init : goal.loop-i-init
loop-i-init c = (rw add-zero refl, omega arith)

pub loop-i-preserved : goal.loop-i-preserved
loop-i-preserved c = (next _ _ _ _ _ (omega arith) c.put.ensures ∙ c.loop-i.invariant.0, omega arith)

pub returns : goal.returns
returns c = sym (done _ _ _ _ (omega arith)) ∙ c.loop-i.invariant.0
