-- The four counts of an answer 0, as a list that has room for them holds them.
use Prim.Native.Nat.{ℕ, zero, suc, ◌≤◌, ◌<◌}
use mathlib.Core.Path.{◌≡◌, refl}
use mathlib.Core.List.{List}
use native.Mathlib.Omega.{arith}
use lib.ListN.{length, get_or}
use Rattle.std.proofs.lemmas.List.{get_or_append_left}
use Rattle.std.proofs.lemmas.List.Edits.{sets, sets-eq}
use Rattle.finding.specs.declared.Finding.{Finding}
use Rattle.format.specs.Job.{Job}
use Rattle.writer.specs.Refused.{first_of, refusal}
use Rattle.writer.specs.Numbers.{number_for, values_for}
use Rattle.baktuven.specs.Held.{NothingLostIn}

no_refusal : (n m : ℕ) → first_of n m ≡ 0 → n ≡ 0
no_refusal zero m h = refl
no_refusal (suc k) m h = absurd (omega (arith, h))

-- with 0 there are four counts
pub four_values : (b : List ℕ) (d g f p : ℕ) → number_for b d g f p ≡ 0 → length (values_for b) ≡ 4
unfolding number_for values_for
four_values b d g f p h = rw (no_refusal (refusal b) _ h)

held_at : (vs c : List ℕ) (k : ℕ) → k < length vs → length vs ≤ length c → get_or (sets c 0 vs) k 0 ≡ get_or vs k 0
held_at vs c k h i = rw (sets-eq vs c 0 (omega arith)) (get_or_append_left vs _ 0 k h)

-- what four counts say of the lists, the list that holds them at its front says too
pub lost_held : (j : Job) (vs c c' d g : List ℕ) (f : List Finding) (p : List ℕ) → c' ≡ sets c 0 vs → length vs ≡ 4 → 4 ≤ length c
    → NothingLostIn j vs d g f p → NothingLostIn j c' d g f p
lost_held j vs c c' d g f p e n m t =
    rw (e, held_at vs c 0 (omega arith) (omega arith), held_at vs c 1 (omega arith) (omega arith), held_at vs c 2 (omega arith) (omega arith), held_at vs c 3 (omega arith) (omega arith)) t
