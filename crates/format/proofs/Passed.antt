-- Laws of the definitions of specs/Passed, and words that only proofs use.
use Rattle.std.specs.Prelude.{ℕ, ◌≤◌, ◌≡◌, refl, List, Bool, true, false, length}
use Rattle.std.proofs.Common.{arith, ltb-false}
use Rattle.codec.specs.Codec.{pick}
use Rattle.codec.proofs.Limits.{none_of}
use Rattle.format.specs.Job.{Job}
use Rattle.format.specs.Sections.{broken, spoilt, job_of}
use Rattle.format.proofs.Decoding.{sound_of, read_job}
use Rattle.format.specs.Refusal.{over_spec, over_data, over, tangled, unfit, refusal_in, refusal_of, rows_of_all}
use Rattle.format.specs.Passed.{Passed}

pub passed : (b : List ℕ) → refusal_of b ≡ 0 → Passed b
unfolding refusal_of refusal_in
passed b h = go (broken b) (spoilt b) (over (job_of b)) (tangled (job_of b)) (unfit (job_of b)) refl refl refl refl refl h
  where
    go : (p q r s t : Bool) → broken b ≡ p → spoilt b ≡ q → over (job_of b) ≡ r → tangled (job_of b) ≡ s → unfit (job_of b) ≡ t
        → pick {A = ℕ} p 1 (pick {A = ℕ} q 2 (pick {A = ℕ} r 3 (pick {A = ℕ} s 4 (pick {A = ℕ} t 5 0)))) ≡ 0 → Passed b
    go true q r s t i j k l m h = absurd (omega arith)
    go false true r s t i j k l m h = absurd (omega arith)
    go false false true s t i j k l m h = absurd (omega arith)
    go false false false true t i j k l m h = absurd (omega arith)
    go false false false false true i j k l m h = absurd (omega arith)
    go false false false false false i j k l m h = record { sound = sound_of b i; read = read_job b i j; limits = k; forest = l; fit = m }

-- ---- a law for each number

module _ (b : List ℕ) where
  pub refused_1 : broken b ≡ true → refusal_of b ≡ 1
  unfolding refusal_of refusal_in
  refused_1 h = rw h

  pub refused_2 : broken b ≡ false → spoilt b ≡ true → refusal_of b ≡ 2
  unfolding refusal_of refusal_in
  refused_2 h i = rw (h, i)

  pub refused_3 : broken b ≡ false → spoilt b ≡ false → over (job_of b) ≡ true → refusal_of b ≡ 3
  unfolding refusal_of refusal_in
  refused_3 h i j = rw (h, i, j)

  pub refused_4 : broken b ≡ false → spoilt b ≡ false → over (job_of b) ≡ false → tangled (job_of b) ≡ true → refusal_of b ≡ 4
  unfolding refusal_of refusal_in
  refused_4 h i j k = rw (h, i, j, k)

  pub refused_5 : broken b ≡ false → spoilt b ≡ false → over (job_of b) ≡ false → tangled (job_of b) ≡ false → unfit (job_of b) ≡ true → refusal_of b ≡ 5
  unfolding refusal_of refusal_in
  refused_5 h i j k l = rw (h, i, j, k, l)

  pub refused_not : broken b ≡ false → spoilt b ≡ false → over (job_of b) ≡ false → tangled (job_of b) ≡ false → unfit (job_of b) ≡ false → refusal_of b ≡ 0
  unfolding refusal_of refusal_in
  refused_not h i j k l = rw (h, i, j, k, l)

-- ---- the limits, one by one
pub record Few (j : Job) : Type 0 where
  pub loops : length j.spec.loops ≤ 32
  pub tables : length j.spec.tables ≤ 16
  pub filled : length j.tables ≤ 16
  pub rows : rows_of_all j.tables ≤ 4096

pub few : (j : Job) → over j ≡ false → Few j
unfolding over over_spec over_data
few j h =
    let s = none_of _ _ h in
    let d = (none_of _ _ (none_of _ _ (none_of _ _ s.1).1).1).0 in
    let n = none_of _ _ s.0 in
    let m = none_of _ _ d in
    record { loops = ltb-false _ _ n.0; tables = ltb-false _ _ (none_of _ _ n.1).0; filled = ltb-false _ _ m.0; rows = ltb-false _ _ (none_of _ _ m.1).0 }
