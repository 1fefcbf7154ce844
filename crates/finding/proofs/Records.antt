-- The records of a list of numbers: of one that is made of records, and stored one by one.
use Prim.Native.Nat.{ℕ, zero, suc, ◌+◌, ◌*◌, ◌<◌}
use mathlib.Core.Path.{◌≡◌, refl, ap}
use mathlib.Core.List.{List, [], ◌∷◌, ◌++◌}
use native.Mathlib.Omega.{arith}
use lib.ListN.{length, get_or, drop, set, get_or-append}
use lib.Seq.{sets, drop-drop, drop_at}
use Rattle.lent.proofs.Laws.{sets_snoc}
use Rattle.finding.specs.declared.Finding.{Finding}
use Rattle.finding.specs.Findings.{finding_from}
use Rattle.finding.specs.Records.{finding_at, findings_in}

-- ten numbers decide
from_ten : (ws vs : List ℕ) → length ws ≡ 10 → finding_from (ws ++ vs) ≡ finding_from ws
from_ten ws vs l =
    let at : (k : ℕ) → k < 10 → get_or (ws ++ vs) k 0 ≡ get_or ws k 0 = (λ k h. get_or-append ws vs 0 k (omega arith)) in
    simp (at 0 (omega arith), at 1 (omega arith), at 2 (omega arith), at 3 (omega arith), at 4 (omega arith), at 5 (omega arith), at 6 (omega arith), at 7 (omega arith), at 8 (omega arith), at 9 (omega arith))

-- the records behind the first are those of the rest
later_in : (ws : List ℕ) (i n : ℕ) → findings_in ws (i + 1) n ≡ findings_in (drop 10 ws) i n
unfolding findings_in finding_at
later_in ws i zero = refl
later_in ws i (suc n) =
    let e : 10 + i * 10 ≡ (i + 1) * 10 = omega arith in
    rw (later_in ws (i + 1) n, drop-drop (i * 10) 10 ws, e)

-- a first record of ten numbers, and those of the rest
pub records_in : (ws vs : List ℕ) (n : ℕ) → length ws ≡ 10 → findings_in (ws ++ vs) 0 (suc n) ≡ finding_from ws ∷ findings_in vs 0 n
unfolding findings_in finding_at
records_in ws vs n l = rw (later_in (ws ++ vs) 0 n, drop_at ws vs 10 l, from_ten ws vs l)

pub no_records : (ws : List ℕ) (i : ℕ) → findings_in ws i 0 ≡ []
unfolding findings_in
no_records ws i = refl

-- one record more
one_behind : (ws : List ℕ) (i k : ℕ) → findings_in ws i (k + 1) ≡ findings_in ws i k ++ (finding_at ws (i + k) ∷ [])
unfolding findings_in
one_behind ws i zero = let e : i + 0 ≡ i = omega arith in rw e
one_behind ws i (suc k) =
    let e : i + suc k ≡ i + 1 + k = omega arith in
    let n : suc k + 1 ≡ suc (k + 1) = omega arith in
    rw (e, n, one_behind ws (i + 1) k)

so_many : (ws : List ℕ) (i k : ℕ) → length (findings_in ws i k) ≡ k
unfolding findings_in
so_many ws i zero = refl
so_many ws i (suc k) = ap suc (so_many ws (i + 1) k)

-- it is stored
pub one_more : (f f₁ f₂ : List Finding) (ws : List ℕ) (p i k : ℕ) → f₁ ≡ sets f p (findings_in ws i k) → f₂ ≡ set f₁ (p + k) (finding_at ws (i + k)) → f₂ ≡ sets f p (findings_in ws i (k + 1))
one_more f f₁ f₂ ws p i k e g = rw (g, e, one_behind ws i k) (sets_snoc f p (findings_in ws i k) k _ (so_many ws i k))
