-- Not to be believed: words of inner contracts, beside those of Reading, on which no contract of what users call rests.
use Rattle.std.specs.Prelude.{ℕ, suc, Bool, true, false, List, [], ◌∷◌, eqb}

-- ---- cutting a text

abbrev pub run_at : Bool → ℕ → ℕ
run_at true n = 0
run_at false n = suc n

-- how many bytes stand ahead of the first b: all of them, where there is none
unfoldable pub run : ℕ → List ℕ → ℕ
run b [] = 0
run b (x ∷ xs) = run_at (eqb x b) (run b xs)
