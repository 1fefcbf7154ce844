-- Maps: lists of entries whose keys rise strictly, numbers by value and byte strings lexicographically (docs/RULES.md, "Structures").
use Prim.Native.Nat.{ℕ, ◌+◌}
use Rattle.std.specs.Prelude.{List, [], ◌∷◌, Bool, ltb, eqb, Option, None, Some}
use Rattle.std.proofs.Math.Bool.{true, false}
use Rattle.codec.specs.Codec.{pick, Codec, ◌⊗◌, when_c, list_c}
use Rattle.codec.specs.Forms.{num_c, bytes_c}

-- each key is at least low, and above the one before it
abbrev pub rises_from : {E : Type 0} → ℕ → List (ℕ × E) → Bool
rises_from low [] = true
rises_from low (x ∷ xs) = pick (ltb x.0 low) false (rises_from (x.0 + 1) xs)

unfoldable pub num_map_c : {E : Type 0} → Codec E → Codec (List (ℕ × E))
num_map_c E = when_c (rises_from 0) (list_c (num_c ⊗ E))

abbrev pub before : List ℕ → List ℕ → Bool
before [] [] = false
before [] (y ∷ ys) = true
before (x ∷ xs) [] = false
before (x ∷ xs) (y ∷ ys) = pick (ltb x y) true (pick (eqb x y) (before xs ys) false)

abbrev pub above : Option (List ℕ) → List ℕ → Bool
above None k = true
above (Some j) k = before j k

abbrev pub rises_after : {E : Type 0} → Option (List ℕ) → List (List ℕ × E) → Bool
rises_after last [] = true
rises_after last (x ∷ xs) = pick (above last x.0) (rises_after (Some x.0) xs) false

unfoldable pub bytes_map_c : {E : Type 0} → Codec E → Codec (List (List ℕ × E))
bytes_map_c E = when_c (rises_after None) (list_c (bytes_c ⊗ E))
