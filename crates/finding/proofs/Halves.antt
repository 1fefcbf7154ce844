-- The line of a mismatched reference, written in two halves.
use Rattle.std.specs.Prelude.{ℕ, ℤ, List, [], ◌∷◌, ◌++◌, ◌≡◌}
use Rattle.std.specs.Fmt.{signed_decimal}
use Rattle.std.proofs.Common.{append_assoc, ap, ◌∙◌}

abbrev pub front : List ℕ → List ℕ → List ℕ → ℤ → List ℕ
front a b c d = 77 ∷ 82 ∷ 32 ∷ (a ++ 32 ∷ (b ++ 32 ∷ (c ++ 32 ∷ (signed_decimal d ++ 32 ∷ []))))

abbrev pub back : List ℕ → List ℕ → ℤ → List ℕ
back e g h = e ++ 32 ∷ (g ++ 32 ∷ signed_decimal h)

pub two_halves : (a b c e g : List ℕ) (d d' h h' : ℤ) → d ≡ d' → h ≡ h'
    → front a b c d ++ back e g h ≡ 77 ∷ 82 ∷ 32 ∷ (a ++ 32 ∷ (b ++ 32 ∷ (c ++ 32 ∷ (signed_decimal d' ++ 32 ∷ (e ++ 32 ∷ (g ++ 32 ∷ signed_decimal h'))))))
two_halves a b c e g d d' h h' i j =
    let r = e ++ 32 ∷ (g ++ 32 ∷ signed_decimal h') in
    let of_d = append_assoc (signed_decimal d') (32 ∷ []) r in
    let of_c = append_assoc c (32 ∷ (signed_decimal d' ++ 32 ∷ [])) r ∙ ap (λ t. c ++ 32 ∷ t) of_d in
    let of_b = append_assoc b (32 ∷ (c ++ 32 ∷ (signed_decimal d' ++ 32 ∷ []))) r ∙ ap (λ t. b ++ 32 ∷ t) of_c in
    let of_a = append_assoc a (32 ∷ (b ++ 32 ∷ (c ++ 32 ∷ (signed_decimal d' ++ 32 ∷ [])))) r ∙ ap (λ t. a ++ 32 ∷ t) of_b in
    rw (i, j) (ap (λ t. 77 ∷ 82 ∷ 32 ∷ t) of_a)
