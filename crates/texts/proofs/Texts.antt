-- Laws of a text by value.
use Rattle.std.proofs.Common.{◌≡◌, ℕ, ◌+◌, ◌-◌, ◌<◌, ◌≤◌, List, [], ◌∷◌, ◌++◌, length, get_or, take, set, replicate, sym, refl, ap, ◌∙◌, ap₂, arith, length-append}
use Rattle.std.proofs.lemmas.List.{drop-replicate}
use lib.ListN.{length-replicate, get_or-append}
use lib.Seq.{sets, sets-eq, take-append_seam, drop-append-add}
use Rattle.texts.specs.declared.Text.{Text}
use Rattle.texts.specs.Held.{held, added}

pub held_len : (t : List ℕ) → (held t).len ≡ length t
unfolding held
held_len t = refl

pub len_is : (t : Text) (xs : List ℕ) → t ≡ held xs → t.len ≡ length xs
len_is t xs e = ap (λ (u : Text). u.len) e ∙ held_len xs

pub held_full : (t : List ℕ) → length t ≤ 48 → length (held t).bytes ≡ 48
unfolding held
held_full t h = simp (length-append, length-replicate) (omega arith)

-- the text is found again
pub held_take : (t : List ℕ) → take (held t).len (held t).bytes ≡ t
unfolding held
held_take t = take-append_seam t _

pub held_at_lem : (t : List ℕ) (i : ℕ) → i < length t → get_or (held t).bytes i 0 ≡ get_or t i 0
unfolding held
held_at_lem t i h = get_or-append t _ 0 i h

-- bytes behind a text make a longer text
behind : (a b : List ℕ) → length a + length b ≤ 48
    → sets (a ++ replicate (48 - length a) 0) (length a) b ≡ (a ++ b) ++ replicate (48 - length (a ++ b)) 0
behind a b h =
    let full : length a + length b ≤ length (a ++ replicate (48 - length a) 0) = simp (length-append, length-replicate) (omega arith) in
    let e : 48 - length a - length b ≡ 48 - length (a ++ b) = simp length-append (omega arith) in
    sets-eq b (a ++ replicate (48 - length a) 0) (length a) full
    ∙ rw (take-append_seam, drop-append-add, drop-replicate, e)

pub added_held : (a b : List ℕ) → length a + length b ≤ 48 → added (held a) b ≡ held (a ++ b)
unfolding held added
added_held a b h = ap₂ (λ (x : List ℕ) (n : ℕ). record { bytes = x; len = n }) (behind a b h) (sym (length-append a b))

-- one byte stored behind a text
pub held_more : (a : List ℕ) (x : ℕ) → length a < 48 → set (held a).bytes (length a) x ≡ (held (a ++ (x ∷ []))).bytes
unfolding held
held_more a x h = behind a (x ∷ []) (omega arith)

-- a text stored into zeros
pub held_new : (t : List ℕ) → length t ≤ 48 → ◌≡◌ {A = Text} (record { bytes = sets (replicate 48 0) 0 t; len = length t }) (held t)
unfolding held
held_new t h = ap (λ (x : List ℕ). record { bytes = x; len = length t }) (behind [] t (omega arith))
