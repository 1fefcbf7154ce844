-- What two reads consume of the bytes that a reader has left, where those are known.
use Rattle.std.proofs.Common.{◌≡◌, ℕ, ◌+◌, List, ◌++◌, None, Some, sym, ap, subst, ◌∙◌, append_assoc, take, drop}
use Rattle.std.proofs.Math.Seq.{take-add}
use Rattle.std.specs.declared.option.Option.{Option}
use Rattle.std.specs.Io.KnownBytes.{Consumes}

then_read : (a b c : Option (List ℕ)) (bs cs : List ℕ) → Consumes a b bs → Consumes b c cs → Consumes a c (bs ++ cs)
then_read None b c bs cs p q = tt
then_read (Some x) None c bs cs p q = absurd p
then_read (Some x) (Some y) None bs cs p q = absurd q
then_read (Some x) (Some y) (Some z) bs cs p q = p ∙ ap (λ l. bs ++ l) q ∙ sym (append_assoc bs cs z)

-- ys begins with the f bytes of xs that were read before, and n bytes more
pub more_read : (a b c : Option (List ℕ)) (xs ys : List ℕ) (f n : ℕ) → take f ys ≡ take f xs → Consumes a b (take f xs) → Consumes b c (take n (drop f ys)) → Consumes a c (take (f + n) ys)
more_read a b c xs ys f n front before read =
    let whole : take f xs ++ take n (drop f ys) ≡ take (f + n) ys = ap (λ l. l ++ take n (drop f ys)) (sym front) ∙ sym (take-add f n ys) in
    subst (Consumes a c) whole (then_read a b c _ _ before read)
