-- Laws of the definitions of specs/Whole, and words that only proofs use.
use Rattle.std.specs.Prelude.{ℕ, suc, ◌+◌, ◌-◌, ◌≤◌, ◌<◌, ◌≡◌, refl, List, [], ◌∷◌, ◌++◌, length, take, drop, eqb}
use Rattle.std.proofs.Common.{sym, ap, ◌∙◌, append_assoc, append-nil, arith, add-one, length-append, drop-cons, take_all, ne_eqb}
use Rattle.std.proofs.Math.Seq.{get_or-append_seam}
use Rattle.codec.specs.Codec.{Got, got, bad, Codec, Here, Bytes, Stood}
use Rattle.codec.specs.Skip.{skip, after}
use Rattle.codec.specs.Whole.{used_up}

pub here_in : (pre l post : List ℕ) (n : ℕ) → n ≡ length pre → Here (pre ++ (l ++ post)) n l
here_in pre [] post n h = tt
here_in pre (x ∷ l) post n h =
    let e : n + 1 ≡ length (pre ++ (x ∷ [])) = omega (arith, length-append pre (x ∷ [])) in
    (rw h (get_or-append_seam pre x (l ++ post) 0), rw append_one at (here_in (pre ++ (x ∷ [])) l post (n + 1) e))
  where
    append_one : (pre ++ (x ∷ [])) ++ (l ++ post) ≡ pre ++ (x ∷ (l ++ post))
    append_one = append_assoc pre (x ∷ []) (l ++ post)

-- reading what was encoded gives the value and the place behind it
pub read_encoded : {A : Type 0} (C : Codec A) (pre post : List ℕ) (e : ℕ) (v : A) → C.Fits v → length pre + length (C.enc v) ≤ e
    → C.read (pre ++ (C.enc v ++ post)) (length pre) e ≡ got v (length pre + length (C.enc v))
read_encoded C pre post e v f h = C.there _ (length pre) e v f (here_in pre (C.enc v) post (length pre) refl) h

pub here_slice : (b l : List ℕ) (at : ℕ) → Here b at l → at + length l ≤ length b → take (length l) (drop at b) ≡ l
here_slice b [] at h q = refl
here_slice b (x ∷ l) at h q =
    let i : at < length b = omega arith in
    let r : at + 1 ≡ suc at = add-one at in
    rw (drop-cons b at 0 i) (rw h.0 (ap (λ (t : List ℕ). x ∷ t) (rw r at (here_slice b l (at + 1) h.1 (omega arith)))))

-- what was read was encoded there
pub encoded_read : {A : Type 0} (C : Codec A) (b : List ℕ) (at e : ℕ) (v : A) (n : ℕ) → Bytes b → e ≤ length b → C.read b at e ≡ got v n → C.Fits v × (take (n - at) (drop at b) ≡ C.enc v)
encoded_read C b at e v n bs q h =
    let s : Stood C.Fits C.enc b at e v n = C.back b at e v n bs h in
    let i : n ≡ at + length (C.enc v) = s.next in
    let j : n ≤ e = s.within in
    let k : n - at ≡ length (C.enc v) = omega arith in
    (s.fits, rw k (here_slice b (C.enc v) at s.here (omega arith)))

-- a list stands in itself, and nothing else of its length does
pub here_self : (b : List ℕ) → Here b 0 b
here_self b = rw append-nil at (here_in [] b [] 0 refl)

pub here_all : (b l : List ℕ) → Here b 0 l → length l ≡ length b → l ≡ b
here_all b l h q = sym (here_slice b l 0 h (omega arith)) ∙ take_all (length l) b (omega arith)

pub used_up_lem : {A : Type 0} (C : Codec A) (b : List ℕ) (at e : ℕ) → used_up (C.read b at e) e ≡ eqb (skip C b at e) e
unfolding skip
used_up_lem {A} C b at e = go (C.read b at e)
  where
    go : (g : Got A) → used_up g e ≡ eqb (after e g) e
    go (got v n) = refl
    go bad = sym (ne_eqb (e + 1) e (omega arith))
