-- What the smallest readers answer: a number that may be absent; where a list of numbers ends, and its items.
use Rattle.std.specs.Prelude.{ℕ, zero, suc, ◌+◌, ◌*◌, ◌≤◌, ◌<◌, ◌≡◌, refl, List, length, get_or, Option, None, Some}
use Rattle.std.proofs.Common.{sym, ap, ◌∙◌, arith, add-zero, zero-mul, suc-mul}
use Rattle.codec.specs.Codec.{le, le_c, list_c}
use Rattle.codec.specs.Skip.{skip, Is}
use Rattle.codec.proofs.Skip.{skip_le}
use Rattle.codec.proofs.Ways.{les_fit, count_is}
use Rattle.codec.proofs.Field.{room_of, le_item, is_list, is_le, is_some, is_none, ListIs}
use Rattle.codec.specs.Forms.{num_c, bytes_c, opt_c}

pub opt_nothing : (b : List ℕ) (at : ℕ) → get_or b at 0 ≡ 0 → (e : ℕ) (v : Option ℕ) → Is (opt_c num_c) b e at v → None ≡ v
opt_nothing b at h e None i = refl
opt_nothing b at h e (Some x) i = absurd (omega (arith, (is_some num_c b e at x i).0))

pub opt_number : (b : List ℕ) (at n : ℕ) → (get_or b at 0 ≡ 0 → ⊥) → n ≡ le 4 b (at + 1) → (e : ℕ) (v : Option ℕ) → Is (opt_c num_c) b e at v → Some n ≡ v
opt_number b at n h q e None i = absurd (h (is_none num_c b e at i))
opt_number b at n h q e (Some x) i = ap Some (q ∙ sym (is_le 4 b e (at + 1) x (is_some num_c b e at x i).1).1)

-- a list of numbers ends behind its last
pub skip_les : (w : ℕ) (b : List ℕ) (e at : ℕ) (vs : List ℕ) → Is (list_c (le_c w)) b e at vs → skip (list_c (le_c w)) b at e ≡ at + 4 + le 4 b at * w
skip_les w b e at vs h =
    let l : ListIs (le_c w) b e at vs = is_list (le_c w) b e at vs h in
    let r : at + 4 ≤ e = l.room in
    les_fit b at e w (le 4 b at) (at + 4) (sym (count_is b at e r)) (sym (skip_le 4 b at e r)) r (go (le 4 b at) (sym l.counted))
  where
    go : (n : ℕ) → n ≡ length vs → at + 4 + n * w ≤ e
    go zero q = let r : at + 4 ≤ e = (is_list (le_c w) b e at vs h).room in rw (zero-mul, add-zero) r
    go (suc n) q = let i : n < length vs = omega arith in omega (arith, room_of b e 0 at at w n vs refl h i, suc-mul n w)

pub byte_item : (b : List ℕ) (e at : ℕ) (vs : List ℕ) (i : ℕ) → Is bytes_c b e at vs → i < length vs → get_or vs i 0 ≡ get_or b (at + 4 + i) 0
unfolding le
byte_item b e at vs i h q = let m : at + 4 + 1 * i ≡ at + 4 + i = omega arith in rw m at (le_item 1 b e at vs i h q) ∙ omega arith
