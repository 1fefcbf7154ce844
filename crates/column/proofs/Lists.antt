-- The value of a row in the lists that columns hold, a law for each way through the readers.
use Prim.Native.Nat.{ℕ, zero, suc, ◌+◌, ◌*◌, ◌-◌, ◌≤◌, ◌<◌}
use mathlib.Core.Path.{◌≡◌, refl, sym, ap, ◌∙◌}
use mathlib.Core.List.{List}
use native.Mathlib.Omega.{arith}
use Rattle.std.specs.Prelude.{None, Some}
use lib.ListN.{length, get_or, take, drop, length-drop}
use lib.Dec.{leb}
use lib.Seq.{ext_get_or, get_or-take, get_or-drop, length-take-le}
use borrow.Author.Tests.{lt-ltb, le-ltb, le-leb, lt-leb}
use Rattle.codec.specs.Codec.{Codec, ◌⊗◌, le, le_c, list_c}
use Rattle.codec.proofs.Codec.{pick_same}
use Rattle.codec.specs.Skip.{skip, Is}
use Rattle.codec.proofs.Field.{is_pair, is_list, is_le, item_of, room_of}
use Rattle.codec.specs.Forms.{num_c, byte_c, wide_c, bytes_c}
use Rattle.codec.proofs.Answers.{skip_les, byte_item}
use Rattle.codec.proofs.Ways.{le_sixteen}
use Rattle.column.specs.Cell.{Cell, held, between, bytes_of}
use Rattle.column.specs.Answers.{Reads}
use Rattle.column.specs.declared.Cell.TheVariants.{None as NoAnswer, Bytes, Wide}
use Rattle.column.proofs.Read.{reads_none, reads_bytes, reads_wide}

-- ---- lists of numbers of w bytes: at is the place of the column, behind its kind stands the list
place : (at m w : ℕ) → at + 1 + 4 + m * w ≡ at + 5 + m * w
place at m w = omega arith

pub plain_end : (w : ℕ) (b : List ℕ) (at n : ℕ) → n ≡ le 4 b (at + 1) → (e : ℕ) (xs : List ℕ) → Is (list_c (le_c w)) b e (at + 1) xs → skip (list_c (le_c w)) b (at + 1) e ≡ at + 5 + n * w
plain_end w b at n i e xs is = skip_les w b e (at + 1) xs is ∙ rw (← i) (place at n w)

-- such a list and what stands behind it
pub behind : {A : Type 0} (w : ℕ) (D : Codec A) (b : List ℕ) (at n : ℕ) → n ≡ le 4 b (at + 1) → (e : ℕ) (xs : List ℕ) (y : A) → Is (list_c (le_c w) ⊗ D) b e (at + 1) (xs, y) → Is (list_c (le_c w)) b e (at + 1) xs × Is D b e (at + 5 + n * w) y
behind w D b at n i e xs y is = let t = is_pair (list_c (le_c w)) D b e (at + 1) (xs, y) is in (t.0, rw (plain_end w b at n i e xs t.0) at t.1)

-- item m, as it is read
item : (w : ℕ) (b : List ℕ) (at m x : ℕ) → x ≡ le w b (at + 5 + m * w) → (e : ℕ) (xs : List ℕ) → Is (list_c (le_c w)) b e (at + 1) xs → m < length xs → x ≡ get_or xs m 0
item w b at m x j e xs is q = item_of b e x (at + 1) (at + 1) w m xs (rw (place at m w) j) refl is q

module _ (f : ℕ → Cell) (w : ℕ) (b : List ℕ) (at row n : ℕ) (i : n ≡ le 4 b (at + 1)) where
  pub held_past : n ≤ row → (e : ℕ) (xs : List ℕ) → Is (list_c (le_c w)) b e (at + 1) xs → None ≡ held f xs row
  unfolding held
  held_past h e xs is = let q : length xs ≤ row = rw ((is_list (le_c w) b e (at + 1) xs is).counted, ← i) h in sym (simp (le-ltb _ _ q))

  pub held_is : row < n → (x : ℕ) → x ≡ le w b (at + 5 + row * w) → (e : ℕ) (xs : List ℕ) → Is (list_c (le_c w)) b e (at + 1) xs → Some (f x) ≡ held f xs row
  unfolding held
  held_is h x j e xs is =
      let q : row < length xs = rw ((is_list (le_c w) b e (at + 1) xs is).counted, ← i) h in
      let k : x ≡ get_or xs row 0 = item w b at row x j e xs is q in
      sym (simp (lt-ltb _ _ q) (rw k))

-- ---- bytes by their offsets
module _ (at n from to : ℕ) where
  pub to_negative : 2147483648 ≤ to → (b : List ℕ) (e : ℕ) (bytes : List ℕ) → n ≡ le 4 b at → e ≤ length b → Is bytes_c b e at bytes → Reads b NoAnswer (between bytes from to)
  unfolding between
  to_negative j b e bytes i l is = reads_none b (sym (simp (le-leb _ _ j) (pick_same (leb 2147483648 from) None)))

  pub falling : to < 2147483648 → to < from → (b : List ℕ) (e : ℕ) (bytes : List ℕ) → n ≡ le 4 b at → e ≤ length b → Is bytes_c b e at bytes → Reads b NoAnswer (between bytes from to)
  unfolding between
  falling j k b e bytes i l is = reads_none b (sym (simp (lt-leb _ _ j, lt-ltb _ _ k) (pick_same (leb 2147483648 from) None)))

  pub passing : to < 2147483648 → from ≤ to → n < to → (b : List ℕ) (e : ℕ) (bytes : List ℕ) → n ≡ le 4 b at → e ≤ length b → Is bytes_c b e at bytes → Reads b NoAnswer (between bytes from to)
  unfolding between
  passing j k m b e bytes i l is =
      let h : from < 2147483648 = omega arith in
      let q : length bytes < to = rw ((is_list (le_c 1) b e at bytes is).counted, ← i) m in
      reads_none b (sym (simp (lt-leb _ _ h, lt-leb _ _ j, le-ltb _ _ k, lt-ltb _ _ q)))

  pub stretch_is : to < 2147483648 → from ≤ to → to ≤ n → (b : List ℕ) (e : ℕ) (bytes : List ℕ) → n ≡ le 4 b at → e ≤ length b → Is bytes_c b e at bytes → Reads b (Bytes (at + 4 + from) (to - from)) (between bytes from to)
  unfolding between
  stretch_is j k m b e bytes i l is =
      let h : from < 2147483648 = omega arith in
      let q : to ≤ length bytes = rw ((is_list (le_c 1) b e at bytes is).counted, ← i) m in
      let r : at + 4 + length bytes ≤ e = fits (length bytes) refl in
      reads_bytes b _ _ (omega arith) (ap (λ (xs : List ℕ). Some (Cell.binary xs)) (equal q r) ∙ sym (simp (lt-leb _ _ h, lt-leb _ _ j, le-ltb _ _ k, le-ltb _ _ q)))
    where
      fits : (m : ℕ) → m ≡ length bytes → at + 4 + m ≤ e
      fits zero q = omega (arith, (is_list (le_c 1) b e at bytes is).room)
      fits (suc m) q = let p : m < length bytes = omega arith in omega (arith, room_of b e 0 at at 1 m bytes refl is p)

      equal : to ≤ length bytes → at + 4 + length bytes ≤ e → take (to - from) (drop (at + 4 + from) b) ≡ take (to - from) (drop from bytes)
      equal q r =
          let u : length (drop (at + 4 + from) b) ≡ length b - (at + 4 + from) = length-drop (at + 4 + from) b in
          let v : length (drop from bytes) ≡ length bytes - from = length-drop from bytes in
          let x : length (take (to - from) (drop (at + 4 + from) b)) ≡ to - from = length-take-le (to - from) (drop (at + 4 + from) b) (omega arith) in
          let y : length (take (to - from) (drop from bytes)) ≡ to - from = length-take-le (to - from) (drop from bytes) (omega arith) in
          ext_get_or 0 _ _ (x ∙ sym y) (λ g o. at_index g (rw x at o))
        where
          at_index : (g : ℕ) → g < to - from → get_or (take (to - from) (drop (at + 4 + from) b)) g 0 ≡ get_or (take (to - from) (drop from bytes)) g 0
          at_index g o =
              let z : from + g < length bytes = omega arith in
              let p : at + 4 + from + g ≡ at + 4 + (from + g) = omega arith in
              rw (get_or-take, get_or-drop, get_or-take, get_or-drop, p) (sym (byte_item b e at bytes (from + g) is z))

module _ (b : List ℕ) (at row n : ℕ) (i : n ≡ le 4 b (at + 1)) where
  pub offsets_past : n ≤ row + 1 → (e : ℕ) (offsets bytes : List ℕ) → e ≤ length b → Is (list_c num_c ⊗ bytes_c) b e (at + 1) (offsets, bytes) → Reads b NoAnswer (bytes_of offsets bytes row)
  unfolding bytes_of
  offsets_past h e offsets bytes l is =
      let t = behind 4 bytes_c b at n i e offsets bytes is in
      let q : length offsets ≤ row + 1 = rw ((is_list num_c b e (at + 1) offsets t.0).counted, ← i) h in
      reads_none b (sym (simp (le-ltb _ _ q)))

  pub offsets_are : row + 1 < n → (from to : ℕ) → from ≡ le 4 b (at + 5 + row * 4) → to ≡ le 4 b (at + 5 + (row + 1) * 4) → (r : Rattle.column.specs.declared.Cell.Cell)
      → ((e : ℕ) (bytes : List ℕ) → e ≤ length b → Is bytes_c b e (at + 5 + n * 4) bytes → Reads b r (between bytes from to))
      → (e : ℕ) (offsets bytes : List ℕ) → e ≤ length b → Is (list_c num_c ⊗ bytes_c) b e (at + 1) (offsets, bytes) → Reads b r (bytes_of offsets bytes row)
  unfolding bytes_of
  offsets_are h from to j k r f e offsets bytes l is =
      let t = behind 4 bytes_c b at n i e offsets bytes is in
      let q : row + 1 < length offsets = rw ((is_list num_c b e (at + 1) offsets t.0).counted, ← i) h in
      let q' : row < length offsets = omega arith in
      let x : from ≡ get_or offsets row 0 = item 4 b at row from j e offsets t.0 q' in
      let y : to ≡ get_or offsets (row + 1) 0 = item 4 b at (row + 1) to k e offsets t.0 q in
      let z : Reads b r (between bytes from to) = f e bytes l t.1 in
      simp (lt-ltb _ _ q) (rw (← x, ← y) z)

-- ---- a number of 128 bits and its scale
le_one : (b : List ℕ) (at : ℕ) → le 1 b at ≡ get_or b at 0
unfolding le
le_one b at = omega arith

module _ (b : List ℕ) (at row n : ℕ) (i : n ≡ le 4 b (at + 1)) where
  pub wide_past : n ≤ row → (e : ℕ) (xs : List ℕ) (scale : ℕ) → Is (list_c wide_c ⊗ byte_c) b e (at + 1) (xs, scale) → Reads b NoAnswer (held (λ x. Cell.decimal x scale) xs row)
  wide_past h e xs scale is = reads_none b (held_past (λ x. Cell.decimal x scale) 16 b at row n i h e xs (behind 16 byte_c b at n i e xs scale is).0)

  pub wide_is : row < n → (low high s : ℕ) → low ≡ le 8 b (at + 5 + row * 16) → high ≡ le 8 b (at + 5 + row * 16 + 8) → s ≡ get_or b (at + 5 + n * 16) 0
      → (e : ℕ) (xs : List ℕ) (scale : ℕ) → Is (list_c wide_c ⊗ byte_c) b e (at + 1) (xs, scale) → Reads b (Wide low high s) (held (λ x. Cell.decimal x scale) xs row)
  wide_is h low high s j k m e xs scale is =
      let t = behind 16 byte_c b at n i e xs scale is in
      let u : low + 18446744073709551616 * high ≡ le 16 b (at + 5 + row * 16) = rw (j, k) (sym (le_sixteen b (at + 5 + row * 16))) in
      let v : s ≡ scale = m ∙ sym ((is_le 1 b e (at + 5 + n * 16) scale t.1).1 ∙ le_one b (at + 5 + n * 16)) in
      reads_wide b low high s (rw v (held_is (λ x. Cell.decimal x scale) 16 b at row n i h _ u e xs t.0))
