-- The bit of a row, a law for each way through the reader.
use Prim.Native.Nat.{ℕ, ◌+◌, ◌*◌, ◌/◌, ◌%◌, ◌^◌, ◌≤◌, ◌<◌}
use mathlib.Core.Path.{◌≡◌, sym, ◌∙◌}
use mathlib.Core.List.{List}
use mathlib.Core.Bool.{Bool}
use native.Mathlib.Omega.{arith}
use Rattle.std.specs.Prelude.{None, Some}
use lib.ListN.{length, get_or}
use lib.Dec.{eqb}
use borrow.Author.Tests.{lt-ltb, le-ltb}
use Rattle.codec.specs.Codec.{◌⊗◌, le, le_c}
use Rattle.codec.specs.Skip.{skip, Is}
use Rattle.codec.specs.Field.{Stands}
use Rattle.codec.proofs.Field.{is_pair, is_list, is_le}
use Rattle.codec.specs.Forms.{num_c, bytes_c}
use Rattle.codec.proofs.Answers.{skip_les, byte_item}
use Rattle.column.specs.Cell.{bit_of}

-- the bytes of a validity, and the count of their bits behind them
split : (b : List ℕ) (e at n : ℕ) (bytes : List ℕ) (count : ℕ) → n ≡ le 4 b at → Is (bytes_c ⊗ num_c) b e at (bytes, count) → (length bytes ≡ n) × Is num_c b e (at + 4 + n) count
split b e at n bytes count i h =
    let t = is_pair bytes_c num_c b e at (bytes, count) h in
    let c : length bytes ≡ le 4 b at = (is_list (le_c 1) b e at bytes t.0).counted in
    let o : le 4 b at * 1 ≡ n = omega (arith, i) in
    let p : skip bytes_c b at e ≡ at + 4 + n = skip_les 1 b e at bytes t.0 ∙ rw o in
    (c ∙ sym i, rw p at t.1)

counts : (b : List ℕ) (e at n k : ℕ) (bytes : List ℕ) (count : ℕ) → n ≡ le 4 b at → k ≡ le 4 b (at + 4 + n) → Is (bytes_c ⊗ num_c) b e at (bytes, count) → (length bytes ≡ n) × (count ≡ k)
counts b e at n k bytes count i j h = let t = split b e at n bytes count i h in (t.0, (is_le 4 b e (at + 4 + n) count t.1).1 ∙ sym j)

-- all its bytes are there
pub bits_in : (b : List ℕ) (at n : ℕ) → n ≡ le 4 b at → Stands (bytes_c ⊗ num_c) b at → at + 8 + n ≤ length b
bits_in b at n i s = omega (arith, s.within, (is_le 4 b s.end (at + 4 + n) s.value.1 (split b s.end at n s.value.0 s.value.1 i s.is).1).0)

module _ (b : List ℕ) (at row n k : ℕ) (i : n ≡ le 4 b at) (j : k ≡ le 4 b (at + 4 + n)) where
  pub bit_past : k ≤ row → (e : ℕ) (bytes : List ℕ) (count : ℕ) → e ≤ length b → Is (bytes_c ⊗ num_c) b e at (bytes, count) → None ≡ bit_of bytes count row
  unfolding bit_of
  bit_past h e bytes count l is =
      let t = counts b e at n k bytes count i j is in
      let q : count ≤ row = rw t.1 h in
      sym (simp (le-ltb _ _ q))

  pub bit_short : row < k → n ≤ row / 8 → (e : ℕ) (bytes : List ℕ) (count : ℕ) → e ≤ length b → Is (bytes_c ⊗ num_c) b e at (bytes, count) → None ≡ bit_of bytes count row
  unfolding bit_of
  bit_short h m e bytes count l is =
      let t = counts b e at n k bytes count i j is in
      let q : row < count = rw t.1 h in
      let r : length bytes ≤ row / 8 = rw t.0 m in
      sym (simp (lt-ltb _ _ q, le-ltb _ _ r))

  pub bit_is_lem : row < k → row / 8 < n → (x : ℕ) (v : Bool) → x ≡ get_or b (at + 4 + row / 8) 0 → v ≡ eqb (x / 2 ^ (row % 8) % 2) 1
      → (e : ℕ) (bytes : List ℕ) (count : ℕ) → e ≤ length b → Is (bytes_c ⊗ num_c) b e at (bytes, count) → Some v ≡ bit_of bytes count row
  unfolding bit_of
  bit_is_lem h m x v f g e bytes count l is =
      let t = counts b e at n k bytes count i j is in
      let q : row < count = rw t.1 h in
      let r : row / 8 < length bytes = rw t.0 m in
      let y : x ≡ get_or bytes (row / 8) 0 = f ∙ sym (byte_item b e at bytes (row / 8) (is_pair bytes_c num_c b e at (bytes, count) is).0 r) in
      sym (simp (lt-ltb _ _ q, lt-ltb _ _ r) (rw (← y, ← g)))
