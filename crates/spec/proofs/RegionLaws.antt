-- Laws of the definitions of specs/Region, and words that only proofs use.
use Rattle.std.specs.Prelude.{ℕ, ◌+◌, ◌≤◌, ◌<◌, ◌≡◌, refl, List, length, get_or, Some}
use Rattle.std.proofs.Common.{arith}
use Rattle.codec.specs.Codec.{Codec, list_c}
use Rattle.codec.specs.Skip.{Is}
use Rattle.codec.specs.Field.{Stands}
use Rattle.codec.proofs.Field.{is_list, stands_at, stands_list}
use Rattle.spec.specs.Region.{Listed, ItemAt}

-- the four bytes of the list's count are there
pub listed_room : {A : Type 0} (C : Codec A) (b : List ℕ) (e : ℕ) (idx : List ℕ) (k : ℕ) (vs : List A) → e ≤ length b → Listed C b e idx k vs → get_or idx k 0 + 4 ≤ length b
listed_room C b e idx k vs r l = stands_list C b _ (stands_at (list_c C) b _ _ e vs refl r l.list)

-- item i by its place, and that it stands there
module _ {A : Type 0} (C : Codec A) (b : List ℕ) (e : ℕ) (idx : List ℕ) (k : ℕ) (vs : List A) (l : Listed C b e idx k vs) (i p : ℕ) (d : A) (m : i < 32) (q : ItemAt b idx k i (Some p)) where
  pub listed_is : Is C b e p (get_or vs i d)
  listed_is = let c = (is_list C b e _ vs l.list).counted in rw q.1 (l.item i d (omega (arith, q.0, c)) m)

  pub listed_stands : e ≤ length b → Stands C b p
  listed_stands r = stands_at C b p p e (get_or vs i d) refl r listed_is

-- an index that agrees on these numbers holds the same
pub listed_kept : {A : Type 0} (C : Codec A) (b : List ℕ) (e k : ℕ) (idx new : List ℕ) (vs : List A) → ((i : ℕ) → k ≤ i → i < k + 33 → get_or new i 0 ≡ get_or idx i 0) → Listed C b e idx k vs → Listed C b e new k vs
listed_kept C b e k idx new vs q h = record {
  list = rw (q k (omega arith) (omega arith)) h.list;
  item = λ i d m n. rw (q (k + 1 + i) (omega arith) (omega arith)) (h.item i d m n);
}
