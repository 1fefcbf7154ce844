-- Not to be believed: words of inner contracts, on which no contract of what users call rests.
-- Where a reading ends, as a number: the place behind the value, or one past the end where there is none. A law for each way to build a codec.
-- And what stands at a place: `Is C b e at v`.
use Prim.Native.Nat.{ℕ, zero, suc, ◌+◌}
use Rattle.std.specs.Prelude.{◌≡◌, List, get_or, leb, ltb, Option, None, Some}
use Rattle.codec.specs.Codec.{Got, got, bad, pick, Codec, le_c}

abbrev pub after : {A : Type 0} → ℕ → Got A → ℕ
after e (got v n) = n
after e bad = e + 1

unfoldable pub skip : {A : Type 0} → Codec A → List ℕ → ℕ → ℕ → ℕ
skip C b at e = after e (C.read b at e)

-- the value that was read, or d
abbrev pub value_or : {A : Type 0} → A → Got A → A
value_or d (got v n) = v
value_or d bad = d

-- n times C, one after the other
unfoldable pub steps : {A : Type 0} → Codec A → List ℕ → ℕ → ℕ → ℕ → ℕ
steps C b e zero at = at
steps C b e (suc n) at = steps C b e n (skip C b at e)

-- the count in front of a list, 0 where there is none
unfoldable pub count_at : List ℕ → ℕ → ℕ → ℕ
count_at b at e = value_or 0 ((le_c 4).read b at e)

-- the byte of a case at a place; 256 where there is none
unfoldable pub tag_at : List ℕ → ℕ → ℕ → ℕ
tag_at b at e = pick (leb (at + 1) e) (get_or b at 0) 256

-- the same as an option
unfoldable pub case_of : List ℕ → ℕ → ℕ → Option ℕ
case_of b at e = pick (leb (at + 1) e) (Some (tag_at b at e)) None

-- the end of an enum with n cases that hold nothing
unfoldable pub case_end : List ℕ → ℕ → ℕ → ℕ → ℕ
case_end b at e n = pick (ltb (tag_at b at e) n) (at + 1) (e + 1)

-- ---- what stands at a place
abbrev pub Is : {A : Type 0} → Codec A → List ℕ → ℕ → ℕ → A → Type 0
Is C b e at v = C.read b at e ≡ got v (skip C b at e)
