-- What stands at a place is all there: from a structure that stands to the bytes that a reader takes.
use Rattle.std.specs.Prelude.{ℕ, zero, suc, ◌+◌, ◌*◌, ◌≤◌, ◌<◌, ◌≡◌, refl, List, length, get_or}
use Rattle.std.proofs.Common.{sym, ◌∙◌, arith, zero-mul, suc-mul}
use Rattle.codec.specs.Codec.{le, le_c, list_c}
use Rattle.codec.specs.Skip.{Is, skip}
use Rattle.codec.proofs.Skip.{skip_le}
use Rattle.codec.specs.Forms.{num_c, opt_c, flag_c}
use Rattle.codec.specs.Field.{Stands}
use Rattle.codec.proofs.Field.{is_list, is_le, room_of, stands_at, stands_case, stands_some}
use Rattle.format.specs.Spec.{usage_c, kind_c, counted_c, Control, control_c, Repeat, repeat_c}
use Rattle.format.proofs.Fields.{is_control, is_repeat}

module _ (b : List ℕ) (at : ℕ) where
  pub stands_item : (w k : ℕ) → Stands (list_c (le_c w)) b at → k < le 4 b at → at + 4 + k * w + w ≤ length b
  stands_item w k s h =
      let l = (is_list (le_c w) b s.end at s.value s.is).counted in
      let r = room_of b s.end 0 at at w k s.value refl s.is (omega (arith, h, l)) in
      omega (arith, r, s.within)

  pub stands_flag : Stands flag_c b at → at < length b
  unfolding flag_c
  stands_flag s = stands_case _ _ _ _ _ b at s

  pub stands_usage : Stands usage_c b at → at < length b
  unfolding usage_c
  stands_usage s = stands_case _ _ _ _ _ b at s

  pub stands_kind : Stands kind_c b at → at < length b
  unfolding kind_c
  stands_kind s = stands_case _ _ _ _ _ b at s

-- the numbers of a list are all there
pub les_room : (b : List ℕ) (e at w : ℕ) (vs : List ℕ) → Is (list_c (le_c w)) b e at vs → at + 4 + le 4 b at * w ≤ e
les_room b e at w vs i = go (le 4 b at) (is_list (le_c w) b e at vs i).counted
  where
    go : (n : ℕ) → length vs ≡ n → at + 4 + n * w ≤ e
    go zero q = let r = (is_list (le_c w) b e at vs i).room in let z : zero * w ≡ 0 = zero-mul w in omega (arith, r)
    go (suc n) q = let r = room_of b e 0 at at w n vs refl i (omega arith) in let m : suc n * w ≡ n * w + w = suc-mul n w in omega (arith, r)

-- ---- numbers one behind the other, at `at` + 1: behind an option's byte
pub next_place : (b : List ℕ) (e at v : ℕ) → Is num_c b e at v → skip num_c b at e ≡ at + 4
next_place b e at v i = skip_le 4 b at e (is_le 4 b e at v i).0

-- the second number of a step
pub repeat_second : (b : List ℕ) (e at : ℕ) (v : Repeat) → Is repeat_c b e (at + 1) v → Is num_c b e (at + 5) v.step
repeat_second b e at v h =
    let t = is_repeat b e (at + 1) v h in
    let m : at + 5 ≡ skip num_c b (at + 1) e = (omega arith) ∙ sym (next_place b e (at + 1) v.from t.from) in
    rw m t.step

pub record ControlParts (b : List ℕ) (e at : ℕ) (v : Control) : Type 0 where
  pub opener : Is num_c b e (at + 1) v.opener
  pub closer : Is num_c b e (at + 5) v.closer
  pub count : Is num_c b e (at + 9) v.count
  pub counted : Is counted_c b e (at + 13) v.counted

pub control_parts : (b : List ℕ) (e at : ℕ) (v : Control) → Is control_c b e (at + 1) v → ControlParts b e at v
control_parts b e at v h =
    let t = is_control b e (at + 1) v h in
    let m₁ : at + 5 ≡ skip num_c b (at + 1) e = (omega arith) ∙ sym (next_place b e (at + 1) v.opener t.opener) in
    let t₁ : Is num_c b e (at + 5) v.closer = rw m₁ t.closer in
    let m₂ : at + 9 ≡ skip num_c b (at + 5) e = (omega arith) ∙ sym (next_place b e (at + 5) v.closer t₁) in
    let t₂ : Is num_c b e (at + 9) v.count = rw (m₂, m₁) t.count in
    let m₃ : at + 13 ≡ skip num_c b (at + 9) e = (omega arith) ∙ sym (next_place b e (at + 9) v.count t₂) in
    record { opener = t.opener; closer = t₁; count = t₂; counted = rw (m₃, m₂, m₁) t.counted }

-- ---- an option that holds something
module _ (b : List ℕ) (at : ℕ) (h : get_or b at 0 ≡ 0 → ⊥) where
  pub stands_step : Stands (opt_c repeat_c) b at → at + 9 ≤ length b
  stands_step s = let o = stands_some repeat_c b at s h in let r = (is_le 4 b o.end _ _ (repeat_second b o.end at o.value o.is)).0 in omega (arith, r, o.within)

  pub stands_control : Stands (opt_c control_c) b at → at + 14 ≤ length b
  unfolding counted_c
  stands_control s =
      let o = stands_some control_c b at s h in
      let r = stands_case _ _ _ _ _ b (at + 13) (stands_at counted_c b _ _ o.end _ refl o.within (control_parts b o.end at o.value o.is).counted) in
      omega (arith, r)
