-- Laws of the definitions of specs/Cursor, and words that only proofs use.
use Rattle.std.specs.Prelude.{ℕ, suc, ◌+◌, ◌-◌, ◌≤◌, ◌<◌, ◌≡◌, refl, true, false, length, get_or, None, Some}
use Rattle.std.proofs.Math.Path.{sym, ap}
use Rattle.std.proofs.Common.{◌∙◌, arith}
use mathlib.Core.List.{List, [], ◌∷◌}
use Rattle.codec.specs.Codec.{le, le_c, ◌⊗◌, list_c}
use Rattle.codec.specs.Skip.{Is, skip, steps}
use Rattle.codec.proofs.Skip.{skip_le}
use Rattle.codec.specs.Forms.{num_c, bytes_c, opt_c}
use Rattle.codec.specs.Maps.{num_map_c}
use Rattle.codec.proofs.Maps.{is_num_map}
use Rattle.codec.specs.Field.{Stands}
use Rattle.codec.proofs.Field.{is_list, is_pair, is_le, stands_at, stands_list}
use Rattle.format.specs.Spec.{Kind, kind_an, kind_id, kind_n, kind_r, kind_dt, kind_tm, kind_c, ElementDef, element_c, component_c, SegmentDef, segment_c}
use Rattle.format.proofs.Fields.{is_element, kind_tag}
use Rattle.format.specs.Sections.{plan_start}
use Rattle.spec.specs.Answers.{Holds, HoldsText}
use Rattle.spec.specs.declared.ids.Elements.{Elements}
use Rattle.spec.specs.declared.ids.Stretch.{Stretch}
use Rattle.spec.specs.Cursor.{Entries, EntryAt, is_numeric, first_of}

-- ---- a law for each way

module _ (b : List ℕ) (at : ℕ) where
  pub numeric_low : get_or b at 0 < 2 → (e : ℕ) (v : Kind) → Is kind_c b e at v → false ≡ is_numeric v
  numeric_low h e kind_an i = refl
  numeric_low h e kind_id i = refl
  numeric_low h e (kind_n n) i = absurd (omega (arith, kind_tag b e at (kind_n n) i))
  numeric_low h e (kind_r n) i = absurd (omega (arith, kind_tag b e at (kind_r n) i))
  numeric_low h e kind_dt i = refl
  numeric_low h e kind_tm i = refl

  pub numeric_is : 2 ≤ get_or b at 0 → get_or b at 0 < 3 → (e : ℕ) (v : Kind) → Is kind_c b e at v → true ≡ is_numeric v
  numeric_is h k e kind_an i = absurd (omega (arith, kind_tag b e at kind_an i))
  numeric_is h k e kind_id i = absurd (omega (arith, kind_tag b e at kind_id i))
  numeric_is h k e (kind_n n) i = refl
  numeric_is h k e (kind_r n) i = absurd (omega (arith, kind_tag b e at (kind_r n) i))
  numeric_is h k e kind_dt i = absurd (omega (arith, kind_tag b e at kind_dt i))
  numeric_is h k e kind_tm i = absurd (omega (arith, kind_tag b e at kind_tm i))

  pub numeric_high : 3 ≤ get_or b at 0 → (e : ℕ) (v : Kind) → Is kind_c b e at v → false ≡ is_numeric v
  numeric_high h e kind_an i = refl
  numeric_high h e kind_id i = refl
  numeric_high h e (kind_n n) i = absurd (omega (arith, kind_tag b e at (kind_n n) i))
  numeric_high h e (kind_r n) i = refl
  numeric_high h e kind_dt i = refl
  numeric_high h e kind_tm i = refl

  -- the first code of a list that stands at a place
  pub code_none : (n : ℕ) → n ≡ le 4 b at → n ≡ 0 → (e : ℕ) (vs : List (List ℕ)) → Is (list_c bytes_c) b e at vs → HoldsText b None (first_of vs)
  code_none n h q e [] i = record { bytes = refl; within = omega arith }
  code_none n h q e (x ∷ vs) i = absurd (omega (arith, (is_list bytes_c b e at (x ∷ vs) i).counted))

  pub code_is : (n : ℕ) (s : Stretch) → n ≡ le 4 b at → (n ≡ 0 → ⊥) → ((e : ℕ) (v : List ℕ) → e ≤ length b → Is bytes_c b e (at + 4) v → Holds b s v) → (e : ℕ) → e ≤ length b → (vs : List (List ℕ)) → Is (list_c bytes_c) b e at vs → HoldsText b (Some s) (first_of vs)
  unfolding steps
  code_is n s h q f e r [] i = absurd (q (h ∙ sym (is_list bytes_c b e at [] i).counted))
  code_is n s h q f e r (x ∷ vs) i =
      let w = f e x r ((is_list bytes_c b e at (x ∷ vs) i).item 0 x (omega arith)) in
      record { bytes = ap Some w.bytes; within = w.within }

pub code_stands : (b : List ℕ) (at n : ℕ) → n ≡ le 4 b at → (n ≡ 0 → ⊥) → (e : ℕ) → e ≤ length b → (vs : List (List ℕ)) → Is (list_c bytes_c) b e at vs → Stands bytes_c b (at + 4)
unfolding steps
code_stands b at n h q e r vs i = let l = is_list bytes_c b e at vs i in stands_at bytes_c b (at + 4) (at + 4) e (get_or vs 0 []) refl r (l.item 0 [] (omega (arith, h, l.counted)))

pub codes_at : (b : List ℕ) (e at kind min max codes : ℕ) → kind ≡ skip kind_c b at e → min ≡ skip (opt_c num_c) b kind e → max ≡ skip (opt_c num_c) b min e → codes ≡ skip (num_map_c component_c) b max e → (d : ElementDef) → Is element_c b e at d → Is (list_c bytes_c) b e codes d.codes
codes_at b e at kind min max codes i j k l d h = rw (l, k, j, i) (is_element b e at d h).codes

-- ---- the cursor
pub segment_room : (b : List ℕ) (at : ℕ) → Stands segment_c b at → at + 4 ≤ length b
segment_room b at s = stands_list (num_c ⊗ element_c) b at (stands_at (list_c (num_c ⊗ element_c)) b at at s.end s.value refl s.within (is_num_map element_c b s.end at s.value s.is).0)

pub entries_of : (b : List ℕ) (at : ℕ) (c : Elements) → c.left ≡ le 4 b at → c.at ≡ at + 4 → (xs : SegmentDef) → Is segment_c b (plan_start b) at xs → Entries b c xs
entries_of b at c h q xs i =
    let l = is_list (num_c ⊗ element_c) b (plan_start b) at xs (is_num_map element_c b (plan_start b) at xs i).0 in
    record { counted = h ∙ sym l.counted; item = λ k d r. rw q (l.item k d r) }

pub entry_left : (b : List ℕ) (c : Elements) (xs : SegmentDef) → Entries b c xs → 0 < c.left → EntryAt b c
entry_left b c [] h q = absurd (let m = h.counted in omega arith)
entry_left b c (x ∷ xs) h q = record { entry = x; rest = xs; entries = h }

module _ (b : List ℕ) (c : Elements) (e : ℕ) (i : e ≡ plan_start b) (x : ℕ × ElementDef) (xs : SegmentDef) (h : Entries b c (x ∷ xs)) where
  pub first_is : Is (num_c ⊗ element_c) b e c.at x
  unfolding steps
  first_is = rw i (h.item 0 x (omega arith))

  number_is : (c.at + 4 ≤ e) × (x.0 ≡ le 4 b c.at)
  number_is = is_le 4 b e c.at x.0 (is_pair num_c element_c b e c.at x first_is).0

  pub first_room : c.at + 4 ≤ e
  first_room = number_is.0

  pub first_number : (n : ℕ) → n ≡ le 4 b c.at → n ≡ x.0
  first_number n j = j ∙ sym number_is.1

  pub first_element : Is element_c b e (c.at + 4) x.1
  first_element = let m : c.at + 4 ≡ skip (le_c 4) b c.at e = sym (skip_le 4 b c.at e first_room) in rw m (is_pair num_c element_c b e c.at x first_is).1

  pub entries_next : (c' : Elements) → c'.left ≡ c.left - 1 → c'.at ≡ skip (num_c ⊗ element_c) b c.at e → Entries b c' xs
  unfolding steps
  entries_next c' q r = record { counted = let m = h.counted in omega (arith, q, m); item = λ k d s. rw (r, i) (h.item (suc k) d (omega arith)) }
