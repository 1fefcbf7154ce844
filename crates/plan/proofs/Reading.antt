-- What the readers answer is what stands at the place: a law for each way. t is the byte of the case, n the number behind it.
use Prim.Native.Nat.{ℕ, zero, suc, ◌+◌, ◌*◌, ◌≤◌, ◌<◌}
use mathlib.Core.Path.{◌≡◌, refl, sym, ap, ◌∙◌}
use mathlib.Core.List.{List}
use mathlib.Core.Bool.{Bool, true, false}
use native.Mathlib.Omega.{arith}
use native.Mathlib.Nat.{add-zero, zero-mul, suc-mul}
use Rattle.std.specs.Prelude.{Option, None, Some}
use lib.ListN.{length, get_or}
use lib.Dec.{eqb}
use Rattle.codec.specs.Codec.{Codec, le, le_c, list_c}
use Rattle.codec.specs.Skip.{skip, steps, Is, tag_at}
use Rattle.codec.proofs.Skip.{steps_last, skip_le, skip_map, skip_pair}
use Rattle.codec.specs.Forms.{num_c, bytes_c, opt_c, flag_c}
use Rattle.codec.specs.Field.{Stands}
use Rattle.codec.proofs.Field.{stands_at, is_map, is_enum, is_le, is_none, is_some, is_list, count_of}
use Rattle.codec.proofs.Ways.{tag_in, skip_opt, opt_none, opt_some, skip_flag, case_in}
use Rattle.codec.proofs.Answers.{skip_les}
use Rattle.format.specs.Plan.{Instances, absent, enveloped, rows_of, inside, groups_of, implied, instances_c, Source, from_envelope, from_row, from_repeat, source_c, Value, from_column, from_group, from_code, value_c, ElementPlan as ElementPlanIn, element_plan_c, SegmentPlan, segment_plan_c}
use Rattle.format.specs.Layout.{Item, segment_item, loop_item, item_c}
use Rattle.format.proofs.Fields.{instances_tag, is_rows_of, is_inside, is_groups_of, source_tag, is_from_row, is_from_repeat, value_tag, is_from_column, is_from_group, is_from_code, item_tag, is_segment_item, is_loop_item, ElementPlanIs, is_element_plan, SegmentPlanIs, is_segment_plan}
use Rattle.format.proofs.Ends.{source_low, source_table_lem, value_column, value_code, item_is}
use Rattle.spec.specs.Answers.{Holds}
use Rattle.spec.proofs.Standing.{les_room, next_place}
use Rattle.spec.proofs.ReadsLaws.{num_reads, stretch_is, flag_byte, flag_tag}
use Rattle.plan.specs.declared.answers.ElementPlan.{ElementPlan}
use Rattle.plan.specs.declared.answers.ValueSource.TheVariants.{Column, Group, Code}
use Rattle.plan.specs.declared.answers.Planned.{Planned}
use Rattle.plan.specs.Answers.{source_of, source_len, ValueRead, ElementRead}
use Rattle.plan.proofs.Elements.{run_list}
use Rattle.plan.specs.Planned.{SegmentRead}

-- ---- options
opt_room : (b : List ℕ) (e at : ℕ) (o : Option ℕ) → Is (opt_c num_c) b e at o → at < e
unfolding opt_c
opt_room b e at o h = (is_enum _ b e at _ (is_map _ _ _ _ _ b e at o h)).room

skip_none : (b : List ℕ) (e at : ℕ) → Is (opt_c num_c) b e at None → skip (opt_c num_c) b at e ≡ at + 1
skip_none b e at h = skip_opt num_c b at e ∙ opt_none b at e _ (tag_in b at e (opt_room b e at None h) ∙ is_none num_c b e at h)

skip_some : (b : List ℕ) (e at x : ℕ) → Is (opt_c num_c) b e at (Some x) → skip (opt_c num_c) b at e ≡ at + 5
skip_some b e at x h =
    let s = is_some num_c b e at x h in
    let m : at < e = opt_room b e at (Some x) h in
    let r : at + 1 + 4 ≡ at + 5 = omega arith in
    skip_opt num_c b at e ∙ opt_some b at e _ (tag_in b at e m ∙ s.0) ∙ rw (skip_le 1 b at e (omega arith)) (next_place b e (at + 1) x s.1 ∙ r)

-- ---- instances
-- by the byte of the case
abbrev pub instances_by : ℕ → ℕ → Instances
instances_by zero n = absent
instances_by (suc zero) n = enveloped
instances_by (suc (suc zero)) n = rows_of n
instances_by (suc (suc (suc zero))) n = inside n
instances_by (suc (suc (suc (suc zero)))) n = groups_of n
instances_by (suc (suc (suc (suc (suc k))))) n = implied

module _ (b : List ℕ) (at t n : ℕ) (h : t ≡ get_or b at 0) (i : n ≡ le 4 b (at + 1)) where
  pub instances_by_lem : (e : ℕ) (v : Instances) → Is instances_c b e at v → instances_by t n ≡ v
  instances_by_lem e absent j = rw (h ∙ instances_tag b e at _ j)
  instances_by_lem e enveloped j = rw (h ∙ instances_tag b e at _ j)
  instances_by_lem e (rows_of x) j = rw (h ∙ instances_tag b e at _ j) (ap rows_of (num_reads b (at + 1) n i e x (is_rows_of b e at x j)))
  instances_by_lem e (inside x) j = rw (h ∙ instances_tag b e at _ j) (ap inside (num_reads b (at + 1) n i e x (is_inside b e at x j)))
  instances_by_lem e (groups_of x) j = rw (h ∙ instances_tag b e at _ j) (ap groups_of (num_reads b (at + 1) n i e x (is_groups_of b e at x j)))
  instances_by_lem e implied j = rw (h ∙ instances_tag b e at _ j)

  pub instances_case_lem : (k : ℕ) → t ≡ k → (e : ℕ) (v : Instances) → Is instances_c b e at v → instances_by k n ≡ v
  instances_case_lem k q e v j = rw (sym q) (instances_by_lem e v j)

  pub instances_else : (t ≡ 0 → ⊥) → (t ≡ 1 → ⊥) → (t ≡ 2 → ⊥) → (t ≡ 3 → ⊥) → (t ≡ 4 → ⊥) → (e : ℕ) (v : Instances) → Is instances_c b e at v → implied ≡ v
  instances_else q₀ q₁ q₂ q₃ q₄ e absent j = absurd (q₀ (h ∙ instances_tag b e at _ j))
  instances_else q₀ q₁ q₂ q₃ q₄ e enveloped j = absurd (q₁ (h ∙ instances_tag b e at _ j))
  instances_else q₀ q₁ q₂ q₃ q₄ e (rows_of x) j = absurd (q₂ (h ∙ instances_tag b e at _ j))
  instances_else q₀ q₁ q₂ q₃ q₄ e (inside x) j = absurd (q₃ (h ∙ instances_tag b e at _ j))
  instances_else q₀ q₁ q₂ q₃ q₄ e (groups_of x) j = absurd (q₄ (h ∙ instances_tag b e at _ j))
  instances_else q₀ q₁ q₂ q₃ q₄ e implied j = refl

  -- ---- sources
  pub source_0 : t ≡ 0 → (e : ℕ) (v : Source) → Is source_c b e at v → from_envelope ≡ v
  source_0 q e from_envelope j = refl
  source_0 q e (from_row x) j = absurd (omega (arith, source_tag b e at _ j))
  source_0 q e (from_repeat x) j = absurd (omega (arith, source_tag b e at _ j))

  pub source_1 : t ≡ 1 → (e : ℕ) (v : Source) → Is source_c b e at v → from_row n ≡ v
  source_1 q e from_envelope j = absurd (omega (arith, source_tag b e at _ j))
  source_1 q e (from_row x) j = ap from_row (num_reads b (at + 1) n i e x (is_from_row b e at x j))
  source_1 q e (from_repeat x) j = absurd (omega (arith, source_tag b e at _ j))

  pub source_2 : (t ≡ 0 → ⊥) → (t ≡ 1 → ⊥) → (e : ℕ) (v : Source) → Is source_c b e at v → from_repeat n ≡ v
  source_2 q₀ q₁ e from_envelope j = absurd (q₀ (h ∙ source_tag b e at _ j))
  source_2 q₀ q₁ e (from_row x) j = absurd (q₁ (h ∙ source_tag b e at _ j))
  source_2 q₀ q₁ e (from_repeat x) j = ap from_repeat (num_reads b (at + 1) n i e x (is_from_repeat b e at x j))

  -- ---- items of an order
  pub item_0 : t ≡ 0 → (e : ℕ) (v : Item) → Is item_c b e at v → segment_item n ≡ v
  item_0 q e (segment_item x) j = ap segment_item (num_reads b (at + 1) n i e x (is_segment_item b e at x j))
  item_0 q e (loop_item x) j = absurd (omega (arith, item_tag b e at _ j))

  pub item_1 : (t ≡ 0 → ⊥) → (e : ℕ) (v : Item) → Is item_c b e at v → loop_item n ≡ v
  item_1 q e (segment_item x) j = absurd (q (h ∙ item_tag b e at _ j))
  item_1 q e (loop_item x) j = ap loop_item (num_reads b (at + 1) n i e x (is_loop_item b e at x j))

-- ---- where an enum ends
-- a number behind the byte of a case
module _ (b : List ℕ) (e at x : ℕ) (i : Is num_c b e (at + 1) x) where
  case_number_lem : at + 5 ≤ e
  case_number_lem = omega (arith, (is_le 4 b e (at + 1) x i).0)

  case_tag : get_or b at 0 ≡ tag_at b at e
  case_tag = let r : at + 5 ≤ e = case_number_lem in sym (tag_in b at e (omega arith))

  case_behind : at + 1 ≡ skip (le_c 1) b at e
  case_behind = let r : at + 5 ≤ e = case_number_lem in sym (skip_le 1 b at e (omega arith))

  case_end_lem : at + 5 ≡ skip num_c b (at + 1) e
  case_end_lem = let r : at + 5 ≡ at + 1 + 4 = omega arith in r ∙ sym (next_place b e (at + 1) x i)

-- ---- what bounds a place: the byte of the case is there, and the number behind it where the case has one
module _ (b : List ℕ) (at : ℕ) where
  pub instances_starts : Stands instances_c b at → at < length b
  unfolding instances_c
  instances_starts s = omega (arith, s.within, (is_enum _ b s.end at _ (is_map _ _ _ _ _ b s.end at s.value s.is)).room)

  pub instances_number : Stands instances_c b at → (k : ℕ) → get_or b at 0 ≡ k → 2 ≤ k → k ≤ 4 → at + 1 + 4 ≤ length b
  instances_number s k q l m = go s.value s.is
    where
      go : (v : Instances) → Is instances_c b s.end at v → at + 1 + 4 ≤ length b
      go absent j = absurd (omega (arith, instances_tag b s.end at _ j))
      go enveloped j = absurd (omega (arith, instances_tag b s.end at _ j))
      go (rows_of x) j = omega (arith, s.within, case_number_lem b s.end at x (is_rows_of b s.end at x j))
      go (inside x) j = omega (arith, s.within, case_number_lem b s.end at x (is_inside b s.end at x j))
      go (groups_of x) j = omega (arith, s.within, case_number_lem b s.end at x (is_groups_of b s.end at x j))
      go implied j = absurd (omega (arith, instances_tag b s.end at _ j))

pub source_room : (b : List ℕ) (e at : ℕ) (v : Source) → Is source_c b e at v → at < e
unfolding source_c
source_room b e at v h = (is_enum _ b e at _ (is_map _ _ _ _ _ b e at v h)).room

pub source_starts : (b : List ℕ) (at : ℕ) → Stands source_c b at → at < length b
source_starts b at s = omega (arith, s.within, source_room b s.end at s.value s.is)

pub source_number : (b : List ℕ) (at : ℕ) → Stands source_c b at → (get_or b at 0 ≡ 0 → ⊥) → at + 1 + 4 ≤ length b
source_number b at s q = go s.value s.is
  where
    go : (v : Source) → Is source_c b s.end at v → at + 1 + 4 ≤ length b
    go from_envelope j = absurd (q (source_tag b s.end at _ j))
    go (from_row x) j = omega (arith, s.within, case_number_lem b s.end at x (is_from_row b s.end at x j))
    go (from_repeat x) j = omega (arith, s.within, case_number_lem b s.end at x (is_from_repeat b s.end at x j))

-- whatever its case, a number stands behind it
pub item_number : (b : List ℕ) (at : ℕ) → Stands item_c b at → at + 1 + 4 ≤ length b
item_number b at s = go s.value s.is
  where
    go : (v : Item) → Is item_c b s.end at v → at + 1 + 4 ≤ length b
    go (segment_item x) j = omega (arith, s.within, case_number_lem b s.end at x (is_segment_item b s.end at x j))
    go (loop_item x) j = omega (arith, s.within, case_number_lem b s.end at x (is_loop_item b s.end at x j))

-- ---- planned segments
source_end : (b : List ℕ) (e at : ℕ) (v : Source) → Is source_c b e at v → skip source_c b at e ≡ at + source_len v
source_end b e at from_envelope j =
    let m : at < e = source_room b e at _ j in
    let g : get_or b at 0 ≡ 0 = source_tag b e at _ j in
    sym (source_low b at e (get_or b at 0) (at + 1) (sym (tag_in b at e m)) (sym (skip_le 1 b at e (omega arith))) (omega arith))
source_end b e at (from_row x) j =
    let k = is_from_row b e at x j in
    let g : get_or b at 0 ≡ 1 = source_tag b e at _ j in
    sym (source_table_lem b at e _ _ (case_tag b e at x k) (case_behind b e at x k) _ (case_end_lem b e at x k) (omega arith) (omega arith))
source_end b e at (from_repeat x) j =
    let k = is_from_repeat b e at x j in
    let g : get_or b at 0 ≡ 2 = source_tag b e at _ j in
    sym (source_table_lem b at e _ _ (case_tag b e at x k) (case_behind b e at x k) _ (case_end_lem b e at x k) (omega arith) (omega arith))

-- the source of one stands behind its occurrence, and its elements behind that
module _ (b : List ℕ) (at : ℕ) where
  pub source_behind : (e : ℕ) (v : SegmentPlan) → Is segment_plan_c b e at v → Is source_c b e (at + 4) v.source
  source_behind e v i =
      let f : SegmentPlanIs b e at v = is_segment_plan b e at v i in
      rw (next_place b e at v.occurrence f.occurrence) at f.source

  elements_behind : (e : ℕ) (v : SegmentPlan) → Is segment_plan_c b e at v → Is (list_c element_plan_c) b e (at + 4 + source_len v.source) v.elements
  elements_behind e v i =
      let f : SegmentPlanIs b e at v = is_segment_plan b e at v i in
      rw (next_place b e at v.occurrence f.occurrence, source_end b e (at + 4) v.source (source_behind e v i)) at f.elements

  module _ (s : Stands segment_plan_c b at) where
    pub segment_source : Stands source_c b (at + 4)
    segment_source = stands_at source_c b (at + 4) (at + 4) s.end _ refl s.within (source_behind s.end s.value s.is)

    pub segment_list : (n : ℕ) (r : Source) → n ≡ source_len r → ((e : ℕ) (v : Source) → Is source_c b e (at + 4) v → r ≡ v) → at + 4 + n + 4 ≤ length b
    segment_list n r l f =
        let m = (is_list element_plan_c b s.end _ s.value.elements (elements_behind s.end s.value s.is)).room in
        let k : n ≡ source_len s.value.source = l ∙ ap source_len (f s.end s.value.source (source_behind s.end s.value s.is)) in
        omega (arith, s.within, k, m)

  -- what was read of it: a source of n bytes, and a count behind
  pub segment_read : (r : Planned) (n : ℕ) → r.there ≡ true → r.occurrence ≡ le 4 b at → n ≡ source_len (source_of r.source) → r.count ≡ le 4 b (at + 4 + n) → r.first ≡ at + 4 + n + 4 → ((e : ℕ) (v : Source) → Is source_c b e (at + 4) v → source_of r.source ≡ v) → (e : ℕ) (v : SegmentPlan) → Is segment_plan_c b e at v → SegmentRead b e v r
  segment_read r n t o l c p f e v j =
      let s : source_of r.source ≡ v.source = f e v.source (source_behind e v j) in
      let m : at + 4 + source_len v.source ≡ at + 4 + n = rw (l, s) refl in
      let i : Is (list_c element_plan_c) b e (at + 4 + n) v.elements = rw m at (elements_behind e v j) in
      record {
        there = t;
        segment = record {
          source = s;
          occurrence = num_reads b at _ o e _ (is_segment_plan b e at v j).occurrence;
          count = count_of b e _ _ _ element_plan_c _ c refl i;
          first = rw p (run_list element_plan_c b e _ _ i);
        };
      }

-- ---- values
module _ (b : List ℕ) (at t n element : ℕ) (component : Option ℕ) (h : t ≡ get_or b at 0) (i : n ≡ le 4 b (at + 1)) where
  pub value_0 : t ≡ 0 → (e : ℕ) (v : Value) → e ≤ length b → Is value_c b e at v → ValueRead b e at v (record { element = element; component = component; value = Column n; next = at + 5 })
  value_0 q e (from_column x) m j =
      let k = is_from_column b e at x j in
      record { value = ap from_column (num_reads b (at + 1) n i e x k); next = value_column b at e _ _ (case_tag b e at x k) (case_behind b e at x k) _ (case_end_lem b e at x k) (omega arith); within = omega arith }
  value_0 q e (from_group x) m j = absurd (omega (arith, value_tag b e at _ j))
  value_0 q e (from_code x) m j = absurd (omega (arith, value_tag b e at _ j))

  pub value_1 : t ≡ 1 → (e : ℕ) (v : Value) → e ≤ length b → Is value_c b e at v → ValueRead b e at v (record { element = element; component = component; value = Group n; next = at + 5 })
  value_1 q e (from_column x) m j = absurd (omega (arith, value_tag b e at _ j))
  value_1 q e (from_group x) m j =
      let k = is_from_group b e at x j in
      record { value = ap from_group (num_reads b (at + 1) n i e x k); next = value_column b at e _ _ (case_tag b e at x k) (case_behind b e at x k) _ (case_end_lem b e at x k) (omega arith); within = omega arith }
  value_1 q e (from_code x) m j = absurd (omega (arith, value_tag b e at _ j))

  pub value_2 : (t ≡ 0 → ⊥) → (t ≡ 1 → ⊥) → (e : ℕ) (v : Value) → e ≤ length b → Is value_c b e at v → ValueRead b e at v (record { element = element; component = component; value = Code (record { start = at + 5; len = n }); next = at + 5 + n })
  value_2 q₀ q₁ e (from_column x) m j = absurd (q₀ (h ∙ value_tag b e at _ j))
  value_2 q₀ q₁ e (from_group x) m j = absurd (q₁ (h ∙ value_tag b e at _ j))
  value_2 q₀ q₁ e (from_code x) m j =
      let k : Is bytes_c b e (at + 1) x = is_from_code b e at x j in
      let g : get_or b at 0 ≡ 2 = value_tag b e at _ j in
      let r : at + 1 + 4 + le 4 b (at + 1) * 1 ≤ e = les_room b e (at + 1) 1 x k in
      let w : Holds b (record { start = at + 5; len = n }) x = stretch_is b (at + 1) _ (omega arith) i e x m k in
      let o : at + 5 + n ≡ at + 1 + 4 + le 4 b (at + 1) * 1 = omega arith in
      record {
        value = ap from_code w.bytes;
        next = o ∙ sym (skip_les 1 b e (at + 1) x k) ∙ value_code b at e (get_or b at 0) (at + 1) (sym (tag_in b at e (omega arith))) (sym (skip_le 1 b at e (omega arith))) _ refl (omega arith) (omega arith);
        within = w.within;
      }

-- whatever its case, a number stands behind it
pub value_number : (b : List ℕ) (at : ℕ) → Stands value_c b at → at + 1 + 4 ≤ length b
value_number b at s = go s.value s.is
  where
    go : (v : Value) → Is value_c b s.end at v → at + 1 + 4 ≤ length b
    go (from_column x) j = omega (arith, s.within, case_number_lem b s.end at x (is_from_column b s.end at x j))
    go (from_group x) j = omega (arith, s.within, case_number_lem b s.end at x (is_from_group b s.end at x j))
    go (from_code x) j = omega (arith, s.within, (is_list (le_c 1) b s.end (at + 1) x (is_from_code b s.end at x j)).room)

-- ---- planned elements
-- the component and the value of one stand behind its number
element_behind : (b : List ℕ) (e at : ℕ) (v : ElementPlanIn) → Is element_plan_c b e at v → Is (opt_c num_c) b e (at + 4) v.component × Is value_c b e (skip (opt_c num_c) b (at + 4) e) v.value
element_behind b e at v j =
    let g : ElementPlanIs b e at v = is_element_plan b e at v j in
    let a : skip num_c b at e ≡ at + 4 = next_place b e at v.element g.element in
    (rw a at g.component, rw a at g.value)

value_behind : (b : List ℕ) (e at : ℕ) (v : ElementPlanIn) → Is element_plan_c b e at v → (get_or b (at + 4) 0 ≡ 0 → Is value_c b e (at + 5) v.value) × ((get_or b (at + 4) 0 ≡ 0 → ⊥) → Is value_c b e (at + 9) v.value)
value_behind b e at v j = let f = element_behind b e at v j in go v.component f.0 f.1
  where
    go : (o : Option ℕ) → Is (opt_c num_c) b e (at + 4) o → Is value_c b e (skip (opt_c num_c) b (at + 4) e) v.value → (get_or b (at + 4) 0 ≡ 0 → Is value_c b e (at + 5) v.value) × ((get_or b (at + 4) 0 ≡ 0 → ⊥) → Is value_c b e (at + 9) v.value)
    go None z w = let d : at + 4 + 1 ≡ at + 5 = omega arith in (λ q. rw (skip_none b e (at + 4) z ∙ d) at w, λ q. absurd (q (is_none num_c b e (at + 4) z)))
    go (Some y) z w = let d : at + 4 + 5 ≡ at + 9 = omega arith in (λ q. absurd (omega (arith, (is_some num_c b e (at + 4) y z).0)), λ q. rw (skip_some b e (at + 4) y z ∙ d) at w)

module _ (b : List ℕ) (at : ℕ) (s : Stands element_plan_c b at) where
  pub element_mark : at + 4 < length b
  element_mark = omega (arith, s.within, opt_room b s.end (at + 4) s.value.component (element_behind b s.end at s.value s.is).0)

  pub value_alone : get_or b (at + 4) 0 ≡ 0 → Stands value_c b (at + 5)
  value_alone q = stands_at value_c b (at + 5) (at + 5) s.end _ refl s.within ((value_behind b s.end at s.value s.is).0 q)

  pub value_in_component : (get_or b (at + 4) 0 ≡ 0 → ⊥) → Stands value_c b (at + 9)
  value_in_component q = stands_at value_c b (at + 9) (at + 9) s.end _ refl s.within ((value_behind b s.end at s.value s.is).1 q)

module _ (b : List ℕ) (at n t : ℕ) (r : ElementPlan) (h : n ≡ le 4 b at) (i : t ≡ get_or b (at + 4) 0) (k : r.element ≡ n) where
  joined : (e p : ℕ) (v : ElementPlanIn) → Is element_plan_c b e at v → r.component ≡ v.component → skip (opt_c num_c) b (at + 4) e ≡ p → ((w : Value) → Is value_c b e p w → ValueRead b e p w r) → ElementRead b e at v r
  unfolding element_plan_c
  joined e p v j c s f =
      let g : ElementPlanIs b e at v = is_element_plan b e at v j in
      let a : skip num_c b at e ≡ at + 4 = next_place b e at v.element g.element in
      let u : ValueRead b e p v.value r = f v.value (rw (a, s) at g.value) in
      let x : r.element ≡ v.element = k ∙ num_reads b at n h e v.element g.element in
      let y : skip element_plan_c b at e ≡ skip value_c b p e = skip_map _ _ _ _ _ b at e ∙ skip_pair _ _ b at e ∙ skip_pair _ _ b _ e ∙ rw (a, s) in
      record { plan = λ l. record { element = x l; component = c l; value = u.value l }; next = u.next ∙ sym y; within = u.within }

  pub element_0 : t ≡ 0 → r.component ≡ None → ((e : ℕ) (w : Value) → e ≤ length b → Is value_c b e (at + 5) w → ValueRead b e (at + 5) w r) → (e : ℕ) (v : ElementPlanIn) → e ≤ length b → Is element_plan_c b e at v → ElementRead b e at v r
  element_0 q c f e v m j = go v.component refl (element_behind b e at v j).0
    where
      go : (o : Option ℕ) → v.component ≡ o → Is (opt_c num_c) b e (at + 4) o → ElementRead b e at v r
      go None p z =
          let d : at + 4 + 1 ≡ at + 5 = omega arith in
          joined e (at + 5) v j (c ∙ sym p) (skip_none b e (at + 4) z ∙ d) (λ w. f e w m)
      go (Some x) p z = absurd (omega (arith, (is_some num_c b e (at + 4) x z).0))

  pub element_1 : (t ≡ 0 → ⊥) → (x : ℕ) → x ≡ le 4 b (at + 5) → r.component ≡ Some x → ((e : ℕ) (w : Value) → e ≤ length b → Is value_c b e (at + 9) w → ValueRead b e (at + 9) w r) → (e : ℕ) (v : ElementPlanIn) → e ≤ length b → Is element_plan_c b e at v → ElementRead b e at v r
  element_1 q x a c f e v m j = go v.component refl (element_behind b e at v j).0
    where
      go : (o : Option ℕ) → v.component ≡ o → Is (opt_c num_c) b e (at + 4) o → ElementRead b e at v r
      go None p z = absurd (q (i ∙ is_none num_c b e (at + 4) z))
      go (Some y) p z =
          let d : at + 4 + 5 ≡ at + 9 = omega arith in
          let g : at + 5 ≡ at + 4 + 1 = omega arith in
          let w : x ≡ y = num_reads b (at + 4 + 1) x (rw g at a) e y (is_some num_c b e (at + 4) y z).1 in
          joined e (at + 9) v j (c ∙ ap Some w ∙ sym p) (skip_some b e (at + 4) y z ∙ d) (λ w. f e w m)

-- ---- lists whose items are all of one width
steps_wide : {A : Type 0} (C : Codec A) (w : ℕ) (b : List ℕ) (e : ℕ) → ((at : ℕ) (v : A) → Is C b e at v → skip C b at e ≡ at + w) → (vs : List A) (from : ℕ) → ((j : ℕ) (d : A) → j < length vs → Is C b e (steps C b e j from) (get_or vs j d)) → (d : A) (i : ℕ) → i ≤ length vs → steps C b e i from ≡ from + i * w
unfolding steps
steps_wide C w b e f vs from h d zero m = rw (zero-mul, add-zero)
steps_wide C w b e f vs from h d (suc i) m =
    let q : suc i ≡ i + 1 = omega arith in
    let s : steps C b e i from ≡ from + i * w = steps_wide C w b e f vs from h d i (omega arith) in
    let k : suc i * w ≡ i * w + w = suc-mul i w in
    let r : skip C b (steps C b e i from) e ≡ steps C b e i from + w = f _ (get_or vs i d) (h i d (omega arith)) in
    ap (λ (z : ℕ). steps C b e z from) q ∙ steps_last C b e i from ∙ r ∙ omega arith

pub wide_item : {A : Type 0} (C : Codec A) (w : ℕ) (b : List ℕ) (e at : ℕ) (vs : List A) (i : ℕ) (d : A) → ((p : ℕ) (v : A) → Is C b e p v → skip C b p e ≡ p + w) → Is (list_c C) b e at vs → i < length vs → Is C b e (at + 4 + i * w) (get_or vs i d)
wide_item C w b e at vs i d f h q =
    let l = is_list C b e at vs h in
    rw (steps_wide C w b e f vs (at + 4) l.item d i (omega arith)) at (l.item i d q)

pub wide_order : (b : List ℕ) (e p : ℕ) (v : Item) → Is item_c b e p v → skip item_c b p e ≡ p + 5
wide_order b e p (segment_item x) j =
    let k = is_segment_item b e p x j in
    let g : get_or b p 0 ≡ 0 = item_tag b e p _ j in
    sym (item_is b p e _ _ (case_tag b e p x k) (case_behind b e p x k) _ (case_end_lem b e p x k) (omega arith))
wide_order b e p (loop_item x) j =
    let k = is_loop_item b e p x j in
    let g : get_or b p 0 ≡ 1 = item_tag b e p _ j in
    sym (item_is b p e _ _ (case_tag b e p x k) (case_behind b e p x k) _ (case_end_lem b e p x k) (omega arith))

-- ---- flags
pub flag_room : (b : List ℕ) (e at : ℕ) (v : Bool) → Is flag_c b e at v → at < e
unfolding flag_c
flag_room b e at v h = (is_enum _ b e at _ (is_map _ _ _ _ _ b e at v h)).room

flag_low : (v : Bool) → flag_byte v < 2
flag_low false = omega arith
flag_low true = omega arith

pub wide_flag : (b : List ℕ) (e p : ℕ) (v : Bool) → Is flag_c b e p v → skip flag_c b p e ≡ p + 1
wide_flag b e p v h =
    let t : tag_at b p e ≡ flag_byte v = tag_in b p e (flag_room b e p v h) ∙ flag_tag b e p v h in
    skip_flag b p e ∙ case_in b p e 2 (rw t (flag_low v))

pub flag_is : (b : List ℕ) (e at t : ℕ) (v : Bool) → t ≡ get_or b at 0 → Is flag_c b e at v → eqb t 1 ≡ v
flag_is b e at t false q h = rw (q ∙ flag_tag b e at false h)
flag_is b e at t true q h = rw (q ∙ flag_tag b e at true h)
