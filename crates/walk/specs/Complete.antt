-- A complete plan as far as the walk looks at it (docs/RULES.md, "Row loops", "Entries and orders", "Above a row loop", "Repeat loops"), and the tree
-- that refusal 4 leaves. Of "Entries and orders" the lists that the walk does not look at (forced, group columns, depth, data, capacities) are left out.
use Rattle.std.specs.Prelude.{ℕ, zero, suc, ◌≤◌, ◌<◌, ◌≡◌, ◌⊎◌, Bool, true, false, ◌&&◌, length, ltb, eqb, Some}
use Rattle.nest.specs.Lists.{once, on, times, is}
use Rattle.nest.specs.Outline.{Outline, Kind, rows, absent, envelope, implied, inside, groups, of_repeat, item_loops, item_segments, loop_of, plan_of, table_of, parent_of, kind_of, order_of, segment_of, table_parent, plain, repeated}

pub record ExactlyOne (P : ℕ → Type 0) : Type 0 where
  pub the : ℕ
  pub has : P the
  pub only : (n : ℕ) → P n → n ≡ the

-- ---- the tree of loops

-- loop m stands above loop l
pub data Above (j : Outline) : ℕ → ℕ → Type 0 where
  next : {m l : ℕ} → parent_of j l ≡ Some m → Above j m l
  higher : {m p l : ℕ} → parent_of j l ≡ Some p → Above j m p → Above j m l

-- h loops, l the first, and each the parent of the one before, come to a loop without parent
unfoldable pub climbs : Outline → ℕ → ℕ → Bool
climbs j zero l = false
climbs j (suc h) l = on (parent_of j l) (climbs j h) true

unfoldable pub is_root : Outline → ℕ → Bool
is_root j l = ltb l (length j.loops) && on (parent_of j l) (λ p. false) true

-- what refusal 4 leaves: each loop stands once among its parent's children and nowhere else, one without parent once in roots; no ring;
-- an order names children only, each at most once; a table's loops exist
pub record Tree (j : Outline) : Type 0 where
  pub children : (l k : ℕ) → times k (loop_of j l).children ≡ once (is (parent_of j k) l)
  pub roots : (l : ℕ) → times l j.roots ≡ once (is_root j l)
  pub no_ring : (l : ℕ) → l < length j.loops → climbs j (length j.loops) l ≡ true
  pub order : (l k : ℕ) → times k (item_loops (order_of j l)) ≤ times k (loop_of j l).children
  pub table_loops : (t l : ℕ) → 0 < times l (table_of j t).loops → l < length j.loops

-- ---- the conditions' words

-- u is the parent of t, that one's parent and so on
pub data TableAbove (j : Outline) : ℕ → ℕ → Type 0 where
  next : {u t : ℕ} → table_parent j t ≡ Some u → TableAbove j u t
  higher : {u p t : ℕ} → table_parent j t ≡ Some p → TableAbove j u p → TableAbove j u t

-- what may stand above a row loop
abbrev pub may_stand : Kind → Bool
may_stand absent = false
may_stand envelope = true
may_stand implied = true
may_stand (rows u) = true
may_stand (inside u) = false
may_stand (groups u) = true

-- what may stand between a groups loop of t and the row loop of t
abbrev pub between : ℕ → Kind → Bool
between t absent = false
between t envelope = true
between t implied = true
between t (rows u) = false
between t (inside u) = false
between t (groups u) = eqb u t

-- loop l plans segment i as a repeat segment of table t
pub record PlansRepeat (j : Outline) (l t i : ℕ) : Type 0 where
  pub planned : i < length (plan_of j l).segments
  pub of_table : (segment_of j l i).source ≡ of_repeat t

-- below g, row loop m of table u comes at or above l, with nothing else between
pub record GroupEnds (j : Outline) (g u l : ℕ) : Type 0 where
  pub m : ℕ
  pub row_loop : kind_of j m ≡ rows u
  pub below : Above j g m
  pub on_path : (m ≡ l) ⊎ Above j m l
  pub nothing_else : (k : ℕ) → Above j g k → Above j k m → between u (kind_of j k) ≡ true

-- loop l anchors the repeat table t
pub record Anchors (j : Outline) (l t : ℕ) : Type 0 where
  pub repeat_table : repeated j t ≡ true
  pub in_list : 0 < times l (table_of j t).loops
  pub owner : ℕ
  pub owner_rows : kind_of j l ≡ rows owner

-- ---- the conditions

pub record Complete (j : Outline) : Type 0 where
  pub tree : Tree j
  -- 1
  pub row_loop : (t : ℕ) → plain j t ≡ true → ExactlyOne (λ l. kind_of j l ≡ rows t)
  pub rows_plain : (l t : ℕ) → kind_of j l ≡ rows t → plain j t ≡ true
  pub groups_plain : (l t : ℕ) → kind_of j l ≡ groups t → plain j t ≡ true
  -- 2
  pub plan_entries : length j.plan ≡ length j.loops
  pub order_entries : length j.order ≡ length j.loops
  pub order_loops : (l k : ℕ) → times k (item_loops (order_of j l)) ≡ times k (loop_of j l).children
  pub order_segments : (l i : ℕ) → times i (item_segments (order_of j l)) ≡ once (ltb i (length (plan_of j l).segments))
  pub occurrences : (l i : ℕ) → i < length (plan_of j l).segments → (segment_of j l i).occurrence < (loop_of j l).occurrences
  pub parents_plain : (t u : ℕ) → table_parent j t ≡ Some u → plain j u ≡ true
  -- 3
  pub above_kinds : (l t m : ℕ) → kind_of j l ≡ rows t → Above j m l → may_stand (kind_of j m) ≡ true
  pub above_only : (l t m u : ℕ) → kind_of j l ≡ rows t → Above j m l → kind_of j m ≡ rows u → TableAbove j u t
  pub above_all : (l t u : ℕ) → kind_of j l ≡ rows t → TableAbove j u t → (m : ℕ) × (kind_of j m ≡ rows u) × Above j m l
  pub groups_end : (l t g u : ℕ) → kind_of j l ≡ rows t → Above j g l → kind_of j g ≡ groups u → GroupEnds j g u l
  -- 4: the anchors that nest tries are such loops (`anchors`)
  pub repeat_planned : (l t : ℕ) → Anchors j l t → ExactlyOne (PlansRepeat j l t)
  pub no_other_repeat : (l t i : ℕ) → PlansRepeat j l t i → Anchors j l t
