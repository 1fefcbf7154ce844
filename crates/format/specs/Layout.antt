-- The layout of a job: order, forced segments, group columns and depth of each loop, and the capacity of each table (docs/RULES.md,
-- "Structures").
use Rattle.std.specs.Prelude.{ℕ, ◌≡◌, refl, List, [], ◌⊎◌, Bool, Option}
use Rattle.std.proofs.Common.{inl, inr}
use Rattle.codec.specs.Codec.{Codec, ◌⊗◌, map_c, enum_c, ◌⊕◌, end_c, list_c}
use Rattle.codec.specs.Forms.{num_c, opt_c, flag_c}

-- one item of an order: a planned Segment of the loop, or a child Loop
pub data Item : Type 0 where
  segment_item loop_item : ℕ → Item

abbrev pub RawItem : Type 0
RawItem = ℕ ⊎ (ℕ ⊎ ⊥)

abbrev pub to_item : RawItem → Item
to_item (inl x) = segment_item x
to_item (inr (inl x)) = loop_item x
to_item (inr (inr z)) = absurd z

abbrev pub of_item : Item → RawItem
of_item (segment_item x) = inl x
of_item (loop_item x) = inr (inl x)

pub item_to_of : (v : Item) → to_item (of_item v) ≡ v
item_to_of (segment_item x) = refl
item_to_of (loop_item x) = refl

pub item_of_to : (v : RawItem) → of_item (to_item v) ≡ v
item_of_to (inl x) = refl
item_of_to (inr (inl x)) = refl
item_of_to (inr (inr z)) = absurd z

unfoldable pub item_c : Codec Item
item_c = map_c to_item of_item item_to_of item_of_to (enum_c (num_c ⊕ num_c ⊕ end_c))

pub record Layout : Type 0 where
  pub order : List (List Item)
  pub forced : List (List Bool)
  pub group_columns : List (List ℕ)
  pub depth : List (Option ℕ)
  pub capacity : List ℕ

unfoldable pub layout_c : Codec Layout
layout_c = map_c
    (λ t. record { order = t.0; forced = t.1.0; group_columns = t.1.1.0; depth = t.1.1.1.0; capacity = t.1.1.1.1 })
    (λ v. (v.order, (v.forced, (v.group_columns, (v.depth, v.capacity))))) (λ y. refl) (λ x. refl)
    (list_c (list_c item_c) ⊗ list_c (list_c flag_c) ⊗ list_c (list_c num_c) ⊗ list_c (opt_c num_c) ⊗ list_c num_c)

-- ---- what stands for one that is not there
abbrev pub no_layout : Layout
no_layout = record { order = []; forced = []; group_columns = []; depth = []; capacity = [] }
