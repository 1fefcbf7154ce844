-- Where the enums of a job end: a law for each way that the code takes. t is the byte of the case, p the place behind it.
use Prim.Native.Nat.{ℕ, zero, suc, ◌+◌, ◌≤◌, ◌<◌}
use Rattle.std.specs.Prelude.{◌≡◌, List}
use Rattle.std.proofs.Math.Path.{refl, sym}
use Rattle.std.proofs.Common.{◌∙◌, arith}
use Rattle.codec.specs.Codec.{Cases, le_c, unit_c, enum_c, ◌⊕◌, end_c, list_c}
use Rattle.codec.specs.Skip.{skip, tag_at, case_end}
use Rattle.codec.proofs.Skip.{skip_case, skip_map, skip_pair, skip_le, skip_unit, skip_case_0, skip_case_suc}
use Rattle.codec.specs.Forms.{num_c, byte_c, long_c, wide_c, bytes_c}
use Rattle.codec.proofs.Ways.{skip_tag, skip_above, skip_plain, tag_case}
use Rattle.format.specs.Spec.{usage_c, counted_c, kind_c}
use Rattle.format.specs.Plan.{instances_c, source_c, value_c}
use Rattle.format.specs.Layout.{item_c}
use Rattle.format.specs.Data.{values_c}

pub skip_usage : (b : List ℕ) (at e : ℕ) → skip usage_c b at e ≡ case_end b at e 2
unfolding usage_c
skip_usage b at e = skip_map _ _ _ _ _ _ _ _ ∙ skip_plain 2 b at e (omega arith)

pub skip_counted : (b : List ℕ) (at e : ℕ) → skip counted_c b at e ≡ case_end b at e 2
unfolding counted_c
skip_counted b at e = skip_map _ _ _ _ _ _ _ _ ∙ skip_plain 2 b at e (omega arith)

module _ (b : List ℕ) (at e t p : ℕ) (h : t ≡ tag_at b at e) (q : p ≡ skip (le_c 1) b at e) where
  at_case : {A : Type 0} (C : Cases A) (k : ℕ) → t ≡ k → k < 256 → skip (enum_c C) b at e ≡ skip_case C k b p e
  at_case C k i l = skip_tag C b at e k (sym h ∙ i) l ∙ rw (← q)

  at_unit : (k : ℕ) → t ≡ k → k < 256 → skip unit_c b p e ≡ p
  at_unit k i l =
      let r : at < e = tag_case b at e k (sym h ∙ i) l in
      skip_unit b p e (rw (q, skip_le 1 b at e (omega arith)) (omega arith))

  at_bad : {A : Type 0} (C : Cases A) → C.cases ≤ t → skip (enum_c C) b at e ≡ e + 1
  at_bad C l = skip_above C b at e (rw h at l)

  pub kind_low : t < 2 → p ≡ skip kind_c b at e
  unfolding kind_c
  kind_low m = go t refl
    where
      go : (k : ℕ) → t ≡ k → p ≡ skip kind_c b at e
      go zero i = sym (skip_map _ _ _ _ _ _ _ _ ∙ at_case _ 0 i (omega arith) ∙ skip_case_0 _ _ _ _ _ ∙ at_unit 0 i (omega arith))
      go (suc zero) i = sym (skip_map _ _ _ _ _ _ _ _ ∙ at_case _ 1 i (omega arith) ∙ skip_case_suc _ _ _ _ _ 0 ∙ skip_case_0 _ _ _ _ _ ∙ at_unit 1 i (omega arith))
      go (suc (suc n)) i = absurd (omega arith)

  pub kind_byte : (r : ℕ) → r ≡ skip byte_c b p e → 2 ≤ t → t < 4 → r ≡ skip kind_c b at e
  unfolding kind_c
  kind_byte r g l m = g ∙ go t refl
    where
      go : (k : ℕ) → t ≡ k → skip byte_c b p e ≡ skip kind_c b at e
      go zero i = absurd (omega arith)
      go (suc zero) i = absurd (omega arith)
      go (suc (suc zero)) i = sym (skip_map _ _ _ _ _ _ _ _ ∙ at_case _ 2 i (omega arith) ∙ skip_case_suc _ _ _ _ _ 1 ∙ skip_case_suc _ _ _ _ _ 0 ∙ skip_case_0 _ _ _ _ _)
      go (suc (suc (suc zero))) i = sym (skip_map _ _ _ _ _ _ _ _ ∙ at_case _ 3 i (omega arith) ∙ skip_case_suc _ _ _ _ _ 2 ∙ skip_case_suc _ _ _ _ _ 1 ∙ skip_case_suc _ _ _ _ _ 0 ∙ skip_case_0 _ _ _ _ _)
      go (suc (suc (suc (suc n)))) i = absurd (omega arith)

  pub kind_high : 4 ≤ t → t < 6 → p ≡ skip kind_c b at e
  unfolding kind_c
  kind_high l m = go t refl
    where
      go : (k : ℕ) → t ≡ k → p ≡ skip kind_c b at e
      go zero i = absurd (omega arith)
      go (suc zero) i = absurd (omega arith)
      go (suc (suc zero)) i = absurd (omega arith)
      go (suc (suc (suc zero))) i = absurd (omega arith)
      go (suc (suc (suc (suc zero)))) i = sym (skip_map _ _ _ _ _ _ _ _ ∙ at_case _ 4 i (omega arith) ∙ skip_case_suc _ _ _ _ _ 3 ∙ skip_case_suc _ _ _ _ _ 2 ∙ skip_case_suc _ _ _ _ _ 1 ∙ skip_case_suc _ _ _ _ _ 0 ∙ skip_case_0 _ _ _ _ _ ∙ at_unit 4 i (omega arith))
      go (suc (suc (suc (suc (suc zero))))) i = sym (skip_map _ _ _ _ _ _ _ _ ∙ at_case _ 5 i (omega arith) ∙ skip_case_suc _ _ _ _ _ 4 ∙ skip_case_suc _ _ _ _ _ 3 ∙ skip_case_suc _ _ _ _ _ 2 ∙ skip_case_suc _ _ _ _ _ 1 ∙ skip_case_suc _ _ _ _ _ 0 ∙ skip_case_0 _ _ _ _ _ ∙ at_unit 5 i (omega arith))
      go (suc (suc (suc (suc (suc (suc n)))))) i = absurd (omega arith)

  pub kind_bad : 6 ≤ t → e + 1 ≡ skip kind_c b at e
  unfolding kind_c ◌⊕◌ end_c
  kind_bad l = sym (skip_map _ _ _ _ _ _ _ _ ∙ at_bad _ l)

  pub instances_low : t < 2 → p ≡ skip instances_c b at e
  unfolding instances_c
  instances_low m = go t refl
    where
      go : (k : ℕ) → t ≡ k → p ≡ skip instances_c b at e
      go zero i = sym (skip_map _ _ _ _ _ _ _ _ ∙ at_case _ 0 i (omega arith) ∙ skip_case_0 _ _ _ _ _ ∙ at_unit 0 i (omega arith))
      go (suc zero) i = sym (skip_map _ _ _ _ _ _ _ _ ∙ at_case _ 1 i (omega arith) ∙ skip_case_suc _ _ _ _ _ 0 ∙ skip_case_0 _ _ _ _ _ ∙ at_unit 1 i (omega arith))
      go (suc (suc n)) i = absurd (omega arith)

  pub instances_table : (r : ℕ) → r ≡ skip num_c b p e → 2 ≤ t → t < 5 → r ≡ skip instances_c b at e
  unfolding instances_c
  instances_table r g l m = g ∙ go t refl
    where
      go : (k : ℕ) → t ≡ k → skip num_c b p e ≡ skip instances_c b at e
      go zero i = absurd (omega arith)
      go (suc zero) i = absurd (omega arith)
      go (suc (suc zero)) i = sym (skip_map _ _ _ _ _ _ _ _ ∙ at_case _ 2 i (omega arith) ∙ skip_case_suc _ _ _ _ _ 1 ∙ skip_case_suc _ _ _ _ _ 0 ∙ skip_case_0 _ _ _ _ _)
      go (suc (suc (suc zero))) i = sym (skip_map _ _ _ _ _ _ _ _ ∙ at_case _ 3 i (omega arith) ∙ skip_case_suc _ _ _ _ _ 2 ∙ skip_case_suc _ _ _ _ _ 1 ∙ skip_case_suc _ _ _ _ _ 0 ∙ skip_case_0 _ _ _ _ _)
      go (suc (suc (suc (suc zero)))) i = sym (skip_map _ _ _ _ _ _ _ _ ∙ at_case _ 4 i (omega arith) ∙ skip_case_suc _ _ _ _ _ 3 ∙ skip_case_suc _ _ _ _ _ 2 ∙ skip_case_suc _ _ _ _ _ 1 ∙ skip_case_suc _ _ _ _ _ 0 ∙ skip_case_0 _ _ _ _ _)
      go (suc (suc (suc (suc (suc n))))) i = absurd (omega arith)

  pub instances_high : 5 ≤ t → t < 6 → p ≡ skip instances_c b at e
  unfolding instances_c
  instances_high l m = go t refl
    where
      go : (k : ℕ) → t ≡ k → p ≡ skip instances_c b at e
      go zero i = absurd (omega arith)
      go (suc zero) i = absurd (omega arith)
      go (suc (suc zero)) i = absurd (omega arith)
      go (suc (suc (suc zero))) i = absurd (omega arith)
      go (suc (suc (suc (suc zero)))) i = absurd (omega arith)
      go (suc (suc (suc (suc (suc zero))))) i = sym (skip_map _ _ _ _ _ _ _ _ ∙ at_case _ 5 i (omega arith) ∙ skip_case_suc _ _ _ _ _ 4 ∙ skip_case_suc _ _ _ _ _ 3 ∙ skip_case_suc _ _ _ _ _ 2 ∙ skip_case_suc _ _ _ _ _ 1 ∙ skip_case_suc _ _ _ _ _ 0 ∙ skip_case_0 _ _ _ _ _ ∙ at_unit 5 i (omega arith))
      go (suc (suc (suc (suc (suc (suc n)))))) i = absurd (omega arith)

  pub instances_bad : 6 ≤ t → e + 1 ≡ skip instances_c b at e
  unfolding instances_c ◌⊕◌ end_c
  instances_bad l = sym (skip_map _ _ _ _ _ _ _ _ ∙ at_bad _ l)

  pub source_low : t < 1 → p ≡ skip source_c b at e
  unfolding source_c
  source_low m = go t refl
    where
      go : (k : ℕ) → t ≡ k → p ≡ skip source_c b at e
      go zero i = sym (skip_map _ _ _ _ _ _ _ _ ∙ at_case _ 0 i (omega arith) ∙ skip_case_0 _ _ _ _ _ ∙ at_unit 0 i (omega arith))
      go (suc n) i = absurd (omega arith)

  pub source_table_lem : (r : ℕ) → r ≡ skip num_c b p e → 1 ≤ t → t < 3 → r ≡ skip source_c b at e
  unfolding source_c
  source_table_lem r g l m = g ∙ go t refl
    where
      go : (k : ℕ) → t ≡ k → skip num_c b p e ≡ skip source_c b at e
      go zero i = absurd (omega arith)
      go (suc zero) i = sym (skip_map _ _ _ _ _ _ _ _ ∙ at_case _ 1 i (omega arith) ∙ skip_case_suc _ _ _ _ _ 0 ∙ skip_case_0 _ _ _ _ _)
      go (suc (suc zero)) i = sym (skip_map _ _ _ _ _ _ _ _ ∙ at_case _ 2 i (omega arith) ∙ skip_case_suc _ _ _ _ _ 1 ∙ skip_case_suc _ _ _ _ _ 0 ∙ skip_case_0 _ _ _ _ _)
      go (suc (suc (suc n))) i = absurd (omega arith)

  pub source_bad : 3 ≤ t → e + 1 ≡ skip source_c b at e
  unfolding source_c ◌⊕◌ end_c
  source_bad l = sym (skip_map _ _ _ _ _ _ _ _ ∙ at_bad _ l)

  pub value_column : (r : ℕ) → r ≡ skip num_c b p e → t < 2 → r ≡ skip value_c b at e
  unfolding value_c
  value_column r g m = g ∙ go t refl
    where
      go : (k : ℕ) → t ≡ k → skip num_c b p e ≡ skip value_c b at e
      go zero i = sym (skip_map _ _ _ _ _ _ _ _ ∙ at_case _ 0 i (omega arith) ∙ skip_case_0 _ _ _ _ _)
      go (suc zero) i = sym (skip_map _ _ _ _ _ _ _ _ ∙ at_case _ 1 i (omega arith) ∙ skip_case_suc _ _ _ _ _ 0 ∙ skip_case_0 _ _ _ _ _)
      go (suc (suc n)) i = absurd (omega arith)

  pub value_code : (r : ℕ) → r ≡ skip bytes_c b p e → 2 ≤ t → t < 3 → r ≡ skip value_c b at e
  unfolding value_c
  value_code r g l m = g ∙ go t refl
    where
      go : (k : ℕ) → t ≡ k → skip bytes_c b p e ≡ skip value_c b at e
      go zero i = absurd (omega arith)
      go (suc zero) i = absurd (omega arith)
      go (suc (suc zero)) i = sym (skip_map _ _ _ _ _ _ _ _ ∙ at_case _ 2 i (omega arith) ∙ skip_case_suc _ _ _ _ _ 1 ∙ skip_case_suc _ _ _ _ _ 0 ∙ skip_case_0 _ _ _ _ _)
      go (suc (suc (suc n))) i = absurd (omega arith)

  pub value_bad : 3 ≤ t → e + 1 ≡ skip value_c b at e
  unfolding value_c ◌⊕◌ end_c
  value_bad l = sym (skip_map _ _ _ _ _ _ _ _ ∙ at_bad _ l)

  pub item_is : (r : ℕ) → r ≡ skip num_c b p e → t < 2 → r ≡ skip item_c b at e
  unfolding item_c
  item_is r g m = g ∙ go t refl
    where
      go : (k : ℕ) → t ≡ k → skip num_c b p e ≡ skip item_c b at e
      go zero i = sym (skip_map _ _ _ _ _ _ _ _ ∙ at_case _ 0 i (omega arith) ∙ skip_case_0 _ _ _ _ _)
      go (suc zero) i = sym (skip_map _ _ _ _ _ _ _ _ ∙ at_case _ 1 i (omega arith) ∙ skip_case_suc _ _ _ _ _ 0 ∙ skip_case_0 _ _ _ _ _)
      go (suc (suc n)) i = absurd (omega arith)

  pub item_bad : 2 ≤ t → e + 1 ≡ skip item_c b at e
  unfolding item_c ◌⊕◌ end_c
  item_bad l = sym (skip_map _ _ _ _ _ _ _ _ ∙ at_bad _ l)

  pub values_binary : (r : ℕ) → r ≡ skip bytes_c b (skip (list_c num_c) b p e) e → t < 1 → r ≡ skip values_c b at e
  unfolding values_c
  values_binary r g m = g ∙ go t refl
    where
      go : (k : ℕ) → t ≡ k → skip bytes_c b (skip (list_c num_c) b p e) e ≡ skip values_c b at e
      go zero i = sym (skip_map _ _ _ _ _ _ _ _ ∙ at_case _ 0 i (omega arith) ∙ skip_case_0 _ _ _ _ _ ∙ skip_pair _ _ _ _ _)
      go (suc n) i = absurd (omega arith)

  pub values_int : (r : ℕ) → r ≡ skip byte_c b (skip (list_c long_c) b p e) e → 1 ≤ t → t < 2 → r ≡ skip values_c b at e
  unfolding values_c
  values_int r g l m = g ∙ go t refl
    where
      go : (k : ℕ) → t ≡ k → skip byte_c b (skip (list_c long_c) b p e) e ≡ skip values_c b at e
      go zero i = absurd (omega arith)
      go (suc zero) i = sym (skip_map _ _ _ _ _ _ _ _ ∙ at_case _ 1 i (omega arith) ∙ skip_case_suc _ _ _ _ _ 0 ∙ skip_case_0 _ _ _ _ _ ∙ skip_pair _ _ _ _ _)
      go (suc (suc n)) i = absurd (omega arith)

  pub values_decimal : (r : ℕ) → r ≡ skip byte_c b (skip (list_c wide_c) b p e) e → 2 ≤ t → t < 3 → r ≡ skip values_c b at e
  unfolding values_c
  values_decimal r g l m = g ∙ go t refl
    where
      go : (k : ℕ) → t ≡ k → skip byte_c b (skip (list_c wide_c) b p e) e ≡ skip values_c b at e
      go zero i = absurd (omega arith)
      go (suc zero) i = absurd (omega arith)
      go (suc (suc zero)) i = sym (skip_map _ _ _ _ _ _ _ _ ∙ at_case _ 2 i (omega arith) ∙ skip_case_suc _ _ _ _ _ 1 ∙ skip_case_suc _ _ _ _ _ 0 ∙ skip_case_0 _ _ _ _ _ ∙ skip_pair _ _ _ _ _)
      go (suc (suc (suc n))) i = absurd (omega arith)

  pub values_days : (r : ℕ) → r ≡ skip (list_c num_c) b p e → 3 ≤ t → t < 5 → r ≡ skip values_c b at e
  unfolding values_c
  values_days r g l m = g ∙ go t refl
    where
      go : (k : ℕ) → t ≡ k → skip (list_c num_c) b p e ≡ skip values_c b at e
      go zero i = absurd (omega arith)
      go (suc zero) i = absurd (omega arith)
      go (suc (suc zero)) i = absurd (omega arith)
      go (suc (suc (suc zero))) i = sym (skip_map _ _ _ _ _ _ _ _ ∙ at_case _ 3 i (omega arith) ∙ skip_case_suc _ _ _ _ _ 2 ∙ skip_case_suc _ _ _ _ _ 1 ∙ skip_case_suc _ _ _ _ _ 0 ∙ skip_case_0 _ _ _ _ _)
      go (suc (suc (suc (suc zero)))) i = sym (skip_map _ _ _ _ _ _ _ _ ∙ at_case _ 4 i (omega arith) ∙ skip_case_suc _ _ _ _ _ 3 ∙ skip_case_suc _ _ _ _ _ 2 ∙ skip_case_suc _ _ _ _ _ 1 ∙ skip_case_suc _ _ _ _ _ 0 ∙ skip_case_0 _ _ _ _ _)
      go (suc (suc (suc (suc (suc n))))) i = absurd (omega arith)

  pub values_bad : 5 ≤ t → e + 1 ≡ skip values_c b at e
  unfolding values_c ◌⊕◌ end_c
  values_bad l = sym (skip_map _ _ _ _ _ _ _ _ ∙ at_bad _ l)
