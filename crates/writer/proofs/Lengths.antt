-- A list of a job is no longer than its bytes allow: bounds for orders, ancestor lists and the elements of a segment.
use Prim.Native.Nat.{ℕ, zero, suc, ◌+◌, ◌*◌, ◌≤◌}
use mathlib.Core.Path.{◌≡◌, refl}
use mathlib.Core.Bool.{Bool, true, false, cond}
use mathlib.Core.List.{List, [], ◌∷◌, ◌++◌, map}
use native.Mathlib.Omega.{arith}
use native.Mathlib.Nat.{zero-mul, suc-mul}
use Rattle.std.specs.Prelude.{Some}
use lib.ListN.{length, get_or, length-append, length-map}
use Rattle.codec.specs.Codec.{Codec, Bytes, le_c, length_enc_le, items_enc, list_c, map_c, dep_c, ◌⊗◌, enum_c, ◌⊕◌, when_c}
use Rattle.codec.specs.Forms.{num_c, bytes_c}
use Rattle.codec.specs.Maps.{num_map_c, bytes_map_c}
use Rattle.format.specs.Spec as S
use Rattle.format.specs.Layout as L
use Rattle.format.specs.Plan.{plan_c}
use Rattle.format.specs.Envelope.{envelope_c}
use Rattle.format.specs.Data.{data_c}
use Rattle.format.specs.Job.{Job}
use Rattle.format.specs.Sections.{job_of, encode}
use Rattle.format.specs.Ask.{on, found, same_bytes, segment_def}
use Rattle.format.proofs.Decoding.{framed_length}
use Rattle.format.proofs.RoundTrip.{encode_read}
use Rattle.format.specs.Passed.{Passed}
use Rattle.nest.specs.Outline.{no_table, order_of, table_of}
use Rattle.nest.specs.OfJob.{item_in, table_in, outline_of}

-- ---- codes

module _ {A : Type 0} (C : Codec A) where
  -- each item has k bytes at least
  module _ (k : ℕ) (least : (x : A) → k ≤ length (C.enc x)) where
    pub items_long : (xs : List A) → length xs * k ≤ length (items_enc C xs)
    items_long [] = omega arith
    items_long (x ∷ xs) = omega (arith, least x, items_long xs, length-append (C.enc x) (items_enc C xs), suc-mul (length xs) k)

    pub list_long : (xs : List A) → length xs * k ≤ length ((list_c C).enc xs)
    unfolding list_c
    list_long xs = omega (arith, items_long xs, length-append ((le_c 4).enc (length xs)) (items_enc C xs))

  -- what is counted of one item, where one that is not there has none
  module _ (f : A → ℕ) (d : A) (none : f d ≡ 0) (most : (x : A) → f x ≤ length (C.enc x)) where
    pub items_within : (xs : List A) (i : ℕ) → f (get_or xs i d) ≤ length (items_enc C xs)
    items_within [] i = omega arith
    items_within (x ∷ xs) zero = omega (arith, most x, length-append (C.enc x) (items_enc C xs))
    items_within (x ∷ xs) (suc i) = omega (arith, items_within xs i, length-append (C.enc x) (items_enc C xs))

    pub list_within : (xs : List A) (i : ℕ) → f (get_or xs i d) ≤ length ((list_c C).enc xs)
    unfolding list_c
    list_within xs i = omega (arith, items_within xs i, length-append ((le_c 4).enc (length xs)) (items_enc C xs))

pub number_long : (n : ℕ) → 4 ≤ length (num_c.enc n)
unfolding le_c
number_long n = omega (arith, length_enc_le 4 n)

item_long : (x : L.Item) → 5 ≤ length ((L.item_c).enc x)
unfolding L.item_c map_c enum_c ◌⊕◌
item_long (L.segment_item n) = omega (arith, number_long n)
item_long (L.loop_item n) = omega (arith, number_long n)

orders_in : (v : L.Layout) → length ((list_c (list_c L.item_c)).enc v.order) ≤ length ((L.layout_c).enc v)
unfolding L.layout_c map_c dep_c
orders_in v = simp length-append (omega arith)

pub order_within : (j : Job) (l : ℕ) → length (order_of (outline_of j) l) * 5 ≤ length ((L.layout_c).enc j.layout)
unfolding order_of outline_of
order_within j l = rw (same j.layout.order l) (omega (arith, list_within (list_c L.item_c) (λ (x : List L.Item). length x * 5) [] (zero-mul 5) (list_long L.item_c 5 item_long) j.layout.order l, orders_in j.layout))
  where
    same : (xs : List (List L.Item)) (l : ℕ) → length (get_or (map (map item_in) xs) l []) ≡ length (get_or xs l [])
    same [] l = refl
    same (x ∷ xs) zero = length-map x item_in
    same (x ∷ xs) (suc l) = same xs l

-- ---- tables

ancestors_in : (t : S.Table) → length t.ancestors * 4 ≤ length ((S.table_c).enc t)
unfolding S.table_c map_c dep_c
ancestors_in t = let h = list_long num_c 4 number_long t.ancestors in simp length-append (omega arith)

tables_in : (v : S.Spec) → length ((list_c S.table_c).enc v.tables) ≤ length ((S.spec_c).enc v)
unfolding S.spec_c map_c dep_c
tables_in v = simp length-append (omega arith)

-- ---- the elements of the segment map

counted_long : {A : Type 0} (C : Codec A) (xs : List A) → 4 ≤ length ((list_c C).enc xs)
unfolding list_c
counted_long C xs = omega (arith, number_long (length xs), length-append ((le_c 4).enc (length xs)) (items_enc C xs))

-- its number, and two lists
definition_long : (x : ℕ × S.ElementDef) → 12 ≤ length ((num_c ⊗ S.element_c).enc x)
unfolding S.element_c map_c dep_c num_map_c when_c
definition_long x =
    let h = number_long x.0 in
    let k = counted_long (num_c ⊗ S.component_c) x.1.components in
    let m = counted_long bytes_c x.1.codes in
    simp length-append (omega arith)

segment_long : (d : S.SegmentDef) → length d * 12 ≤ length ((S.segment_c).enc d)
unfolding num_map_c when_c
segment_long d = list_long (num_c ⊗ S.element_c) 12 definition_long d

-- the one that is found, none where there is none
found_in : (is : List ℕ → Bool) (xs : List (List ℕ × S.SegmentDef)) → length (on (found is xs) (λ d. d) []) * 12 ≤ length (items_enc (bytes_c ⊗ S.segment_c) xs)
unfolding dep_c
found_in is [] = omega arith
found_in is (x ∷ xs) = go (is x.0) (found_in is xs)
  where
    go : (t : Bool) → length (on (found is xs) (λ d. d) []) * 12 ≤ length (items_enc (bytes_c ⊗ S.segment_c) xs)
        → length (on (cond t (Some x.1) (found is xs)) (λ d. d) []) * 12 ≤ length ((bytes_c.enc x.0 ++ (S.segment_c).enc x.1) ++ items_enc (bytes_c ⊗ S.segment_c) xs)
    go true h = let q = segment_long x.1 in simp length-append (omega arith)
    go false h = simp length-append (omega arith)

pub segments_in_lem : (v : S.Spec) → length (items_enc (bytes_c ⊗ S.segment_c) v.segments) ≤ length ((S.spec_c).enc v)
unfolding S.spec_c map_c dep_c bytes_map_c when_c list_c
segments_in_lem v = simp length-append (omega arith)

-- ---- of a job that passed

module _ (b : List ℕ) (bs : Bytes b) (p : Passed b) where
  abbrev j : Job
  j = job_of b

  pub whole : length ((S.spec_c).enc j.spec) + length (plan_c.enc j.plan) + length ((L.layout_c).enc j.layout) + length (envelope_c.enc j.envelope) + length (data_c.enc j.tables) + 24 ≤ 65536
  unfolding encode
  whole = rw (← framed_length ((S.spec_c).enc j.spec) (plan_c.enc j.plan) ((L.layout_c).enc j.layout) (envelope_c.enc j.envelope) (data_c.enc j.tables)) (encode_read b j bs p.read).1.size

  pub order_short : (l : ℕ) → length (order_of (outline_of j) l) ≤ 13107
  order_short l = omega (arith, order_within j l, whole)

  pub ancestors_short : (t : ℕ) → length (table_of (outline_of j) t).ancestors ≤ 16384
  unfolding table_of outline_of
  ancestors_short t = rw (same j.spec.tables t) (omega (arith, list_within S.table_c (λ (v : S.Table). length v.ancestors * 4) S.no_table (zero-mul 4) ancestors_in j.spec.tables t, tables_in j.spec, whole))
    where
      same : (xs : List S.Table) (t : ℕ) → length (get_or (map table_in xs) t no_table).ancestors ≡ length (get_or xs t S.no_table).ancestors
      same [] t = refl
      same (x ∷ xs) zero = refl
      same (x ∷ xs) (suc t) = same xs t

  pub segment_few : (id : List ℕ) → length (on (segment_def j id) (λ d. d) []) ≤ 5461
  unfolding segment_def
  segment_few id = omega (arith, found_in (same_bytes id) j.spec.segments, segments_in_lem j.spec, whole)

  pub segment_short : (id : List ℕ) → length (on (segment_def j id) (λ d. d) []) ≤ 16384
  segment_short id = omega (arith, segment_few id)
