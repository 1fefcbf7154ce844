-- Laws of the definitions of specs/Segments, and words that only proofs use.
use Rattle.std.specs.Prelude.{ℕ, suc, ◌+◌, ◌*◌, ◌≤◌, ◌<◌, ◌≡◌, refl, List, [], ◌∷◌, Bool, true, false, not, length, get_or, leb}
use Rattle.std.proofs.Math.Path.{sym}
use Rattle.std.proofs.Common.{ap, ◌∙◌, add-zero, length-append, leb-true}
use native.Mathlib.Omega.{arith}
use Rattle.codec.specs.Codec.{Codec, pick, Bytes, le_c, enc_le, dep_c, ◌⊗◌, when_c, list_c, items_enc}
use Rattle.codec.specs.Skip.{Is, skip, steps, count_at}
use Rattle.codec.proofs.Skip.{skip_le}
use Rattle.codec.specs.Forms.{num_c, byte_c, bytes_c}
use Rattle.codec.specs.Maps.{num_map_c, bytes_map_c}
use Rattle.codec.proofs.Maps.{is_bytes_map}
use Rattle.codec.proofs.Field.{is_list, is_at, count_list}
use Rattle.codec.specs.Limits.{any_of}
use Rattle.codec.proofs.Limits.{none_of}
use Rattle.codec.specs.Rows.{stored, small}
use Rattle.codec.proofs.Rows.{is_small, rows_length}
use Rattle.format.specs.Spec.{element_c, SegmentDef, segment_c}
use Rattle.format.specs.Sections.{plan_start, job_of}
use Rattle.format.specs.Refusal.{unfit, unfit_spec, unfit_segment, unnamed, identifier}
use Rattle.format.specs.Fields.{spec_segments, spec_tables}
use Rattle.format.specs.Passed.{Passed}
use Rattle.spec.specs.Rows.{entry_row, entry_rows}
use Rattle.spec.specs.Kept.{Kept}
use Rattle.spec.proofs.Kept.{Has, kept_stored, kept_then, kept_wide, has_stored, has_below, row_has}
use Rattle.spec.proofs.Filling.{spec_is, spec_within}
use Rattle.spec.specs.Segments.{no_entry, SegmentsIndexed}

-- an index that agrees on the region of the segments
pub segments_agree : (b idx idx' : List ℕ) → SegmentsIndexed b idx → ((i : ℕ) → 4096 ≤ i → i < 10752 → get_or idx' i 0 ≡ get_or idx i 0) → SegmentsIndexed b idx'
segments_agree b idx idx' x same = record {
  trailed = x.trailed;
  short = x.short;
  within = x.within;
  few = x.few;
  entries = is_at (list_c (bytes_c ⊗ segment_c)) b (plan_start b) _ _ _ (same 4096 (omega arith) (omega arith)) x.entries;
  entry = λ i q. let n = x.few in is_at (bytes_c ⊗ segment_c) b (plan_start b) _ _ _ (same (4097 + i) (omega arith) (omega (arith, n))) (x.entry i q);
}

-- ---- an entry takes ten bytes at least: two counts, and an identifier of two bytes or three
list_long : {A : Type 0} (C : Codec A) (vs : List A) → length ((list_c C).enc vs) ≡ 4 + length (items_enc C vs)
unfolding list_c le_c
list_long C vs = length-append (enc_le 4 (length vs)) (items_enc C vs)

bytes_long : (k : List ℕ) → length (items_enc byte_c k) ≡ length k
unfolding le_c
bytes_long [] = refl
bytes_long (x ∷ k) = ap suc (bytes_long k)

entry_long : (x : List ℕ × SegmentDef) → 8 + length x.0 ≤ length ((bytes_c ⊗ segment_c).enc x)
unfolding dep_c num_map_c when_c
entry_long x =
    let l = length-append (bytes_c.enc x.0) (segment_c.enc x.1) in
    let m = list_long byte_c x.0 in
    let n = list_long (num_c ⊗ element_c) x.1 in
    let k = bytes_long x.0 in
    omega (arith, l, m, n, k)

named : (s : List ℕ) → unnamed s ≡ false → 2 ≤ length s
unfolding unnamed identifier
named s h = go (leb 2 (length s)) _ refl h
  where
    go : (t u : Bool) → leb 2 (length s) ≡ t → not (pick (pick t (leb (length s) 3) false) u false) ≡ false → 2 ≤ length s
    go true u q r = leb-true _ _ q
    go false u q r = absurd (let z : ◌≡◌ {A = ℕ} 0 1 = cc in omega arith)

fit : (x : List ℕ × SegmentDef) → unfit_segment x ≡ false → 2 ≤ length x.0
unfolding unfit_segment
fit x q = named x.0 (none_of _ _ q).0

entries_long : (xs : List (List ℕ × SegmentDef)) → any_of unfit_segment xs ≡ false → 10 * length xs ≤ length (items_enc (bytes_c ⊗ segment_c) xs)
unfolding any_of
entries_long [] h = omega arith
entries_long (x ∷ xs) h = go (unfit_segment x) refl h (entries_long xs)
  where
    go : (t : Bool) → unfit_segment x ≡ t → pick t true (any_of unfit_segment xs) ≡ false → (any_of unfit_segment xs ≡ false → 10 * length xs ≤ length (items_enc (bytes_c ⊗ segment_c) xs)) → 10 * length (x ∷ xs) ≤ length (items_enc (bytes_c ⊗ segment_c) (x ∷ xs))
    go true q r ih = absurd (let z : ◌≡◌ {A = ℕ} 0 1 = cc in omega arith)
    go false q r ih =
        let l = length-append ((bytes_c ⊗ segment_c).enc x) (items_enc (bytes_c ⊗ segment_c) xs) in
        let m = entry_long x in
        let n = fit x q in
        let o = ih r in
        omega (arith, l, m, n, o)

module _ (b : List ℕ) (w : Passed b) where
  entries_is : Is (list_c (bytes_c ⊗ segment_c)) b (plan_start b) (spec_segments b (plan_start b) 0) (job_of b).spec.segments
  entries_is = (is_bytes_map segment_c b (plan_start b) _ _ (spec_is b w).segments).0

  entries_counted : length (job_of b).spec.segments ≡ count_at b (spec_segments b (plan_start b) 0) (plan_start b)
  entries_counted = count_list (bytes_c ⊗ segment_c) b (plan_start b) _ (job_of b).spec.segments (is_list (bytes_c ⊗ segment_c) b (plan_start b) _ (job_of b).spec.segments entries_is)

  all_fit : any_of unfit_segment (job_of b).spec.segments ≡ false
  unfolding unfit unfit_spec
  all_fit = (none_of _ _ (none_of _ _ (none_of _ _ w.fit).0).1).0

  few_segments : Bytes b → length (job_of b).spec.segments ≤ 6553
  few_segments bs =
      let s = (list_c (bytes_c ⊗ segment_c)).back b (spec_segments b (plan_start b) 0) (plan_start b) (job_of b).spec.segments _ bs entries_is in
      let l = list_long (bytes_c ⊗ segment_c) (job_of b).spec.segments in
      let m = entries_long (job_of b).spec.segments all_fit in
      let o = w.sound in
      let i = spec_within b w in
      omega (arith, s.next, s.within, l, m, o.most, i)

  pub few_entries : Bytes b → (e at : ℕ) → e ≡ plan_start b → at ≡ spec_segments b e 0 → count_at b at e ≤ 6553
  few_entries bs e at i₀ i = rw (i, i₀, ← entries_counted) (few_segments bs)

  -- the place behind the map is that behind its entries: both are as long as what they encode
  pub entries_end : Bytes b → (e at r : ℕ) → e ≡ plan_start b → at ≡ spec_segments b e 0 → r ≡ skip (list_c (bytes_c ⊗ segment_c)) b at e → r ≡ spec_tables b e 0
  unfolding bytes_map_c when_c
  entries_end bs e at r i₀ i j =
      let s = (list_c (bytes_c ⊗ segment_c)).back b (spec_segments b (plan_start b) 0) (plan_start b) (job_of b).spec.segments _ bs entries_is in
      let t = (bytes_map_c segment_c).back b (spec_segments b (plan_start b) 0) (plan_start b) (job_of b).spec.segments _ bs (spec_is b w).segments in
      j ∙ rw (i, i₀) (s.next ∙ sym t.next)

  -- ---- from the numbers to the index

  module _ (idx : List ℕ) (h : Has idx 4096 (small (spec_segments b (plan_start b) 0) ∷ [])) (l : Has idx 4097 (entry_rows b (plan_start b) (spec_segments b (plan_start b) 0))) where
    low : plan_start b < 65536
    low = let s = w.sound in let i = spec_within b w in omega (arith, s.most, i)

    number : (i : ℕ) → i < length (job_of b).spec.segments → get_or idx (4097 + i) 0 ≡ small (steps (bytes_c ⊗ segment_c) b (plan_start b) i (skip (le_c 4) b (spec_segments b (plan_start b) 0) (plan_start b)))
    unfolding entry_rows
    number i q =
        let g : 4097 + i * 1 + 0 ≡ 4097 + i = omega arith in
        rw g at (row_has (bytes_c ⊗ segment_c) b idx (plan_start b) entry_row 1 (λ p. refl) (count_at b (spec_segments b (plan_start b) 0) (plan_start b)) (skip (le_c 4) b (spec_segments b (plan_start b) 0) (plan_start b)) 4097 l i 0 (rw entries_counted at q) (omega arith))

    entry_is : (i : ℕ) → i < length (job_of b).spec.segments → Is (bytes_c ⊗ segment_c) b (plan_start b) (steps (bytes_c ⊗ segment_c) b (plan_start b) i (skip (le_c 4) b (spec_segments b (plan_start b) 0) (plan_start b))) (get_or (job_of b).spec.segments i no_entry)
    entry_is i q =
        let s = is_list (bytes_c ⊗ segment_c) b (plan_start b) (spec_segments b (plan_start b) 0) (job_of b).spec.segments entries_is in
        let m : skip (le_c 4) b (spec_segments b (plan_start b) 0) (plan_start b) ≡ spec_segments b (plan_start b) 0 + 4 = skip_le 4 b _ (plan_start b) s.room in
        rw m (s.item i no_entry q)

    segments_indexed : Bytes b → SegmentsIndexed b idx
    segments_indexed bs = record {
      trailed = w.sound.least;
      short = w.sound.most;
      within = let i = spec_within b w in omega (arith, i);
      few = few_segments bs;
      entries = is_small (list_c (bytes_c ⊗ segment_c)) b (plan_start b) _ _ _ low (rw add-zero at (h 0 (omega arith))) entries_is;
      entry = λ i q. is_small (bytes_c ⊗ segment_c) b (plan_start b) _ _ _ low (number i q) (entry_is i q);
    }

  pub segments_filled : Bytes b → (e segments : ℕ) → e ≡ plan_start b → segments ≡ spec_segments b e 0
      → (d₀ d₁ d₂ : List ℕ) → d₁ ≡ stored d₀ 4096 (small segments ∷ []) → d₂ ≡ stored d₁ 4097 (entry_rows b e segments) → (10752 ≤ length d₀ → SegmentsIndexed b d₂) × Kept 4096 10752 d₀ d₂
  unfolding entry_rows
  segments_filled bs e segments i₀ i d₀ d₁ d₂ f₁ f₂ =
      let p : segments ≡ spec_segments b (plan_start b) 0 = rw (i, i₀) in
      let e₁ : d₁ ≡ stored d₀ 4096 (small (spec_segments b (plan_start b) 0) ∷ []) = f₁ ∙ rw p in
      let e₂ : d₂ ≡ stored d₁ 4097 (entry_rows b (plan_start b) (spec_segments b (plan_start b) 0)) = f₂ ∙ rw (p, i₀) in
      let n = rows_length (bytes_c ⊗ segment_c) b (plan_start b) entry_row 1 (λ p. refl) (count_at b (spec_segments b (plan_start b) 0) (plan_start b)) (skip (le_c 4) b (spec_segments b (plan_start b) 0) (plan_start b)) in
      let m = few_segments bs in
      let c = entries_counted in
      let k₁ : Kept 4096 4097 d₀ d₁ = kept_stored 4096 4097 d₀ d₁ (small (spec_segments b (plan_start b) 0) ∷ []) 4096 e₁ (omega arith) (omega arith) in
      let k₂ : Kept 4097 10752 d₁ d₂ = kept_stored 4097 10752 d₁ d₂ (entry_rows b (plan_start b) (spec_segments b (plan_start b) 0)) 4097 e₂ (omega arith) (omega (arith, n, m, c)) in
      let g = k₁.long in (
        λ r. segments_indexed d₂ (has_below d₁ d₂ (small (spec_segments b (plan_start b) 0) ∷ []) 4096 4097 10752 (has_stored d₀ d₁ (small (spec_segments b (plan_start b) 0) ∷ []) 4096 e₁ (omega arith)) k₂ (omega arith)) (has_stored d₁ d₂ (entry_rows b (plan_start b) (spec_segments b (plan_start b) 0)) 4097 e₂ (omega (arith, n, m, c, g))) bs,
        kept_then 4096 10752 4097 10752 d₀ d₁ d₂ (kept_wide 4096 4097 4096 10752 d₀ d₁ (omega arith) (omega arith) k₁) k₂ (omega arith) (omega arith),
      )
