-- The rows that came so far, and the whole.
use Prim.Native.Nat.{ℕ, ◌+◌, ◌≤◌, ◌<◌}
use mathlib.Core.Path.{◌≡◌, refl, sym, ap, ◌∙◌}
use mathlib.Core.Bool.{Bool, true, false, ◌&&◌}
use mathlib.Core.List.{List, [], ◌∷◌, ◌++◌, append_assoc}
use native.Mathlib.Omega.{arith}
use lib.ListN.{length, take, set, length-set}
use lib.Seq.{take-suc-set}
use lib.Dec.{ltb}
use borrow.Author.Tests.{ltb-true}
use Rattle.lent.specs.Fit.{cap}
use Rattle.lent.proofs.Laws.{stored_length}
use Rattle.format.specs.Job.{Job}
use Rattle.format.specs.Sections.{job_of}
use Rattle.spec.specs.declared.ids.LoopId.{LoopId}
use Rattle.spec.specs.declared.ids.TableId.{TableId}
use Rattle.nest.specs.Lists.{keep}
use Rattle.nest.specs.UpTo.{up_to}
use Rattle.nest.specs.Nest.{repeat_rows}
use Rattle.nest.specs.Found.{hooked_at}
use Rattle.nest.specs.OutlineAt.{outline_at}
use Rattle.walk.specs.Nested.{Nested}
use Rattle.walk.specs.Tour.{Step, stop, fill, chunk, segments_in, repeat_steps}
use Rattle.walk.proofs.Counts.{segments_append}
use Rattle.emit.specs.declared.state.Counts.{Counts}
use Rattle.emit.specs.Fold.{steps_out}
use Rattle.emit.specs.Did.{Mark, state_with, DidMark, Within}
use Rattle.emit.proofs.Did.{Fit}
use Rattle.emit.proofs.TookLaws.{did_steps, took_none}
use Rattle.repeat_segment.specs.declared.planned.Planned.{Planned}
use Rattle.repeats.specs.declared.Table.{Table}
use Rattle.repeats.specs.declared.Part.{Part}
use Rattle.repeats.specs.declared.Chunk.{Chunk}
use Rattle.repeats.specs.declared.Repeated.{Repeated}
use Rattle.repeats.specs.Going.{row_adds, count_then, going}
use Rattle.repeats.specs.Added.{TableIs, PartIs, Holds, Added, Repeats, left}
use Rattle.repeats.proofs.GoingLaws.{going_next, going_end, repeat_rows_lem, repeat_none}
use Rattle.repeats.proofs.RowLaws.{Next}
use Rattle.repeats.proofs.Adding.{mark_some, mark_small}

-- since the chunk c₀ and row k₀ the lists went from a₀, d₀ and so on to a, d
pub record SoFar (b n : List ℕ) (l i t : ℕ) (w : Table) (p : ℕ) (c₀ c : Chunk) (k₀ k : ℕ) (a₀ a d₀ d g₀ g f₀ f p₀ p₁ : List ℕ) : Type 0 where
  pub done : List Step
  pub did : DidMark t (steps_out (job_of b) done) c₀.mark c.mark c₀.counts c.counts d₀ d g₀ g f₀ f p₀ p₁
  pub written : c.written ≡ c₀.written + segments_in done
  pub rest : left b n l i t w p c₀ a₀ k₀ ≡ done ++ left b n l i t w p c a k
  pub holds : Holds w c a
  pub long : length a ≡ length a₀

module _ (b n : List ℕ) (l i t : ℕ) (w : Table) (p : ℕ) (c₀ : Chunk) (k₀ : ℕ) {a₀ d₀ g₀ f₀ p₀ : List ℕ} where
  pub so_start : Within c₀.counts → Holds w c₀ a₀ → SoFar b n l i t w p c₀ c₀ k₀ k₀ a₀ a₀ d₀ d₀ g₀ g₀ f₀ f₀ p₀ p₀
  unfolding segments_in
  so_start h x = record {
    done = [];
    did = λ high counter k. (took_none (job_of b) (state_with (set high t c₀.mark) counter c₀.counts) h).did;
    written = omega arith;
    rest = refl;
    holds = x;
    long = refl;
  }

  module _ (c : Chunk) (k : ℕ) {a d g f p₁ : List ℕ} (x : SoFar b n l i t w p c₀ c k₀ k a₀ a d₀ d g₀ g f₀ f p₀ p₁) where
    pub so_small : Within c.counts
    so_small = mark_small t (steps_out (job_of b) x.done) x.did

    pub so_written : c₀.written + segments_in (left b n l i t w p c₀ a₀ k₀) < cap → c.written < cap
    so_written h = omega (arith, h, x.written, ap segments_in x.rest, segments_append x.done (left b n l i t w p c a k))

    -- the lists are as long as they were
    pub so_long : (length d ≡ length d₀) × (length g ≡ length g₀) × (length f ≡ length f₀) × (length p₁ ≡ length p₀)
    so_long =
        let y = mark_some t (steps_out (job_of b) x.done) x.did in (stored_length _ y.document, stored_length _ y.segments, stored_length _ y.findings, stored_length _ y.stops)

    holds_then : (r : ℕ) (u : Bool) (v : Chunk) (e : List ℕ) → v.count ≡ count_then c.count (ltb c.count w.room && u) → length e ≡ length a → Holds w v e
    unfolding count_then
    holds_then r u v e q m = go (ltb c.count w.room) refl u q
      where
        y : Holds w c a
        y = x.holds

        go : (s : Bool) → ltb c.count w.room ≡ s → (u : Bool) → v.count ≡ count_then c.count (s && u) → Holds w v e
        go true z true o = record { some_row = omega (arith, o); fits = omega (arith, o, ltb-true c.count w.room z); few = y.few; space = omega (arith, m, y.space) }
        go true z false o = record { some_row = omega (arith, o); fits = omega (arith, o, y.some_row, y.fits); few = y.few; space = omega (arith, m, y.space) }
        go false z u o = record { some_row = omega (arith, o); fits = omega (arith, o, y.some_row, y.fits); few = y.few; space = omega (arith, m, y.space) }

    pub so_next : (r : ℕ) (v : Chunk) {a₁ d₁ g₁ f₁ p₂ : List ℕ} → Fit d₀ g₀ f₀ p₀ → Next (hooked_at n w.base l p) k w.rows r
        → Added (job_of b) l i t (ltb c.count w.room && (outline_at b).same_chunk l i c.head.0 r) r c v a a₁ d d₁ g g₁ f f₁ p₁ p₂
        → SoFar b n l i t w p c₀ v k₀ (r + 1) a₀ a₁ d₀ d₁ g₀ g₁ f₀ f₁ p₀ p₂
    so_next r v {a₁} z y q =
        let joins : Bool = ltb c.count w.room && (outline_at b).same_chunk l i c.head.0 r in
        let new : List Step = row_adds l i t c.count (take c.count a) joins r in
        record {
          done = x.done ++ new;
          did = λ high counter h. did_steps (job_of b) x.done new z (x.did high counter h) (q.did high counter h);
          written = omega (arith, q.written, x.written, segments_append x.done new);
          rest =
              x.rest
              ∙ ap (λ (s : List Step). x.done ++ s) (ap (going ((outline_at b).same_chunk l i) w.room l i t c.head.0 (take c.count a) c.count) y.rest ∙ going_next ((outline_at b).same_chunk l i) w.room l i t c.head.0 (take c.count a) c.count r _ ∙ rw (← q.head, ← q.rows, ← q.count) refl)
              ∙ sym (append_assoc x.done new _);
          holds = holds_then r _ v a₁ q.count q.long;
          long = q.long ∙ x.long;
        }

    -- no row is left: the last chunk is written
    pub so_end : (m : Repeated) {d₁ g₁ : List ℕ} → Fit d₀ g₀ f₀ p₀ → keep (hooked_at n w.base l p) (up_to k w.rows) ≡ []
        → ((u v : List ℕ) → DidMark t (steps_out (job_of b) (chunk l i t (take c.count a) ∷ [])) c.mark m.mark c.counts m.counts d d₁ g g₁ u u v v)
        → m.written ≡ c.written + 1
        → DidMark t (steps_out (job_of b) (left b n l i t w p c₀ a₀ k₀)) c₀.mark m.mark c₀.counts m.counts d₀ d₁ g₀ g₁ f₀ f p₀ p₁ × (m.written ≡ c₀.written + segments_in (left b n l i t w p c₀ a₀ k₀))
    unfolding segments_in
    so_end m z y q o =
        let whole : left b n l i t w p c₀ a₀ k₀ ≡ x.done ++ (chunk l i t (take c.count a) ∷ []) =
        x.rest ∙ ap (λ (s : List Step). x.done ++ s) (ap (going ((outline_at b).same_chunk l i) w.room l i t c.head.0 (take c.count a) c.count) y ∙ going_end _ _ _ _ _ _ _ _) in (
          (λ high counter h. rw whole (did_steps (job_of b) x.done (chunk l i t (take c.count a) ∷ []) z (x.did high counter h) (q f p₁ high counter h))),
          rw whole (o ∙ rw (x.written, segments_append x.done (chunk l i t (take c.count a) ∷ [])) (omega arith)),
        )

-- ---- the whole

-- a chunk that has its first row only
pub first_in : (a a₁ : List ℕ) (r : ℕ) → 256 ≤ length a → a₁ ≡ set a 0 r → take 1 a₁ ≡ r ∷ []
first_in a a₁ r h e = rw e (take-suc-set a 0 r (omega arith))

pub first_holds : {b : List ℕ} (w : Table) (c : Chunk) (a a₁ : List ℕ) (r : ℕ) → TableIs b w → c.count ≡ 1 → 256 ≤ length a → a₁ ≡ set a 0 r → Holds w c a₁
first_holds w c a a₁ r W q h e = record {
  some_row = omega (arith, q);
  fits = omega (arith, q, W.room);
  few = W.few;
  space = omega (arith, h, ap length e, length-set a 0 r);
}

-- the planned segment of table t that was read, and the table's first row r
module _ (s : Planned) (l : LoopId) (i : ℕ) (t : TableId) (r : ℕ) (el : s.l ≡ l) (ei : s.i ≡ i) (et : s.table ≡ t) where
  pub left_first : (b n : List ℕ) (w : Table) (p : ℕ) (rs : List ℕ) → rs ≡ r ∷ []
      → going ((outline_at b).same_chunk s.l.0 s.i) w.room s.l.0 s.i s.table.0 r rs 1 (keep (hooked_at n w.base s.l.0 p) (up_to (r + 1) w.rows))
      ≡ going ((outline_at b).same_chunk l.0 i) w.room l.0 i t.0 r (r ∷ []) 1 (keep (hooked_at n w.base l.0 p) (up_to (r + 1) w.rows))
  left_first b n w p rs e = rw (← el, ← ei, ← et, e)

  pub took_first : {m n : Mark} {x y : Counts} {d d₁ g g₁ f f₁ f₂ p p₁ p₂ : List ℕ} (j : Job) (u : Repeated) (old rest : List Step) → old ≡ rest → Fit d g f p
      → ((v z : List ℕ) → length v ≤ cap → length z ≤ cap → DidMark s.table.0 (steps_out j (stop s.l.0 s.table.0 r ∷ fill s.l.0 s.i s.table.0 0 r ∷ [])) m n x y v v z z f f₁ p p₁)
      → DidMark s.table.0 (steps_out j old) n u.mark y u.counts d d₁ g g₁ f₁ f₂ p₁ p₂ → u.written ≡ 0 + segments_in old
      → Repeats j ((stop l.0 t.0 r ∷ fill l.0 i t.0 0 r ∷ []) ++ rest) t.0 m x u d d₁ g g₁ f f₂ p p₂
  unfolding segments_in
  took_first {d = d} {g = g} j u old rest q h v z e = rw (← q, ← el, ← ei, ← et) (record {
    did = λ high counter b. did_steps j (stop s.l.0 s.table.0 r ∷ fill s.l.0 s.i s.table.0 0 r ∷ []) old h (v d g h.document h.segments high counter b) (z high counter b);
    written = omega (arith, e);
  })

pub few_more : (old rest : List Step) → old ≡ rest → segments_in rest < cap → 0 + segments_in old < cap
few_more old rest e h = omega (arith, h, ap segments_in e)

-- no row goes into the instance
pub took_nothing : (b n idx : List ℕ) (N : Nested b idx n) (l i t p : ℕ) (m : Mark) (s : Counts) {d g f q : List ℕ} → Within s → repeat_rows (outline_at b) t l p ≡ []
    → Repeats (job_of b) (repeat_steps (outline_at b) l i t p) t m s (record { mark = m; counts = s; written = 0 }) d d g g f f q q
unfolding segments_in
took_nothing b n idx N l i t p m s h e = rw (repeat_none (outline_at b) l i t p e) (record { did = λ high counter k. (took_none (job_of b) (state_with (set high t m) counter s) h).did; written = refl })

module _ {b n : List ℕ} (l i t p : ℕ) (part : Part) (P : PartIs b n t l p part) where
  abbrev w : Table
  w = part.table

  pub hooked_none : keep (hooked_at n w.base l p) (up_to part.from w.rows) ≡ [] → repeat_rows (outline_at b) t l p ≡ []
  hooked_none q = P.same ∙ q

  pub hooked_first : (r : ℕ) → Next (hooked_at n w.base l p) part.from w.rows r
      → repeat_steps (outline_at b) l i t p ≡ (stop l w.t.0 r ∷ fill l i w.t.0 0 r ∷ []) ++ going ((outline_at b).same_chunk l i) w.room l i w.t.0 r (r ∷ []) 1 (keep (hooked_at n w.base l p) (up_to (r + 1) w.rows))
  hooked_first r x = rw P.table (repeat_rows_lem (outline_at b) l i t p w.room r _ (rw (← P.table) P.is.room) (P.same ∙ x.rest))

  pub hooked_few : (r : ℕ) → Next (hooked_at n w.base l p) part.from w.rows r → segments_in (repeat_steps (outline_at b) l i t p) < cap
      → segments_in (going ((outline_at b).same_chunk l i) w.room l i w.t.0 r (r ∷ []) 1 (keep (hooked_at n w.base l p) (up_to (r + 1) w.rows))) < cap
  hooked_few r x h =
      omega (
        arith,
        h,
        ap segments_in (hooked_first r x),
        segments_append (stop l w.t.0 r ∷ fill l i w.t.0 0 r ∷ []) (going ((outline_at b).same_chunk l i) w.room l i w.t.0 r (r ∷ []) 1 (keep (hooked_at n w.base l p) (up_to (r + 1) w.rows))),
      )

  pub took_hooked : (r : ℕ) {m : Mark} {s : Counts} {u : Repeated} {d d₁ g g₁ f f₁ q q₁ : List ℕ} → Next (hooked_at n w.base l p) part.from w.rows r
      → Repeats (job_of b) ((stop l w.t.0 r ∷ fill l i w.t.0 0 r ∷ []) ++ going ((outline_at b).same_chunk l i) w.room l i w.t.0 r (r ∷ []) 1 (keep (hooked_at n w.base l p) (up_to (r + 1) w.rows))) w.t.0 m s u d d₁ g g₁ f f₁ q q₁
      → Repeats (job_of b) (repeat_steps (outline_at b) l i t p) t m s u d d₁ g g₁ f f₁ q q₁
  took_hooked r x h = rw (hooked_first r x, ← P.table) h
