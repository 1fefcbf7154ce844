-- How many instances of a loop a context has at most.
use Prim.Native.Nat.{ℕ, zero, suc, ◌+◌, ◌-◌, ◌*◌, ◌≤◌, ◌<◌, max}
use mathlib.Core.Path.{◌≡◌, sym, ap, ◌∙◌}
use mathlib.Core.Bool.{Bool, true, false, cond, not}
use mathlib.Core.List.{List, [], ◌∷◌}
use native.Mathlib.Omega.{arith}
use native.Mathlib.Decide.{dec_lt, ℕ_discrete}
use Rattle.std.specs.Prelude.{Option, None, Some}
use lib.ListN.{length, get_or, length-map, length-append}
use Rattle.format.specs.Sections.{job_of}
use Rattle.format.specs.Ask as A
use Rattle.format.specs.Data.{no_table_data}
use Rattle.tables.specs.Parts as T
use Rattle.nest.specs.Lists.{keep, on, is, some_of, is_empty_list}
use Rattle.nest.specs.UpTo.{up_to}
use Rattle.nest.specs.Outline.{Outline, absent, envelope, implied, rows, inside, groups, kind_of, loop_of, table_parent, row_count, plain}
use Rattle.nest.specs.Nest.{held, referred}
use Rattle.nest.specs.Found.{nest_at, held_at}
use Rattle.nest.specs.Rising.{Climbs, rises}
use Rattle.nest.specs.OutlineAt.{outline_at}
use Rattle.nest.proofs.Bridge.{rows_is, table_parent_by}
use Rattle.nest.proofs.FoundLaws.{held_yes, held_no}
use Rattle.nest.proofs.Hanging.{plain_not}
use Rattle.nest.proofs.Placing.{rows_few, rows_room}
use Rattle.nest.proofs.NestLaws.{rows_before, held_all}
use Rattle.nest.proofs.Scan.{keep_more, keep_same, keep_alike, keep_none}
use Rattle.nest.proofs.Stored.{row_there, before_is}
use Rattle.walk.specs.Instances.{Context, held_in, rows_in, pieces_of, in_row, in_piece, shown, by_kind, instances}
use Rattle.walk.specs.Nested.{Nested}
use Rattle.walk.proofs.NestedLaws.{lent_held, lent_climbs}
use Rattle.walk.proofs.Pieces.{pieces_no_more}
use Rattle.walk.proofs.RowLaws.{rows_held, rows_in_few}
use Rattle.census.specs.Bounds.{held_before, Fan, Width}

-- ---- the longest run

pub record Longest (n : List ℕ) (base many k last run best : ℕ) : Type 0 where
  pub long : (p : ℕ) → held_before n base k p ≤ best
  pub here : (p : ℕ) → last ≡ p + 1 → held_before n base k p ≤ run
  pub low : (r : ℕ) → r < k → nest_at n base r 0 ≤ last
  pub high : (r : ℕ) → k ≤ r → r < many → last ≤ nest_at n base r 0
  pub short : run ≤ k
  pub small : best ≤ k

pub longest_none : (n : List ℕ) (base many : ℕ) → Longest n base many 0 0 0 0
unfolding held_before
longest_none n base many = record { long = λ p. omega arith; here = λ p e. omega arith; low = λ r h. absurd (omega arith); high = λ r h m. omega arith; short = omega arith; small = omega arith }

module _ (n : List ℕ) (base k p : ℕ) where
  one_more : nest_at n base k 0 ≡ p + 1 → held_before n base (k + 1) p ≡ held_before n base k p + 1
  unfolding held_before
  one_more e = ap length (keep_more (held_at n base p) 0 k (omega arith) (held_yes n base p k e)) ∙ length-append (keep (held_at n base p) (up_to 0 k)) (k ∷ [])

  no_more : (nest_at n base k 0 ≡ p + 1 → ⊥) → held_before n base (k + 1) p ≡ held_before n base k p
  unfolding held_before
  no_more d = ap length (keep_same (held_at n base p) 0 k (omega arith) (held_no n base p k d))

  none_yet : ((r : ℕ) → r < k → nest_at n base r 0 < p + 1) → held_before n base k p ≡ 0
  unfolding held_before
  none_yet f = ap length (keep_alike (held_at n base p) (λ r. false) 0 k (λ r h. held_no n base p r (λ e. omega (arith, f r h, e))) ∙ keep_none (k - 0) 0)

module _ (n : List ℕ) (base many k last run best : ℕ) (s : Longest n base many k last run best) (a : ℕ) (at_k : a ≡ nest_at n base k 0) where
  pub longest_same : (b : ℕ) → a ≡ last → b ≡ max best (run + 1) → Longest n base many (k + 1) last (run + 1) b
  longest_same b e f = record {
    long = λ p. go p (ℕ_discrete (nest_at n base k 0) (p + 1));
    here = λ p q. let y : nest_at n base k 0 ≡ p + 1 = sym at_k ∙ e ∙ q in omega (arith, one_more n base k p y, s.here p q);
    low = λ r h. below r h (dec_lt r k);
    high = λ r h m. s.high r (omega arith) m;
    short = omega (arith, s.short);
    small = omega (arith, s.short, s.small, f);
  }
    where
      go : (p : ℕ) → Dec (nest_at n base k 0 ≡ p + 1) → held_before n base (k + 1) p ≤ b
      go p (yes y) = omega (arith, one_more n base k p y, s.here p (sym e ∙ at_k ∙ y), f)
      go p (no d) = omega (arith, no_more n base k p d, s.long p, f)

      below : (r : ℕ) → r < k + 1 → Dec (r < k) → nest_at n base r 0 ≤ last
      below r h (yes y) = s.low r y
      below r h (no d) = let z : r ≡ k = omega arith in rw z (omega (arith, at_k, e))

  pub longest_new : (b : ℕ) → Climbs n base many → k < many → (a ≡ last → ⊥) → b ≡ max best 1 → Longest n base many (k + 1) a 1 b
  longest_new b u h d f = record {
    long = λ p. go p (ℕ_discrete (nest_at n base k 0) (p + 1));
    here = λ p q. omega (arith, first p (sym at_k ∙ q));
    low = λ r m. omega (arith, at_k, u.climb r k (omega arith) h);
    high = λ r m w. omega (arith, at_k, u.climb k r (omega arith) w);
    short = omega arith;
    small = omega (arith, s.small, f);
  }
    where
      above : last < nest_at n base k 0
      above = let q = s.high k (omega arith) h in omega (arith, q, at_k, d)

      first : (p : ℕ) → nest_at n base k 0 ≡ p + 1 → held_before n base (k + 1) p ≡ 1
      first p q = let z = none_yet n base k p (λ r m. omega (arith, s.low r m, above, q)) in omega (arith, one_more n base k p q, z)

      go : (p : ℕ) → Dec (nest_at n base k 0 ≡ p + 1) → held_before n base (k + 1) p ≤ b
      go p (yes y) = omega (arith, first p y, f)
      go p (no q) = omega (arith, no_more n base k p q, s.long p, f)

-- ---- the rows of a table in a context

pub rows_hung : {b idx n : List ℕ} → Nested b idx n → (t u w : ℕ) → table_parent (outline_at b) t ≡ Some u → ((p : ℕ) → held_before n (rows_before (outline_at b) t) (row_count (outline_at b) t) p ≤ w)
    → (c : Context) → length (rows_in (outline_at b) t c) ≤ w
unfolding held_in held_before
rows_hung {b} {idx} {n} N t u w e h c = rows_held o t w c (λ f. rw e (in_row_lem f (c.row u)))
  where
    o : Outline
    o = outline_at b

    in_row_lem : plain o t ≡ true → (x : Option ℕ) → length (on x (held o t u) []) ≤ w
    in_row_lem f None = omega arith
    in_row_lem f (Some p) =
        let same = keep_alike (held_at n (rows_before o t) p) (λ r. is (referred o t r u) p) 0 (row_count o t) (λ r q. lent_held N t r u p (row_there o t r q) q (plain_not o t f) e) in
        rw (held_all o t u p) (rw (← same) (h p))

module _ {b idx n : List ℕ} (N : Nested b idx n) (t count : ℕ) (e : count ≡ (A.data_of (job_of b) t).rows) where
  rows_count : count ≡ row_count (outline_at b) t
  rows_count = e ∙ sym (rows_is (job_of b) t)

  pub rows_small : count ≤ 4096
  rows_small = omega (arith, rows_count, rows_few (job_of b) t N.ready.tables.few_rows)

  pub fan_all : Fan (outline_at b) t count
  fan_all = record { few = rows_small; most = λ c. omega (arith, rows_count, rows_in_few (outline_at b) t c) }

  module _ (base : ℕ) (q : base ≡ T.rows_before (job_of b).tables t) where
    base_is : base ≡ rows_before (outline_at b) t
    base_is = q ∙ before_is (job_of b) t

    pub rows_room_for : (base + count) * 3 ≤ length n
    unfolding A.data_of
    rows_room_for = let z : count ≡ (get_or (job_of b).tables t no_table_data).rows = e in omega (arith, q, z, rows_room (job_of b).tables t, N.room)

    pub rows_climb : rises n t ≡ true → Climbs n base count
    rows_climb f = rw (base_is, rows_count) (lent_climbs N t (row_count (outline_at b) t) f (omega arith))

    pub fan_hung : (x : Option ℕ) (u w : ℕ) → x ≡ (A.table_of (job_of b) t).parent → x ≡ Some u → (w ≤ count) × ((p : ℕ) → held_before n base count p ≤ w) → Fan (outline_at b) t w
    fan_hung x u w a f g =
        let parent = table_parent_by (job_of b) t x a (Some u) f in
        record { few = omega (arith, g.0, rows_small); most = rows_hung N t u w parent (λ p. rw (← base_is, ← rows_count) (g.1 p)) }

-- ---- the instances of a loop

module _ (o : Outline) (l : ℕ) where
  by_height : (w : ℕ) → ((below : ℕ → Context → List Context) (c : Context) → length (by_kind below o l c (kind_of o l)) ≤ w) → (h : ℕ) (c : Context) → length (instances o h l c) ≤ w
  unfolding instances
  by_height w f zero c = omega arith
  by_height w f (suc h) c = f (instances o h) c

  pub width_absent : kind_of o l ≡ absent → Width o l 0
  unfolding by_kind
  width_absent e = record { few = omega arith; most = by_height 0 (λ below c. rw e (omega arith)) }

  pub width_envelope : kind_of o l ≡ envelope → Width o l 1
  unfolding by_kind
  width_envelope e = record { few = omega arith; most = by_height 1 (λ below c. rw e (omega arith)) }

  at_most_one : (x : Bool) (c : Context) → length (cond x (c ∷ []) []) ≤ 1
  at_most_one true c = omega arith
  at_most_one false c = omega arith

  pub width_implied : kind_of o l ≡ implied → Width o l 1
  unfolding by_kind
  width_implied e = record { few = omega arith; most = by_height 1 (λ below c. rw e (at_most_one (some_of (λ k. not (is_empty_list (below k c))) (loop_of o l).children) c)) }

  pub width_inside : (t : ℕ) → kind_of o l ≡ inside t → Width o l 1
  unfolding by_kind
  width_inside t e = record { few = omega arith; most = by_height 1 (λ below c. rw e (go c (c.row t))) }
    where
      go : (c : Context) (x : Option ℕ) → length (on x (λ r. cond (shown o l t r) (c ∷ []) []) []) ≤ 1
      go c None = omega arith
      go c (Some r) = at_most_one (shown o l t r) c

  module _ (t w : ℕ) (f : Fan o t w) where
    pub width_rows : kind_of o l ≡ rows t → Width o l w
    unfolding by_kind
    width_rows e = record { few = f.few; most = by_height w (λ below c. rw e (omega (arith, length-map (rows_in o t c) (in_row t c), f.most c))) }

    pub width_groups : kind_of o l ≡ groups t → Width o l w
    unfolding by_kind
    width_groups e = record { few = f.few; most = by_height w (λ below c. rw e (omega (arith, length-map (pieces_of (o.same_group l) (rows_in o t c)) (in_piece t c), pieces_no_more (o.same_group l) (rows_in o t c), f.most c))) }
