-- The elements of a trigger one after the other, for a loop that steps through them.
use Prim.Native.Nat.{ℕ, zero, suc, ◌+◌, ◌≤◌, ◌<◌, max}
use mathlib.Core.Path.{◌≡◌, refl, sym, ◌∙◌}
use mathlib.Core.Bool.{Bool, true, false, true≢false}
use mathlib.Core.List.{List, [], ◌∷◌, ◌++◌, append_assoc, append-nil}
use native.Mathlib.Omega.{arith}
use Rattle.std.specs.Prelude.{Option, None, Some}
use lib.Dec.{ltb, eqb}
use lib.ListN.{length, get_or}
use borrow.Author.Tests.{eq-eqb, ne_eqb, lt-ltb, ltb-false}
use Rattle.codec.specs.Codec.{pick as codec-pick}
use Rattle.codec.specs.Maps.{rises_from}
use Rattle.format.specs.Spec.{ElementDef, SegmentDef}
use Rattle.format.specs.Job.{Job}
use Rattle.format.specs.Sections.{plan_start}
use Rattle.format.specs.Ask.{found, segment_def, element_def, min_of}
use Rattle.format.specs.Spec.{element_c, segment_c}
use Rattle.codec.specs.Skip.{Is}
use Rattle.codec.proofs.Maps.{is_num_map}
use Rattle.codec.specs.Field.{Stands}
use Rattle.codec.proofs.Field.{stands_at}
use Rattle.spec.specs.Found.{PlaceOf}
use Rattle.spec.proofs.Found.{place_nowhere, place_at}
use Rattle.spec.specs.Answers.{stretch_of, rule_of}
use Rattle.segment.specs.Pen.{Penned}
use Rattle.segment.specs.Values.{opened}
use Rattle.segment.proofs.Runs.{run_stored}
use Rattle.lent.specs.Window.{stretch}
use Rattle.emit.specs.Envelope.{opener_put}
use Rattle.trigger.specs.declared.frame.Frame.{Frame}
use Rattle.lent.specs.Fit.{cap, more, Stored}
use Rattle.lent.proofs.Fit.{wide}
use Rattle.lent.specs.Window.{Noted}
use Rattle.spec.specs.declared.ids.Element.{Element}
use Rattle.spec.specs.declared.ids.Elements.{Elements}
use Rattle.spec.specs.Cursor.{Entries, EntryAt, ElementSays}
use Rattle.spec.proofs.Cursor.{entry_left}
use Rattle.segment.specs.declared.Separators.{Separators}
use Rattle.segment.specs.declared.Pen.{Pen}
use Rattle.segment.specs.Parts.{Part, highest, last_element, last_component, here, after, component_text}
use Rattle.segment.specs.Values.{closing}
use Rattle.segment.specs.Group.{Group}
use Rattle.segment.specs.Calls.{Row, group, close, stays}
use Rattle.segment.proofs.Rows.{here_other, after_other}
use Rattle.nest.specs.Job.{job_by}
use Rattle.nest.specs.Lists.{on}
use Rattle.emit.specs.Puts as P
use Rattle.emit.specs.Puts.{Put, and_put, put_all}
use Rattle.emit.specs.Written.{words_of}
use Rattle.emit.specs.Envelope.{Sourced, source_at, put_sourced, put_element}
use Rattle.emit.proofs.PutLaws.{highest_append}
use Rattle.emit.proofs.FindingLaws.{stored_findings, none_stored}
use Rattle.trigger.specs.declared.opener.Drawn.{Drawn}
use Rattle.trigger.specs.Drawn.{Draws, left, nothing, sticks, one, Adds, Known, Drew, trigger_of, element_put, Opening, Opened}

-- ---- an element puts one part at its own number, or none

pub data Shape (n : ℕ) : List Part → Type 0 where
  empty : Shape n []
  single : {x : Part} → x.element ≡ n → Shape n (x ∷ [])

pub element_shape : (j : Job) (trigger control : List ℕ) (depth opener : ℕ) (y : ℕ × ElementDef) → Shape y.0 (put_element j trigger depth opener control y).parts
unfolding put_element
element_shape j trigger control depth opener y = go (source_at j trigger depth opener control y.0 y.1)
  where
    sourced : (f : Option ℕ) (s : Sourced) → s.field ≡ f → Shape y.0 (put_sourced j trigger y.0 y.1 s).parts
    sourced None s e = rw e (single refl)
    sourced (Some f) s e = rw e (single refl)

    go : (o : Option Sourced) → Shape y.0 (on o (put_sourced j trigger y.0 y.1) P.nothing).parts
    go None = empty
    go (Some s) = sourced s.field s refl

-- ---- keys rise

rises_next : (low : ℕ) (y : ℕ × ElementDef) (ys : SegmentDef) → rises_from low (y ∷ ys) ≡ true → (low ≤ y.0) × (rises_from (y.0 + 1) ys ≡ true)
rises_next low y ys = go (ltb y.0 low) refl
  where
    go : (t : Bool) → ltb y.0 low ≡ t → codec-pick t false (rises_from (y.0 + 1) ys) ≡ true → (low ≤ y.0) × (rises_from (y.0 + 1) ys ≡ true)
    go true e h = absurd (true≢false (sym h))
    go false e h = (ltb-false y.0 low e, h)

module _ (g : ℕ × ElementDef → Put) (shape : (y : ℕ × ElementDef) → Shape y.0 (g y).parts) where
  -- the parts behind an element stand at others
  past : (ys : SegmentDef) (n low : ℕ) → n < low → rises_from low ys ≡ true → (here n (put_all g ys).parts ≡ []) × (after n (put_all g ys).parts ≡ (put_all g ys).parts)
  unfolding here after
  past [] n low h r = (refl, refl)
  past (y ∷ ys) n low h r = go (λ m. past ys n m) (g y).parts (shape y)
    where
      q : (low ≤ y.0) × (rises_from (y.0 + 1) ys ≡ true)
      q = rises_next low y ys r

      go : ((m : ℕ) → n < m → rises_from m ys ≡ true → (here n (put_all g ys).parts ≡ []) × (after n (put_all g ys).parts ≡ (put_all g ys).parts)) → (ps : List Part) → Shape y.0 ps
          → (here n (ps ++ (put_all g ys).parts) ≡ []) × (after n (ps ++ (put_all g ys).parts) ≡ ps ++ (put_all g ys).parts)
      go ih [] empty = let m = q.0 in ih (y.0 + 1) (omega arith) q.1
      go ih (x ∷ []) (single e) = let m = q.0 in let o : x.element ≡ n → ⊥ = λ z. omega arith in (here_other n x (put_all g ys).parts o, after_other n x (put_all g ys).parts o)
      go ih (x ∷ (_ ∷ _)) x8 = elim x8 [ ]

-- ---- calls that are still to come

abbrev pub Still : Separators → ℕ → Bool → ℕ → List Part → Pen → List ℕ → ℕ → List ℕ → Type 0
Still s last true p parts pen d e d₂ = Stored d pen.at (closing s pen last) e d₂
Still s last false p parts pen d e d₂ = Row s last p parts pen d e d₂

record Stepped (s : Separators) (t t' : Bool) (p n : ℕ) (parts rest : List Part) (pen pen' : Pen) (d d₁ : List ℕ) : Type 0 where
  at : ℕ
  above : 1 ≤ at
  below : at ≤ max 1 (n + 1)
  onward : (last e : ℕ) (d₂ : List ℕ) → Still s last t' at rest pen' d₁ e d₂ → Still s last t p (parts ++ rest) pen d e d₂

stepped : {s : Separators} {t t' : Bool} {parts : List Part} {pen pen' : Pen} {d d₁ : List ℕ} (n low p : ℕ) (rest : List Part) → Draws s t parts pen d t' pen' d₁ → Shape n parts → low ≤ n → 1 ≤ p → p ≤ max 1 low
    → here n rest ≡ [] → after n rest ≡ rest → Stepped s t t' p n parts rest pen pen' d d₁
unfolding stays here after
stepped n low p rest left k h i o a b = record { at = p; above = i; below = omega arith; onward = λ last e d₂ x. x }
stepped n low p rest nothing k h i o a b = record { at = p; above = i; below = omega arith; onward = λ last e d₂ x. x }
stepped n low p rest (sticks {x = x} m) k h i o a b = record { at = p; above = i; below = omega arith; onward = λ last e d₂ y. close (lt-ltb x.element p (omega arith)) y }
stepped {s} {pen = pen} {pen' = pen'} {d = d} {d₁ = d₁} n low p rest (one {x = x} m g) (single z) h i o a b =
    record { at = n + 1; above = omega arith; below = omega arith; onward = λ last e d₂ y. joins last e d₂ y }
  where
    same : eqb x.element x.element ≡ true
    same = eq-eqb x.element x.element refl

    these : here x.element (x ∷ rest) ≡ x ∷ []
    these = let w : here x.element rest ≡ [] = rw z a in rw (same, w)

    those : after x.element (x ∷ rest) ≡ rest
    those = let w : after x.element rest ≡ rest = rw z b in rw same w

    joins : (last e : ℕ) (d₂ : List ℕ) → Row s last (n + 1) rest pen' d₁ e d₂ → Row s last p (x ∷ rest) pen d e d₂
    joins last e d₂ y =
        let first : Group s (last_component (here x.element (x ∷ rest))) (component_text (here x.element (x ∷ rest))) x.element 1 pen d pen' d₁ = rw these g in
        let rows : Row s last (x.element + 1) (after x.element (x ∷ rest)) pen' d₁ e d₂ = rw (those, z) y in
        let under : p ≤ x.element = omega arith in
        group under first rows

-- ---- what is drawn so far

abbrev pub Mins : Job → List ℕ → SegmentDef → Type 0
Mins j trigger xs = (y : ℕ × ElementDef) (i : ℕ) → i < length xs → min_of j trigger (get_or xs i y).0 ≡ (get_or xs i y).1.min

pub record SoFar (b : List ℕ) (j : Job) (s : Separators) (trigger : List ℕ) (g : ℕ × ElementDef → Put) (xs : SegmentDef) (pen : Pen) (at : ℕ) (d₀ f₀ d f : List ℕ) (r : Drawn) (c : Elements) : Type 0 where
  pub done : Put
  pub rest : SegmentDef
  pub low : ℕ
  pub p : ℕ
  pub place : Entries b c rest
  pub mins : Mins j trigger rest
  pub adds_up : put_all g xs ≡ and_put done (put_all g rest)
  pub findings : Noted f₀ at (words_of done.findings) r.findings f
  pub entries : r.entries ≡ more 0 done.entries
  pub last : r.last ≡ last_element done.parts
  pub rises : rises_from low rest ≡ true
  pub above : 1 ≤ p
  pub below : p ≤ max 1 low
  pub onward : (last e : ℕ) (d₂ : List ℕ) → Still s last r.stuck p (put_all g rest).parts r.pen d e d₂ → Row s last 1 (put_all g xs).parts pen d₀ e d₂

put_assoc : (a b c : Put) → and_put a (and_put b c) ≡ and_put (and_put a b) c
put_assoc a b c =
    let q : a.entries + (b.entries + c.entries) ≡ (a.entries + b.entries) + c.entries = omega arith in
    rw (append_assoc a.parts b.parts c.parts, append_assoc a.findings b.findings c.findings, q)

put_front : (a : Put) → a ≡ and_put P.nothing a
put_front a = let q : 0 + a.entries ≡ a.entries = omega arith in rw q

put_nothing : (a : Put) → and_put a P.nothing ≡ a
put_nothing a = let q : a.entries + 0 ≡ a.entries = omega arith in rw (append-nil a.parts, append-nil a.findings, q)

counts : (a n m k : ℕ) → n ≡ more 0 a → m ≡ more n k → m ≡ more 0 (a + k)
counts a n m k e f = omega arith

module _ {b : List ℕ} {j : Job} {s : Separators} {trigger : List ℕ} {g : ℕ × ElementDef → Put} {xs : SegmentDef} {pen : Pen} {at : ℕ} {d₀ f₀ : List ℕ} where
  pub none_yet : {r : Drawn} {c : Elements} → Entries b c xs → rises_from 0 xs ≡ true → Mins j trigger xs → r.findings ≡ more at 0 → r.entries ≡ 0 → r.last ≡ 0 → r.stuck ≡ false → r.pen ≡ pen
      → SoFar b j s trigger g xs pen at d₀ f₀ d₀ f₀ r c
  unfolding highest
  none_yet h k m e f l t q = record {
    done = P.nothing;
    rest = xs;
    low = 0;
    p = 1;
    place = h;
    mins = m;
    adds_up = put_front (put_all g xs);
    findings = none_stored e;
    entries = omega arith;
    last = l;
    rises = k;
    above = omega arith;
    below = omega arith;
    onward = λ last e d₂ x. rw (t, q) at x;
  }

  module _ {d f : List ℕ} {r : Drawn} {c : Elements} (S : SoFar b j s trigger g xs pen at d₀ f₀ d f r c) where
    pub still_left : 0 < c.left → EntryAt b c
    still_left h = entry_left b c S.rest S.place h

    -- an element is left
    pub still_known : {x : Element} → 0 < c.left → ((y : ℕ × ElementDef) (ys : SegmentDef) → Entries b c (y ∷ ys) → ElementSays b x y) → Known b x
    still_known h says = let e = still_left h in record { def = e.entry; says = says e.entry e.rest e.entries }

    pub one_less : {c' : Elements} → 0 < c.left → ((y : ℕ × ElementDef) (ys : SegmentDef) → Entries b c (y ∷ ys) → Entries b c' ys) → c'.left < c.left
    one_less {c'} h moves = go S.rest S.place
      where
        go : (ys : SegmentDef) → Entries b c ys → c'.left < c.left
        go [] e = absurd (let m = e.counted in omega arith)
        go (y ∷ ys) e = let m = e.counted in let n = (moves y ys e).counted in omega arith

    pub one_more : {x : Element} {r' : Drawn} {c' : Elements} {d₁ f₁ : List ℕ} → ((y : ℕ × ElementDef) → Shape y.0 (g y).parts) → length f₀ ≤ wide → 0 < c.left
        → ((y : ℕ × ElementDef) (ys : SegmentDef) → Entries b c (y ∷ ys) → ElementSays b x y)
        → ((y : ℕ × ElementDef) → ElementSays b x y → min_of j trigger y.0 ≡ y.1.min → Adds s (g y) r r' d d₁ f f₁)
        → ((y : ℕ × ElementDef) (ys : SegmentDef) → Entries b c (y ∷ ys) → Entries b c' ys)
        → SoFar b j s trigger g xs pen at d₀ f₀ d₁ f₁ r' c'
    one_more {x} {r'} {c'} {d₁} {f₁} shape fits h says adds moves = go S.rest S.place S.mins S.adds_up S.rises S.onward
      where
        go : (ys : SegmentDef) → Entries b c ys → Mins j trigger ys → put_all g xs ≡ and_put S.done (put_all g ys) → rises_from S.low ys ≡ true
            → ((last e : ℕ) (d₂ : List ℕ) → Still s last r.stuck S.p (put_all g ys).parts r.pen d e d₂ → Row s last 1 (put_all g xs).parts pen d₀ e d₂)
            → SoFar b j s trigger g xs pen at d₀ f₀ d₁ f₁ r' c'
        go [] e m q k o = absurd (let n = e.counted in omega arith)
        go (y ∷ ys) e m q k o =
            let A : Adds s (g y) r r' d d₁ f f₁ = adds y (says y ys e) (m y 0 (omega arith)) in
            let R = rises_next S.low y ys k in
            let B = past g shape ys y.0 (y.0 + 1) (omega arith) R.1 in
            let T = stepped y.0 S.low S.p (put_all g ys).parts A.drawn (shape y) R.0 S.above S.below B.0 B.1 in
            record {
              done = and_put S.done (g y);
              rest = ys;
              low = y.0 + 1;
              p = T.at;
              place = moves y ys e;
              mins = λ z i l. m z (suc i) (omega arith);
              adds_up = q ∙ put_assoc S.done (g y) (put_all g ys);
              findings = stored_findings S.done.findings (g y).findings fits S.findings A.findings;
              entries = counts S.done.entries r.entries r'.entries (g y).entries S.entries A.entries;
              last = A.last ∙ rw S.last (sym (highest_append (λ z. z.element) S.done.parts (g y).parts));
              rises = R.1;
              above = T.above;
              below = T.below;
              onward = λ last e₁ d₂ z. o last e₁ d₂ (T.onward last e₁ d₂ z);
            }

    pub all_drawn : c.left ≤ 0 → Drew s (put_all g xs) pen at r d₀ d f₀ f
    unfolding stays
    all_drawn h = go S.rest S.place S.adds_up S.onward
      where
        go : (ys : SegmentDef) → Entries b c ys → put_all g xs ≡ and_put S.done (put_all g ys)
            → ((last e : ℕ) (d₂ : List ℕ) → Still s last r.stuck S.p (put_all g ys).parts r.pen d e d₂ → Row s last 1 (put_all g xs).parts pen d₀ e d₂) → Drew s (put_all g xs) pen at r d₀ d f₀ f
        go (y ∷ ys) e q o = absurd (let n = e.counted in omega arith)
        go [] e q o =
            let z : put_all g xs ≡ S.done = q ∙ put_nothing S.done in
            record { findings = rw z S.findings; entries = rw z S.entries; last = rw z S.last; closes = λ e₁ d₂ w. o r.last e₁ d₂ (ends r.stuck w) }
          where
            ends : {e₁ : ℕ} {d₂ : List ℕ} (t : Bool) → Stored d r.pen.at (closing s r.pen r.last) e₁ d₂ → Still s r.last t S.p [] r.pen d e₁ d₂
            ends true w = w
            ends false w = close refl w

-- ---- the elements that a segment's definition has

abbrev defined : Option SegmentDef → SegmentDef
defined v = on v (λ d. d) []

pub nowhere_entries : (b : List ℕ) (e : ℕ) (r : Option ℕ) (v : Option SegmentDef) → PlaceOf segment_c b e r v → r ≡ None → Entries b (record { left = 0; at = 0 }) (defined v) × (rises_from 0 (defined v) ≡ true)
nowhere_entries b e r v h q = rw (place_nowhere segment_c b e r v h q) (record { counted = refl; item = λ i d k. absurd (omega arith) }, refl)

module _ (b : List ℕ) (r : Option ℕ) (v : Option SegmentDef) (h : PlaceOf segment_c b (plan_start b) r v) (p : ℕ) (q : r ≡ Some p) where
  pub place_stands : plan_start b ≤ length b → Stands segment_c b p
  place_stands w = let s = place_at segment_c b (plan_start b) r v h p q in stands_at segment_c b p p (plan_start b) s.value refl w s.is

  pub place_entries : (c : Elements) → ((xs : SegmentDef) → Is segment_c b (plan_start b) p xs → Entries b c xs) → Entries b c (defined v) × (rises_from 0 (defined v) ≡ true)
  place_entries c f =
      let s = place_at segment_c b (plan_start b) r v h p q in
      rw s.there (f s.value s.is, (is_num_map element_c b (plan_start b) p s.value s.is).1)

-- a key finds its own element
key_above : (xs : SegmentDef) (low i : ℕ) (d : ℕ × ElementDef) → rises_from low xs ≡ true → i < length xs → low ≤ (get_or xs i d).0
key_above [] low i d r h = absurd (omega arith)
key_above (x ∷ xs) low zero d r h = (rises_next low x xs r).0
key_above (x ∷ xs) low (suc i) d r h = let a = rises_next low x xs r in let q = a.0 in let k = key_above xs (x.0 + 1) i d a.1 (omega arith) in omega arith

key_found : (xs : SegmentDef) (low i : ℕ) (d : ℕ × ElementDef) → rises_from low xs ≡ true → i < length xs → found (eqb (get_or xs i d).0) xs ≡ Some (get_or xs i d).1
key_found [] low i d r h = absurd (omega arith)
key_found (x ∷ xs) low zero d r h = rw (eq-eqb x.0 x.0 refl)
key_found (x ∷ xs) low (suc i) d r h =
    let a = rises_next low x xs r in
    let k = key_above xs (x.0 + 1) i d a.1 (omega arith) in
    rw (ne_eqb (get_or xs i d).0 x.0 (λ z. omega arith)) (key_found xs (x.0 + 1) i d a.1 (omega arith))

mins_of : (j : Job) (trigger : List ℕ) → rises_from 0 (defined (segment_def j trigger)) ≡ true → Mins j trigger (defined (segment_def j trigger))
unfolding min_of element_def
mins_of j trigger r y i h = go (segment_def j trigger) refl r h
  where
    go : (v : Option SegmentDef) → segment_def j trigger ≡ v → rises_from 0 (defined v) ≡ true → i < length (defined v) → min_of j trigger (get_or (defined v) i y).0 ≡ (get_or (defined v) i y).1.min
    go None e r h = absurd (omega arith)
    go (Some xs) e r h = rw (e, key_found xs 0 i y r h)

pub opening : (w : Frame) (c : Elements)
    → Entries w.job.at.bytes.now c (defined (segment_def (job_by w.job) (stretch_of w.job.at.bytes.now w.id))) × (rises_from 0 (defined (segment_def (job_by w.job) (stretch_of w.job.at.bytes.now w.id))) ≡ true) → Opening w c
opening w c h =
    let q = rw w.id_is.bytes at h in
    record { elements = defined (segment_def (job_by w.job) (trigger_of w)); entries = q.0; rises = q.1; mins = mins_of (job_by w.job) (trigger_of w) q.1 }

pub opened_all : {d d₁ d₂ d₃ f f₁ : List ℕ} {c : Elements} {at noted e : ℕ} {pen : Pen} {r : Drawn} (w : Frame) → length d ≤ cap
    → Entries w.job.at.bytes.now c (defined (segment_def (job_by w.job) (stretch_of w.job.at.bytes.now w.id))) × (rises_from 0 (defined (segment_def (job_by w.job) (stretch_of w.job.at.bytes.now w.id))) ≡ true)
    → Penned (opened (stretch w.job.at.bytes.now w.id.start w.id.len)) at pen d d₁
    → ((o : Opening w c) → Drew w.sep (put_all (element_put w) o.elements) pen noted r d₁ d₂ f f₁)
    → Stored d₂ r.pen.at (closing w.sep r.pen r.last) e d₃
    → Opened (job_by w.job) (trigger_of w) (opener_put (job_by w.job) w.l.0 (rule_of w.rule) w.number) at noted (record { bytes = e; findings = r.findings; entries = r.entries }) d d₃ f f₁
unfolding opener_put stretch_of opening
opened_all {c = c} w h q x draws z =
    let y = draws (opening w c q) in
    let t = w.id_is.bytes in
    let begun = rw t at x in
    record {
      bytes = rw w.sep_is (run_stored w.sep (trigger_of w) (put_all (element_put w) (defined (segment_def (job_by w.job) (trigger_of w)))).parts h begun (rw y.last at (y.closes _ _ z)));
      findings = y.findings;
      entries = y.entries;
    }
