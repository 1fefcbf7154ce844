-- The parts at one element, look by look.
use Prim.Native.Nat.{ℕ, ◌<◌, max}
use mathlib.Core.Path.{◌≡◌, refl, sym, ap, ◌∙◌}
use mathlib.Core.Bool.{Bool, true, false}
use Rattle.std.specs.Prelude.{Some, None}
use Rattle.std.proofs.lemmas.Option.{same_Some}
use mathlib.Core.Logic.{◌⊎◌, inl, inr}
use mathlib.Core.List.{List, [], ◌∷◌}
use native.Mathlib.Omega.{arith}
use borrow.Author.Tests.{eq-eqb, ne_eqb}
use Rattle.segment.specs.Parts.{Part, pick, is_empty, or_one, highest, last_component, here, after, component_text}
use Rattle.segment.proofs.Rows.{here_same, here_other, after_same, after_other}
use Rattle.emit.specs.Puts.{Put}
use Rattle.row_segment.specs.declared.parts.Line.{Line}
use Rattle.row_segment.specs.declared.parts.Look.{Look}
use Rattle.row_segment.specs.declared.parts.Planned.{Planned}
use Rattle.row_segment.specs.Stream.{Lined, puts, outcome_of, ahead, Sees, Looks, left}
use Rattle.row_segment.specs.Groups.{Scans}
use Rattle.row_segment.proofs.StreamLaws.{part_by, parts_here, parts_more, ahead_none, left_less}

-- ---- a look and the parts at element e

module _ {b : List ℕ} {x : Line} (a m : Look) (e : ℕ) where
  here_more : {y : Planned} → a.part ≡ Some y → y.element ≡ e → Looks b x a.k m → here e (ahead b x a).parts ≡ part_by b x y ∷ here e (ahead b x m).parts
  here_more {y} t q l = ap (here e) (parts_more a m t l) ∙ here_same e (part_by b x y) (ahead b x m).parts q

  after_more : {y : Planned} → a.part ≡ Some y → y.element ≡ e → Looks b x a.k m → after e (ahead b x a).parts ≡ after e (ahead b x m).parts
  after_more {y} t q l = ap (after e) (parts_more a m t l) ∙ after_same e (part_by b x y) (ahead b x m).parts q

module _ (b : List ℕ) (x : Line) (a : Look) (e : ℕ) where
  here_else : {y : Planned} → a.part ≡ Some y → (y.element ≡ e → ⊥) → here e (ahead b x a).parts ≡ []
  here_else {y} t q = ap (here e) (parts_here b x a t) ∙ here_other e (part_by b x y) (puts b x a.k).parts q

  after_else : {y : Planned} → a.part ≡ Some y → (y.element ≡ e → ⊥) → after e (ahead b x a).parts ≡ (ahead b x a).parts
  after_else {y} t q = ap (after e) (parts_here b x a t) ∙ after_other e (part_by b x y) (puts b x a.k).parts q ∙ sym (parts_here b x a t)

  here_none : a.part ≡ None → Sees b x a → here e (ahead b x a).parts ≡ []
  unfolding here
  here_none t s = ap (λ (p : Put). here e p.parts) (ahead_none b x a t s)

  after_none : a.part ≡ None → Sees b x a → after e (ahead b x a).parts ≡ (ahead b x a).parts
  unfolding after
  after_none t s = rw (ahead_none b x a t s)

-- ---- the last filled component

pub record Scanning (b : List ℕ) (x : Line) (n : Look) (e : ℕ) (a : Look) (m : ℕ) : Type 0 where
  pub last : last_component (here e (ahead b x n).parts) ≡ max m (last_component (here e (ahead b x a).parts))
  pub rest : after e (ahead b x n).parts ≡ after e (ahead b x a).parts
  pub sees : Sees b x a
  pub low : m < 4294967296
  pub less : (a ≡ n) ⊎ (left x.count a < left x.count n)

pub scanning_start : (b : List ℕ) (x : Line) (n : Look) (e : ℕ) → Sees b x n → Scanning b x n e n 0
scanning_start b x n e s = record { last = omega arith; rest = refl; sees = s; low = omega arith; less = inl refl }

module _ (b : List ℕ) (x : Line) (n : Look) (e : ℕ) (a : Look) (m : ℕ) (i : Scanning b x n e a m) where
  pub scanning_next : (text : List ℕ) (c m' : ℕ) (a' : Look) → Lined b x → {y : Planned} → a.part ≡ Some y → y.element ≡ e → text ≡ (outcome_of b x y).text
      → c ≡ or_one y.component → c < 4294967296 → m' ≡ max m (pick (is_empty text) 0 c) → Looks b x a.k a' → Scanning b x n e a' m'
  unfolding highest
  scanning_next text c m' a' d t q v f k g l = record {
    last = i.last ∙ rw (here_more a a' e t q l, g, f, v) (omega arith);
    rest = i.rest ∙ after_more a a' e t q l;
    sees = l.sees;
    low = rw g (lower (is_empty text));
    less = inr (go i.less);
  }
    where
      z : left x.count a' < left x.count a
      z = left_less a a' d t l

      go : (a ≡ n) ⊎ (left x.count a < left x.count n) → left x.count a' < left x.count n
      go (inl p) = rw (← p) z
      go (inr p) = omega (arith, z, p)

      lower : (u : Bool) → max m (pick u 0 c) < 4294967296
      lower true = omega (arith, i.low)
      lower false = omega (arith, i.low, k)

  pub scanned_else : {y : Planned} → a.part ≡ Some y → (y.element ≡ e → ⊥) → Scans b x n e m a
  unfolding highest
  scanned_else {y} t q = record {
    last = i.last ∙ rw (here_else b x a e t q) (omega arith);
    rest = i.rest ∙ after_else b x a e t q;
    sees = i.sees;
    low = i.low;
    less = λ z u v. go z i.less u v;
  }
    where
      go : (z : Planned) → (a ≡ n) ⊎ (left x.count a < left x.count n) → n.part ≡ Some z → z.element ≡ e → left x.count a < left x.count n
      go z (inl p) u v = absurd (q (ap (λ (d : Planned). d.element) (same_Some y z (sym t ∙ ap (λ (d : Look). d.part) p ∙ u)) ∙ v))
      go z (inr p) u v = p

  pub scanned_none : a.part ≡ None → Scans b x n e m a
  unfolding highest
  scanned_none t = record {
    last = i.last ∙ rw (here_none b x a e t i.sees) (omega arith);
    rest = i.rest ∙ after_none b x a e t i.sees;
    sees = i.sees;
    low = i.low;
    less = λ z u v. go z i.less u;
  }
    where
      go : (z : Planned) → (a ≡ n) ⊎ (left x.count a < left x.count n) → n.part ≡ Some z → left x.count a < left x.count n
      go z (inl p) u = absurd (let s : a.part ≡ n.part = ap (λ (d : Look). d.part) p in let y : ◌≡◌ {A = ℕ} 0 1 = cc in omega arith)
      go z (inr p) u = p

-- ---- the first part at a component

pub record Finding (b : List ℕ) (x : Line) (n : Look) (e c : ℕ) (a : Look) : Type 0 where
  pub rest : component_text (here e (ahead b x n).parts) c ≡ component_text (here e (ahead b x a).parts) c
  pub sees : Sees b x a

pub finding_start : (b : List ℕ) (x : Line) (n : Look) (e c : ℕ) → Sees b x n → Finding b x n e c n
finding_start b x n e c s = record { rest = refl; sees = s }

module _ (b : List ℕ) (x : Line) (n : Look) (e c : ℕ) (a : Look) (i : Finding b x n e c a) where
  pub finding_next : (a' : Look) (k : ℕ) → {y : Planned} → a.part ≡ Some y → y.element ≡ e → k ≡ or_one y.component → (k ≡ c → ⊥) → Looks b x a.k a' → Finding b x n e c a'
  unfolding component_text
  finding_next a' k {y} t q f g l = record {
    rest = i.rest ∙ rw (here_more a a' e t q l, ne_eqb (or_one y.component) c (λ z. g (f ∙ z)));
    sees = l.sees;
  }

  pub found_here : (text : List ℕ) (k : ℕ) → {y : Planned} → a.part ≡ Some y → y.element ≡ e → k ≡ or_one y.component → k ≡ c → text ≡ (outcome_of b x y).text
      → text ≡ component_text (here e (ahead b x n).parts) c
  unfolding component_text
  found_here text k {y} t q f g v = v ∙ sym (i.rest ∙ ap (λ (ps : List Part). component_text ps c) (ap (here e) (parts_here b x a t) ∙ here_same e (part_by b x y) (puts b x a.k).parts q)
      ∙ rw (eq-eqb (or_one y.component) c (sym f ∙ g)))

  pub found_else : (text : List ℕ) → text ≡ [] → {y : Planned} → a.part ≡ Some y → (y.element ≡ e → ⊥) → text ≡ component_text (here e (ahead b x n).parts) c
  unfolding component_text
  found_else text z t q = z ∙ sym (i.rest ∙ rw (here_else b x a e t q))

  pub found_none : (text : List ℕ) → text ≡ [] → a.part ≡ None → text ≡ component_text (here e (ahead b x n).parts) c
  unfolding component_text
  found_none text z t = z ∙ sym (i.rest ∙ rw (here_none b x a e t i.sees))
