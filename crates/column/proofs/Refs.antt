-- Keys and references: a law for each way through the readers.
use Prim.Native.Nat.{ℕ, suc, ◌+◌, ◌-◌, ◌≤◌, ◌<◌}
use mathlib.Core.Path.{◌≡◌, refl, sym, ap, ◌∙◌}
use mathlib.Core.List.{List, [], ◌∷◌}
use native.Mathlib.Omega.{arith}
use Rattle.std.specs.Prelude.{Option, None, Some, unwrap_or}
use lib.ListN.{length, get_or}
use borrow.Author.Tests.{eq-eqb, ne_eqb}
use Rattle.codec.specs.Codec.{Codec, ◌⊗◌, le}
use Rattle.codec.specs.Skip.{skip, steps, Is}
use Rattle.codec.proofs.Skip.{skip_pair, skip_le}
use Rattle.codec.specs.Field.{Stands}
use Rattle.codec.proofs.Field.{stands_at, ListIs, is_pair, is_list, is_le}
use Rattle.codec.specs.Forms.{num_c, opt_c}
use Rattle.format.specs.Data.{Column, column_c}
use Rattle.column.specs.Cell.{opt_get, int64_of, or_else, key_in, ref_column, reference_in}
use Rattle.column.specs.Answers.{OptColumnAt}
use Rattle.column.specs.Parts.{refs_c}

-- ---- the key of a row
unwrapped : (d : ℕ) (o : Option ℕ) → unwrap_or o d ≡ or_else d o
unwrapped d None = refl
unwrapped d (Some x) = refl

pub key_is : (b : List ℕ) (at row : ℕ) (x : Option ℕ) → ((e : ℕ) (o : Option Column) → e ≤ length b → Is (opt_c column_c) b e at o → x ≡ int64_of (opt_get o row))
    → (n : ℕ) → n ≡ unwrap_or x row → (e : ℕ) (o : Option Column) → e ≤ length b → Is (opt_c column_c) b e at o → n ≡ key_in o row
unfolding key_in
key_is b at row x f n h e o l is = h ∙ unwrapped row x ∙ ap (or_else row) (f e o l is)

-- ---- the first column of references to a table
-- the items of a list stand one behind the other
abbrev Items : {A : Type 0} → Codec A → List ℕ → ℕ → ℕ → List A → Type 0
Items C b e at [] = Unit {0}
Items C b e at (v ∷ vs) = Is C b e at v × Items C b e (skip C b at e) vs

items : {A : Type 0} (C : Codec A) (b : List ℕ) (e at : ℕ) (vs : List A) → ((i : ℕ) (d : A) → i < length vs → Is C b e (steps C b e i at) (get_or vs i d)) → Items C b e at vs
unfolding steps
items C b e at [] f = tt
items C b e at (v ∷ vs) f = (f 0 v (omega arith), items C b e (skip C b at e) vs (λ i d q. f (suc i) d (omega arith)))

-- what is left of a search: so many entries stand from a place on, and what they give is what the whole list gives
pub record Rest (b : List ℕ) (above e left p : ℕ) (o : Option Column) : Type 0 where
  pub entries : List (ℕ × Option Column)
  pub many : length entries ≡ left
  pub stand : Items (num_c ⊗ opt_c column_c) b e p entries
  pub gives : o ≡ ref_column entries above

module _ (b : List ℕ) (above : ℕ) where
  pub rest_start : (at n : ℕ) → n ≡ le 4 b at → (e : ℕ) (refs : List (ℕ × Option Column)) → e ≤ length b → Is refs_c b e at refs → Rest b above e (n - 0) (at + 4) (ref_column refs above)
  rest_start at n i e refs l is =
      let t : ListIs (num_c ⊗ opt_c column_c) b e at refs = is_list _ b e at refs is in
      record { entries = refs; many = (let z = t.counted in omega arith); stand = items _ b e (at + 4) refs t.item; gives = refl }

  -- the entry that the search has come to
  pub rest_stands : (at left p : ℕ) → ((e : ℕ) (refs : List (ℕ × Option Column)) → e ≤ length b → Is refs_c b e at refs → Rest b above e left p (ref_column refs above)) → Stands refs_c b at → 0 < left → Stands (num_c ⊗ opt_c column_c) b p
  rest_stands at left p f s h = let r = f s.end s.value s.within s.is in go r.entries r.many r.stand
    where
      go : (ws : List (ℕ × Option Column)) → length ws ≡ left → Items (num_c ⊗ opt_c column_c) b s.end p ws → Stands (num_c ⊗ opt_c column_c) b p
      go [] m i = absurd (omega arith)
      go (w ∷ ws) m i = stands_at (num_c ⊗ opt_c column_c) b p p s.end w refl s.within i.0

  module _ (e left p : ℕ) (o : Option Column) where
    entry : (r : ℕ × Option Column) → Is (num_c ⊗ opt_c column_c) b e p r → (r.0 ≡ le 4 b p) × (Is (opt_c column_c) b e (p + 4) r.1 × (skip (num_c ⊗ opt_c column_c) b p e ≡ skip (opt_c column_c) b (p + 4) e))
    entry r is =
        let t = is_pair num_c (opt_c column_c) b e p r is in
        let u = is_le 4 b e p r.0 t.0 in
        let q : skip num_c b p e ≡ p + 4 = skip_le 4 b p e u.0 in
        (u.1, (rw q at t.1, skip_pair num_c (opt_c column_c) b p e ∙ rw q))

    pub rest_found : Rest b above e left p o → 0 < left → (t : ℕ) → t ≡ le 4 b p → t ≡ above → Is (opt_c column_c) b e (p + 4) o
    unfolding ref_column
    rest_found r h t i j = go r.entries r.many r.stand r.gives
      where
        go : (ws : List (ℕ × Option Column)) → length ws ≡ left → Items (num_c ⊗ opt_c column_c) b e p ws → o ≡ ref_column ws above → Is (opt_c column_c) b e (p + 4) o
        go [] m s g = absurd (omega arith)
        go (w ∷ ws) m s g =
            let u = entry w s.0 in
            let q : w.0 ≡ above = u.0 ∙ sym i ∙ j in
            let z : o ≡ w.1 = g ∙ simp (eq-eqb _ _ q) in
            rw z u.1.0

    pub rest_next : Rest b above e left p o → (more : ℕ) → left ≡ more + 1 → (t : ℕ) → t ≡ le 4 b p → (t ≡ above → ⊥) → (q : ℕ) → ((e : ℕ) (o : Option Column) → Is (opt_c column_c) b e (p + 4) o → q ≡ skip (opt_c column_c) b (p + 4) e) → Rest b above e more q o
    unfolding ref_column
    rest_next r more h t i j q f = go r.entries r.many r.stand r.gives
      where
        go : (ws : List (ℕ × Option Column)) → length ws ≡ left → Items (num_c ⊗ opt_c column_c) b e p ws → o ≡ ref_column ws above → Rest b above e more q o
        go [] m s g = absurd (omega arith)
        go (w ∷ ws) m s g =
            let u = entry w s.0 in
            let n : w.0 ≡ above → ⊥ = λ k. j (i ∙ sym u.0 ∙ k) in
            let z : skip (num_c ⊗ opt_c column_c) b p e ≡ q = u.1.1 ∙ sym (f e w.1 u.1.0) in
            record { entries = ws; many = omega arith; stand = rw z at s.1; gives = g ∙ simp (ne_eqb _ _ n) }

    pub rest_done : Rest b above e left p o → left ≤ 0 → o ≡ None
    unfolding ref_column
    rest_done r h = go r.entries r.many r.gives
      where
        go : (ws : List (ℕ × Option Column)) → length ws ≡ left → o ≡ ref_column ws above → o ≡ None
        go [] m g = g
        go (w ∷ ws) m g = absurd (omega arith)

-- ---- the reference of a row
module _ (b : List ℕ) (at above : ℕ) (found : Option ℕ) (f : (e : ℕ) (refs : List (ℕ × Option Column)) → e ≤ length b → Is refs_c b e at refs → OptColumnAt b e found (ref_column refs above)) where
  pub found_stands : (p : ℕ) → found ≡ Some p → Stands refs_c b at → Stands (opt_c column_c) b p
  found_stands p q s =
      let w : OptColumnAt b s.end (Some p) (ref_column s.value above) = rw q at (f s.end s.value s.within s.is) in
      stands_at (opt_c column_c) b p p s.end (ref_column s.value above) refl s.within w

  pub reference_is : (row p : ℕ) → found ≡ Some p → (x : Option ℕ) → ((e : ℕ) (o : Option Column) → e ≤ length b → Is (opt_c column_c) b e p o → x ≡ int64_of (opt_get o row))
      → (e : ℕ) (refs : List (ℕ × Option Column)) → e ≤ length b → Is refs_c b e at refs → x ≡ reference_in refs above row
  unfolding reference_in
  reference_is row p q x h e refs l is =
      let w : OptColumnAt b e (Some p) (ref_column refs above) = rw q at (f e refs l is) in
      h e (ref_column refs above) l w

  pub reference_none : (row : ℕ) → found ≡ None → (e : ℕ) (refs : List (ℕ × Option Column)) → e ≤ length b → Is refs_c b e at refs → None ≡ reference_in refs above row
  unfolding reference_in opt_get
  reference_none row q e refs l is =
      let w : OptColumnAt b e None (ref_column refs above) = rw q at (f e refs l is) in
      sym (rw w)
