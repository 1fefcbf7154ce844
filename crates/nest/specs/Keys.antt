-- Not to be believed: words of inner contracts, on which no contract of what users call rests.
-- What is known of the keys of tables and of the depths of loops, told once for all rows.
use Rattle.std.specs.Prelude.{ℕ, ◌+◌, ◌≤◌, ◌<◌, ◌≡◌, Bool, true, false, List, [], ◌∷◌, drop, get_or, None}
use Rattle.nest.specs.declared.keys.Keys.{Keys}
use Rattle.nest.specs.declared.keys.Keys.TheVariants.{None as NoKeys, Any, Rising}
use Rattle.nest.specs.declared.hang.AnchorLoop.{AnchorLoop}
use Rattle.nest.specs.declared.hang.Line.{Line}
use Rattle.nest.specs.Outline.{Outline, table_of, row_count}
use Rattle.nest.specs.Nest.{Anchor, anchors, has_keys, first_row, depth_of}
use Rattle.nest.specs.NestFindings.{duplicates}

-- the keys of u rise strictly from row to row
pub record Rises (j : Outline) (u : ℕ) : Type 0 where
  pub rise : (p q : ℕ) → p < q → q < row_count j u → j.key u p < j.key u q

-- no row is found by a key; u has keys; u has keys that rise
abbrev pub KeysAre : Outline → ℕ → Keys → Type 0
KeysAre j u NoKeys = (v : ℕ) → first_row j u v ≡ None
KeysAre j u Any = has_keys j u ≡ true
KeysAre j u Rising = (has_keys j u ≡ true) × Rises j u

-- of all tables, those past the list too
pub record Keyed (j : Outline) (ks : List Keys) : Type 0 where
  pub of : (u : ℕ) → KeysAre j u (get_or ks u NoKeys)

-- where two rows of t may have one key it has keys; else it has no duplicates
pub record MayRepeat (j : Outline) (t : ℕ) (r : Bool) : Type 0 where
  pub keyed : r ≡ true → has_keys j t ≡ true
  pub single : r ≡ false → duplicates j t ≡ []

-- the depths of the first 32 loops
pub record Deep (j : Outline) (ds : List ℕ) : Type 0 where
  pub of : (l : ℕ) → l < 32 → get_or ds l 0 ≡ depth_of j l

-- the first n loops of table t stand at depth d or above
pub record Within (j : Outline) (t n d : ℕ) : Type 0 where
  pub of : (k : ℕ) → k < n → depth_of j (get_or (table_of j t).loops k 0) ≤ d

abbrev pub anchor_of : AnchorLoop → Anchor
anchor_of a = record { loop = a.l.0; table = a.table.0 }

abbrev pub no_anchor : AnchorLoop
no_anchor = record { l = record { 0 = 0 }; table = record { 0 = 0 } }

-- the anchors of table t one after the other
pub record Lined (j : Outline) (t : ℕ) (s : Line) : Type 0 where
  pub few : s.n ≤ 8
  pub next : (k : ℕ) → k < s.n → drop k (anchors j t) ≡ anchor_of (get_or s.anchors k no_anchor) ∷ drop (k + 1) (anchors j t)
  pub all : drop s.n (anchors j t) ≡ []
