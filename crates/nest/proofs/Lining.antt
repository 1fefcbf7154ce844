-- The anchors of a table as they are lined up.
use Prim.Native.Nat.{ℕ, ◌+◌, ◌≤◌, ◌<◌}
use mathlib.Core.Path.{◌≡◌, refl, sym, ap, ap₂, ◌∙◌}
use mathlib.Core.List.{List, [], ◌∷◌}
use native.Mathlib.Omega.{arith}
use lib.ListN.{length, drop, get_or, set, replicate, length-set}
use lib.Seq.{get_or-set_same, get_or-set_other, drop-drop}
use borrow.Author.Count.{below_more}
use Rattle.nest.specs.declared.hang.AnchorLoop.{AnchorLoop}
use Rattle.nest.specs.declared.hang.Line.{Line}
use Rattle.nest.specs.Outline.{Outline}
use Rattle.nest.specs.Nest.{Anchor, anchors}
use Rattle.nest.specs.Keys.{anchor_of, no_anchor, Lined}

-- the first n are in line, and more are left
pub record Lining (j : Outline) (t n : ℕ) (line : List AnchorLoop) (more : List Anchor) : Type 0 where
  pub next : (k : ℕ) → k < n → drop k (anchors j t) ≡ anchor_of (get_or line k no_anchor) ∷ drop (k + 1) (anchors j t)
  pub rest : drop n (anchors j t) ≡ more
  pub size : length line ≡ 8
  pub few : n ≤ 8

pub lining_none : (j : Outline) (t : ℕ) (more : List Anchor) → anchors j t ≡ more → Lining j t 0 (replicate 8 no_anchor) more
lining_none j t more e = record { next = λ k h. absurd (omega arith); rest = e; size = refl; few = omega arith }

module _ (j : Outline) (t n : ℕ) (line : List AnchorLoop) (xs : List Anchor) (w : Lining j t n line xs) where
  pub lining_on : (more : List Anchor) → xs ≡ more → Lining j t n line more
  lining_on more e = record { next = w.next; rest = w.rest ∙ e; size = w.size; few = w.few }

  pub lining_next : (a : AnchorLoop) (more : List Anchor) → (n ≡ 8 → ⊥) → xs ≡ anchor_of a ∷ more → Lining j t (n + 1) (set line n a) more
  lining_next a more h e =
      let small : n < 8 = omega (arith, w.few, h) in
      let rest : drop (n + 1) (anchors j t) ≡ more = sym (drop-drop 1 n (anchors j t)) ∙ ap (drop 1) (w.rest ∙ e) in
      record {
        next = below_more (λ k. drop k (anchors j t) ≡ anchor_of (get_or (set line n a) k no_anchor) ∷ drop (k + 1) (anchors j t)) n
            (λ k l. w.next k l ∙ ap (λ b. anchor_of b ∷ drop (k + 1) (anchors j t)) (sym (get_or-set_other line n k a no_anchor (λ z. omega (arith, l, z)))))
            (w.rest ∙ e ∙ ap₂ (λ b r. anchor_of b ∷ r) (sym (get_or-set_same line n a no_anchor (omega (arith, small, w.size)))) (sym rest));
        rest = rest;
        size = (simp length-set) ∙ w.size;
        few = omega (arith, small);
      }

  pub lining_end : xs ≡ [] → Lined j t (record { anchors = line; n = n })
  lining_end e = record { few = w.few; next = w.next; all = w.rest ∙ e }

pub lined_end : (j : Outline) (t k : ℕ) (s : Line) → Lined j t s → k ≤ s.n → s.n ≤ k → drop k (anchors j t) ≡ []
lined_end j t k s w h g = let e : k ≡ s.n = omega arith in ap (λ (i : ℕ). drop i (anchors j t)) e ∙ w.all
