-- The whole segment: whoever opens it, feeds each group's components in order, finishes each group and closes, has stored what the definition
-- joins, for every list of parts.
use Prim.Native.Nat.{ℕ, ◌+◌, ◌-◌, ◌≤◌, ◌<◌}
use mathlib.Core.Path.{◌≡◌, sym, ◌∙◌}
use mathlib.Core.List.{List, ◌∷◌, ◌++◌, append_assoc}
use mathlib.Core.Bool.{true, false}
use native.Mathlib.Omega.{arith}
use lib.ListN.{length}
use Rattle.lent.specs.Fit.{cap, Stored}
use Rattle.lent.proofs.Laws.{stored_append, stored_length}
use Rattle.segment.specs.declared.Separators.{Separators}
use Rattle.segment.specs.declared.Pen.{Pen}
use Rattle.segment.specs.Parts.{Part, last_element, after, texts, elements_from, joined, sorted}
use Rattle.segment.specs.Pen.{placed, finished, Penned}
use Rattle.segment.specs.Values.{opened, closing}
use Rattle.segment.specs.Group.{Group, next, finish}
use Rattle.segment.specs.Calls.{Row, group, close, Repeat, position, pass, ended, last_component_at, zero_free}
use Rattle.segment.proofs.Pending.{to_come}
use Rattle.segment.proofs.Groups.{group_rest, group_next, group_finish, Among, among_start, among_next, after_finish}
use Rattle.segment.proofs.Rows.{row_rest, row_open, row_group, row_jump, row_close, Under, under_open, under_group, under_jump, after_lower}
use Rattle.segment.proofs.Repeats.{repeat_element, repeat_rest, repeat_open, repeat_stuck, repeat_group, repeat_skip, repeat_close}

-- what a group wrote, and what is then still to come
record Left (s : Separators) (last : ℕ) (whole : List ℕ) (pen t : Pen) (p : ℕ) (elements : List (List ℕ)) (d d₂ : List ℕ) : Type 0 where
  bytes : List ℕ
  stored : Stored d pen.at bytes t.at d₂
  adds_up : whole ≡ bytes ++ to_come s last t.elements (p + 1) elements
  before : t.elements < p + 1
  within : t.elements ≤ last

group_left : {s : Separators} {k : ℕ} {f : ℕ → List ℕ} {p c : ℕ} {pen t : Pen} {d d₂ : List ℕ} (last : ℕ) (elements : List (List ℕ))
    → Group s k f p c pen d t d₂ → Among last k pen p c → length d ≤ cap → Left s last (group_rest s last k f pen p c elements) pen t p elements d d₂
group_left {s} {k} {f} {p} {c} last elements (next {pen = pen} {r = r} {t = t} h w g) a i =
    let l = group_left last elements g (among_next s last k pen r p c (f c) a h w.elements w.components) (rw (stored_length _ w.stored) i) in
    record {
      bytes = (placed s pen p c (f c)).bytes ++ l.bytes;
      stored = stored_append _ _ i w.stored l.stored;
      adds_up = group_next s last k f pen r p c elements a h w.elements w.components ∙ rw l.adds_up (sym (append_assoc (placed s pen p c (f c)).bytes l.bytes (to_come s last t.elements (p + 1) elements)));
      before = l.before;
      within = l.within;
    }
group_left {s} {k} {f} {p} {c} last elements (finish {pen = pen} {r = r} e w) a i =
    let h : (r.elements < p + 1) × (r.elements ≤ last) = after_finish s last k pen r p c a w.elements in
    record {
      bytes = (finished s pen p k).bytes;
      stored = w.stored;
      adds_up = group_finish s last k f pen r p c elements a e w.elements;
      before = h.0;
      within = h.1;
    }

row_stored : {s : Separators} {last p e : ℕ} {rest : List Part} {pen : Pen} {d d₂ : List ℕ} → Row s last p rest pen d e d₂ → Under last pen p rest → length d ≤ cap
    → Stored d pen.at (row_rest s last pen.elements p rest) e d₂
row_stored {s} {last} {p} (group {x = x} {xs = xs} {pen = pen} {r = r} h g q) u i =
    let v : Under last pen x.element (x ∷ xs) = under_jump last pen p x.element (x ∷ xs) u h in
    let l = group_left last (elements_from s (last + 1 - (x.element + 1)) (x.element + 1) (after x.element (x ∷ xs))) g (under_group last pen x.element (x ∷ xs) v) i in
    let z : Under last r (x.element + 1) (after x.element (x ∷ xs)) = record { below = l.before; within = l.within; covers = omega (arith, after_lower x.element (x ∷ xs), v.covers) } in
    rw (row_jump s last pen.elements p x xs u.below h, row_group s last pen x.element (x ∷ xs) v, l.adds_up)
    (stored_append l.bytes _ i l.stored (row_stored q z (rw (stored_length _ l.stored) i)))
row_stored {s} {last} {p} {e} {rest} (close {pen = pen} h w) u i = rw (row_close s last pen p rest u h) w

-- the composed theorem
pub run_stored : (s : Separators) (id : List ℕ) (parts : List Part) {at e : ℕ} {pen : Pen} {d d₁ d₂ : List ℕ} → length d ≤ cap
    → Penned (opened id) at pen d d₁ → Row s (last_element parts) 1 parts pen d₁ e d₂ → Stored d at (joined s id parts) e d₂
run_stored s id parts {at} {e} {pen} {d} {d₁} {d₂} h w q =
    let z : pen.elements ≡ 0 = w.elements in
    rw (row_open s id parts) (stored_append id _ h w.stored (rw z at (row_stored q (under_open pen parts z) (rw (stored_length _ w.stored) h))))

-- ---- a repeat segment

repeat_stored : {s : Separators} {parts : List Part} {last p e : ℕ} {pen : Pen} {d d₂ : List ℕ} → Repeat s last parts p pen d e d₂
    → pen.elements < p → pen.elements ≤ last → length d ≤ cap → Stored d pen.at (repeat_rest s last pen.elements p parts) e d₂
repeat_stored {s} {parts} {last} {p} {e} (position {pen = pen} {r = r} h g q) u v i =
    let l = group_left last (texts (repeat_element s parts) (last + 1 - (p + 1)) (p + 1)) g (among_start last (last_component_at p parts) pen p u v (λ _. h)) i in
    rw (repeat_group s last pen p parts u h, l.adds_up)
    (stored_append l.bytes _ i l.stored (repeat_stored q l.before l.within (rw (stored_length _ l.stored) i)))
repeat_stored {s} {parts} {last} {p} {e} (pass {pen = pen} h f q) u v i =
    rw (repeat_skip s last pen.elements p parts u h f) (repeat_stored q (omega arith) v i)
repeat_stored {s} {parts} {last} {p} {e} (ended {pen = pen} h w) u v i = rw (repeat_close s last pen p parts u v h) w

-- the composed theorem, for parts none of which is at element 0
pub repeat_run_stored : (s : Separators) (id : List ℕ) (parts : List Part) {at e : ℕ} {pen : Pen} {d d₁ d₂ : List ℕ} → length d ≤ cap → zero_free parts ≡ true
    → Penned (opened id) at pen d d₁ → Repeat s (last_element parts) parts 1 pen d₁ e d₂ → Stored d at (joined s id (sorted parts)) e d₂
repeat_run_stored s id parts {at} {e} {pen} h f w q =
    let z : pen.elements ≡ 0 = w.elements in
    rw (repeat_open s id parts f) (stored_append id _ h w.stored (rw z at (repeat_stored q (omega arith) (omega arith) (rw (stored_length _ w.stored) h))))

-- with a part at element 0 the segment is closed at once
pub stuck_run_stored : (s : Separators) (id : List ℕ) (parts : List Part) {at e : ℕ} {pen : Pen} {d d₁ d₂ : List ℕ} → length d ≤ cap → zero_free parts ≡ false
    → Penned (opened id) at pen d d₁ → Stored d₁ pen.at (closing s pen (last_element parts)) e d₂ → Stored d at (joined s id (sorted parts)) e d₂
stuck_run_stored s id parts {pen = pen} h f w q = rw (repeat_stuck s id pen parts f w.elements) (stored_append id _ h w.stored q)
