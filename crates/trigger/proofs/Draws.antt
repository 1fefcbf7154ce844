-- The elements of a trigger as code draws them, one law for each way.
use Prim.Native.Nat.{ℕ, zero, suc, ◌-◌, ◌≤◌, ◌<◌, max}
use mathlib.Core.Path.{◌≡◌, refl, sym, ◌∙◌}
use mathlib.Core.Bool.{Bool, true, false, cond}
use mathlib.Core.List.{List, [], ◌∷◌, ◌++◌, append-nil}
use native.Mathlib.Omega.{arith}
use lib.Dec.{ltb}
use lib.ListN.{length, take, replicate, length-append, length-replicate}
use borrow.Author.Tests.{eq-eqb, ne_eqb, lt-ltb, le-ltb}
use Rattle.format.specs.Spec.{Kind, kind_an, kind_id, kind_n, kind_r, kind_dt, kind_tm, Control, ElementDef}
use Rattle.format.specs.Job.{Job}
use Rattle.format.specs.Refusal.{separators}
use Rattle.format.specs.Ask.{loop_of, min_of, depth_of}
use Rattle.lent.proofs.Fit.{wide}
use Rattle.lent.specs.Window.{stretch, Noted}
use Rattle.spec.specs.declared.ids.Element.{Element}
use Rattle.spec.specs.Cursor as cursor
use Rattle.spec.specs.Cursor.{Entries, ElementSays}
use Rattle.std.specs.Prelude.{Some, None, Option}
use Rattle.texts.specs.Number.{count_text}
use Rattle.texts.specs.Reason.{Width}
use Rattle.texts.specs.Said.{why_in}
use Rattle.texts.specs.Pad.{is_at, padded, zero_padded, space_padded, control_text}
use Rattle.segment.specs.declared.Separators.{Separators}
use Rattle.segment.specs.declared.Pen.{Pen}
use Rattle.segment.specs.declared.Value.{Value}
use Rattle.segment.specs.Parts.{pick, is_empty, highest, last_element, last_component, component_text}
use Rattle.segment.specs.Values.{value_text, Plain}
use Rattle.segment.specs.Group.{Group}
use Rattle.nest.specs.Lists.{on}
use Rattle.nest.specs.Finding.{field, number_from}
use Rattle.emit.specs.declared.findings.Spot.{Spot}
use Rattle.emit.specs.declared.findings.Delimiters.{Delimiters}
use Rattle.emit.specs.Puts as P
use Rattle.emit.specs.Puts.{Put, and_put, put_all, part_at, place_of, held_in, unwritten, delimited}
use Rattle.emit.specs.Written.{spot_of, words_of, tried}
use Rattle.emit.specs.Envelope.{Given, Sourced, is_numeric, padded_to, plainly, field_findings, put_sourced, source_at, put_element, control_in}
use Rattle.emit.proofs.FindingLaws.{stored_findings}
use Rattle.trigger.specs.declared.given.Source.{Source}
use Rattle.trigger.specs.declared.opener.Drawn.{Drawn}
use Rattle.trigger.specs.Source.{text_in, Tells, otherwise}
use Rattle.trigger.specs.Drawn.{put_by, Draws, left, nothing, sticks, one, Adds}

-- ---- one text

module _ {s : Separators} {pen : Pen} {d : List ℕ} (t : Bool) (p : ℕ) (text : List ℕ) where
  pub draw_left : t ≡ true → Draws s t (part_at p None text ∷ []) pen d (pick t true (ltb p 1)) pen d
  draw_left e = rw e left

  pub draw_sticks : t ≡ false → p < 1 → Draws s t (part_at p None text ∷ []) pen d (pick t true (ltb p 1)) pen d
  draw_sticks e h = rw (e, lt-ltb p 1 h) (sticks h)

  pub draw_one : {r : Pen} {d₁ : List ℕ} → t ≡ false → 1 ≤ p → Group s (last_component (part_at p None text ∷ [])) (component_text (part_at p None text ∷ [])) p 1 pen d r d₁
      → Draws s t (part_at p None text ∷ []) pen d (pick t true (ltb p 1)) r d₁
  draw_one e h g = rw (e, le-ltb p 1 h) (one h g)

  pub draw_none : Draws s t [] pen d t pen d
  draw_none = go t
    where
      go : (b : Bool) → Draws s b [] pen d b pen d
      go true = left
      go false = nothing

pub reach_one : (last p n : ℕ) (text : List ℕ) → n ≡ max last (pick (is_empty text) 0 p) → n ≡ max last (last_element (part_at p None text ∷ []))
unfolding highest
reach_one last p n text e = omega (arith, e)

pub reach_none : (last : ℕ) → last ≡ max last (last_element [])
unfolding highest
reach_none last = omega arith

-- ---- the findings on a text

pub spot_is : (trigger : List ℕ) (name f p : ℕ) → name ≡ number_from 0 trigger
    → ◌≡◌ {A = Spot} (record { origin = 1; table = f; row = 0; column = 0; identifier = name; element = p; component = 0 }) (spot_of (field f) (place_of trigger p None))
spot_is trigger name f p e = rw e

pub field_stored : {d d₁ d₂ : List ℕ} {at n m : ℕ} (j : Job) (trigger text : List ℕ) (f p reason : ℕ) (checked : Bool) (t : Delimiters) → tried t ≡ separators j.envelope → length d ≤ wide
    → Noted d at (words_of (pick checked (held_in (field f) (place_of trigger p None) text 0 (tried t)) [])) n d₁
    → Noted d₁ n (words_of (unwritten (field f) (place_of trigger p None) reason)) m d₂
    → Noted d at (words_of (field_findings j trigger p f (record { text = text; reason = reason; checked = checked }) text)) m d₂
unfolding delimited
field_stored j trigger text f p reason checked t e h x y =
    stored_findings (pick checked (held_in (field f) (place_of trigger p None) text 0 (separators j.envelope)) []) (unwritten (field f) (place_of trigger p None) reason) h (rw e at x) y

-- ---- the text of a source

pub raw_text : (d : ElementDef) (reason : ℕ) (text : List ℕ) → 0 < reason → text ≡ padded_to d reason text
raw_text d zero text h = absurd (omega arith)
raw_text d (suc n) text h = refl

pub plain_text : (job : List ℕ) (v : Value) → Plain v → take v.count v.bytes ++ stretch job v.start v.len ≡ value_text job v
unfolding value_text
plain_text job v h = rw (h.zeros, h.spaces, append-nil (stretch job v.start v.len))

numeric_is : (k : Kind) → cursor.is_numeric k ≡ is_numeric k
numeric_is kind_an = refl
numeric_is kind_id = refl
numeric_is (kind_n n) = refl
numeric_is (kind_r n) = refl
numeric_is kind_dt = refl
numeric_is kind_tm = refl

pub padded_is : {b : List ℕ} {x : Element} (y : ℕ × ElementDef) (reason : ℕ) (text whole : List ℕ) (min : Width) (max : Width) → ElementSays b x y → reason ≤ 0 → min ≡ x.min → max ≡ x.max
    → whole ≡ padded x.numeric min max text → whole ≡ padded_to y.1 reason text
padded_is y zero text whole min max h k e f q = q ∙ rw (e, f, h.numeric, h.min, h.max, numeric_is y.1.kind)
padded_is y (suc n) text whole min max h k e f q = absurd (omega arith)

pub adds_as : {s : Separators} {p q : Put} {at r : Drawn} {d d₁ f f₁ : List ℕ} → p ≡ q → Adds s p at r d d₁ f f₁ → Adds s q at r d d₁ f f₁
adds_as e h = rw (← e) h

put_as : (j : Job) (trigger : List ℕ) (p : ℕ) (d : ElementDef) (f : Option ℕ) (g : Given) (text : List ℕ) → text ≡ padded_to d g.reason g.text
    → put_by j trigger p f g.reason g.checked text ≡ put_sourced j trigger p d (record { field = f; given = g })
put_as j trigger p d None g text e = rw e
put_as j trigger p d (Some f) g text e = rw e

module _ (j : Job) (trigger : List ℕ) (b : List ℕ) (o : Option Sourced) (n : ℕ) (y : ℕ × ElementDef) (k : n ≡ y.0) where
  pub source_put_lem : (src : Source) → Tells b (Some src) o → (text : List ℕ) → text ≡ padded_to y.1 (why_in src.given.reason) (text_in b src)
      → put_by j trigger n src.field (why_in src.given.reason) src.checked text ≡ on o (put_sourced j trigger y.0 y.1) P.nothing
  source_put_lem src h text q =
      let s = h.says in
      rw (← s, k) (put_as j trigger y.0 y.1 src.field (record { text = text_in b src; reason = why_in src.given.reason; checked = src.checked }) text q)

  pub source_none : Tells b None o → P.nothing ≡ on o (put_sourced j trigger y.0 y.1) P.nothing
  source_none h = let s = h.says in rw (← s)

-- ---- the control number, padded already

enough : (least : ℕ) (t : List ℕ) → least - length (replicate (least - length t) 48 ++ t) ≡ 0
enough least t = let q = length-append (replicate (least - length t) 48) t in let r = length-replicate {A = ℕ} (least - length t) 48 in omega (arith, q, r)

pad_again : (numeric : Bool) (m : Width) (most : Width) (t : List ℕ) → padded numeric m most (zero_padded m t) ≡ zero_padded m t
unfolding padded zero_padded space_padded
pad_again true None most t = refl
pad_again false None most t = refl
pad_again true (Some least) most t = rw (enough least t)
pad_again false (Some least) most t = rw (enough least t) (go (is_at most least))
  where
    go : (a : Bool) → cond a ((replicate (least - length t) 48 ++ t) ++ []) (replicate (least - length t) 48 ++ t) ≡ replicate (least - length t) 48 ++ t
    go true = append-nil (replicate (least - length t) 48 ++ t)
    go false = refl

pub control_put : (j : Job) (l number : ℕ) (k : Control) (y : ℕ × ElementDef) (n : ℕ) (text : List ℕ) → n ≡ y.0 → n ≡ k.opener → text ≡ control_text number y.1.min
    → min_of j (loop_of j l).trigger y.0 ≡ y.1.min
    → put_by j (loop_of j l).trigger n (Some 9) 0 true text ≡ put_element j (loop_of j l).trigger (depth_of j l) k.opener (control_in j l k number) y
unfolding put_element source_at control_in control_text
control_put j l number k y n text e f g h =
    let m : min_of j (loop_of j l).trigger k.opener ≡ y.1.min = rw (← f, e) h in
    rw (g, m, e, eq-eqb y.0 k.opener (sym e ∙ f))
    (put_as j (loop_of j l).trigger y.0 y.1 (Some 9) (plainly (zero_padded y.1.min (count_text number))) (zero_padded y.1.min (count_text number))
    (sym (pad_again (is_numeric y.1.kind) y.1.min y.1.max (count_text number))))

pub other_put : (j : Job) (trigger control : List ℕ) (depth opener : ℕ) (y : ℕ × ElementDef) → (y.0 ≡ opener → ⊥)
    → on (otherwise j trigger depth y.0 y.1) (put_sourced j trigger y.0 y.1) P.nothing ≡ put_element j trigger depth opener control y
unfolding put_element source_at otherwise
other_put j trigger control depth opener y n = rw (ne_eqb y.0 opener n)
