-- The findings on a text as code stores them, separator by separator.
use Prim.Native.Nat.{ℕ, zero, suc, ◌+◌, ◌≤◌, ◌<◌}
use mathlib.Core.Path.{◌≡◌, refl, sym, ap, ◌∙◌}
use mathlib.Core.Bool.{Bool, true, false}
use mathlib.Core.List.{List, [], ◌∷◌, ◌++◌, append_assoc, append-nil}
use lib.Dec.{eqb}
use lib.ListN.{length}
use Rattle.format.specs.Words.{member_of}
use Rattle.format.specs.Envelope.{Envelope}
use Rattle.format.specs.Refusal.{separators}
use Rattle.std.specs.Prelude as Rust
use Rattle.std.specs.Prelude.{Some, None}
use Rattle.std.specs.Option.{unwrap_or}
use Rattle.emit.specs.declared.findings.Delimiters.{Delimiters}
use native.Mathlib.Nat.{not-suc-le-zero}
use Rattle.codec.specs.Codec.{pick as codec-pick}
use Rattle.lent.proofs.Fit.{wide}
use Rattle.lent.specs.Fit.{more}
use Rattle.lent.specs.Window.{Noted}
use Rattle.lent.proofs.Laws.{stored_none, stored_append, stored_length}
use Rattle.segment.specs.Parts.{pick}
use Rattle.segment.specs.Values.{holds, holds_any, one_of}
use Rattle.segment.proofs.Texts.{none_of}
use Rattle.nest.proofs.NestLaws.{turn}
use Rattle.nest.specs.Finding.{Finding, Origin, cell, field, Place, of_text, delimiter, not_writable, record_of}
use Rattle.emit.specs.declared.findings.Spot.{Spot}
use Rattle.emit.specs.Puts.{held_in, unwritten}
use Rattle.emit.specs.Written.{spot_of, spotted, words_of, tried_last, tried}

spot_words : (w : Spot) (o : Origin) (p : Place) (kind a b : ℕ) → w ≡ spot_of o p → spotted kind w a b ≡ of_text kind o p a b
spot_words w (cell t r c) p kind a b e = rw e
spot_words w (field f) p kind a b e = rw e

-- ---- as numbers

pub words_append : (a b : List Finding) → words_of (a ++ b) ≡ words_of a ++ words_of b
unfolding words_of
words_append [] b = refl
words_append (x ∷ a) b = ap (λ (l : List ℕ). record_of x ++ l) (words_append a b) ∙ sym (append_assoc (record_of x) (words_of a) (words_of b))

pub words_one : (x : Finding) → words_of (x ∷ []) ≡ record_of x
unfolding words_of
words_one x = append-nil (record_of x)

-- findings, and then others
pub stored_findings : {d d₁ d₂ : List ℕ} {at p q : ℕ} (a b : List Finding) → length d ≤ wide → Noted d at (words_of a) p d₁ → Noted d₁ p (words_of b) q d₂ → Noted d at (words_of (a ++ b)) q d₂
stored_findings a b h s t = rw (words_append a b) (stored_append (words_of a) (words_of b) h s t)

pub none_stored : {d : List ℕ} {at n : ℕ} → n ≡ more at 0 → Noted d at (words_of []) n d
unfolding words_of
none_stored {d} {at} e = rw e (stored_none d at)

-- ---- one separator

pub holds_member : (b : ℕ) (text : List ℕ) → holds b text ≡ member_of b text
unfolding holds holds_any member_of
holds_member b [] = refl
holds_member b (x ∷ xs) = rw (turn x b, holds_member b xs) (both (eqb b x))
  where
    both : (t : Bool) → pick t true (member_of b xs) ≡ codec-pick t true (member_of b xs)
    both true = refl
    both false = refl

module _ (o : Origin) (p : Place) (text : List ℕ) (role b : ℕ) where
  pub is_held : holds b text ≡ true → held_in o p text role (b ∷ []) ≡ delimiter o p b role ∷ []
  unfolding held_in
  is_held e = rw (sym (holds_member b text) ∙ e)

  pub not_held : holds b text ≡ false → held_in o p text role (b ∷ []) ≡ []
  unfolding held_in
  not_held e = rw (sym (holds_member b text) ∙ e)

  pub held_rest : (bs : List ℕ) → held_in o p text role (b ∷ bs) ≡ held_in o p text role (b ∷ []) ++ held_in o p text (role + 1) bs
  unfolding held_in
  held_rest bs = ap (λ (l : List Finding). l ++ held_in o p text (role + 1) bs) (sym (append-nil (pick (member_of b text) (delimiter o p b role ∷ []) [])))

-- ---- as code goes

pub stored_held : {d d₁ : List ℕ} {at n : ℕ} {w : Spot} (o : Origin) (p : Place) (text : List ℕ) (role b : ℕ) → w ≡ spot_of o p → holds b text ≡ true
    → Noted d at (spotted 4 w b role) n d₁ → Noted d at (words_of (held_in o p text role (b ∷ []))) n d₁
unfolding record_of
stored_held {w = w} o p text role b e h s = rw (is_held o p text role b h, words_one (delimiter o p b role)) (rw (spot_words w o p 4 b role e) at s)

pub stored_not_held : {d : List ℕ} {at n : ℕ} (o : Origin) (p : Place) (text : List ℕ) (role b : ℕ) → holds b text ≡ false → n ≡ more at 0
    → Noted d at (words_of (held_in o p text role (b ∷ []))) n d
stored_not_held o p text role b h e = rw (not_held o p text role b h) (none_stored e)

pub stored_next : {d d₁ d₂ : List ℕ} {at n m : ℕ} (o : Origin) (p : Place) (text : List ℕ) (role b : ℕ) (bs : List ℕ) → length d ≤ wide
    → Noted d at (words_of (held_in o p text role (b ∷ []))) n d₁ → Noted d₁ n (words_of (held_in o p text (role + 1) bs)) m d₂ → Noted d at (words_of (held_in o p text role (b ∷ bs))) m d₂
stored_next o p text role b bs h s t = rw (held_rest o p text role b bs) (stored_findings (held_in o p text role (b ∷ [])) (held_in o p text (role + 1) bs) h s t)

-- none is left to try
none_left : (o : Origin) (p : Place) (text : List ℕ) (role : ℕ) → held_in o p text role [] ≡ []
unfolding held_in
none_left o p text role = refl

pub none_tried : {d : List ℕ} {at n : ℕ} (o : Origin) (p : Place) (text : List ℕ) (role : ℕ) → n ≡ more at 0 → Noted d at (words_of (held_in o p text role [])) n d
none_tried o p text role e = rw (none_left o p text role) (none_stored e)

-- none of the separators is held
pub none_held : (o : Origin) (p : Place) (text : List ℕ) (a b c : ℕ) (r : Rust.Option ℕ) → holds_any (one_of a b c (unwrap_or r a)) text ≡ false → held_in o p text 0 (a ∷ b ∷ c ∷ tried_last r) ≡ []
none_held o p text a b c r e =
    let n = none_of a b c (unwrap_or r a) text e in
    rw (held_rest o p text 0 a (b ∷ c ∷ tried_last r), not_held o p text 0 a n.0, held_rest o p text 1 b (c ∷ tried_last r), not_held o p text 1 b n.1, held_rest o p text 2 c (tried_last r), not_held o p text 2 c n.2)
    (go r n.3)
  where
    go : (x : Rust.Option ℕ) → holds (unwrap_or x a) text ≡ false → held_in o p text 3 (tried_last x) ≡ []
    go None f = none_left o p text 3
    go (Some d) f = not_held o p text 3 d f

-- ---- a reason

pub stored_reason : {d d₁ : List ℕ} {at n : ℕ} {w : Spot} (o : Origin) (p : Place) (reason : ℕ) → w ≡ spot_of o p → 0 < reason → Noted d at (spotted 5 w reason 0) n d₁
    → Noted d at (words_of (unwritten o p reason)) n d₁
unfolding unwritten record_of
stored_reason o p zero e h s = absurd (not-suc-le-zero h)
stored_reason {w = w} o p (suc k) e h s = rw (words_one (not_writable o p (suc k))) (rw (spot_words w o p 5 (suc k) 0 e) at s)

pub stored_no_reason : {d : List ℕ} {at n : ℕ} (o : Origin) (p : Place) (reason : ℕ) → reason ≤ 0 → n ≡ more at 0 → Noted d at (words_of (unwritten o p reason)) n d
unfolding unwritten
stored_no_reason o p zero h e = none_stored e
stored_no_reason o p (suc k) h e = absurd (not-suc-le-zero h)

-- neither a reason nor a separator: no finding
pub none_found : (o : Origin) (p : Place) (reason : ℕ) (text bs : List ℕ) → reason ≤ 0 → held_in o p text 0 bs ≡ [] → unwritten o p reason ++ held_in o p text 0 bs ≡ []
unfolding unwritten
none_found o p zero text bs h e = e
none_found o p (suc k) text bs h e = absurd (not-suc-le-zero h)

pub still_fits : {d d₁ items : List ℕ} {at n : ℕ} → length d ≤ wide → Noted d at items n d₁ → length d₁ ≤ wide
still_fits {items = items} h s = rw (stored_length items s) h

-- ---- the separators of a job

pub tried_separators : (e : Envelope) (d : Delimiters) → d.element ≡ e.element → d.component ≡ e.component → d.segment ≡ e.segment → d.repetition ≡ e.repetition
    → tried d ≡ separators e
unfolding separators
tried_separators e d a b c r = rw (a, b, c, ← r) (go d.repetition)
  where
    go : (x : Rust.Option ℕ) → e.element ∷ e.component ∷ e.segment ∷ tried_last x ≡ separators (record { sender_qualifier = e.sender_qualifier; sender_id = e.sender_id; receiver_qualifier = e.receiver_qualifier; receiver_id = e.receiver_id; application_sender = e.application_sender; application_receiver = e.application_receiver; date = e.date; time = e.time; usage_indicator = e.usage_indicator; control_number = e.control_number; element = e.element; component = e.component; segment = e.segment; repetition = x; line_break = e.line_break })
    go None = refl
    go (Some x) = refl
