-- Laws of the definitions of specs/Decoding, and words that only proofs use.
use Rattle.std.specs.Prelude.{ℕ, ◌+◌, ◌≤◌, ◌<◌, refl, List, ◌++◌, Bool, not, length, ltb, eqb, None, Some}
use Rattle.std.proofs.Math.Path.{◌≡◌}
use Rattle.std.proofs.Common.{sym, ap, subst, ◌∙◌, arith, length-append, lt-ltb, le-ltb, eq-eqb, ltb-false, eqb-true}
use Rattle.std.proofs.Math.Bool.{true, false}
use Rattle.codec.specs.Codec.{Got, got, bad, Codec, pick, le, enc_le, Here}
use Rattle.codec.specs.Skip.{skip, Is}
use Rattle.codec.specs.Whole.{used_up}
use Rattle.codec.proofs.Whole.{used_up_lem}
use Rattle.codec.specs.Limits.{any}
use Rattle.codec.proofs.Limits.{alone, none_of}
use Rattle.format.specs.Spec.{spec_c}
use Rattle.format.specs.Plan.{plan_c}
use Rattle.format.specs.Layout.{layout_c}
use Rattle.format.specs.Envelope.{envelope_c}
use Rattle.format.specs.Data.{data_c}
use Rattle.format.specs.Job.{Job}
use Rattle.format.specs.Sections.{trailer, spec_start, plan_start, layout_start, envelope_start, data_start, whole_length, broken, spoilt, decode, job_of, trailer_of, framed}
use Rattle.format.specs.Decoding.{ReadAs, Sound}

-- ---- the frame around five sections
-- six numbers of four bytes, one after the other
pub record Six (b : List ℕ) (at n₀ n₁ n₂ n₃ n₄ n₅ : ℕ) : Type 0 where
  pub is₀ : le 4 b at ≡ n₀
  pub is₁ : le 4 b (at + 4) ≡ n₁
  pub is₂ : le 4 b (at + 8) ≡ n₂
  pub is₃ : le 4 b (at + 12) ≡ n₃
  pub is₄ : le 4 b (at + 16) ≡ n₄
  pub is₅ : le 4 b (at + 20) ≡ n₅

abbrev pub six : ℕ → ℕ → ℕ → ℕ → ℕ → ℕ → List ℕ
six n₀ n₁ n₂ n₃ n₄ n₅ = enc_le 4 n₀ ++ (enc_le 4 n₁ ++ (enc_le 4 n₂ ++ (enc_le 4 n₃ ++ (enc_le 4 n₄ ++ enc_le 4 n₅))))

abbrev pub small : ℕ → Type 0
small n = n < 4294967296

pub framed_length : (s p l e d : List ℕ) → length (framed s p l e d) ≡ length s + length p + length l + length e + length d + 24
unfolding framed
framed_length s p l e d =
    let t : List ℕ = trailer_of (length s) (length p) (length l) (length e) (length d) in
    let i₁ = length-append s (p ++ (l ++ (e ++ (d ++ t)))) in
    let i₂ = length-append p (l ++ (e ++ (d ++ t))) in
    let i₃ = length-append l (e ++ (d ++ t)) in
    let i₄ = length-append e (d ++ t) in
    let i₅ = length-append d t in
    omega (arith, i₁, i₂, i₃, i₄, i₅)

-- where the parts of a framed list stand
pub record Frame (b s p l e d : List ℕ) : Type 0 where
  pub end : trailer b ≡ length s + length p + length l + length e + length d
  pub start : spec_start b ≡ 0
  pub plan : plan_start b ≡ length s
  pub layout : layout_start b ≡ length s + length p
  pub envelope : envelope_start b ≡ length s + length p + length l
  pub tables : data_start b ≡ length s + length p + length l + length e
  pub whole : whole_length b ≡ length b
  pub here₀ : Here b 0 s
  pub here₁ : Here b (length s) p
  pub here₂ : Here b (length s + length p) l
  pub here₃ : Here b (length s + length p + length l) e
  pub here₄ : Here b (length s + length p + length l + length e) d

-- ---- what stands where: each section is read from its start, and ends at the next

-- from a section to what stands at its start
pub is_read : {A : Type 0} (C : Codec A) (b : List ℕ) (at e : ℕ) (v : A) → C.read b at e ≡ got v e → Is C b e at v
unfolding skip
is_read C b at e v h = rw h

pub decode_read : (b : List ℕ) (j : Job) → ReadAs b j → decode b ≡ Some j
unfolding decode spoilt any
decode_read b j r = rw (r.sound, r.spec, r.plan, r.layout, r.envelope, r.tables) (simp (same (plan_start b), same (layout_start b), same (envelope_start b), same (data_start b), same (trailer b)))
  where
    same : (n : ℕ) → eqb n n ≡ true
    same n = eq-eqb n n refl

pub job_read : (b : List ℕ) (j : Job) → ReadAs b j → job_of b ≡ j
unfolding job_of
job_read b j r = rw (decode_read b j r)

section : {A : Type 0} (g : Got A) (e : ℕ) → not (used_up g e) ≡ false → (v : A) × (g ≡ got v e)
section (got v n) e h = (v, go (eqb n e) refl h)
  where
    go : (t : Bool) → eqb n e ≡ t → not t ≡ false → got v n ≡ got v e
    go true q h = let i : n ≡ e = eqb-true n e q in rw i
    go false q h = absurd (let z : ◌≡◌ {A = ℕ} 0 1 = cc in omega arith)
section bad e h = absurd (let z : ◌≡◌ {A = ℕ} 0 1 = cc in omega arith)

some_read : (b : List ℕ) → broken b ≡ false → spoilt b ≡ false → (j : Job) × ReadAs b j
unfolding spoilt
some_read b h q =
    let q₀ = none_of _ _ q in
    let q₁ = none_of _ _ q₀.1 in
    let q₂ = none_of _ _ q₁.1 in
    let q₃ = none_of _ _ q₂.1 in
    let q₄ = none_of _ _ q₃.1 in
    let s₀ = section (spec_c.read b 0 (plan_start b)) (plan_start b) q₀.0 in
    let s₁ = section (plan_c.read b (plan_start b) (layout_start b)) (layout_start b) q₁.0 in
    let s₂ = section (layout_c.read b (layout_start b) (envelope_start b)) (envelope_start b) q₂.0 in
    let s₃ = section (envelope_c.read b (envelope_start b) (data_start b)) (data_start b) q₃.0 in
    let s₄ = section (data_c.read b (data_start b) (trailer b)) (trailer b) q₄.0 in (
      record { spec = s₀.0; plan = s₁.0; layout = s₂.0; envelope = s₃.0; tables = s₄.0 },
      record { sound = h; spec = s₀.1; plan = s₁.1; layout = s₂.1; envelope = s₃.1; tables = s₄.1 },
    )

-- the job of bytes that are neither broken nor spoilt
pub read_job : (b : List ℕ) → broken b ≡ false → spoilt b ≡ false → ReadAs b (job_of b)
read_job b h q =
    let r = some_read b h q in
    subst (λ (j : Job). ReadAs b j) (sym (job_read b r.0 r.1)) r.1

-- the job that is decoded is read
pub read_decoded : (b : List ℕ) (j : Job) → decode b ≡ Some j → ReadAs b j
read_decoded b j h = go (broken b) (spoilt b) refl refl
  where
    go : (p q : Bool) → broken b ≡ p → spoilt b ≡ q → ReadAs b j
    go false false i k =
        let r = some_read b i k in
        let s : Some r.0 ≡ Some j = sym (decode_read b r.0 r.1) ∙ h in
        let w : r.0 ≡ j = cc in
        subst (λ (j : Job). ReadAs b j) w r.1
    go true q i k = absurd (let z : ◌≡◌ {A = ℕ} 0 1 = (let s : None ≡ Some j = (unfold decode in (sym (rw i) ∙ h)) in cc) in omega arith)
    go false true i k = absurd (let z : ◌≡◌ {A = ℕ} 0 1 = (let s : None ≡ Some j = (unfold decode in (sym (rw (i, k)) ∙ h)) in cc) in omega arith)

kept : (t : Bool) → not t ≡ false → t ≡ true
kept true h = refl
kept false h = absurd (let z : ◌≡◌ {A = ℕ} 0 1 = cc in omega arith)

pub sound_of : (b : List ℕ) → broken b ≡ false → Sound b
unfolding broken
sound_of b h =
    let q₀ = none_of _ _ h in
    let q₁ = none_of _ _ q₀.1 in
    let q₂ = none_of _ _ q₁.1 in
    let q₃ = none_of _ _ q₂.1 in
    let q₄ = none_of _ _ q₃.1 in
    let q₅ = none_of _ _ q₄.1 in
    let q₆ = none_of _ _ q₅.1 in
    let q₇ = none_of _ _ q₆.1 in
    record {
      least = ltb-false _ _ q₀.0;
      most = ltb-false _ _ q₁.0;
      start = eqb-true _ _ (kept _ q₂.0);
      plan = ltb-false _ _ q₃.0;
      layout = ltb-false _ _ q₄.0;
      envelope = ltb-false _ _ q₅.0;
      tables = ltb-false _ _ q₆.0;
      whole = eqb-true _ _ (kept _ q₇.0);
    }

-- ---- what the code computes: the numbers of the trailer, then where each section ends
pub broken_is : (b : List ℕ) (t s p l e d w : ℕ) → 24 ≤ length b → length b ≤ 65536 → t ≡ trailer b → s ≡ le 4 b t → p ≡ le 4 b (t + 4) → l ≡ le 4 b (t + 8) → e ≡ le 4 b (t + 12) → d ≡ le 4 b (t + 16) → w ≡ le 4 b (t + 20)
    → pick (not (eqb s 0)) true (pick (ltb l p) true (pick (ltb e l) true (pick (ltb d e) true (pick (ltb t d) true (not (eqb w (length b))))))) ≡ broken b
unfolding broken any
broken_is b t s p l e d w m n h₀ h₁ h₂ h₃ h₄ h₅ h₆ = rw (h₁, h₂, h₃, h₄, h₅, h₆, h₀, le-ltb _ _ m, le-ltb _ _ n) (ap (last (not (eqb (spec_start b) 0)) (ltb (layout_start b) (plan_start b)) (ltb (envelope_start b) (layout_start b)) (ltb (data_start b) (envelope_start b)) (ltb (trailer b) (data_start b))) (alone (not (eqb (whole_length b) (length b)))))
  where
    last : Bool → Bool → Bool → Bool → Bool → Bool → Bool
    last x y z v u t = pick x true (pick y true (pick z true (pick v true (pick u true t))))

pub broken_short : (b : List ℕ) → length b < 24 → true ≡ broken b
unfolding broken any
broken_short b h = sym (simp (lt-ltb _ _ h))

pub broken_long : (b : List ℕ) → 24 ≤ length b → 65536 < length b → true ≡ broken b
unfolding broken any
broken_long b h i = sym (simp (le-ltb _ _ h, lt-ltb _ _ i))

pub spoilt_is : (b : List ℕ) (t p l e d x y z v w : ℕ) → t ≡ trailer b → p ≡ le 4 b (t + 4) → l ≡ le 4 b (t + 8) → e ≡ le 4 b (t + 12) → d ≡ le 4 b (t + 16)
    → x ≡ skip spec_c b 0 p → y ≡ skip plan_c b p l → z ≡ skip layout_c b l e → v ≡ skip envelope_c b e d → w ≡ skip data_c b d t
    → pick (not (eqb x p)) true (pick (not (eqb y l)) true (pick (not (eqb z e)) true (pick (not (eqb v d)) true (not (eqb w t))))) ≡ spoilt b
unfolding spoilt any
spoilt_is b t p l e d x y z v w h₀ h₁ h₂ h₃ h₄ i₀ i₁ i₂ i₃ i₄ =
    rw (
      i₀,
      i₁,
      i₂,
      i₃,
      i₄,
      h₁,
      h₂,
      h₃,
      h₄,
      h₀,
      used_up_lem spec_c b 0 (plan_start b),
      used_up_lem plan_c b (plan_start b) (layout_start b),
      used_up_lem layout_c b (layout_start b) (envelope_start b),
      used_up_lem envelope_c b (envelope_start b) (data_start b),
      used_up_lem data_c b (data_start b) (trailer b),
    )
    (ap (λ (t : Bool). pick (not (eqb (skip spec_c b 0 (plan_start b)) (plan_start b))) true (pick (not (eqb (skip plan_c b (plan_start b) (layout_start b)) (layout_start b))) true (pick (not (eqb (skip layout_c b (layout_start b) (envelope_start b)) (envelope_start b))) true (pick (not (eqb (skip envelope_c b (envelope_start b) (data_start b)) (data_start b))) true t))))
    (alone (not (eqb (skip data_c b (data_start b) (trailer b)) (trailer b)))))
