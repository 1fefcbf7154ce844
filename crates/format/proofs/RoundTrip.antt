-- Decoding and encoding undo each other: the job's format, there and back.
use Rattle.std.specs.Prelude.{ℕ, ◌+◌, ◌≤◌, refl, List, ◌++◌, length, Some}
use Rattle.std.proofs.Math.Path.{◌≡◌}
use Rattle.std.proofs.Common.{sym, ◌∙◌, arith, zero-add, le-ltb, eq-eqb}
use Rattle.std.proofs.Math.Bool.{false}
use Rattle.codec.specs.Codec.{got, Codec, le, enc_le, Here, Bytes, here_l, here_r, here_join, le_there, le_back}
use Rattle.codec.proofs.Whole.{here_self, here_all}
use Rattle.codec.specs.Limits.{any}
use Rattle.format.specs.Spec.{spec_c}
use Rattle.format.specs.Plan.{plan_c}
use Rattle.format.specs.Layout.{layout_c}
use Rattle.format.specs.Envelope.{envelope_c}
use Rattle.format.specs.Data.{data_c}
use Rattle.format.specs.Job.{Job}
use Rattle.format.specs.Sections.{trailer, plan_start, layout_start, envelope_start, data_start, broken, spoilt, decode, job_of, trailer_of, framed, encode, Fits}
use Rattle.format.proofs.Decoding.{Six, six, small, framed_length, Frame, decode_read, job_read, read_job, read_decoded, sound_of}
use Rattle.format.specs.Decoding.{ReadAs, Sound}

module _ (b : List ℕ) (at n₀ n₁ n₂ n₃ n₄ n₅ : ℕ) where
  six_there : Here b at (six n₀ n₁ n₂ n₃ n₄ n₅) → small n₀ → small n₁ → small n₂ → small n₃ → small n₄ → small n₅ → Six b at n₀ n₁ n₂ n₃ n₄ n₅
  six_there h q₀ q₁ q₂ q₃ q₄ q₅ =
      let e₂ : at + 4 + 4 ≡ at + 8 = omega arith in
      let e₃ : at + 8 + 4 ≡ at + 12 = omega arith in
      let e₄ : at + 12 + 4 ≡ at + 16 = omega arith in
      let e₅ : at + 16 + 4 ≡ at + 20 = omega arith in
      let r₁ : List ℕ = enc_le 4 n₁ ++ (enc_le 4 n₂ ++ (enc_le 4 n₃ ++ (enc_le 4 n₄ ++ enc_le 4 n₅))) in
      let r₂ : List ℕ = enc_le 4 n₂ ++ (enc_le 4 n₃ ++ (enc_le 4 n₄ ++ enc_le 4 n₅)) in
      let r₃ : List ℕ = enc_le 4 n₃ ++ (enc_le 4 n₄ ++ enc_le 4 n₅) in
      let r₄ : List ℕ = enc_le 4 n₄ ++ enc_le 4 n₅ in
      let h₁ : Here b (at + 4) r₁ = here_r b at (enc_le 4 n₀) r₁ h in
      let h₂ : Here b (at + 8) r₂ = rw (← e₂) (here_r b (at + 4) (enc_le 4 n₁) r₂ h₁) in
      let h₃ : Here b (at + 12) r₃ = rw (← e₃) (here_r b (at + 8) (enc_le 4 n₂) r₃ h₂) in
      let h₄ : Here b (at + 16) r₄ = rw (← e₄) (here_r b (at + 12) (enc_le 4 n₃) r₄ h₃) in
      let h₅ : Here b (at + 20) (enc_le 4 n₅) = rw (← e₅) (here_r b (at + 16) (enc_le 4 n₄) (enc_le 4 n₅) h₄) in
      record {
        is₀ = le_there 4 b at n₀ q₀ (here_l b at (enc_le 4 n₀) r₁ h);
        is₁ = le_there 4 b (at + 4) n₁ q₁ (here_l b (at + 4) (enc_le 4 n₁) r₂ h₁);
        is₂ = le_there 4 b (at + 8) n₂ q₂ (here_l b (at + 8) (enc_le 4 n₂) r₃ h₂);
        is₃ = le_there 4 b (at + 12) n₃ q₃ (here_l b (at + 12) (enc_le 4 n₃) r₄ h₃);
        is₄ = le_there 4 b (at + 16) n₄ q₄ (here_l b (at + 16) (enc_le 4 n₄) (enc_le 4 n₅) h₄);
        is₅ = le_there 4 b (at + 20) n₅ q₅ h₅;
      }

pub frame : (s p l e d : List ℕ) → length (framed s p l e d) ≤ 65536 → Frame (framed s p l e d) s p l e d
unfolding framed
frame s p l e d q = go (framed s p l e d) (framed_length s p l e d) q (here_self (framed s p l e d))
  where
    t : List ℕ
    t = trailer_of (length s) (length p) (length l) (length e) (length d)

    go : (b : List ℕ) → length b ≡ length s + length p + length l + length e + length d + 24 → length b ≤ 65536 → Here b 0 (s ++ (p ++ (l ++ (e ++ (d ++ t))))) → Frame b s p l e d
    go b n q h =
        let h₁ = rw zero-add at (here_r b 0 s (p ++ (l ++ (e ++ (d ++ t)))) h) in
        let h₂ = here_r b (length s) p (l ++ (e ++ (d ++ t))) h₁ in
        let h₃ = here_r b (length s + length p) l (e ++ (d ++ t)) h₂ in
        let h₄ = here_r b (length s + length p + length l) e (d ++ t) h₃ in
        let h₅ = here_r b (length s + length p + length l + length e) d t h₄ in
        let m : length s + length p + length l + length e + length d ≡ trailer b = omega arith in
        let six : Six b (trailer b) 0 (length s) (length s + length p) (length s + length p + length l) (length s + length p + length l + length e) (length s + length p + length l + length e + length d + 24) =
        six_there b (trailer b) _ _ _ _ _ _ (rw (← m) h₅) (omega arith) (omega arith) (omega arith) (omega arith) (omega arith) (omega arith) in
        record {
          end = sym m;
          start = six.is₀;
          plan = six.is₁;
          layout = six.is₂;
          envelope = six.is₃;
          tables = six.is₄;
          whole = six.is₅ ∙ sym n;
          here₀ = here_l b 0 s (p ++ (l ++ (e ++ (d ++ t)))) h;
          here₁ = here_l b (length s) p (l ++ (e ++ (d ++ t))) h₁;
          here₂ = here_l b (length s + length p) l (e ++ (d ++ t)) h₂;
          here₃ = here_l b (length s + length p + length l) e (d ++ t) h₃;
          here₄ = here_l b (length s + length p + length l + length e) d t h₄;
        }

-- ---- encoding, then decoding
stands : {A : Type 0} (C : Codec A) (b : List ℕ) (at p e : ℕ) (v : A) → C.Fits v → at ≡ p → Here b p (C.enc v) → e ≡ p + length (C.enc v) → C.read b at e ≡ got v e
stands C b at p e v f i h q = rw i (C.there b p e v f h (omega arith) ∙ rw (← q))

frame_sound : (b s p l e d : List ℕ) → 24 ≤ length b → length b ≤ 65536 → Frame b s p l e d → broken b ≡ false
unfolding broken any
frame_sound b s p l e d m n f =
    let t₂ : plan_start b ≤ layout_start b = omega (arith, f.plan, f.layout) in
    let t₃ : layout_start b ≤ envelope_start b = omega (arith, f.layout, f.envelope) in
    let t₄ : envelope_start b ≤ data_start b = omega (arith, f.envelope, f.tables) in
    let t₅ : data_start b ≤ trailer b = omega (arith, f.tables, f.end) in
    simp (le-ltb _ _ m, le-ltb _ _ n, eq-eqb _ _ f.start, le-ltb _ _ t₂, le-ltb _ _ t₃, le-ltb _ _ t₄, le-ltb _ _ t₅, eq-eqb _ _ f.whole)

pub read_encoded : (j : Job) → Fits j → ReadAs (encode j) j
unfolding encode
read_encoded j k =
    let s : List ℕ = spec_c.enc j.spec in
    let p : List ℕ = plan_c.enc j.plan in
    let l : List ℕ = layout_c.enc j.layout in
    let e : List ℕ = envelope_c.enc j.envelope in
    let d : List ℕ = data_c.enc j.tables in
    let b : List ℕ = framed s p l e d in
    let f : Frame b s p l e d = frame s p l e d k.size in
    let m : 24 ≤ length b = omega (arith, framed_length s p l e d) in
    record {
      sound = frame_sound b s p l e d m k.size f;
      spec = stands spec_c b 0 0 _ j.spec k.spec refl f.here₀ (f.plan ∙ sym (zero-add _));
      plan = stands plan_c b _ _ _ j.plan k.plan f.plan f.here₁ f.layout;
      layout = stands layout_c b _ _ _ j.layout k.layout f.layout f.here₂ f.envelope;
      envelope = stands envelope_c b _ _ _ j.envelope k.envelope f.envelope f.here₃ f.tables;
      tables = stands data_c b _ _ _ j.tables k.tables f.tables f.here₄ f.end;
    }

pub decode_encode : (j : Job) → Fits j → decode (encode j) ≡ Some j
decode_encode j k = decode_read (encode j) j (read_encoded j k)

pub job_encode : (j : Job) → Fits j → job_of (encode j) ≡ j
job_encode j k = job_read (encode j) j (read_encoded j k)

-- ---- decoding, then encoding
six_back : (b : List ℕ) (at n₀ n₁ n₂ n₃ n₄ n₅ : ℕ) → Bytes b → Six b at n₀ n₁ n₂ n₃ n₄ n₅ → Here b at (six n₀ n₁ n₂ n₃ n₄ n₅)
six_back b at n₀ n₁ n₂ n₃ n₄ n₅ bs q =
    let e₂ : at + 4 + 4 ≡ at + 8 = omega arith in
    let e₃ : at + 8 + 4 ≡ at + 12 = omega arith in
    let e₄ : at + 12 + 4 ≡ at + 16 = omega arith in
    let e₅ : at + 16 + 4 ≡ at + 20 = omega arith in
    let h₄ : Here b (at + 16) (enc_le 4 n₄ ++ enc_le 4 n₅) = here_join b (at + 16) (enc_le 4 n₄) (enc_le 4 n₅) (one (at + 16) n₄ q.is₄) (rw e₅ (one (at + 20) n₅ q.is₅)) in
    let h₃ : Here b (at + 12) (enc_le 4 n₃ ++ (enc_le 4 n₄ ++ enc_le 4 n₅)) = here_join b (at + 12) (enc_le 4 n₃) (enc_le 4 n₄ ++ enc_le 4 n₅) (one (at + 12) n₃ q.is₃) (rw e₄ h₄) in
    let h₂ : Here b (at + 8) (enc_le 4 n₂ ++ (enc_le 4 n₃ ++ (enc_le 4 n₄ ++ enc_le 4 n₅))) = here_join b (at + 8) (enc_le 4 n₂) (enc_le 4 n₃ ++ (enc_le 4 n₄ ++ enc_le 4 n₅)) (one (at + 8) n₂ q.is₂) (rw e₃ h₃) in
    let h₁ : Here b (at + 4) (enc_le 4 n₁ ++ (enc_le 4 n₂ ++ (enc_le 4 n₃ ++ (enc_le 4 n₄ ++ enc_le 4 n₅)))) =
    here_join b (at + 4) (enc_le 4 n₁) (enc_le 4 n₂ ++ (enc_le 4 n₃ ++ (enc_le 4 n₄ ++ enc_le 4 n₅))) (one (at + 4) n₁ q.is₁) (rw e₂ h₂) in
    here_join b at (enc_le 4 n₀) (enc_le 4 n₁ ++ (enc_le 4 n₂ ++ (enc_le 4 n₃ ++ (enc_le 4 n₄ ++ enc_le 4 n₅)))) (one at n₀ q.is₀) h₁
  where
    one : (p n : ℕ) → le 4 b p ≡ n → Here b p (enc_le 4 n)
    one p n q = rw q at (le_back 4 b p bs).1

-- a list whose parts stand where a frame has them is that frame
rejoined : (b s p l e d : List ℕ) → Bytes b → 24 ≤ length b → Frame b s p l e d → framed s p l e d ≡ b
unfolding framed
rejoined b s p l e d bs m f =
    let t : List ℕ = trailer_of (length s) (length p) (length l) (length e) (length d) in
    let n : length b ≡ length s + length p + length l + length e + length d + 24 = omega (arith, f.end) in
    let six : Six b (trailer b) 0 (length s) (length s + length p) (length s + length p + length l) (length s + length p + length l + length e) (length s + length p + length l + length e + length d + 24) =
    record { is₀ = f.start; is₁ = f.plan; is₂ = f.layout; is₃ = f.envelope; is₄ = f.tables; is₅ = f.whole ∙ n } in
    let h₅ : Here b (length s + length p + length l + length e + length d) t = rw f.end at (six_back b (trailer b) _ _ _ _ _ _ bs six) in
    let h₄ : Here b (length s + length p + length l + length e) (d ++ t) = here_join b _ d t f.here₄ h₅ in
    let h₃ : Here b (length s + length p + length l) (e ++ (d ++ t)) = here_join b _ e (d ++ t) f.here₃ h₄ in
    let h₂ : Here b (length s + length p) (l ++ (e ++ (d ++ t))) = here_join b _ l (e ++ (d ++ t)) f.here₂ h₃ in
    let h₁ : Here b (length s) (p ++ (l ++ (e ++ (d ++ t)))) = here_join b _ p (l ++ (e ++ (d ++ t))) f.here₁ h₂ in
    let h₀ : Here b 0 (s ++ (p ++ (l ++ (e ++ (d ++ t))))) = here_join b 0 s (p ++ (l ++ (e ++ (d ++ t)))) f.here₀ (rw zero-add h₁) in
    here_all b (framed s p l e d) h₀ (framed_length s p l e d ∙ sym n)

pub encode_read : (b : List ℕ) (j : Job) → Bytes b → ReadAs b j → (encode j ≡ b) × Fits j
unfolding encode
encode_read b j bs r =
    let o : Sound b = sound_of b r.sound in
    let s = spec_c.back b 0 (plan_start b) j.spec (plan_start b) bs r.spec in
    let p = plan_c.back b (plan_start b) (layout_start b) j.plan (layout_start b) bs r.plan in
    let l = layout_c.back b (layout_start b) (envelope_start b) j.layout (envelope_start b) bs r.layout in
    let e = envelope_c.back b (envelope_start b) (data_start b) j.envelope (data_start b) bs r.envelope in
    let d = data_c.back b (data_start b) (trailer b) j.tables (trailer b) bs r.tables in
    let n₁ : plan_start b ≡ length (spec_c.enc j.spec) = s.next ∙ zero-add _ in
    let n₂ : layout_start b ≡ length (spec_c.enc j.spec) + length (plan_c.enc j.plan) = p.next ∙ rw n₁ in
    let n₃ : envelope_start b ≡ length (spec_c.enc j.spec) + length (plan_c.enc j.plan) + length (layout_c.enc j.layout) = l.next ∙ rw n₂ in
    let n₄ : data_start b ≡ length (spec_c.enc j.spec) + length (plan_c.enc j.plan) + length (layout_c.enc j.layout) + length (envelope_c.enc j.envelope) = e.next ∙ rw n₃ in
    let n₅ : trailer b ≡ length (spec_c.enc j.spec) + length (plan_c.enc j.plan) + length (layout_c.enc j.layout) + length (envelope_c.enc j.envelope) + length (data_c.enc j.tables) = d.next ∙ rw n₄ in
    let f : Frame b (spec_c.enc j.spec) (plan_c.enc j.plan) (layout_c.enc j.layout) (envelope_c.enc j.envelope) (data_c.enc j.tables) = record {
      end = n₅;
      start = o.start;
      plan = n₁;
      layout = n₂;
      envelope = n₃;
      tables = n₄;
      whole = o.whole;
      here₀ = s.here;
      here₁ = rw n₁ at p.here;
      here₂ = rw n₂ at l.here;
      here₃ = rw n₃ at e.here;
      here₄ = rw n₄ at d.here;
    } in
    let w : encode j ≡ b = rejoined b _ _ _ _ _ bs o.least f in
    (w, record { spec = s.fits; plan = p.fits; layout = l.fits; envelope = e.fits; tables = d.fits; size = rw w o.most })

pub encode_decode : (b : List ℕ) (j : Job) → Bytes b → decode b ≡ Some j → (encode j ≡ b) × Fits j
encode_decode b j bs h = encode_read b j bs (read_decoded b j h)

-- the bytes of a job that is neither broken nor spoilt
pub encode_job : (b : List ℕ) → Bytes b → broken b ≡ false → spoilt b ≡ false → encode (job_of b) ≡ b
encode_job b bs h q = (encode_read b (job_of b) bs (read_job b h q)).0
