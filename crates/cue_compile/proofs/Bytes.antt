-- What the encoder answers to the records of a program: none is refused, a cue has nine bytes and HLT one.
-- Assumes nothing.
use mathlib.Core.Path.{◌≡◌, refl, ap, ◌∙◌}
use mathlib.Core.Bool.{true}
use mathlib.Core.List.{List, [], ◌∷◌, ◌++◌}
use Prim.Native.Nat.{ℕ, suc, ◌+◌, ◌*◌, ◌/◌, ◌%◌, ◌<◌}
use native.Mathlib.Omega.{arith}
use lib.IntN.{pos, negsuc}
use lib.ListN.{length}
use borrow.Author.Tests.{lt-ltb, le-leb}
use Rattle.mrc_compiler.specs.declared.encoder.InstructionData.{InstructionData}
use Rattle.mrc_compiler.specs.Operations.{number_of}
use Rattle.mrc_compiler.specs.Values.{within}
use Rattle.x86.specs.Forms.{forms}
use Rattle.x86.specs.Reading.{prefix}
use Rattle.x86.specs.Listing.{Bytes}
use Rattle.base_values.specs.Distances.{distance_of}
use Rattle.encode_spec.specs.WellFormed.{well_formed}
use Rattle.encode_groups.specs.Grouping.{grouped_of}
use Rattle.encode_spec.specs.Choice.{forms_of}
use Rattle.encode_spec.specs.Layout.{layout}
use Rattle.encode_spec.specs.Questions.{questions}
use Rattle.encode_spec.specs.Answer.{bytes, answer}
use Rattle.cue_compile.specs.declared.Cue.{Cue}
use Rattle.cue_compile.specs.Cues.{cue, cues_in}
use Rattle.cue_compile.specs.Program.{move_delay, loop_to, move_mask, output, halt, program, assembled}

-- a number in a range from 0
inside : (n h : ℕ) → n < suc h → within (pos 0) (pos h) (pos n) ≡ true
inside n h l = rw (le-leb 0 n (omega arith), le-leb n h (omega arith))

-- and in one from below 0
inside_signed : (l n h : ℕ) → n < suc h → within (negsuc l) (pos h) (pos n) ≡ true
inside_signed l n h b = rw (le-leb n h (omega arith))

-- the distance of a branch of two bytes to itself
back : (at : ℕ) → distance_of (pos at) at 2 ≡ negsuc 1
back at =
    let e : at + 2 ≡ suc (at + 1) = omega arith in
    rw (e, lt-ltb at (suc (at + 1)) (omega arith)) (ap negsuc (omega arith))

pub delay_is : (d at : ℕ) → d < 65536 → answer (move_delay d) at ≡ bytes (0xB9 ∷ d % 256 ∷ d / 256 ∷ [])
unfolding answer questions well_formed prefix grouped_of forms_of forms number_of layout
delay_is d at h =
    let e : d % 65536 ≡ d = omega arith in
    rw (inside_signed 32767 d 65535 h, e)

pub loop_is : (at : ℕ) → answer (loop_to at) at ≡ bytes (0xE2 ∷ 0xFE ∷ [])
unfolding answer questions well_formed prefix grouped_of forms_of forms number_of layout
loop_is at = rw (back at)

pub mask_is : (m at : ℕ) → m < 256 → answer (move_mask m) at ≡ bytes (0xB0 ∷ m ∷ [])
unfolding answer questions well_formed prefix grouped_of forms_of forms number_of layout
mask_is m at h =
    let e : m % 256 ≡ m = omega arith in
    rw (inside_signed 127 m 255 h, e)

pub output_is : (p at : ℕ) → p < 256 → answer (output p) at ≡ bytes (0xE6 ∷ p ∷ [])
unfolding answer questions well_formed prefix grouped_of forms_of forms number_of layout
output_is p at h =
    let e : p % 256 ≡ p = omega arith in
    rw (inside p 255 h, e)

pub halt_is : (at : ℕ) → answer halt at ≡ bytes (0xF4 ∷ [])
unfolding answer questions well_formed prefix grouped_of forms_of forms number_of layout
halt_is at = refl

-- ---- the bytes of a cue, and of a program
-- delay, port and mask are what two bytes, one and one hold
pub record Sound (c : Cue) : Type 0 where
  pub delay_fits : c.delay < 65536
  pub port_fits : c.port < 256
  pub mask_fits : c.mask < 256

pub data Sounds : List Cue → Type 0 where
  none : Sounds []
  more : {c : Cue} {cs : List Cue} → Sound c → Sounds cs → Sounds (c ∷ cs)

abbrev pub cue_bytes : Cue → List ℕ
cue_bytes c = 0xB9 ∷ c.delay % 256 ∷ c.delay / 256 ∷ 0xE2 ∷ 0xFE ∷ 0xB0 ∷ c.mask ∷ 0xE6 ∷ c.port ∷ []

abbrev pub plain : List Cue → List ℕ
plain [] = 0xF4 ∷ []
plain (c ∷ cs) = cue_bytes c ++ plain cs

-- one record
pub next_is : (r : ℕ → InstructionData) (rs : List (ℕ → InstructionData)) (at : ℕ) (bs : List ℕ) → answer (r at) at ≡ bytes bs
    → assembled at (r ∷ rs) ≡ bs ++ assembled (at + length bs) rs
unfolding assembled
next_is r rs at bs e = rw e

module _ (c : Cue) (s : Sound c) (cs : List Cue) (at : ℕ) where
  pub cue_is : assembled at (program (c ∷ cs)) ≡ cue_bytes c ++ assembled (at + 9) (program cs)
  unfolding program
  cue_is =
      let move : ℕ → InstructionData = λ at. move_mask c.mask in
      let out : ℕ → InstructionData = λ at. output c.port in
      let d = next_is (λ at. move_delay c.delay) ((λ at. loop_to at) ∷ move ∷ out ∷ program cs) at _ (delay_is c.delay at s.delay_fits) in
      let l = next_is (λ at. loop_to at) (move ∷ out ∷ program cs) (at + 3) _ (loop_is (at + 3)) in
      let m = next_is move (out ∷ program cs) (at + 3 + 2) _ (mask_is c.mask (at + 3 + 2) s.mask_fits) in
      let p = next_is out (program cs) (at + 3 + 2 + 2) _ (output_is c.port (at + 3 + 2 + 2) s.port_fits) in
      let e : at + 3 + 2 + 2 + 2 ≡ at + 9 = omega arith in
      rw (d, l, m, p, e) refl

-- nothing is refused, and these are the bytes
pub program_is : (cs : List Cue) → Sounds cs → (at : ℕ) → assembled at (program cs) ≡ plain cs
unfolding program assembled
program_is [] none at = next_is (λ at. halt) [] at _ (halt_is at)
program_is (c ∷ cs) (more s ss) at = cue_is c s cs at ∙ ap (λ (l : List ℕ). cue_bytes c ++ l) (program_is cs ss (at + 9))

plain-length : (cs : List Cue) → length (plain cs) ≡ 9 * length cs + 1
plain-length [] = refl
plain-length (c ∷ cs) = let e = plain-length cs in omega arith

-- nine bytes a cue, and one
pub length_is : (cs : List Cue) → Sounds cs → (at : ℕ) → length (assembled at (program cs)) ≡ 9 * length cs + 1
length_is cs ss at = rw (program_is cs ss at) (plain-length cs)

-- ---- the cues in a list of bytes
pub all_sound : (s : List ℕ) → Bytes s → Sounds (cues_in s)
unfolding cues_in
all_sound [] bs = none
all_sound (a ∷ []) bs = none
all_sound (a ∷ b ∷ []) bs = none
all_sound (a ∷ b ∷ p ∷ []) bs = none
all_sound (a ∷ b ∷ p ∷ m ∷ s) bs =
    let ha : a < 256 = bs 0 in
    let hb : b < 256 = bs 1 in
    let c : Sound (cue (a + 256 * b) p m) = record { delay_fits = omega arith; port_fits = bs 2; mask_fits = bs 3 } in
    more c (all_sound s (λ i. bs (suc (suc (suc (suc i))))))
