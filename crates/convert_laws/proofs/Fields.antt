-- A record of 56 bytes with another i32 at an immediate's place: the instruction with that immediate, and the same codes.
-- Assumes nothing.
use mathlib.Core.Path.{◌≡◌, refl, sym, ◌∙◌, ap, subst}
use mathlib.Core.List.{List, [], ◌∷◌, ◌++◌}
use Prim.Native.Nat.{ℕ, zero, suc, ◌+◌, ◌*◌, ◌-◌, ◌/◌, ◌%◌, ◌<◌, ◌≤◌}
use native.Mathlib.Omega.{arith}
use lib.IntN.{ℤ, pos, negsuc}
use lib.ListN.{length, get_or, take, drop, drop_of_length-le, length-append, length-drop}
use lib.Seq.{drop-cons, length-take-le}
use lib.Signed.{mag}
use borrow.Author.Tests.{lt-ltb, le-ltb}
use Rattle.mrc_compiler.specs.Values.{mod_z}
use Rattle.base_values.specs.Distances.{as_i_32}
use Rattle.encode_spec.specs.Records.{dst, src}
use Rattle.show_record.specs.Record.{first_place, second_place, imm_place, record_length, u32_of, operand_at, instruction_at, operand_known, codes_known}
use Rattle.convert_spec.specs.Counts.{with_imm, with_operands}
use Rattle.convert_spec.specs.Written.{replaced}
use Rattle.convert_laws.specs.NewRecords.{with_first}

-- ---- an i32's bytes give it back
u32_back : (n : ℕ) → u32_of (n % 256) (n / 256 % 256) (n / 65536 % 256) (n / 65536 / 256) ≡ n
u32_back n =
    let q : ℕ = n / 65536 in
    let l : n % 256 + 256 * (n / 256 % 256) ≡ n % 65536 = omega arith in
    let u : q % 256 + 256 * (q / 256) ≡ q = omega arith in
    omega arith

i32_back : (z : ℤ) → mag z < 2147483648 → as_i_32 (mod_z 4294967296 z) ≡ z
i32_back (pos n) h =
    let e : n % 4294967296 ≡ n = omega arith in
    rw (e, lt-ltb n 2147483648 h)
i32_back (negsuc n) h =
    let e : 4294967296 - 1 - n % 4294967296 ≡ 4294967295 - n = omega arith in
    let l : 2147483648 ≤ 4294967295 - n = omega arith in
    let d : 4294967295 - (4294967295 - n) ≡ n = omega arith in
    rw (e, le-ltb (4294967295 - n) 2147483648 l, d)

bytes_back : (z : ℤ) → mag z < 2147483648
    → as_i_32 (u32_of (mod_z 4294967296 z % 256) (mod_z 4294967296 z / 256 % 256) (mod_z 4294967296 z / 65536 % 256) (mod_z 4294967296 z / 65536 / 256)) ≡ z
bytes_back z h = ap as_i_32 (u32_back (mod_z 4294967296 z)) ∙ i32_back z h

-- ---- a list by its elements
abbrev elements : ℕ → ℕ → List ℕ → List ℕ
elements zero i l = []
elements (suc n) i l = get_or l i 0 ∷ elements n (suc i) l

elements_from : (n i : ℕ) (l : List ℕ) → length l ≡ i + n → elements n i l ≡ drop i l
elements_from zero i l h = sym (drop_of_length-le l {i = i} (omega arith))
elements_from (suc n) i l h = ap (λ (t : List ℕ). get_or l i 0 ∷ t) (elements_from n (suc i) l (omega arith)) ∙ sym (drop-cons l i 0 (omega arith))

-- ---- the record
pub replaced-length : (rec : List ℕ) (at : ℕ) (z : ℤ) → at + 4 ≤ length rec → length (replaced rec at z) ≡ length rec
replaced-length rec at z h =
    let t = length-take-le at rec (omega arith) in
    simp (length-append, length-drop) (omega arith)

module _ (rec : List ℕ) (l : length rec ≡ record_length) where
  pub no_repeat : (instruction_at rec).repeat ≡ 0
  unfolding instruction_at
  no_repeat = subst (λ (t : List ℕ). (instruction_at t).repeat ≡ 0) (elements_from 56 0 rec l) refl

  module _ (z : ℤ) where
    pub first_known : codes_known (replaced rec (first_place + imm_place) z) ≡ codes_known rec
    unfolding codes_known operand_known
    first_known = subst (λ (t : List ℕ). codes_known (replaced t (first_place + imm_place) z) ≡ codes_known t) (elements_from 56 0 rec l) refl

    pub second_known : codes_known (replaced rec (second_place + imm_place) z) ≡ codes_known rec
    unfolding codes_known operand_known
    second_known = subst (λ (t : List ℕ). codes_known (replaced t (second_place + imm_place) z) ≡ codes_known t) (elements_from 56 0 rec l) refl

    module _ (h : mag z < 2147483648) where
      pub first_replaced : instruction_at (replaced rec (first_place + imm_place) z) ≡ with_first (instruction_at rec) z
      unfolding instruction_at operand_at
      first_replaced =
          subst (λ (t : List ℕ). instruction_at (replaced t (first_place + imm_place) z) ≡ with_first (instruction_at t) z) (elements_from 56 0 rec l)
          (ap (with_first (instruction_at (elements 56 0 rec))) (bytes_back z h))

      pub second_replaced : instruction_at (replaced rec (second_place + imm_place) z) ≡ with_operands (instruction_at rec) (dst (instruction_at rec)) (with_imm (src (instruction_at rec)) z)
      unfolding instruction_at operand_at
      second_replaced =
          subst (λ (t : List ℕ). instruction_at (replaced t (second_place + imm_place) z) ≡ with_operands (instruction_at t) (dst (instruction_at t)) (with_imm (src (instruction_at t)) z)) (elements_from 56 0 rec l)
          (ap (λ (y : ℤ). with_operands (instruction_at (elements 56 0 rec)) (dst (instruction_at (elements 56 0 rec))) (with_imm (src (instruction_at (elements 56 0 rec))) y)) (bytes_back z h))
