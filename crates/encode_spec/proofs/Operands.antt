-- Operands by the tests that they passed: their kind, and what is well-formed about them.
-- Assumes nothing.
use mathlib.Core.Path.{◌≡◌, refl, sym, ◌∙◌, ap}
use Prim.Native.Nat.{ℕ, zero, suc, ◌<◌}
use native.Mathlib.Omega.{arith}
use mathlib.Core.Bool.{Bool, true, false}
use mathlib.Core.Logic.{◌⊎◌, inl, inr, ⊎_elim}
use mathlib.Core.List.{List, [], ◌∷◌, ◌++◌}
use lib.Dec.{eqb, ltb}
use lib.IntN.{ℤ}
use lib.ListN.{length, get_or}
use borrow.Author.Tests.{ltb-true, lt-ltb, eqb-true}
use Rattle.mrc_compiler.specs.declared.encoder.OperandData.{OperandData}
use Rattle.mrc_compiler.specs.declared.encoder.OperandKind.{OperandKind}
use Rattle.mrc_compiler.specs.declared.encoder.OperandKind.TheVariants as K
use Rattle.mrc_compiler.specs.declared.encoder.OperandSize.{OperandSize}
use Rattle.mrc_compiler.specs.Choose.{pick, either, by_size, by_kind}
use Rattle.mrc_compiler.specs.Values.{mod_z}
use Rattle.x86.specs.declared.Operand.TheVariants as O
use Rattle.x86.specs.Instructions.{base, in_effect, default_segment}
use Rattle.x86.specs.Reading.{displacement_length, displacement_at}
use Rattle.encode_spec.specs.WellFormed.{all, bytes_of, is_prefix, displacement_in, displacement_fits, well_formed}
use Rattle.encode_spec.specs.Operands.{counted}
use Rattle.encode_spec.specs.Layout.{displacement_bytes}
use Rattle.encode_spec.proofs.Values.{either_right, false-true, both_true, is_in_size, size_back, size_length}

-- ---- the kind of an operand that is taken
pub imm_taken : (k : OperandKind) (t : Bool) → by_kind k t false false false ≡ true → (k ≡ K.Imm) × (t ≡ true)
imm_taken K.Imm t e = (refl, e)
imm_taken K.Reg t e = false-true e
imm_taken K.Seg t e = false-true e
imm_taken K.Mem t e = false-true e

pub reg_taken : (k : OperandKind) (t : Bool) → by_kind k false t false false ≡ true → (k ≡ K.Reg) × (t ≡ true)
reg_taken K.Imm t e = false-true e
reg_taken K.Reg t e = (refl, e)
reg_taken K.Seg t e = false-true e
reg_taken K.Mem t e = false-true e

pub seg_taken : (k : OperandKind) (t : Bool) → by_kind k false false t false ≡ true → (k ≡ K.Seg) × (t ≡ true)
seg_taken K.Imm t e = false-true e
seg_taken K.Reg t e = false-true e
seg_taken K.Seg t e = (refl, e)
seg_taken K.Mem t e = false-true e

pub mem_taken : (k : OperandKind) (t : Bool) → by_kind k false false false t ≡ true → (k ≡ K.Mem) × (t ≡ true)
mem_taken K.Imm t e = false-true e
mem_taken K.Reg t e = false-true e
mem_taken K.Seg t e = false-true e
mem_taken K.Mem t e = (refl, e)

pub rm_taken : (k : OperandKind) (t : Bool) → by_kind k false t false t ≡ true → ((k ≡ K.Reg) ⊎ (k ≡ K.Mem)) × (t ≡ true)
rm_taken K.Imm t e = false-true e
rm_taken K.Reg t e = (inl refl, e)
rm_taken K.Seg t e = false-true e
rm_taken K.Mem t e = (inr refl, e)

-- ---- well-formed operands
-- a displacement of no bytes is 0
pub no_displacement : (s : OperandSize) (z : ℤ) → bytes_of s ≡ 0 → is_in_size s z ≡ true → mod_z 65536 z ≡ 0
no_displacement s z e t = sym (size_back s z [] t) ∙ rw e

-- where all hold, each does
all_at : (l : List Bool) → all l ≡ true → (i : ℕ) → get_or l i true ≡ true
all_at [] t i = refl
all_at (a ∷ l) t zero = (both_true a (all l) t).0
all_at (a ∷ l) t (suc i) = all_at l (both_true a (all l) t).1 i

-- an operand that can stand in r/m: what is read from its mode, r/m, prefix and displacement is the operand
pub record InRm (o : OperandData) : Type 0 where
  pub mode_4 : o.mode < 4
  pub rm_8 : o.rm < 8
  pub prefixed : is_prefix o.segment_prefix ≡ true
  pub before_memory : either (eqb o.segment_prefix 0) (ltb o.mode 3) ≡ true
  pub size : length (displacement_bytes o) ≡ displacement_length o.mode o.rm
  pub reads : (w : OperandSize) (r : List ℕ)
      → pick (ltb o.mode 3)
      (O.Memory (base o.mode o.rm) (displacement_at (displacement_length o.mode o.rm) (displacement_bytes o ++ r))
      (in_effect o.segment_prefix (default_segment o.mode o.rm)))
      (O.Register o.rm)
      ≡ counted w o

-- the tests of a well-formed operand, by its kind
abbrev reg_tests : OperandData → List Bool
reg_tests o = eqb o.segment_prefix 0 ∷ eqb o.mode 3 ∷ ltb o.rm 8 ∷ displacement_fits o ∷ displacement_in o ∷ []

abbrev seg_tests : OperandData → List Bool
seg_tests o =
    eqb o.segment_prefix 0 ∷ eqb o.mode 3 ∷ ltb o.rm 4 ∷ displacement_fits o ∷ displacement_in o ∷ by_size o.size false false true ∷ []

abbrev mem_tests : OperandData → List Bool
mem_tests o = is_prefix o.segment_prefix ∷ ltb o.mode 3 ∷ ltb o.rm 8 ∷ displacement_fits o ∷ displacement_in o ∷ []

module _ (o : OperandData) (w : well_formed o ≡ true) where
  reg_formed : o.kind ≡ K.Reg → all (reg_tests o) ≡ true
  unfolding well_formed
  reg_formed k = rw k at w

  seg_formed : o.kind ≡ K.Seg → all (seg_tests o) ≡ true
  unfolding well_formed
  seg_formed k = rw k at w

  mem_formed : o.kind ≡ K.Mem → all (mem_tests o) ≡ true
  unfolding well_formed
  mem_formed k = rw k at w

  pub reg_under_8 : o.kind ≡ K.Reg → o.rm < 8
  reg_under_8 k = ltb-true o.rm 8 (all_at (reg_tests o) (reg_formed k) 2)

  pub seg_under_4 : o.kind ≡ K.Seg → o.rm < 4
  seg_under_4 k = ltb-true o.rm 4 (all_at (seg_tests o) (seg_formed k) 2)

  pub mem_prefix : o.kind ≡ K.Mem → is_prefix o.segment_prefix ≡ true
  mem_prefix k = all_at (mem_tests o) (mem_formed k) 0

  pub mem_mode : o.kind ≡ K.Mem → o.mode < 3
  mem_mode k = ltb-true o.mode 3 (all_at (mem_tests o) (mem_formed k) 1)

  pub mem_value : o.kind ≡ K.Mem → is_in_size o.displacement_size o.displacement ≡ true
  mem_value k = all_at (mem_tests o) (mem_formed k) 4

  pub mem_size : o.kind ≡ K.Mem → bytes_of o.displacement_size ≡ displacement_length o.mode o.rm
  mem_size k = eqb-true _ _ (all_at (mem_tests o) (mem_formed k) 3)

  -- a register and memory in r/m
  pub reg_in_rm : o.kind ≡ K.Reg → InRm o
  unfolding counted
  reg_in_rm k =
      let p : o.segment_prefix ≡ 0 = eqb-true o.segment_prefix 0 (all_at (reg_tests o) (reg_formed k) 0) in
      let m : o.mode ≡ 3 = eqb-true o.mode 3 (all_at (reg_tests o) (reg_formed k) 1) in
      record {
        mode_4 = omega arith;
        rm_8 = reg_under_8 k;
        prefixed = rw p;
        before_memory = rw p;
        size = size_length o.displacement_size o.displacement ∙ eqb-true _ _ (all_at (reg_tests o) (reg_formed k) 3);
        reads = λ w r. rw (m, k);
      }

  pub mem_in_rm : o.kind ≡ K.Mem → InRm o
  unfolding counted
  mem_in_rm k =
      let m : o.mode < 3 = mem_mode k in
      record {
        mode_4 = omega arith;
        rm_8 = ltb-true o.rm 8 (all_at (mem_tests o) (mem_formed k) 2);
        prefixed = mem_prefix k;
        before_memory = either_right (eqb o.segment_prefix 0) (ltb o.mode 3) (lt-ltb o.mode 3 m);
        size = size_length o.displacement_size o.displacement ∙ mem_size k;
        reads = λ w r.
            rw (lt-ltb o.mode 3 m, k)
            (ap (λ (d : ℕ). O.Memory (base o.mode o.rm) d (in_effect o.segment_prefix (default_segment o.mode o.rm)))
            (ap (λ (n : ℕ). displacement_at n (displacement_bytes o ++ r)) (sym (mem_size k))
            ∙ size_back o.displacement_size o.displacement r (mem_value k)));
      }

  -- by the test with which a slot takes it
  pub taken_in_rm : (t : Bool) → by_kind o.kind false t false t ≡ true → InRm o
  taken_in_rm t e = ⊎_elim (λ k. reg_in_rm k) (λ k. mem_in_rm k) (rm_taken o.kind t e).0

  pub taken_reg : (t : Bool) → by_kind o.kind false t false false ≡ true → o.rm < 8
  taken_reg t e = reg_under_8 (reg_taken o.kind t e).0

  pub taken_seg : (t : Bool) → by_kind o.kind false false t false ≡ true → o.rm < 4
  taken_seg t e = seg_under_4 (seg_taken o.kind t e).0

  pub taken_mem : (t : Bool) → by_kind o.kind false false false t ≡ true → is_prefix o.segment_prefix ≡ true
  taken_mem t e = mem_prefix (mem_taken o.kind t e).0
