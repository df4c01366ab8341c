-- The tests of equality hold for equal instructions and for no others.
-- Assumes nothing.
use Rattle.list_spec.proofs.Choices.{both_true}
use mathlib.Core.Path.{◌≡◌, refl, sym, ◌∙◌}
use Prim.Native.Nat.{ℕ}
use lib.Dec.{T, eqb, eqb→eq, eqb_refl}
use Rattle.mrc_compiler.specs.declared.ast.Segment.TheVariants as G
use Rattle.mrc_compiler.specs.declared.encoder.OperandSize.{OperandSize}
use Rattle.mrc_compiler.specs.declared.encoder.OperandSize.TheVariants as S
use Rattle.mrc_compiler.specs.Choose.{pick, both}
use Rattle.mrc_compiler.specs.Operations.{number_of, same_operation}
use Rattle.mrc_compiler.proofs.Numbers.{operation_eq}
use Rattle.x86.specs.declared.Operand.{Operand}
use Rattle.x86.specs.declared.Operand.TheVariants as O
use Rattle.x86.specs.declared.Instruction.{Instruction}
use Rattle.x86.specs.Instructions.{named}
use Rattle.x86.proofs.Tests.{both_parts}
use Rattle.x86.specs.Operands.{type_of, displacement_in, value_in, far_segment_in, size_number}
use Rattle.list_spec.specs.Operands.{prefix_in, same_type, same_memory, same_value, same_operand, same_instruction}

-- ---- widths
width_eq : (a b : OperandSize) → T (eqb (size_number a) (size_number b)) → a ≡ b
width_eq S.Unspecified S.Unspecified t = refl
width_eq S.Unspecified S.Byte t = absurd t
width_eq S.Unspecified S.Word t = absurd t
width_eq S.Byte S.Unspecified t = absurd t
width_eq S.Byte S.Byte t = refl
width_eq S.Byte S.Word t = absurd t
width_eq S.Word S.Unspecified t = absurd t
width_eq S.Word S.Byte t = absurd t
width_eq S.Word S.Word t = refl

-- ---- operands, from their numbers: kind and number, prefix, displacement, value and segment
abbrev operand_at : ℕ → ℕ → ℕ → ℕ → ℕ → ℕ → Operand
operand_at k n p d v s =
    pick (eqb k 1) (O.Register n)
    (pick (eqb k 2) (O.SegmentRegister n)
    (pick (eqb k 3) (O.Memory n d (named p))
    (pick (eqb k 4) (O.Immediate v) (pick (eqb k 5) (O.Near v) (pick (eqb k 6) (O.Far v s) (pick (eqb k 7) O.One O.None))))))

operand_at_lem : (a : Operand) → operand_at (type_of a).kind (type_of a).number (prefix_in a) (displacement_in a) (value_in a) (far_segment_in a) ≡ a
operand_at_lem O.None = refl
operand_at_lem (O.Register n) = refl
operand_at_lem (O.SegmentRegister n) = refl
operand_at_lem (O.Memory b d G.ES) = refl
operand_at_lem (O.Memory b d G.CS) = refl
operand_at_lem (O.Memory b d G.SS) = refl
operand_at_lem (O.Memory b d G.DS) = refl
operand_at_lem (O.Immediate v) = refl
operand_at_lem (O.Near t) = refl
operand_at_lem (O.Far t s) = refl
operand_at_lem O.One = refl

two_eq : (a b c d : ℕ) → T (both (eqb a b) (eqb c d)) → (a ≡ b) × (c ≡ d)
two_eq a b c d t = let (x, y) = both_parts (eqb a b) (eqb c d) t in (eqb→eq a b x, eqb→eq c d y)

operand_eq : (a b : Operand) → T (same_operand a b) → a ≡ b
unfolding same_operand
operand_eq a b t =
    let (t0, t1) = both_parts (same_type (type_of a) (type_of b)) (both (same_memory a b) (same_value a b)) t in
    let (t2, t3) = both_parts (same_memory a b) (same_value a b) t1 in
    let (e0, e1) = two_eq (type_of a).kind (type_of b).kind (type_of a).number (type_of b).number t0 in
    let (e2, e3) = two_eq (prefix_in a) (prefix_in b) (displacement_in a) (displacement_in b) t2 in
    let (e4, e5) = two_eq (value_in a) (value_in b) (far_segment_in a) (far_segment_in b) t3 in
    sym (operand_at_lem a) ∙ ((λ i. operand_at (e0 i) (e1 i) (e2 i) (e3 i) (e4 i) (e5 i)) ∙ operand_at_lem b)

operand_same : (a : Operand) → T (same_operand a a)
unfolding same_operand
operand_same a = search (both_true, eqb_refl) depth 12

-- ---- instructions
pub instruction_eq : (i m : Instruction) → T (same_instruction i m) → i ≡ m
unfolding same_instruction
instruction_eq i m t =
    let o = both (same_operand i.first m.first) (same_operand i.second m.second) in
    let w = both (eqb (size_number i.width) (size_number m.width)) o in
    let (r, s) = both_parts (eqb i.repeat m.repeat) (both (same_operation i.operation m.operation) w) t in
    let (t0, t1) = both_parts (same_operation i.operation m.operation) w s in
    let e = eqb→eq i.repeat m.repeat r in
    let (t2, t3) = both_parts (eqb (size_number i.width) (size_number m.width)) o t1 in
    let (t4, t5) = both_parts (same_operand i.first m.first) (same_operand i.second m.second) t3 in
    let e0 = operation_eq i.operation m.operation t0 in
    let e1 = width_eq i.width m.width t2 in
    let e2 = operand_eq i.first m.first t4 in
    let e3 = operand_eq i.second m.second t5 in
    λ j. record { repeat = e j; operation = e0 j; width = e1 j; first = e2 j; second = e3 j }

pub instruction_same : (m : Instruction) → T (same_instruction m m)
unfolding same_instruction
instruction_same m =
    both_true (eqb m.repeat m.repeat) _ (eqb_refl m.repeat)
    (both_true (same_operation m.operation m.operation) _ (eqb_refl (number_of m.operation))
    (both_true (eqb (size_number m.width) (size_number m.width)) _ (eqb_refl (size_number m.width))
    (both_true (same_operand m.first m.first) (same_operand m.second m.second) (operand_same m.first) (operand_same m.second))))
