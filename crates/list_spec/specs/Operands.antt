-- An instruction as numbers, by which the lister builds strings and compares instructions.
-- Definitions only.
use Rattle.std.specs.Prelude.{ℕ, ◌+◌, ◌%◌, Bool, eqb}
use Rattle.mrc_compiler.specs.Builders.{prefix_for}
use Rattle.mrc_compiler.specs.Choose.{both}
use Rattle.mrc_compiler.specs.Operations.{same_operation}
use Rattle.x86.specs.declared.Operand.{Operand}
use Rattle.x86.specs.declared.Operand.TheVariants as O
use Rattle.x86.specs.declared.Instruction.{Instruction}
use Rattle.x86.specs.declared.operands.OperandType.{OperandType}
use Rattle.x86.specs.Operands.{type_of, displacement_in, value_in, far_segment_in, size_number}

-- ---- the values
-- the prefix of the segment that memory is in
abbrev pub prefix_in : Operand → ℕ
prefix_in O.None = 0
prefix_in (O.Register n) = 0
prefix_in (O.SegmentRegister n) = 0
prefix_in (O.Memory b d s) = prefix_for s
prefix_in (O.Immediate v) = 0
prefix_in (O.Near t) = 0
prefix_in (O.Far t s) = 0
prefix_in O.One = 0

-- of an instruction's operands one at most has such a number, and the other's is 0: the sum is that operand's
abbrev pub prefix_of : Instruction → ℕ
prefix_of m = (prefix_in m.first + prefix_in m.second) % 256

abbrev pub displacement_of : Instruction → ℕ
displacement_of m = (displacement_in m.first + displacement_in m.second) % 65536

abbrev pub value_of : Instruction → ℕ
value_of m = (value_in m.first + value_in m.second) % 65536

abbrev pub far_segment_of : Instruction → ℕ
far_segment_of m = (far_segment_in m.first + far_segment_in m.second) % 65536

-- ---- equality, as a test
abbrev pub same_type : OperandType → OperandType → Bool
same_type a b = both (eqb a.kind b.kind) (eqb a.number b.number)

-- memory by its segment and displacement
abbrev pub same_memory : Operand → Operand → Bool
same_memory a b = both (eqb (prefix_in a) (prefix_in b)) (eqb (displacement_in a) (displacement_in b))

-- immediates and targets
abbrev pub same_value : Operand → Operand → Bool
same_value a b = both (eqb (value_in a) (value_in b)) (eqb (far_segment_in a) (far_segment_in b))

unfoldable pub same_operand : Operand → Operand → Bool
same_operand a b = both (same_type (type_of a) (type_of b)) (both (same_memory a b) (same_value a b))

unfoldable pub same_instruction : Instruction → Instruction → Bool
same_instruction i m =
    both (eqb i.repeat m.repeat)
    (both (same_operation i.operation m.operation)
    (both (eqb (size_number i.width) (size_number m.width))
    (both (same_operand i.first m.first) (same_operand i.second m.second))))
