-- An operand of an instruction as numbers: its type (kind, and register or base), and its values.
-- Definitions only.
use Rattle.std.specs.Prelude.{ℕ}
use Rattle.mrc_compiler.specs.declared.encoder.OperandSize.{OperandSize}
use Rattle.mrc_compiler.specs.Choose.{by_size}
use Rattle.x86.specs.declared.Operand.{Operand}
use Rattle.x86.specs.declared.Operand.TheVariants as O
use Rattle.x86.specs.declared.operands.OperandType.{OperandType}

-- ---- the kinds
abbrev pub no_operand : ℕ
no_operand = 0

abbrev pub a_register : ℕ
a_register = 1

abbrev pub a_segment : ℕ
a_segment = 2

abbrev pub in_memory : ℕ
in_memory = 3

abbrev pub an_immediate : ℕ
an_immediate = 4

abbrev pub a_near : ℕ
a_near = 5

abbrev pub a_far : ℕ
a_far = 6

-- the constant 1 of a shift
abbrev pub a_one : ℕ
a_one = 7

abbrev pub operand_type : ℕ → ℕ → OperandType
operand_type k n = record { kind = k; number = n }

abbrev pub type_of : Operand → OperandType
type_of O.None = operand_type no_operand 0
type_of (O.Register n) = operand_type a_register n
type_of (O.SegmentRegister n) = operand_type a_segment n
type_of (O.Memory b d s) = operand_type in_memory b
type_of (O.Immediate v) = operand_type an_immediate 0
type_of (O.Near t) = operand_type a_near 0
type_of (O.Far t s) = operand_type a_far 0
type_of O.One = operand_type a_one 0

-- ---- the values
abbrev pub displacement_in : Operand → ℕ
displacement_in O.None = 0
displacement_in (O.Register n) = 0
displacement_in (O.SegmentRegister n) = 0
displacement_in (O.Memory b d s) = d
displacement_in (O.Immediate v) = 0
displacement_in (O.Near t) = 0
displacement_in (O.Far t s) = 0
displacement_in O.One = 0

-- an immediate, or a target's offset
abbrev pub value_in : Operand → ℕ
value_in O.None = 0
value_in (O.Register n) = 0
value_in (O.SegmentRegister n) = 0
value_in (O.Memory b d s) = 0
value_in (O.Immediate v) = v
value_in (O.Near t) = t
value_in (O.Far t s) = t
value_in O.One = 0

-- a far target's segment
abbrev pub far_segment_in : Operand → ℕ
far_segment_in O.None = 0
far_segment_in (O.Register n) = 0
far_segment_in (O.SegmentRegister n) = 0
far_segment_in (O.Memory b d s) = 0
far_segment_in (O.Immediate v) = 0
far_segment_in (O.Near t) = 0
far_segment_in (O.Far t s) = s
far_segment_in O.One = 0

-- ---- the width: 0 none, 1 Byte, 2 Word
abbrev pub size_number : OperandSize → ℕ
size_number w = by_size w 0 1 2
