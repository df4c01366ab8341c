-- The parts of a record, and sizes compared.
-- Definitions only.
use Rattle.std.specs.Prelude.{Bool, true, false, pos, get_or}
use Rattle.mrc_compiler.specs.declared.encoder.InstructionData.{InstructionData}
use Rattle.mrc_compiler.specs.declared.encoder.OperandData.{OperandData}
use Rattle.mrc_compiler.specs.declared.encoder.OperandSize.{OperandSize}
use Rattle.mrc_compiler.specs.Builders.{immediate_operand}
use Rattle.mrc_compiler.specs.Choose.{by_size}

-- the element past an array's end, which nothing reads
abbrev pub no_operand : OperandData
no_operand = immediate_operand (record { start = 0; end = 0 }) (pos 0)

abbrev pub dst : InstructionData → OperandData
dst insn = get_or insn.opers 0 no_operand

abbrev pub src : InstructionData → OperandData
src insn = get_or insn.opers 1 no_operand

abbrev pub same_size : OperandSize → OperandSize → Bool
same_size a b = by_size a (by_size b true false false) (by_size b false true false) (by_size b false false true)

-- the size that the first of two states, or else the second
abbrev pub stated_of : OperandSize → OperandSize → OperandSize
stated_of a b = by_size a b a a
