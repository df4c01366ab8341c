-- The instruction that a record means, by the record alone (REFERENCE 6). A near target is the record's immediate, so it
-- is the same at every offset.
-- Definitions only.
use Rattle.std.specs.Prelude.{ℕ, Bool, false, eqb}
use Rattle.mrc_compiler.specs.declared.encoder.InstructionData.{InstructionData}
use Rattle.mrc_compiler.specs.declared.encoder.OperandData.{OperandData}
use Rattle.mrc_compiler.specs.declared.operations.Operation.{Operation}
use Rattle.mrc_compiler.specs.Choose.{pick}
use Rattle.x86.specs.declared.Instruction.{Instruction}
use Rattle.x86.specs.Instructions.{repeated}
use Rattle.encode_groups.specs.declared.Group.{Group}
use Rattle.encode_groups.specs.Grouping.{group_of}
use Rattle.encode_spec.specs.Records.{dst, src}
use Rattle.encode_spec.specs.Operands.{of_none}
use Rattle.encode_spec.specs.Rules.{Special, ordinary, unordered, unordered_memory, by_count, target_first, not_supported, rule}

-- RET at count 0 has no operand
abbrev pub unused_by : Special → ℕ → Bool
unused_by ordinary k = false
unused_by unordered k = false
unused_by unordered_memory k = false
unused_by by_count k = eqb k 0
unused_by target_first k = false
unused_by not_supported k = false

unfoldable pub meant : Group → ℕ → Operation → OperandData → OperandData → Instruction
meant g k op a b = pick (unused_by (rule g).special k) (of_none op a b) ((rule g).means op a b)

-- the instruction of a record that the encoder accepts
abbrev pub meaning : InstructionData → Instruction
meaning insn = repeated insn.repeat (meant (group_of insn.operation) insn.num_opers insn.operation (dst insn) (src insn))
