-- Shifts with an immediate count (document 02, No. 12).
-- Definitions only.
use Rattle.std.specs.Prelude.{ℕ, ◌+◌, ◌*◌, ◌-◌, Bool, [], ◌∷◌, ltb, ℤ, pos, nat_abs}
use Rattle.mrc_compiler.specs.declared.encoder.InstructionData.{InstructionData}
use Rattle.mrc_compiler.specs.declared.encoder.OperandData.{OperandData}
use Rattle.mrc_compiler.specs.Choose.{pick}
use Rattle.mrc_compiler.specs.Values.{within}
use Rattle.encode_spec.specs.Records.{dst, src}
use Rattle.encode_spec.specs.Operands.{if_imm}
use Rattle.shift_copies.specs.Shifting.{is_shift}

-- does a record carry a count? Its operation and its second operand's kind alone say so
unfoldable pub has_count : InstructionData → Bool
has_count insn = if_imm (src insn) (is_shift insn.operation)

-- its count; 1 where it carries none
unfoldable pub count_of : InstructionData → ℤ
count_of insn = pick (has_count insn) (src insn).imm (pos 1)

-- 24: is it 1 to 31?
abbrev pub count_taken : InstructionData → Bool
count_taken insn = within (pos 1) (pos 31) (count_of insn)

-- how many records it becomes
abbrev pub times : InstructionData → ℕ
times insn = nat_abs (count_of insn)

-- ---- each of them: the record with its count read as 1
abbrev pub with_imm : OperandData → ℤ → OperandData
with_imm o z = record {
  span = o.span;
  size = o.size;
  kind = o.kind;
  segment_prefix = o.segment_prefix;
  imm = z;
  displacement = o.displacement;
  displacement_size = o.displacement_size;
  jmp_kind = o.jmp_kind;
  mode = o.mode;
  rm = o.rm;
}

abbrev pub with_operands : InstructionData → OperandData → OperandData → InstructionData
with_operands insn a b = record {
  operation = insn.operation;
  num_opers = insn.num_opers;
  repeat = insn.repeat;
  opers = a ∷ b ∷ [];
  opers_span = insn.opers_span;
}

unfoldable pub with_count_one : InstructionData → InstructionData
with_count_one insn = pick (has_count insn) (with_operands insn (dst insn) (with_imm (src insn) (pos 1))) insn

-- ---- lengths, where each has m bytes
-- of the old record: a shift by 2 to 31 has its count behind them
unfoldable pub old_bytes : InstructionData → ℕ → ℕ
old_bytes insn m = m + pick (ltb 1 (times insn)) 1 0

-- what it gains
abbrev pub gained : InstructionData → ℕ → ℕ
gained insn m = times insn * m - old_bytes insn m
