-- What the builders of 000 make (REFERENCE 2).
-- Definitions only.
use Rattle.std.specs.Prelude.{ℕ, ◌+◌, ◌*◌, Bool, true, false, [], ◌∷◌, eqb, ℤ, pos, negsuc, None, Option, Some}
use Rattle.mrc_compiler.specs.declared.ast.Span.{Span}
use Rattle.mrc_compiler.specs.declared.ast.Segment.{Segment}
use Rattle.mrc_compiler.specs.declared.ast.DataSize.{DataSize}
use Rattle.mrc_compiler.specs.declared.ast.DataSize.TheVariants as D
use Rattle.mrc_compiler.specs.declared.operations.Operation.{Operation}
use Rattle.mrc_compiler.specs.declared.encoder.OperandKind.{OperandKind}
use Rattle.mrc_compiler.specs.declared.encoder.OperandKind.TheVariants as K
use Rattle.mrc_compiler.specs.declared.encoder.OperandSize.{OperandSize}
use Rattle.mrc_compiler.specs.declared.encoder.OperandSize.TheVariants as S
use Rattle.mrc_compiler.specs.declared.encoder.JumpKind.TheVariants as J
use Rattle.mrc_compiler.specs.declared.encoder.OperandData.{OperandData}
use Rattle.mrc_compiler.specs.declared.encoder.InstructionData.{InstructionData}
use Rattle.mrc_compiler.specs.Choose.{pick, both, isnt, by_size, by_kind}
use Rattle.mrc_compiler.specs.Values.{within}
use Rattle.mrc_compiler.specs.Registers.{segment}

abbrev pub is_unspecified : OperandSize → Bool
is_unspecified size = by_size size true false false

abbrev pub is_specified : OperandSize → Bool
is_specified size = isnt (is_unspecified size)

-- 26, 2E, 36, 3E for ES, CS, SS, DS
abbrev pub prefix_for : Segment → ℕ
prefix_for seg = 0x26 + segment seg * 8

abbrev pub prefix_or_0 : Option Segment → ℕ
prefix_or_0 None = 0
prefix_or_0 (Some seg) = prefix_for seg

abbrev pub size_from_some : DataSize → OperandSize
size_from_some D.Byte = S.Byte
size_from_some D.Word = S.Word

abbrev pub size_from : Option DataSize → OperandSize
size_from None = S.Unspecified
size_from (Some size) = size_from_some size

-- ---- operands
abbrev pub immediate_operand : Span → ℤ → OperandData
immediate_operand span value = record {
  span = span;
  size = S.Unspecified;
  kind = K.Imm;
  segment_prefix = 0;
  imm = value;
  displacement = pos 0;
  displacement_size = S.Unspecified;
  jmp_kind = None;
  mode = 0;
  rm = 0;
}

abbrev pub far_operand : Span → ℤ → ℤ → OperandData
far_operand span offset seg = record {
  span = span;
  size = S.Unspecified;
  kind = K.Imm;
  segment_prefix = 0;
  imm = offset;
  displacement = seg;
  displacement_size = S.Unspecified;
  jmp_kind = (Some J.Far);
  mode = 0;
  rm = 0;
}

-- mode 3, no displacement
abbrev pub in_register : Span → OperandKind → OperandSize → ℕ → OperandData
in_register span kind size n = record {
  span = span;
  size = size;
  kind = kind;
  segment_prefix = 0;
  imm = pos 0;
  displacement = pos 0;
  displacement_size = S.Unspecified;
  jmp_kind = None;
  mode = 3;
  rm = n;
}

abbrev pub register_operand : Span → ℕ → OperandSize → OperandData
register_operand span n size = in_register span K.Reg size n

abbrev pub segment_operand : Span → ℕ → OperandData
segment_operand span n = in_register span K.Seg S.Word n

abbrev pub in_memory : Span → OperandSize → ℕ → ℕ → ℕ → ℤ → OperandSize → OperandData
in_memory span size prefix mode rm displacement length = record {
  span = span;
  size = size;
  kind = K.Mem;
  segment_prefix = prefix;
  imm = pos 0;
  displacement = displacement;
  displacement_size = length;
  jmp_kind = None;
  mode = mode;
  rm = rm;
}

abbrev pub direct_operand : Span → ℤ → Option DataSize → Option Segment → OperandData
direct_operand span address size seg = in_memory span (size_from size) (prefix_or_0 seg) 0 6 address S.Word

-- the shortest displacement that holds the value; BP alone has none of length 0
abbrev pub indirect_operand : Span → ℕ → ℤ → Option DataSize → Option Segment → OperandData
indirect_operand span rm d size seg =
    pick (both (within (pos 0) (pos 0) d) (isnt (eqb rm 6)))
    (in_memory span (size_from size) (prefix_or_0 seg) 0 rm (pos 0) S.Unspecified)
    (pick (within (negsuc 127) (pos 127) d)
    (in_memory span (size_from size) (prefix_or_0 seg) 1 rm d S.Byte)
    (in_memory span (size_from size) (prefix_or_0 seg) 2 rm d S.Word))

-- mode 0 with r/m 6: an address and no base
abbrev pub is_direct_address : ℕ → ℕ → Bool
is_direct_address mode rm = both (eqb mode 0) (eqb rm 6)

abbrev pub is_direct : OperandData → Bool
is_direct o = by_kind o.kind false false false (is_direct_address o.mode o.rm)

-- ---- instructions; an operand that is not given is an empty one
abbrev pub instruction : Span → Operation → ℕ → OperandData → OperandData → InstructionData
instruction span op count a b = record { operation = op; num_opers = count; repeat = 0; opers = a ∷ b ∷ []; opers_span = span }

abbrev pub no_operands : Span → Operation → InstructionData
no_operands span op = instruction span op 0 (immediate_operand span (pos 0)) (immediate_operand span (pos 0))

abbrev pub one_operand : Span → Operation → OperandData → InstructionData
one_operand span op dst = instruction span op 1 dst (immediate_operand span (pos 0))

abbrev pub two_operands : Span → Operation → OperandData → OperandData → InstructionData
two_operands span op dst src = instruction span op 2 dst src

-- F2 or F3 before a string operation; the other builders make it 0
abbrev pub with_repeat : ℕ → InstructionData → InstructionData
with_repeat repeat insn =
    record { operation = insn.operation; num_opers = insn.num_opers; repeat = repeat; opers = insn.opers; opers_span = insn.opers_span }
