-- The code list of each line of the table, and why a record has no line, as the code has it. Nobody has to believe it: encode_plans/proofs/Decided shows that the line that a group
-- decides has the codes of the form that the questions choose.
-- Definitions only.
use Rattle.std.specs.Prelude.{ℕ, ◌+◌, ◌*◌, ◌/◌, ◌%◌, Some, None, Result, Ok, Err}
use Rattle.mrc_compiler.specs.declared.ast.DataSize.{DataSize}
use Rattle.mrc_compiler.specs.declared.ast.DataSize.TheVariants as Z
use Rattle.mrc_compiler.specs.declared.encoder.generate.Code.{Code}
use Rattle.mrc_compiler.specs.declared.encoder.generate.Code.TheVariants as C
use Rattle.mrc_compiler.specs.declared.encoder.generate.Codes.{Codes}
use Rattle.mrc_compiler.specs.declared.encoder.generate.Why.TheVariants as W
use Rattle.mrc_compiler.specs.declared.encoder.generate.At.TheVariants as At
use Rattle.mrc_compiler.specs.declared.encoder.generate.NoForm.{NoForm}
use Rattle.encode_lines.specs.declared.Line.{Line}
use Rattle.encode_lines.specs.declared.Line.TheVariants as L
use Rattle.encode_lines.specs.declared.Decision.{Decision}

-- 0 for a byte, 1 for a word
abbrev pub bit : DataSize → ℕ
bit Z.Byte = 0
bit Z.Word = 1

-- the code of an immediate of a size
abbrev pub immediate : DataSize → Code
immediate Z.Byte = C.ImmByte 1
immediate Z.Word = C.ImmWord 1

-- one or two codes
abbrev pub one_code : Code → Codes
one_code c = record { first = c; second = None }

abbrev pub two_codes : Code → Code → Codes
two_codes c d = record { first = c; second = Some d }

-- w is the size's bit, imm the code of its immediate
abbrev pub line_codes : Line → ℕ → Code → ℕ → Codes
line_codes L.ArithRmReg w imm base = one_code (C.ModRegRM 0 ((base + w) % 256))
line_codes L.ArithRegRm w imm base = one_code (C.ModRegRM 1 ((base + (2 + w)) % 256))
line_codes L.ArithRmImmSx w imm base = two_codes (C.ModRM 0 0x83 (base / 8)) (C.ImmSignExtended 1)
line_codes L.ArithAccImm w imm base = two_codes (C.Byte ((base + (4 + w)) % 256)) imm
line_codes L.ArithRmImm w imm base = two_codes (C.ModRM 0 (0x80 + w) (base / 8)) imm
line_codes L.UnaryRm w imm base = one_code (C.ModRM 0 (0xF6 + w) base)
line_codes L.IncReg w imm base = one_code (C.RegByte 0 ((0x40 + 8 * base) % 256))
line_codes L.IncRm w imm base = one_code (C.ModRM 0 (0xFE + w) base)
line_codes L.MovAccMoffs w imm base = two_codes (C.MemByte 1 (0xA0 + w)) (C.DispWord 1)
line_codes L.MovMoffsAcc w imm base = two_codes (C.MemByte 0 (0xA2 + w)) (C.DispWord 0)
line_codes L.MovRmReg w imm base = one_code (C.ModRegRM 0 (0x88 + w))
line_codes L.MovRegRm w imm base = one_code (C.ModRegRM 1 (0x8A + w))
line_codes L.MovRmSreg w imm base = one_code (C.ModRegRM 0 0x8C)
line_codes L.MovSregRm w imm base = one_code (C.ModRegRM 1 0x8E)
line_codes L.MovRegImm w imm base = two_codes (C.RegByte 0 (0xB0 + 8 * w)) imm
line_codes L.MovRmImm w imm base = two_codes (C.ModRM 0 (0xC6 + w) 0) imm
line_codes L.XchgAccReg w imm base = one_code (C.RegByte 1 0x90)
line_codes L.XchgRegAcc w imm base = one_code (C.RegByte 0 0x90)
line_codes L.XchgRegRm w imm base = one_code (C.ModRegRM 1 (0x86 + w))
line_codes L.XchgRmReg w imm base = one_code (C.ModRegRM 0 (0x86 + w))
line_codes L.TestRmReg w imm base = one_code (C.ModRegRM 0 (0x84 + w))
line_codes L.TestRegRm w imm base = one_code (C.ModRegRM 1 (0x84 + w))
line_codes L.TestAccImm w imm base = two_codes (C.Byte (0xA8 + w)) imm
line_codes L.TestRmImm w imm base = two_codes (C.ModRM 0 (0xF6 + w) 0) imm
line_codes L.PushReg w imm base = one_code (C.RegByte 0 0x50)
line_codes L.PushSreg w imm base = one_code (C.SegByte 0 0x06)
line_codes L.PushRm w imm base = one_code (C.ModRM 0 0xFF 6)
line_codes L.PopReg w imm base = one_code (C.RegByte 0 0x58)
line_codes L.PopSreg w imm base = one_code (C.SegByte 0 0x07)
line_codes L.PopRm w imm base = one_code (C.ModRM 0 0x8F 0)
line_codes L.LoadRegMem w imm base = one_code (C.ModRegRM 1 base)
line_codes L.ShiftRmOne w imm base = one_code (C.ModRM 0 (0xD0 + w) base)
line_codes L.ShiftRmCl w imm base = one_code (C.ModRM 0 (0xD2 + w) base)
line_codes L.CallRel w imm base = two_codes (C.Byte 0xE8) (C.RelWord 0)
line_codes L.CallRm w imm base = one_code (C.ModRM 0 0xFF 2)
line_codes L.CallMemFar w imm base = one_code (C.ModRM 0 0xFF 3)
line_codes L.JmpRel w imm base = two_codes (C.Byte 0xE9) (C.RelWord 0)
line_codes L.JmpPtr w imm base = two_codes (C.Byte 0xEA) (C.FarWords 0)
line_codes L.JmpShort w imm base = two_codes (C.Byte 0xEB) (C.RelByte 0 2)
line_codes L.JmpRm w imm base = one_code (C.ModRM 0 0xFF 4)
line_codes L.ShortRel w imm base = two_codes (C.Byte base) (C.RelByte 0 2)
line_codes L.IntImm w imm base = two_codes (C.Byte 0xCD) (C.UnsignedByte 0)
line_codes L.XlatMem w imm base = one_code (C.MemByte 0 0xD7)
line_codes L.InAccImm w imm base = two_codes (C.Byte (0xE4 + w)) (C.UnsignedByte 1)
line_codes L.InAccDx w imm base = one_code (C.Byte (0xEC + w))
line_codes L.OutImmAcc w imm base = two_codes (C.Byte (0xE6 + w)) (C.UnsignedByte 0)
line_codes L.OutDxAcc w imm base = one_code (C.Byte (0xEE + w))
line_codes L.Aam w imm base = two_codes (C.Byte 0xD4) (C.Byte 0x0A)
line_codes L.Aad w imm base = two_codes (C.Byte 0xD5) (C.Byte 0x0A)
line_codes L.Ret w imm base = one_code (C.Byte 0xC3)
line_codes L.RetImm w imm base = two_codes (C.Byte 0xC2) (C.UnsignedWord 0)
line_codes L.Single w imm base = one_code (C.Byte base)

-- why a record has no line: 1, at the instruction and at the first operand
abbrev pub invalid_operands : NoForm
invalid_operands = record { why = W.InvalidOperands; at = At.Operands }

abbrev pub invalid_first : NoForm
invalid_first = record { why = W.InvalidOperands; at = At.First }

-- 2, at the instruction and at the first operand; 3; 4 at the first operand
abbrev pub size_not_specified : NoForm
size_not_specified = record { why = W.OperandSizeNotSpecified; at = At.Operands }

abbrev pub size_not_specified_first : NoForm
size_not_specified_first = record { why = W.OperandSizeNotSpecified; at = At.First }

abbrev pub sizes_do_not_match : NoForm
sizes_do_not_match = record { why = W.OperandSizesDoNotMatch; at = At.Operands }

abbrev pub invalid_size : NoForm
invalid_size = record { why = W.InvalidOperandSize; at = At.First }

-- 5: the immediate of JMP is no word
abbrev pub target_out_of_range : NoForm
target_out_of_range = record { why = W.TargetOutOfRange; at = At.First }

-- 7: INT1 and ESC
abbrev pub not_supported : NoForm
not_supported = record { why = W.NotSupported; at = At.Operands }

-- the line of a size, or why there is none
abbrev pub decision : Result Line NoForm → DataSize → Result Decision NoForm
decision (Ok l) z = Ok (record { line = l; size = z })
decision (Err e) z = Err e

-- a form without a size
abbrev pub plain : Line → Decision
plain l = record { line = l; size = Z.Word }

abbrev pub planned : Result Decision NoForm → ℕ → Result Codes NoForm
planned (Ok d) base = Ok (line_codes d.line (bit d.size) (immediate d.size) base)
planned (Err e) base = Err e
