-- What a code emits, field by field: its bytes, or the refusal (003).
-- Definitions only.
use Rattle.std.specs.Prelude.{ℕ, ◌+◌, ◌*◌, ◌%◌, true, List, [], ◌∷◌, ◌++◌, eqb, ℤ, pos, negsuc, Option, Some, None, Result, Ok, Err}
use Rattle.mrc_compiler.specs.declared.ast.Span.{Span}
use Rattle.mrc_compiler.specs.declared.encoder.EncodeError.{EncodeError}
use Rattle.mrc_compiler.specs.declared.encoder.EncodeError.TheVariants as E
use Rattle.mrc_compiler.specs.declared.encoder.InstructionData.{InstructionData}
use Rattle.mrc_compiler.specs.declared.encoder.OperandData.{OperandData}
use Rattle.mrc_compiler.specs.declared.encoder.OperandSize.TheVariants as S
use Rattle.mrc_compiler.specs.declared.encoder.generate.Code.{Code}
use Rattle.mrc_compiler.specs.declared.encoder.generate.Code.TheVariants as C
use Rattle.mrc_compiler.specs.Choose.{pick}
use Rattle.mrc_compiler.specs.Values.{within}
use Rattle.base_values.specs.Distances.{distance_of, wrapped}
use Rattle.encode_spec.specs.Records.{dst, src}
use Rattle.encode_spec.specs.Limits.{data_byte, data_word, vector, popped, address, target, segment, limits}
use Rattle.encode_spec.specs.Layout.{word_bytes, byte_of, word_of, prefix_bytes, displacement_bytes}
use Rattle.encode_spec.specs.Answer.{Answer, bytes, refused}
use Rattle.encode_fields.specs.declared.Field.{Field}
use Rattle.encode_fields.specs.declared.Field.TheVariants as F
use Rattle.encode_fields.specs.declared.Fields.{Fields}

-- ---- the fields of a code
abbrev pub field_bytes : Option Field → List ℕ
field_bytes None = []
field_bytes (Some (F.Byte b)) = b ∷ []
field_bytes (Some (F.Word w)) = word_bytes w

abbrev pub fields_bytes : Fields → List ℕ
fields_bytes f = field_bytes f.prefix ++ (field_bytes f.opcode ++ (field_bytes f.modrm ++ field_bytes f.value))

abbrev pub answer_of : Result Fields EncodeError → Answer
answer_of (Ok f) = bytes (fields_bytes f)
answer_of (Err e) = refused e

-- ---- the bytes of a code
-- refusal 5 for a value that is not in its limits
abbrev pub required : ℤ → ℤ → ℤ → Span → Result (Unit {0}) EncodeError
required low high value span = pick (within low high value) (Ok tt) (Err (E.ImmediateOutOfRange span value low high))

-- a value in its limits, or refusal 5
abbrev pub ranged : ℤ → ℤ → ℤ → Span → List ℕ → Answer
ranged low high value span bs = pick (within low high value) (bytes bs) (refused (E.ImmediateOutOfRange span value low high))

unfoldable pub immediate_byte : ℤ → ℤ → ℤ → Span → Answer
immediate_byte low high value span = ranged low high value span (byte_of value)

unfoldable pub immediate_word : ℤ → ℤ → ℤ → Span → Answer
immediate_word low high value span = ranged low high value span (word_of value)

-- a distance byte, or refusal 6
unfoldable pub relative_byte : OperandData → ℕ → ℕ → Answer
relative_byte o off size =
    let d = distance_of o.imm off size in
    pick (within (negsuc 127) (pos 127) d) (bytes (byte_of d)) (refused (E.RelativeJumpOutOfRange o.span S.Byte true (wrapped d)))

-- a distance word of an instruction of three bytes
unfoldable pub relative_word : OperandData → ℕ → Answer
relative_word o off = ranged (limits target).low (limits target).high o.imm o.span (word_of (distance_of o.imm off 3))

-- the fields are taken modulo their widths: in a well-formed operand they are below
abbrev pub mod_rm_byte : ℕ → ℕ → ℕ → ℕ
mod_rm_byte mode reg rm = mode % 4 * 64 + reg % 8 * 8 + rm % 8

unfoldable pub mod_reg_rm : ℕ → OperandData → ℕ → List ℕ
mod_reg_rm op rm reg =
    prefix_bytes rm.segment_prefix ++ (op ∷ mod_rm_byte rm.mode reg rm.rm ∷ displacement_bytes rm)

abbrev pub joined : Answer → Answer → Answer
joined (refused e) b = refused e
joined (bytes xs) (refused e) = refused e
joined (bytes xs) (bytes ys) = bytes (xs ++ ys)

abbrev pub operand : InstructionData → ℕ → OperandData
operand insn k = pick (eqb k 0) (dst insn) (src insn)

abbrev pub other : InstructionData → ℕ → OperandData
other insn k = pick (eqb k 0) (src insn) (dst insn)

abbrev pub code_answer : Code → InstructionData → ℕ → Answer
code_answer (C.Byte b) insn off = bytes (b ∷ [])
code_answer (C.ImmByte k) insn off = immediate_byte (limits data_byte).low (limits data_byte).high (operand insn k).imm (operand insn k).span
code_answer (C.ImmWord k) insn off = immediate_word (limits data_word).low (limits data_word).high (operand insn k).imm (operand insn k).span
code_answer (C.DispWord k) insn off = immediate_word (limits address).low (limits address).high (operand insn k).displacement (operand insn k).span
code_answer (C.RelByte k size) insn off = relative_byte (operand insn k) off size
code_answer (C.ModRegRM k op) insn off = bytes (mod_reg_rm op (operand insn k) (other insn k).rm)
code_answer (C.ModRM k op reg) insn off = bytes (mod_reg_rm op (operand insn k) reg)
code_answer (C.RegByte k op) insn off = bytes ((op + (operand insn k).rm % 8) % 256 ∷ [])
code_answer (C.SegByte k op) insn off = bytes ((op + 8 * ((operand insn k).rm % 4)) % 256 ∷ [])
code_answer (C.MemByte k op) insn off = bytes (prefix_bytes (operand insn k).segment_prefix ++ (op ∷ []))
-- a port has a vector's limits
code_answer (C.UnsignedByte k) insn off = immediate_byte (limits vector).low (limits vector).high (operand insn k).imm (operand insn k).span
code_answer (C.UnsignedWord k) insn off = immediate_word (limits popped).low (limits popped).high (operand insn k).imm (operand insn k).span
code_answer (C.ImmSignExtended k) insn off = bytes (byte_of (operand insn k).imm)
code_answer (C.RelWord k) insn off = relative_word (operand insn k) off
code_answer (C.FarWords k) insn off =
    joined (immediate_word (limits target).low (limits target).high (operand insn k).imm (operand insn k).span)
    (immediate_word (limits segment).low (limits segment).high (operand insn k).displacement (operand insn k).span)
