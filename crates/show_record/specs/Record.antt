-- A record of a show file: 56 bytes, or 57 with a repeat behind the operand count; little-endian (REFERENCE 8). Bytes past the end count as 0.
-- Definitions only.
use Rattle.std.specs.Prelude.{ℕ, ◌+◌, ◌*◌, Bool, List, [], ◌∷◌, eqb, ltb, ℤ, length, get_or, None, Option, Some}
use Rattle.mrc_compiler.specs.declared.ast.Span.{Span}
use Rattle.mrc_compiler.specs.declared.operations.Operation.{Operation}
use Rattle.mrc_compiler.specs.declared.operations.Operation.TheVariants as Op
use Rattle.mrc_compiler.specs.declared.encoder.OperandKind.{OperandKind}
use Rattle.mrc_compiler.specs.declared.encoder.OperandKind.TheVariants as K
use Rattle.mrc_compiler.specs.declared.encoder.OperandSize.{OperandSize}
use Rattle.mrc_compiler.specs.declared.encoder.OperandSize.TheVariants as S
use Rattle.mrc_compiler.specs.declared.encoder.JumpKind.{JumpKind}
use Rattle.mrc_compiler.specs.declared.encoder.JumpKind.TheVariants as J
use Rattle.mrc_compiler.specs.declared.encoder.OperandData.{OperandData}
use Rattle.mrc_compiler.specs.declared.encoder.InstructionData.{InstructionData}
use Rattle.mrc_compiler.specs.Choose.{pick, both}
use Rattle.mrc_compiler.specs.Operations.{operations}
use Rattle.mrc_compiler.specs.Builders.{instruction, with_repeat}
use Rattle.base_values.specs.Distances.{as_i_32}

-- ---- codes: numbers from 0 in document 01's order; those of operations are their numbers
abbrev pub kinds : List OperandKind
kinds = K.Imm ∷ K.Reg ∷ K.Seg ∷ K.Mem ∷ []

abbrev pub sizes : List OperandSize
sizes = S.Unspecified ∷ S.Byte ∷ S.Word ∷ []

abbrev pub jump_kinds : List (Option JumpKind)
jump_kinds = None ∷ (Some J.Far) ∷ (Some J.Near) ∷ (Some J.Short) ∷ []

-- ---- the places of an operand's fields, from its first byte
abbrev pub kind_place : ℕ
kind_place = 0

abbrev pub size_place : ℕ
size_place = 1

abbrev pub prefix_place : ℕ
prefix_place = 2

abbrev pub displacement_size_place : ℕ
displacement_size_place = 3

abbrev pub jump_kind_place : ℕ
jump_kind_place = 4

abbrev pub mode_place : ℕ
mode_place = 5

abbrev pub rm_place : ℕ
rm_place = 6

abbrev pub imm_place : ℕ
imm_place = 7

abbrev pub displacement_place : ℕ
displacement_place = 11

abbrev pub operand_span_place : ℕ
operand_span_place = 15

abbrev pub operand_length : ℕ
operand_length = 23

-- ---- the places of a record's fields
abbrev pub operation_place : ℕ
operation_place = 0

abbrev pub count_place : ℕ
count_place = 1

abbrev pub span_place : ℕ
span_place = 2

abbrev pub first_place : ℕ
first_place = 10

abbrev pub second_place : ℕ
second_place = first_place + operand_length

-- without a repeat
abbrev pub record_length : ℕ
record_length = second_place + operand_length

-- a repeat stands behind the count, and moves the fields behind it by a byte
abbrev pub repeat_place : ℕ
repeat_place = 2

abbrev pub repeat_length : ℕ
repeat_length = 1

-- how many bytes of repeat a record of this length has
abbrev pub repeat_in : ℕ → ℕ
repeat_in n = pick (eqb n (record_length + repeat_length)) repeat_length 0

-- the lengths that a record has
abbrev pub is_record : ℕ → Bool
is_record n = eqb n (record_length + repeat_in n)

-- ---- what stands at a place
abbrev pub byte_at : List ℕ → ℕ → ℕ
byte_at s i = get_or s i 0

-- the number of four bytes, low byte first
abbrev pub u32_of : ℕ → ℕ → ℕ → ℕ → ℕ
u32_of a b c d = a + 256 * (b + 256 * (c + 256 * d))

abbrev pub u32_at : List ℕ → ℕ → ℕ
u32_at s i = u32_of (byte_at s i) (byte_at s (i + 1)) (byte_at s (i + 2)) (byte_at s (i + 3))

abbrev pub i32_at : List ℕ → ℕ → ℤ
i32_at s i = as_i_32 (u32_at s i)

abbrev pub span_at : List ℕ → ℕ → Span
span_at s i = record { start = u32_at s i; end = u32_at s (i + 4) }

abbrev pub operation_at : List ℕ → ℕ → Operation
operation_at s i = get_or operations (byte_at s i) Op.MOV

abbrev pub kind_at : List ℕ → ℕ → OperandKind
kind_at s i = get_or kinds (byte_at s i) K.Imm

abbrev pub size_at : List ℕ → ℕ → OperandSize
size_at s i = get_or sizes (byte_at s i) S.Unspecified

abbrev pub jump_kind_at : List ℕ → ℕ → Option JumpKind
jump_kind_at s i = get_or jump_kinds (byte_at s i) None

-- ---- the record
unfoldable pub operand_at : List ℕ → ℕ → OperandData
operand_at s i = record {
  span = span_at s (i + operand_span_place);
  size = size_at s (i + size_place);
  kind = kind_at s (i + kind_place);
  segment_prefix = byte_at s (i + prefix_place);
  imm = i32_at s (i + imm_place);
  displacement = i32_at s (i + displacement_place);
  displacement_size = size_at s (i + displacement_size_place);
  jmp_kind = jump_kind_at s (i + jump_kind_place);
  mode = byte_at s (i + mode_place);
  rm = byte_at s (i + rm_place);
}

-- an unknown code counts as the code 0
unfoldable pub instruction_at : List ℕ → InstructionData
instruction_at s =
    let d = repeat_in (length s) in
    with_repeat (pick (eqb d 0) 0 (byte_at s repeat_place))
    (instruction (span_at s (span_place + d)) (operation_at s operation_place) (byte_at s count_place) (operand_at s (first_place + d)) (operand_at s (second_place + d)))

-- ---- question 15: are all codes known? The operand count, repeat, prefix, mode and r/m are numbers, asked by question 1
abbrev pub known : {A : Type 0} → List A → ℕ → Bool
known codes n = ltb n (length codes)

unfoldable pub operand_known : List ℕ → ℕ → Bool
operand_known s i =
    both (known kinds (byte_at s (i + kind_place)))
    (both (known sizes (byte_at s (i + size_place)))
    (both (known sizes (byte_at s (i + displacement_size_place))) (known jump_kinds (byte_at s (i + jump_kind_place)))))

unfoldable pub codes_known : List ℕ → Bool
codes_known s =
    let d = repeat_in (length s) in
    both (known operations (byte_at s operation_place)) (both (operand_known s (first_place + d)) (operand_known s (second_place + d)))
