-- Records as bytes, and the instructions that they are. The first is document 01's MOV AX,4660.
-- Assumes nothing.
use Rattle.std.specs.Prelude.{Some}
use mathlib.Core.Path.{◌≡◌, refl}
use mathlib.Core.Bool.{Bool, true, false}
use mathlib.Core.List.{List, [], ◌∷◌, ◌++◌}
use Prim.Native.Nat.{ℕ, ◌+◌}
use lib.IntN.{pos, negsuc}
use lib.ListN.{length, take, drop, set}
use Rattle.mrc_compiler.specs.declared.ast.Span.{Span}
use Rattle.mrc_compiler.specs.declared.ast.DataSize.TheVariants as D
use Rattle.mrc_compiler.specs.declared.ast.Segment.TheVariants as G
use Rattle.mrc_compiler.specs.declared.encoder.OperandSize.TheVariants as S
use Rattle.mrc_compiler.specs.declared.operations.Operation.TheVariants as Op
use Rattle.mrc_compiler.specs.Builders.{immediate_operand, register_operand, indirect_operand, far_operand, one_operand, two_operands, with_repeat}
use Rattle.mrc_compiler.specs.Operations.{operations}
use Rattle.show_record.specs.Record.{kind_place, size_place, displacement_size_place, jump_kind_place, operation_place, count_place, first_place, second_place, record_length, is_record, operand_at, instruction_at, operand_known, codes_known}

abbrev whole : Span
whole = record { start = 1; end = 9 }

abbrev one : Span
one = record { start = 2; end = 4 }

abbrev two : Span
two = record { start = 0x01020304; end = 0xF5060708 }

-- four bytes below 256
abbrev small : ℕ → List ℕ
small n = n ∷ 0 ∷ 0 ∷ 0 ∷ []

-- the bytes of the spans
abbrev whole_bytes : List ℕ
whole_bytes = small 1 ++ small 9

abbrev one_bytes : List ℕ
one_bytes = small 2 ++ small 4

abbrev two_bytes : List ℕ
two_bytes = 0x04 ∷ 0x03 ∷ 0x02 ∷ 0x01 ∷ 0x08 ∷ 0x07 ∷ 0x06 ∷ 0xF5 ∷ []

-- MOV AX,4660
abbrev mov_bytes : List ℕ
mov_bytes =
    (0 ∷ 2 ∷ whole_bytes)
    ++ ((1 ∷ 2 ∷ 0 ∷ 0 ∷ 0 ∷ 3 ∷ 0 ∷ small 0 ++ (small 0 ++ one_bytes))
    ++ (0 ∷ 0 ∷ 0 ∷ 0 ∷ 0 ∷ 0 ∷ 0 ∷ (0x34 ∷ 0x12 ∷ 0 ∷ 0 ∷ small 0) ++ two_bytes))

-- ADD word CS:[BP - 2],-2147483648
abbrev add_bytes : List ℕ
add_bytes =
    (14 ∷ 2 ∷ whole_bytes)
    ++ ((3 ∷ 2 ∷ 0x2E ∷ 1 ∷ 0 ∷ 1 ∷ 6 ∷ small 0 ++ ((0xFE ∷ 0xFF ∷ 0xFF ∷ 0xFF ∷ []) ++ one_bytes))
    ++ (0 ∷ 0 ∷ 0 ∷ 0 ∷ 0 ∷ 0 ∷ 0 ∷ (0 ∷ 0 ∷ 0 ∷ 0x80 ∷ small 0) ++ two_bytes))

-- JMP 18:4660; the second operand is an empty one
abbrev jmp_bytes : List ℕ
jmp_bytes =
    (59 ∷ 1 ∷ whole_bytes)
    ++ ((0 ∷ 0 ∷ 0 ∷ 0 ∷ 1 ∷ 0 ∷ 0 ∷ 0x34 ∷ 0x12 ∷ 0 ∷ 0 ∷ small 18 ++ one_bytes)
    ++ (0 ∷ 0 ∷ 0 ∷ 0 ∷ 0 ∷ 0 ∷ 0 ∷ small 0 ++ (small 0 ++ whole_bytes)))

-- a record with a repeat: a byte behind the count (document 02, No. 11)
abbrev with_byte : ℕ → List ℕ → List ℕ
with_byte repeat s = take 2 s ++ (repeat ∷ drop 2 s)

record Rows : Type 0 where
  repeated_length : length (with_byte 0xF3 mov_bytes) ≡ 57
  repeated_mov : instruction_at (with_byte 0xF3 mov_bytes) ≡ with_repeat 0xF3 (instruction_at mov_bytes)
  repeated_add : instruction_at (with_byte 0xF2 add_bytes) ≡ with_repeat 0xF2 (instruction_at add_bytes)
  repeated_jmp : instruction_at (with_byte 0 jmp_bytes) ≡ instruction_at jmp_bytes
  repeated_99 : codes_known (with_byte 99 add_bytes) ≡ true
  repeated_unknown : codes_known (with_byte 0 (set add_bytes second_place 4)) ≡ false
  lengths : (is_record 55 ≡ false) × (is_record 56 ≡ true) × (is_record 57 ≡ true) × (is_record 58 ≡ false)
  mov_length : length mov_bytes ≡ record_length
  record_length_lem : ◌≡◌ {A = ℕ} record_length 56
  mov : instruction_at mov_bytes ≡ two_operands whole Op.MOV (register_operand one 0 S.Word) (immediate_operand two (pos 4660))
  add : instruction_at add_bytes ≡ two_operands whole Op.ADD (indirect_operand one 6 (negsuc 1) (Some D.Word) (Some G.CS)) (immediate_operand two (negsuc 2147483647))
  jmp : instruction_at jmp_bytes ≡ one_operand whole Op.JMP (far_operand one (pos 4660) (pos 18))
  mov_known : codes_known mov_bytes ≡ true
  add_known : codes_known add_bytes ≡ true
  jmp_known : codes_known jmp_bytes ≡ true

rows : Rows
unfolding operations operand_at instruction_at operand_known codes_known
rows = record {
  repeated_length = refl;
  repeated_mov = refl;
  repeated_add = refl;
  repeated_jmp = refl;
  repeated_99 = refl;
  repeated_unknown = refl;
  lengths = (refl, refl, refl, refl);
  mov_length = refl;
  record_length_lem = refl;
  mov = refl;
  add = refl;
  jmp = refl;
  mov_known = refl;
  add_known = refl;
  jmp_known = refl;
}

-- MOV AX,4660 with another byte at a place
abbrev known_with : ℕ → ℕ → Bool
known_with place byte = codes_known (set mov_bytes place byte)

-- the last code of each field is known
record Known : Type 0 where
  operation : known_with operation_place 98 ≡ true
  count : known_with count_place 255 ≡ true
  kind : known_with (first_place + kind_place) 3 ≡ true
  size : known_with (first_place + size_place) 2 ≡ true
  displacement_size : known_with (first_place + displacement_size_place) 2 ≡ true
  jump_kind : known_with (first_place + jump_kind_place) 3 ≡ true

known : Known
unfolding operations operand_known codes_known
known = record { operation = refl; count = refl; kind = refl; size = refl; displacement_size = refl; jump_kind = refl }

-- one more is not
record Unknown : Type 0 where
  operation : known_with operation_place 99 ≡ false
  kind : known_with (first_place + kind_place) 4 ≡ false
  size : known_with (first_place + size_place) 3 ≡ false
  displacement_size : known_with (first_place + displacement_size_place) 3 ≡ false
  jump_kind : known_with (first_place + jump_kind_place) 4 ≡ false
  second_kind : known_with (second_place + kind_place) 4 ≡ false
  second_size : known_with (second_place + size_place) 3 ≡ false
  second_displacement_size : known_with (second_place + displacement_size_place) 3 ≡ false
  second_jump_kind : known_with (second_place + jump_kind_place) 4 ≡ false

unknown : Unknown
unfolding operations operand_known codes_known
unknown = record {
  operation = refl;
  kind = refl;
  size = refl;
  displacement_size = refl;
  jump_kind = refl;
  second_kind = refl;
  second_size = refl;
  second_displacement_size = refl;
  second_jump_kind = refl;
}
