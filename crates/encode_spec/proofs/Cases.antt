-- The bench sheet's encoder rows (document 01) and those of document 02's Nos. 1, 2, 4 and 11, at every offset where the row names none. P marks the rows that 01 marks.
-- Assumes nothing.
use Rattle.std.specs.Prelude.{None, Option, Some, Err, Ok}
use mathlib.Core.Path.{◌≡◌, refl}
use mathlib.Core.Bool.{true}
use mathlib.Core.List.{[], ◌∷◌}
use Prim.Native.Nat.{ℕ}
use lib.IntN.{ℤ, pos, negsuc}
use Rattle.mrc_compiler.specs.declared.ast.DataSize.{DataSize}
use Rattle.mrc_compiler.specs.declared.ast.Span.{Span}
use Rattle.mrc_compiler.specs.declared.ast.DataSize.TheVariants as D
use Rattle.mrc_compiler.specs.declared.encoder.EncodeError.{EncodeError}
use Rattle.mrc_compiler.specs.declared.encoder.EncodeError.TheVariants as E
use Rattle.mrc_compiler.specs.declared.encoder.InstructionData.{InstructionData}
use Rattle.mrc_compiler.specs.declared.encoder.JumpKind.{JumpKind}
use Rattle.mrc_compiler.specs.declared.encoder.JumpKind.TheVariants as J
use Rattle.mrc_compiler.specs.declared.encoder.OperandKind.TheVariants as K
use Rattle.mrc_compiler.specs.declared.encoder.OperandData.{OperandData}
use Rattle.mrc_compiler.specs.declared.encoder.OperandSize.TheVariants as S
use Rattle.mrc_compiler.specs.declared.operations.Operation.{Operation}
use Rattle.mrc_compiler.specs.declared.operations.Operation.TheVariants as Op
use Rattle.mrc_compiler.specs.Operations.{number_of, is_string}
use Rattle.mrc_compiler.specs.Builders.{immediate_operand, far_operand, register_operand, segment_operand, direct_operand, indirect_operand, instruction, no_operands, one_operand, two_operands, with_repeat}
use Rattle.x86.specs.Forms.{forms}
use Rattle.x86.specs.Reading.{prefix, is_repeat}
use Rattle.encode_spec.specs.WellFormed.{well_formed}
use Rattle.encode_groups.specs.Grouping.{grouped_of}
use Rattle.encode_spec.specs.Choice.{forms_of}
use Rattle.encode_spec.specs.Layout.{layout}
use Rattle.encode_spec.specs.Questions.{questions}
use Rattle.encode_spec.specs.Answer.{bytes, refused, answer, outcome, slice_after}

-- spans that tell the instruction and its operands apart
abbrev whole : Span
whole = record { start = 1; end = 9 }

abbrev one : Span
one = record { start = 2; end = 4 }

abbrev two : Span
two = record { start = 5; end = 8 }

-- records
abbrev ax : OperandData
ax = register_operand one 0 S.Word

abbrev al : OperandData
al = register_operand one 0 S.Byte

abbrev immediate : ℤ → OperandData
immediate z = immediate_operand two z

abbrev with_one : Operation → OperandData → InstructionData
with_one op a = one_operand whole op a

abbrev with_two : Operation → OperandData → OperandData → InstructionData
with_two op a b = two_operands whole op a b

abbrev to : Operation → ℤ → InstructionData
to op z = with_one op (immediate_operand one z)

-- an operand with this kind of jump
abbrev of_kind : Option JumpKind → OperandData → OperandData
of_kind j o = record {
  span = o.span;
  kind = o.kind;
  size = o.size;
  segment_prefix = o.segment_prefix;
  displacement = o.displacement;
  displacement_size = o.displacement_size;
  mode = o.mode;
  rm = o.rm;
  imm = o.imm;
  jmp_kind = j;
}

abbrev target_of : Option JumpKind → ℤ → OperandData
target_of j z = of_kind j (immediate_operand one z)

-- [BX] of this size
abbrev bx : Span → Option DataSize → OperandData
bx s z = indirect_operand s 7 (pos 0) z None

abbrev through : Option JumpKind → Option DataSize → OperandData
through j z = of_kind j (bx one z)

-- RET with one operand
abbrev return : OperandData → InstructionData
return a = with_one Op.RET a

pub record Rows (off : ℕ) : Type 0 where
  pub mov_ax_4660 : answer (with_two Op.MOV ax (immediate (pos 4660))) off ≡ bytes (0xB8 ∷ 0x34 ∷ 0x12 ∷ [])  -- P
  pub aam : answer (no_operands whole Op.AAM) off ≡ bytes (0xD4 ∷ 0x0A ∷ [])  -- P
  pub test_al_5 : answer (with_two Op.TEST (register_operand one 0 S.Byte) (immediate (pos 5))) off ≡ bytes (0xA8 ∷ 0x05 ∷ [])  -- P
  pub add_ax_5 : answer (with_two Op.ADD ax (immediate (pos 5))) off ≡ bytes (0x83 ∷ 0xC0 ∷ 0x05 ∷ [])  -- P
  pub add_ax_minus_1 : answer (with_two Op.ADD ax (immediate (negsuc 0))) off ≡ bytes (0x83 ∷ 0xC0 ∷ 0xFF ∷ [])  -- P, by No. 2
  pub add_bx_200 : answer (with_two Op.ADD (register_operand one 3 S.Word) (immediate (pos 200))) off ≡ bytes (0x81 ∷ 0xC3 ∷ 0xC8 ∷ 0x00 ∷ [])
  pub add_word_bx_5 : answer (with_two Op.ADD (indirect_operand one 7 (pos 0) (Some D.Word) None) (immediate (pos 5))) off ≡ bytes (0x83 ∷ 0x07 ∷ 0x05 ∷ [])  -- P
  pub xchg_cl_al : answer (with_two Op.XCHG (register_operand one 1 S.Byte) (register_operand two 0 S.Byte)) off ≡ bytes (0x86 ∷ 0xC8 ∷ [])  -- P
  pub xchg_cx_cx : answer (with_two Op.XCHG (register_operand one 1 S.Word) (register_operand two 1 S.Word)) off ≡ bytes (0x87 ∷ 0xC9 ∷ [])  -- P
  pub je_0_129 : answer (to Op.JE (pos 129)) 0 ≡ bytes (0x74 ∷ 0x7F ∷ [])  -- P
  pub je_0_130 : answer (to Op.JE (pos 130)) 0 ≡ refused (E.RelativeJumpOutOfRange one S.Byte true (pos 128))  -- P
  pub je_256_130 : answer (to Op.JE (pos 130)) 256 ≡ bytes (0x74 ∷ 0x80 ∷ [])  -- P
  pub je_256_129 : answer (to Op.JE (pos 129)) 256 ≡ refused (E.RelativeJumpOutOfRange one S.Byte true (negsuc 128))  -- P
  pub je_65534_65536 : answer (to Op.JE (pos 65536)) 65534 ≡ bytes (0x74 ∷ 0x00 ∷ [])  -- P
  pub je_65534_0 : answer (to Op.JE (pos 0)) 65534 ≡ refused (E.RelativeJumpOutOfRange one S.Byte true (negsuc 65535))  -- P
  pub jmp_65533_0 : answer (to Op.JMP (pos 0)) 65533 ≡ bytes (0xE9 ∷ 0x00 ∷ 0x00 ∷ [])  -- P
  pub mov_al_bp : answer (with_two Op.MOV (register_operand one 0 S.Byte) (indirect_operand two 6 (pos 0) None None)) off ≡ bytes (0x8A ∷ 0x46 ∷ 0x00 ∷ [])  -- P
  pub mov_byte_bx_255 : answer (with_two Op.MOV (indirect_operand one 7 (pos 0) (Some D.Byte) None) (immediate (pos 255))) off ≡ bytes (0xC6 ∷ 0x07 ∷ 0xFF ∷ [])
  pub mov_byte_bx_300 : answer (with_two Op.MOV (indirect_operand one 7 (pos 0) (Some D.Byte) None) (immediate (pos 300))) off ≡ refused (E.ImmediateOutOfRange two (pos 300) (negsuc 127) (pos 255))
  -- No. 2: 83 by the value as written, in a Word alone
  pub add_ax_65535 : answer (with_two Op.ADD ax (immediate (pos 65535))) off ≡ bytes (0x05 ∷ 0xFF ∷ 0xFF ∷ [])
  pub add_ax_127 : answer (with_two Op.ADD ax (immediate (pos 127))) off ≡ bytes (0x83 ∷ 0xC0 ∷ 0x7F ∷ [])
  pub add_ax_128 : answer (with_two Op.ADD ax (immediate (pos 128))) off ≡ bytes (0x05 ∷ 0x80 ∷ 0x00 ∷ [])
  pub add_bx_minus_128 : answer (with_two Op.ADD (register_operand one 3 S.Word) (immediate (negsuc 127))) off ≡ bytes (0x83 ∷ 0xC3 ∷ 0x80 ∷ [])
  pub add_bx_minus_129 : answer (with_two Op.ADD (register_operand one 3 S.Word) (immediate (negsuc 128))) off ≡ bytes (0x81 ∷ 0xC3 ∷ 0x7F ∷ 0xFF ∷ [])
  pub add_word_bx_minus_1 : answer (with_two Op.ADD (bx one (Some D.Word)) (immediate (negsuc 0))) off ≡ bytes (0x83 ∷ 0x07 ∷ 0xFF ∷ [])
  pub add_word_bx_minus_129 : answer (with_two Op.ADD (bx one (Some D.Word)) (immediate (negsuc 128))) off ≡ bytes (0x81 ∷ 0x07 ∷ 0x7F ∷ 0xFF ∷ [])
  pub add_al_minus_1 : answer (with_two Op.ADD (register_operand one 0 S.Byte) (immediate (negsuc 0))) off ≡ bytes (0x04 ∷ 0xFF ∷ [])
  pub add_byte_bx_minus_1 : answer (with_two Op.ADD (bx one (Some D.Byte)) (immediate (negsuc 0))) off ≡ bytes (0x80 ∷ 0x07 ∷ 0xFF ∷ [])
  pub mov_ax_minus_1 : answer (with_two Op.MOV ax (immediate (negsuc 0))) off ≡ bytes (0xB8 ∷ 0xFF ∷ 0xFF ∷ [])
  -- No. 4: one range for data immediates; the others keep theirs
  pub mov_al_minus_1 : answer (with_two Op.MOV al (immediate (negsuc 0))) off ≡ bytes (0xB0 ∷ 0xFF ∷ [])
  pub mov_al_minus_128 : answer (with_two Op.MOV al (immediate (negsuc 127))) off ≡ bytes (0xB0 ∷ 0x80 ∷ [])
  pub mov_al_minus_129 : answer (with_two Op.MOV al (immediate (negsuc 128))) off ≡ refused (E.ImmediateOutOfRange two (negsuc 128) (negsuc 127) (pos 255))
  pub mov_al_256 : answer (with_two Op.MOV al (immediate (pos 256))) off ≡ refused (E.ImmediateOutOfRange two (pos 256) (negsuc 127) (pos 255))
  pub mov_ax_minus_32768 : answer (with_two Op.MOV ax (immediate (negsuc 32767))) off ≡ bytes (0xB8 ∷ 0x00 ∷ 0x80 ∷ [])
  pub mov_ax_minus_32769 : answer (with_two Op.MOV ax (immediate (negsuc 32768))) off ≡ refused (E.ImmediateOutOfRange two (negsuc 32768) (negsuc 32767) (pos 65535))
  pub add_ax_minus_129 : answer (with_two Op.ADD ax (immediate (negsuc 128))) off ≡ bytes (0x05 ∷ 0x7F ∷ 0xFF ∷ [])
  pub add_ax_70000 : answer (with_two Op.ADD ax (immediate (pos 70000))) off ≡ refused (E.ImmediateOutOfRange two (pos 70000) (negsuc 32767) (pos 65535))
  pub test_al_minus_1 : answer (with_two Op.TEST al (immediate (negsuc 0))) off ≡ bytes (0xA8 ∷ 0xFF ∷ [])
  pub test_bl_minus_129 : answer (with_two Op.TEST (register_operand one 3 S.Byte) (immediate (negsuc 128))) off ≡ refused (E.ImmediateOutOfRange two (negsuc 128) (negsuc 127) (pos 255))
  pub int_minus_1 : answer (to Op.INT (negsuc 0)) off ≡ refused (E.ImmediateOutOfRange one (negsuc 0) (pos 0) (pos 255))
  pub in_minus_1 : answer (with_two Op.IN al (immediate (negsuc 0))) off ≡ refused (E.ImmediateOutOfRange two (negsuc 0) (pos 0) (pos 255))
  pub out_minus_1 : answer (with_two Op.OUT (immediate_operand one (negsuc 0)) (register_operand two 0 S.Byte)) off ≡ refused (E.ImmediateOutOfRange one (negsuc 0) (pos 0) (pos 255))
  pub mov_al_at_minus_1 : answer (with_two Op.MOV al (direct_operand two (negsuc 0) None None)) off ≡ refused (E.ImmediateOutOfRange two (negsuc 0) (pos 0) (pos 65535))
  pub call_minus_1 : answer (to Op.CALL (negsuc 0)) off ≡ refused (E.ImmediateOutOfRange one (negsuc 0) (pos 0) (pos 65535))
  pub jmp_far_minus_1 : answer (with_one Op.JMP (far_operand one (pos 0) (negsuc 0))) off ≡ refused (E.ImmediateOutOfRange one (negsuc 0) (pos 0) (pos 65535))
  pub shl_minus_1 : answer (with_two Op.SHL al (immediate (negsuc 0))) off ≡ refused (E.InvalidOperands whole)
  -- No. 1
  pub test_ax_bx : answer (with_two Op.TEST ax (register_operand two 3 S.Word)) off ≡ bytes (0x85 ∷ 0xD8 ∷ [])
  pub test_bx_ax : answer (with_two Op.TEST (register_operand one 3 S.Word) (register_operand two 0 S.Word)) off ≡ bytes (0x85 ∷ 0xC3 ∷ [])
  pub test_bx_cl : answer (with_two Op.TEST (bx one None) (register_operand two 1 S.Byte)) off ≡ bytes (0x84 ∷ 0x0F ∷ [])
  pub test_cl_bx : answer (with_two Op.TEST (register_operand one 1 S.Byte) (bx two None)) off ≡ bytes (0x84 ∷ 0x0F ∷ [])
  pub test_ax_5 : answer (with_two Op.TEST ax (immediate (pos 5))) off ≡ bytes (0xA9 ∷ 0x05 ∷ 0x00 ∷ [])
  pub test_bl_255 : answer (with_two Op.TEST (register_operand one 3 S.Byte) (immediate (pos 255))) off ≡ bytes (0xF6 ∷ 0xC3 ∷ 0xFF ∷ [])
  pub test_bl_300 : answer (with_two Op.TEST (register_operand one 3 S.Byte) (immediate (pos 300))) off ≡ refused (E.ImmediateOutOfRange two (pos 300) (negsuc 127) (pos 255))
  pub test_word_bx : answer (with_two Op.TEST (bx one (Some D.Word)) (immediate (pos 65535))) off ≡ bytes (0xF7 ∷ 0x07 ∷ 0xFF ∷ 0xFF ∷ [])
  pub test_word_minus_1 : answer (with_two Op.TEST (bx one (Some D.Word)) (immediate (negsuc 0))) off ≡ bytes (0xF7 ∷ 0x07 ∷ 0xFF ∷ 0xFF ∷ [])
  pub test_5_al : answer (with_two Op.TEST (immediate_operand one (pos 5)) (register_operand two 0 S.Byte)) off ≡ refused (E.InvalidOperands whole)
  pub push_word_bx : answer (with_one Op.PUSH (bx one (Some D.Word))) off ≡ bytes (0xFF ∷ 0x37 ∷ [])
  pub push_byte_bx : answer (with_one Op.PUSH (bx one (Some D.Byte))) off ≡ refused (E.InvalidOperands one)
  pub push_unstated_bx : answer (with_one Op.PUSH (bx one None)) off ≡ refused (E.InvalidOperands one)
  pub pop_word_bx : answer (with_one Op.POP (bx one (Some D.Word))) off ≡ bytes (0x8F ∷ 0x07 ∷ [])
  pub pop_byte_bx : answer (with_one Op.POP (bx one (Some D.Byte))) off ≡ refused (E.InvalidOperandSize one)
  pub ret : answer (no_operands whole Op.RET) off ≡ bytes (0xC3 ∷ [])
  pub ret_0 : answer (return (immediate_operand one (pos 0))) off ≡ bytes (0xC2 ∷ 0x00 ∷ 0x00 ∷ [])
  pub ret_65535 : answer (return (target_of (Some J.Far) (pos 65535))) off ≡ bytes (0xC2 ∷ 0xFF ∷ 0xFF ∷ [])
  pub ret_two : answer (with_two Op.RET (immediate_operand one (pos 4)) ax) off ≡ bytes (0xC2 ∷ 0x04 ∷ 0x00 ∷ [])
  pub ret_minus_1 : answer (return (immediate_operand one (negsuc 0))) off ≡ refused (E.ImmediateOutOfRange one (negsuc 0) (pos 0) (pos 65535))
  pub ret_ax : answer (return ax) off ≡ refused (E.InvalidOperands whole)
  pub call_far_bx : answer (with_one Op.CALL (through (Some J.Far) None)) off ≡ bytes (0xFF ∷ 0x1F ∷ [])
  pub call_far_word_bx : answer (with_one Op.CALL (through (Some J.Far) (Some D.Word))) off ≡ bytes (0xFF ∷ 0x1F ∷ [])
  pub call_far_byte_bx : answer (with_one Op.CALL (through (Some J.Far) (Some D.Byte))) off ≡ refused (E.InvalidOperands whole)
  pub call_near_bx : answer (with_one Op.CALL (through (Some J.Near) None)) off ≡ bytes (0xFF ∷ 0x17 ∷ [])
  pub jmp_far_bx : answer (with_one Op.JMP (through (Some J.Far) None)) off ≡ refused (E.InvalidOperands one)
  pub jmp_short : answer (with_one Op.JMP (target_of (Some J.Short) (pos 129))) 0 ≡ bytes (0xEB ∷ 0x7F ∷ [])
  pub jmp_short_130 : answer (with_one Op.JMP (target_of (Some J.Short) (pos 130))) 0 ≡ refused (E.RelativeJumpOutOfRange one S.Byte true (pos 128))
  pub jmp_short_back : answer (with_one Op.JMP (target_of (Some J.Short) (pos 130))) 256 ≡ bytes (0xEB ∷ 0x80 ∷ [])
  pub jmp_short_wraps_not : answer (with_one Op.JMP (target_of (Some J.Short) (pos 0))) 65534 ≡ refused (E.RelativeJumpOutOfRange one S.Byte true (negsuc 65535))
  pub jmp_short_minus_1 : answer (with_one Op.JMP (target_of (Some J.Short) (negsuc 0))) off ≡ refused (E.ImmediateOutOfRange one (negsuc 0) (pos 0) (pos 65535))
  pub jmp_short_65536 : answer (with_one Op.JMP (target_of (Some J.Short) (pos 65536))) off ≡ refused (E.ImmediateOutOfRange one (pos 65536) (pos 0) (pos 65535))
  pub jmp_no_kind : answer (to Op.JMP (pos 5)) 0 ≡ bytes (0xE9 ∷ 0x02 ∷ 0x00 ∷ [])
  pub wait : answer (no_operands whole Op.WAIT) off ≡ bytes (0x9B ∷ [])
  pub int1 : answer (no_operands whole Op.INT1) off ≡ refused (E.NotSupported whole)
  pub esc : answer (no_operands whole Op.ESC) off ≡ refused (E.NotSupported whole)
  -- No. 11: F2 or F3 before a string operation; else 23
  pub rep_movsb : answer (with_repeat 0xF3 (no_operands whole Op.MOVSB)) off ≡ bytes (0xF3 ∷ 0xA4 ∷ [])
  pub repne_scasb : answer (with_repeat 0xF2 (no_operands whole Op.SCASB)) off ≡ bytes (0xF2 ∷ 0xAE ∷ [])
  pub repne_movsb : answer (with_repeat 0xF2 (no_operands whole Op.MOVSB)) off ≡ bytes (0xF2 ∷ 0xA4 ∷ [])
  pub rep_movsw : answer (with_repeat 0xF3 (no_operands whole Op.MOVSW)) off ≡ bytes (0xF3 ∷ 0xA5 ∷ [])
  pub rep_cmpsb : answer (with_repeat 0xF3 (no_operands whole Op.CMPSB)) off ≡ bytes (0xF3 ∷ 0xA6 ∷ [])
  pub rep_cmpsw : answer (with_repeat 0xF3 (no_operands whole Op.CMPSW)) off ≡ bytes (0xF3 ∷ 0xA7 ∷ [])
  pub rep_stosb : answer (with_repeat 0xF3 (no_operands whole Op.STOSB)) off ≡ bytes (0xF3 ∷ 0xAA ∷ [])
  pub rep_stosw : answer (with_repeat 0xF3 (no_operands whole Op.STOSW)) off ≡ bytes (0xF3 ∷ 0xAB ∷ [])
  pub rep_lodsb : answer (with_repeat 0xF3 (no_operands whole Op.LODSB)) off ≡ bytes (0xF3 ∷ 0xAC ∷ [])
  pub rep_lodsw : answer (with_repeat 0xF3 (no_operands whole Op.LODSW)) off ≡ bytes (0xF3 ∷ 0xAD ∷ [])
  pub rep_scasw : answer (with_repeat 0xF3 (no_operands whole Op.SCASW)) off ≡ bytes (0xF3 ∷ 0xAF ∷ [])
  pub movsb : answer (no_operands whole Op.MOVSB) off ≡ bytes (0xA4 ∷ [])
  pub rep : answer (no_operands whole Op.REP) off ≡ bytes (0xF3 ∷ [])
  pub rep_two : answer (with_repeat 0xF3 (with_two Op.MOVSB ax ax)) off ≡ bytes (0xF3 ∷ 0xA4 ∷ [])
  pub lock_movsb : answer (with_repeat 0xF0 (no_operands whole Op.MOVSB)) off ≡ refused (E.InvalidRepeat whole)
  pub repeat_1 : answer (with_repeat 1 (no_operands whole Op.MOVSB)) off ≡ refused (E.InvalidRepeat whole)
  pub repeat_f1 : answer (with_repeat 0xF1 (no_operands whole Op.MOVSB)) off ≡ refused (E.InvalidRepeat whole)
  pub repeat_f4 : answer (with_repeat 0xF4 (no_operands whole Op.MOVSB)) off ≡ refused (E.InvalidRepeat whole)
  pub rep_rep : answer (with_repeat 0xF3 (no_operands whole Op.REP)) off ≡ refused (E.InvalidRepeat whole)
  pub rep_repne : answer (with_repeat 0xF3 (no_operands whole Op.REPNE)) off ≡ refused (E.InvalidRepeat whole)
  pub rep_lock : answer (with_repeat 0xF3 (no_operands whole Op.LOCK)) off ≡ refused (E.InvalidRepeat whole)
  pub rep_nop : answer (with_repeat 0xF3 (no_operands whole Op.NOP)) off ≡ refused (E.InvalidRepeat whole)
  pub rep_call : answer (with_repeat 0xF3 (to Op.CALL (pos 0))) off ≡ refused (E.InvalidRepeat whole)
  pub rep_esc : answer (with_repeat 0xF3 (no_operands whole Op.ESC)) off ≡ refused (E.InvalidRepeat whole)

rows : (off : ℕ) → Rows off
unfolding answer questions well_formed prefix is_repeat is_string grouped_of forms_of forms number_of layout
rows off = record {
  rep_movsb = refl;
  repne_scasb = refl;
  repne_movsb = refl;
  rep_movsw = refl;
  rep_cmpsb = refl;
  rep_cmpsw = refl;
  rep_stosb = refl;
  rep_stosw = refl;
  rep_lodsb = refl;
  rep_lodsw = refl;
  rep_scasw = refl;
  movsb = refl;
  rep = refl;
  rep_two = refl;
  lock_movsb = refl;
  repeat_1 = refl;
  repeat_f1 = refl;
  repeat_f4 = refl;
  rep_rep = refl;
  rep_repne = refl;
  rep_lock = refl;
  rep_nop = refl;
  rep_call = refl;
  rep_esc = refl;
  mov_ax_4660 = refl;
  aam = refl;
  test_al_5 = refl;
  add_ax_5 = refl;
  add_ax_minus_1 = refl;
  add_bx_200 = refl;
  add_word_bx_5 = refl;
  xchg_cl_al = refl;
  xchg_cx_cx = refl;
  je_0_129 = refl;
  je_0_130 = refl;
  je_256_130 = refl;
  je_256_129 = refl;
  je_65534_65536 = refl;
  je_65534_0 = refl;
  jmp_65533_0 = refl;
  mov_al_bp = refl;
  mov_byte_bx_255 = refl;
  mov_byte_bx_300 = refl;
  add_ax_65535 = refl;
  add_ax_127 = refl;
  add_ax_128 = refl;
  add_bx_minus_128 = refl;
  add_bx_minus_129 = refl;
  add_word_bx_minus_1 = refl;
  add_word_bx_minus_129 = refl;
  add_al_minus_1 = refl;
  add_byte_bx_minus_1 = refl;
  mov_ax_minus_1 = refl;
  mov_al_minus_1 = refl;
  mov_al_minus_128 = refl;
  mov_al_minus_129 = refl;
  mov_al_256 = refl;
  mov_ax_minus_32768 = refl;
  mov_ax_minus_32769 = refl;
  add_ax_minus_129 = refl;
  add_ax_70000 = refl;
  test_al_minus_1 = refl;
  test_bl_minus_129 = refl;
  int_minus_1 = refl;
  in_minus_1 = refl;
  out_minus_1 = refl;
  mov_al_at_minus_1 = refl;
  call_minus_1 = refl;
  jmp_far_minus_1 = refl;
  shl_minus_1 = refl;
  test_ax_bx = refl;
  test_bx_ax = refl;
  test_bx_cl = refl;
  test_cl_bx = refl;
  test_ax_5 = refl;
  test_bl_255 = refl;
  test_bl_300 = refl;
  test_word_bx = refl;
  test_word_minus_1 = refl;
  test_5_al = refl;
  push_word_bx = refl;
  push_byte_bx = refl;
  push_unstated_bx = refl;
  pop_word_bx = refl;
  pop_byte_bx = refl;
  ret = refl;
  ret_0 = refl;
  ret_65535 = refl;
  ret_two = refl;
  ret_minus_1 = refl;
  ret_ax = refl;
  call_far_bx = refl;
  call_far_word_bx = refl;
  call_far_byte_bx = refl;
  call_near_bx = refl;
  jmp_far_bx = refl;
  jmp_short = refl;
  jmp_short_130 = refl;
  jmp_short_back = refl;
  jmp_short_wraps_not = refl;
  jmp_short_minus_1 = refl;
  jmp_short_65536 = refl;
  jmp_no_kind = refl;
  wait = refl;
  int1 = refl;
  esc = refl;
}

-- ---- which question comes first, where a record fails two
-- not well formed: no register has the number 8
abbrev bad : Span → OperandData
bad s = register_operand s 8 S.Word

-- an immediate that states the size of a word
abbrev word : Span → ℤ → OperandData
word s z = record {
  span = s;
  kind = K.Imm;
  size = S.Word;
  segment_prefix = 0;
  displacement = pos 0;
  displacement_size = S.Unspecified;
  mode = 0;
  rm = 0;
  imm = z;
  jmp_kind = None;
}

record Order : Type 0 where
  -- question 1: the count, the first operand, the second, used or not
  count_3 : answer (instruction whole Op.AAM 3 ax ax) 0 ≡ refused (E.NotWellFormed whole)
  first_operand : answer (with_two Op.ADD (bad one) (immediate (pos 5))) 0 ≡ refused (E.NotWellFormed one)
  unused_operand : answer (with_two Op.AAM ax (bad two)) 0 ≡ refused (E.NotWellFormed two)
  count_before_operand : answer (instruction whole Op.AAM 3 (bad one) (bad two)) 0 ≡ refused (E.NotWellFormed whole)
  first_before_second : answer (with_two Op.ADD (bad one) (bad two)) 0 ≡ refused (E.NotWellFormed one)
  -- 8 before the others
  eight_before_7 : answer (with_one Op.INT1 (bad one)) 0 ≡ refused (E.NotWellFormed one)
  eight_before_2 : answer (with_two Op.ADD (bx one None) (register_operand two 8 S.Unspecified)) 0 ≡ refused (E.NotWellFormed two)
  eight_before_4 : answer (with_one Op.INC (indirect_operand one 8 (pos 0) None None)) 0 ≡ refused (E.NotWellFormed one)
  eight_before_3 : answer (with_two Op.ADD al (bad two)) 0 ≡ refused (E.NotWellFormed two)
  eight_before_1 : answer (with_one Op.POP (segment_operand one 5)) 0 ≡ refused (E.NotWellFormed one)
  eight_before_5 : answer (instruction whole Op.MOV 3 al (immediate (pos 300))) 0 ≡ refused (E.NotWellFormed whole)
  eight_before_6 : answer (instruction whole Op.JE 3 (immediate_operand one (pos 130)) (immediate (pos 0))) 0 ≡ refused (E.NotWellFormed whole)
  -- and 8 before 23
  count_before_23 : answer (with_repeat 0xF0 (instruction whole Op.MOVSB 3 ax ax)) 0 ≡ refused (E.NotWellFormed whole)
  first_before_23 : answer (with_repeat 0xF0 (with_two Op.MOVSB (bad one) ax)) 0 ≡ refused (E.NotWellFormed one)
  unused_before_23 : answer (with_repeat 0xF0 (instruction whole Op.MOVSB 0 ax (bad two))) 0 ≡ refused (E.NotWellFormed two)
  -- 23 before the others
  twenty_three_before_7 : answer (with_repeat 0xF3 (no_operands whole Op.ESC)) 0 ≡ refused (E.InvalidRepeat whole)
  twenty_three_before_2 : answer (with_repeat 0xF3 (with_two Op.ADD (bx one None) (bx two None))) 0 ≡ refused (E.InvalidRepeat whole)
  twenty_three_before_1 : answer (with_repeat 0xF3 (with_one Op.POP (segment_operand one 1))) 0 ≡ refused (E.InvalidRepeat whole)
  twenty_three_before_5 : answer (with_repeat 0xF3 (with_two Op.MOV al (immediate (pos 300)))) 0 ≡ refused (E.InvalidRepeat whole)
  twenty_three_before_6 : answer (with_repeat 0xF3 (to Op.JE (pos 130))) 0 ≡ refused (E.InvalidRepeat whole)
  -- 7 before the sizes and the form
  seven_before_3 : answer (with_two Op.ESC al ax) 0 ≡ refused (E.NotSupported whole)
  seven_before_1 : answer (with_one Op.INT1 (segment_operand one 3)) 0 ≡ refused (E.NotSupported whole)
  -- the stated size before the form and the range
  two_before_1 : answer (with_two Op.ADD (bx one None) (bx two None)) 0 ≡ refused (E.OperandSizeNotSpecified whole)
  two_before_5 : answer (with_two Op.ADD (bx one None) (immediate (pos 70000))) 0 ≡ refused (E.OperandSizeNotSpecified whole)
  four_before_1 : answer (with_one Op.POP (register_operand one 0 S.Unspecified)) 0 ≡ refused (E.InvalidOperandSize one)
  -- equal sizes before the form and the range
  three_before_1 : answer (with_two Op.ADD al (segment_operand two 3)) 0 ≡ refused (E.OperandSizesDoNotMatch whole)
  three_before_5 : answer (with_two Op.ADD al (word two (pos 70000))) 0 ≡ refused (E.OperandSizesDoNotMatch whole)
  -- the form before the range and the distance
  one_before_5 : answer (with_two Op.IN (register_operand one 3 S.Word) (immediate (pos 256))) 0 ≡ refused (E.InvalidOperands whole)
  four_before_5 : answer (with_one Op.POP (word one (pos 70000))) 0 ≡ refused (E.InvalidOperandSize one)
  one_before_6 : answer (with_one Op.JE (target_of (Some J.Far) (pos 300))) 0 ≡ refused (E.InvalidOperands one)
  -- the range before the distance
  five_before_6 : answer (with_one Op.JMP (target_of (Some J.Short) (pos 65536))) 0 ≡ refused (E.ImmediateOutOfRange one (pos 65536) (pos 0) (pos 65535))

order : Order
unfolding well_formed answer questions prefix is_repeat is_string grouped_of forms_of forms number_of layout
order = record {
  count_3 = refl;
  first_operand = refl;
  unused_operand = refl;
  count_before_operand = refl;
  first_before_second = refl;
  eight_before_7 = refl;
  eight_before_2 = refl;
  eight_before_4 = refl;
  eight_before_3 = refl;
  eight_before_1 = refl;
  eight_before_5 = refl;
  eight_before_6 = refl;
  count_before_23 = refl;
  first_before_23 = refl;
  unused_before_23 = refl;
  twenty_three_before_7 = refl;
  twenty_three_before_2 = refl;
  twenty_three_before_1 = refl;
  twenty_three_before_5 = refl;
  twenty_three_before_6 = refl;
  seven_before_3 = refl;
  seven_before_1 = refl;
  two_before_1 = refl;
  two_before_5 = refl;
  four_before_1 = refl;
  three_before_1 = refl;
  three_before_5 = refl;
  one_before_5 = refl;
  four_before_5 = refl;
  one_before_6 = refl;
  five_before_6 = refl;
}

-- ---- question 8: the lent slice, and which refusal comes first
abbrev shown : Span
shown = record { start = 3; end = 9 }

record Slices (e : EncodeError) : Type 0 where
  short : outcome (bytes (1 ∷ 2 ∷ [])) shown (7 ∷ []) ≡ Err (E.SliceTooShort shown)
  short_stays : slice_after (bytes (1 ∷ 2 ∷ [])) (7 ∷ []) ≡ 7 ∷ []
  exact : outcome (bytes (1 ∷ 2 ∷ [])) shown (7 ∷ 8 ∷ []) ≡ Ok 2
  exact_after : slice_after (bytes (1 ∷ 2 ∷ [])) (7 ∷ 8 ∷ []) ≡ 1 ∷ 2 ∷ []
  longer_after : slice_after (bytes (1 ∷ 2 ∷ [])) (7 ∷ 8 ∷ 9 ∷ []) ≡ 1 ∷ 2 ∷ 9 ∷ []
  -- another refusal before 9
  refused_first : outcome (refused e) shown [] ≡ Err e
  refused_stays : slice_after (refused e) (7 ∷ []) ≡ 7 ∷ []

slices : (e : EncodeError) → Slices e
slices e = record { short = refl; short_stays = refl; exact = refl; exact_after = refl; longer_after = refl; refused_first = refl; refused_stays = refl }
