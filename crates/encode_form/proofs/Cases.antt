-- The form or the question of a record, at every offset where the row names none: values of document 02, No. 3, and of the SDM's opcode column.
-- Assumes nothing.
use Rattle.std.specs.Prelude.{Option, Some, None}
use mathlib.Core.Path.{◌≡◌, refl}
use Prim.Native.Nat.{ℕ}
use lib.IntN.{ℤ, pos, negsuc}
use Rattle.mrc_compiler.specs.declared.ast.DataSize.{DataSize}
use Rattle.mrc_compiler.specs.declared.ast.Span.{Span}
use Rattle.mrc_compiler.specs.declared.ast.DataSize.TheVariants as Z
use Rattle.mrc_compiler.specs.declared.encoder.InstructionData.{InstructionData}
use Rattle.mrc_compiler.specs.declared.encoder.OperandData.{OperandData}
use Rattle.mrc_compiler.specs.declared.encoder.OperandSize.{OperandSize}
use Rattle.mrc_compiler.specs.declared.encoder.OperandSize.TheVariants as S
use Rattle.mrc_compiler.specs.declared.encoder.JumpKind.{JumpKind}
use Rattle.mrc_compiler.specs.declared.encoder.JumpKind.TheVariants as J
use Rattle.mrc_compiler.specs.declared.operations.Operation.{Operation}
use Rattle.mrc_compiler.specs.declared.operations.Operation.TheVariants as Op
use Rattle.mrc_compiler.specs.declared.ast.Segment.TheVariants as Sr
use Rattle.mrc_compiler.specs.Operations.{number_of, is_string}
use Rattle.mrc_compiler.specs.Builders.{immediate_operand, far_operand, register_operand, segment_operand, direct_operand, indirect_operand, no_operands, one_operand, two_operands, with_repeat}
use Rattle.x86.specs.Forms.{forms}
use Rattle.x86.specs.Reading.{prefix, is_repeat}
use Rattle.encode_groups.specs.Grouping.{grouped_of}
use Rattle.encode_spec.specs.WellFormed.{well_formed}
use Rattle.encode_spec.specs.Choice.{forms_of}
use Rattle.encode_spec.specs.Questions.{questions}
use Rattle.encode_form.specs.declared.Limits.{Limits}
use Rattle.encode_form.specs.declared.Ground.{Ground}
use Rattle.encode_form.specs.declared.Ground.TheVariants as G
use Rattle.encode_form.specs.Ground.{ground}

-- ---- records
abbrev one : Span
one = record { start = 2; end = 4 }

abbrev word : ℕ → OperandData
word n = register_operand one n S.Word

abbrev byte : ℕ → OperandData
byte n = register_operand one n S.Byte

abbrev imm : ℤ → OperandData
imm v = immediate_operand one v

abbrev segment : ℕ → OperandData
segment n = segment_operand one n

abbrev at_bx : Option DataSize → OperandData
at_bx s = indirect_operand one 7 (pos 0) s None

abbrev at_es_bx : OperandData
at_es_bx = indirect_operand one 7 (pos 0) None (Some Sr.ES)

abbrev address : OperandData
address = direct_operand one (pos 4660) None None

abbrev es_address : OperandData
es_address = direct_operand one (pos 4660) None (Some Sr.ES)

abbrev below : OperandData
below = direct_operand one (negsuc 0) None None

-- the operand with another size, kind of jump or r/m
abbrev with : OperandSize → Option JumpKind → ℕ → OperandData → OperandData
with s j r o = record {
  span = o.span;
  kind = o.kind;
  size = s;
  segment_prefix = o.segment_prefix;
  displacement = o.displacement;
  displacement_size = o.displacement_size;
  mode = o.mode;
  rm = r;
  imm = o.imm;
  jmp_kind = j;
}

abbrev sized : OperandSize → OperandData → OperandData
sized s o = with s o.jmp_kind o.rm o

abbrev kinded : Option JumpKind → OperandData → OperandData
kinded j o = with o.size j o.rm o

abbrev malformed : OperandData
malformed = with S.Word None 8 (word 0)

abbrev without : Operation → InstructionData
without op = no_operands one op

abbrev with_one : Operation → OperandData → InstructionData
with_one op a = one_operand one op a

abbrev with_two : Operation → OperandData → OperandData → InstructionData
with_two op a b = two_operands one op a b

abbrev three_operands : InstructionData
three_operands = record { operation = Op.NOP; num_opers = 3; repeat = 0; opers = (without Op.NOP).opers; opers_span = one }

-- what is printed: opcode, /n, how many operands, limits
abbrev between : ℤ → ℤ → Option Limits
between l h = Some (record { low = l; high = h })

abbrev form : ℕ → Option ℕ → ℕ → Option Limits → Ground
form c d n l = G.Form (record { opcode = c; digit = d; operands = n; limits = l })

pub record Rows (off : ℕ) : Type 0 where
  -- No. 11: the string operation's opcode behind a repeat
  pub rep_movsb : ground (with_repeat 0xF3 (without Op.MOVSB)) off ≡ form 0xA4 None 0 None
  pub repne_scasw : ground (with_repeat 0xF2 (without Op.SCASW)) off ≡ form 0xAF None 0 None
  pub rep : ground (without Op.REP) off ≡ form 0xF3 None 0 None
  pub rep_esc : ground (with_repeat 0xF3 (without Op.ESC)) off ≡ G.Question 1
  pub repeat_99 : ground (with_repeat 99 (without Op.MOVSB)) off ≡ G.Question 1
  pub add_bx_5 : ground (with_two Op.ADD (word 3) (imm (pos 5))) off ≡ form 0x83 (Some 0) 2 (between (negsuc 127) (pos 127))
  pub cmp_word_bx_minus_1 : ground (with_two Op.CMP (at_bx (Some Z.Word)) (imm (negsuc 0))) off ≡ form 0x83 (Some 7) 2 (between (negsuc 127) (pos 127))
  pub add_ax_200 : ground (with_two Op.ADD (word 0) (imm (pos 200))) off ≡ form 0x05 None 2 (between (negsuc 32767) (pos 65535))
  pub add_bx_200 : ground (with_two Op.ADD (word 3) (imm (pos 200))) off ≡ form 0x81 (Some 0) 2 (between (negsuc 32767) (pos 65535))
  pub sub_byte_bx_5 : ground (with_two Op.SUB (at_bx (Some Z.Byte)) (imm (pos 5))) off ≡ form 0x80 (Some 5) 2 (between (negsuc 127) (pos 255))
  pub add_ax_bx : ground (with_two Op.ADD (word 0) (word 3)) off ≡ form 0x01 None 2 None
  pub add_ax_at_bx : ground (with_two Op.ADD (word 0) (at_bx None)) off ≡ form 0x03 None 2 None
  pub neg_bl : ground (with_one Op.NEG (byte 3)) off ≡ form 0xF6 (Some 3) 1 None
  pub inc_bx : ground (with_one Op.INC (word 3)) off ≡ form 0x43 None 1 None
  pub inc_bl : ground (with_one Op.INC (byte 3)) off ≡ form 0xFE (Some 0) 1 None
  pub dec_word_bx : ground (with_one Op.DEC (at_bx (Some Z.Word))) off ≡ form 0xFF (Some 1) 1 None
  pub mov_bx_5 : ground (with_two Op.MOV (word 3) (imm (pos 5))) off ≡ form 0xBB None 2 (between (negsuc 32767) (pos 65535))
  pub mov_bl_5 : ground (with_two Op.MOV (byte 3) (imm (pos 5))) off ≡ form 0xB3 None 2 (between (negsuc 127) (pos 255))
  pub mov_byte_bx_5 : ground (with_two Op.MOV (at_bx (Some Z.Byte)) (imm (pos 5))) off ≡ form 0xC6 (Some 0) 2 (between (negsuc 127) (pos 255))
  pub mov_ax_es_at_bx : ground (with_two Op.MOV (word 0) at_es_bx) off ≡ form 0x8B None 2 None
  pub mov_al_address : ground (with_two Op.MOV (byte 0) address) off ≡ form 0xA0 None 2 None
  pub mov_es_address_ax : ground (with_two Op.MOV es_address (word 0)) off ≡ form 0xA3 None 2 None
  pub mov_bx_ds : ground (with_two Op.MOV (word 3) (segment 3)) off ≡ form 0x8C None 2 None
  pub mov_ds_bx : ground (with_two Op.MOV (segment 3) (word 3)) off ≡ form 0x8E None 2 None
  pub test_bl_5 : ground (with_two Op.TEST (byte 3) (imm (pos 5))) off ≡ form 0xF6 (Some 0) 2 (between (negsuc 127) (pos 255))
  pub test_ax_5 : ground (with_two Op.TEST (word 0) (imm (pos 5))) off ≡ form 0xA9 None 2 (between (negsuc 32767) (pos 65535))
  pub test_cl_at_bx : ground (with_two Op.TEST (byte 1) (at_bx None)) off ≡ form 0x84 None 2 None
  pub xchg_ax_cx : ground (with_two Op.XCHG (word 0) (word 1)) off ≡ form 0x91 None 2 None
  pub xchg_cx_ax : ground (with_two Op.XCHG (word 1) (word 0)) off ≡ form 0x91 None 2 None
  pub xchg_cl_at_bx : ground (with_two Op.XCHG (byte 1) (at_bx None)) off ≡ form 0x86 None 2 None
  pub nop : ground (without Op.NOP) off ≡ form 0x90 None 0 None
  pub xchg_ax_ax : ground (with_two Op.XCHG (word 0) (word 0)) off ≡ form 0x90 None 2 None
  pub push_bx : ground (with_one Op.PUSH (word 3)) off ≡ form 0x53 None 1 None
  pub push_ds : ground (with_one Op.PUSH (segment 3)) off ≡ form 0x1E None 1 None
  pub push_word_bx : ground (with_one Op.PUSH (at_bx (Some Z.Word))) off ≡ form 0xFF (Some 6) 1 None
  pub pop_bx : ground (with_one Op.POP (word 3)) off ≡ form 0x5B None 1 None
  pub pop_ds : ground (with_one Op.POP (segment 3)) off ≡ form 0x1F None 1 None
  pub pop_word_bx : ground (with_one Op.POP (at_bx (Some Z.Word))) off ≡ form 0x8F (Some 0) 1 None
  pub lea_bx : ground (with_two Op.LEA (word 3) (at_bx None)) off ≡ form 0x8D None 2 None
  pub les_bx : ground (with_two Op.LES (word 3) (at_bx None)) off ≡ form 0xC4 None 2 None
  pub shl_bx_1 : ground (with_two Op.SHL (word 3) (imm (pos 1))) off ≡ form 0xD1 (Some 4) 2 None
  pub shl_bx_cl : ground (with_two Op.SHL (word 3) (byte 1)) off ≡ form 0xD3 (Some 4) 2 None
  pub call_5 : ground (with_one Op.CALL (imm (pos 5))) off ≡ form 0xE8 None 1 (between (pos 0) (pos 65535))
  pub call_bx : ground (with_one Op.CALL (word 3)) off ≡ form 0xFF (Some 2) 1 None
  pub call_far : ground (with_one Op.CALL (kinded (Some J.Far) (at_bx None))) off ≡ form 0xFF (Some 3) 1 None
  pub jmp_5 : ground (with_one Op.JMP (imm (pos 5))) off ≡ form 0xE9 None 1 (between (pos 0) (pos 65535))
  pub jmp_far : ground (with_one Op.JMP (far_operand one (pos 5) (pos 6))) off ≡ form 0xEA None 1 (between (pos 0) (pos 65535))
  pub jmp_bx : ground (with_one Op.JMP (word 3)) off ≡ form 0xFF (Some 4) 1 None
  pub ret : ground (without Op.RET) off ≡ form 0xC3 None 0 None
  pub ret_5 : ground (with_one Op.RET (imm (pos 5))) off ≡ form 0xC2 None 1 (between (pos 0) (pos 65535))
  pub int_5 : ground (with_one Op.INT (imm (pos 5))) off ≡ form 0xCD None 1 (between (pos 0) (pos 255))
  pub int3 : ground (without Op.INT3) off ≡ form 0xCC None 0 None
  pub aam : ground (without Op.AAM) off ≡ form 0xD4 None 0 None
  pub aad : ground (without Op.AAD) off ≡ form 0xD5 None 0 None
  pub xlatb : ground (with_one Op.XLATB (at_bx (Some Z.Word))) off ≡ form 0xD7 None 1 None
  pub in_al_5 : ground (with_two Op.IN (byte 0) (imm (pos 5))) off ≡ form 0xE4 None 2 (between (pos 0) (pos 255))
  pub in_ax_dx : ground (with_two Op.IN (word 0) (word 2)) off ≡ form 0xED None 2 None
  pub out_5_al : ground (with_two Op.OUT (imm (pos 5)) (byte 0)) off ≡ form 0xE6 None 2 (between (pos 0) (pos 255))
  pub out_dx_ax : ground (with_two Op.OUT (word 2) (word 0)) off ≡ form 0xEF None 2 None
  pub movsb : ground (without Op.MOVSB) off ≡ form 0xA4 None 0 None
  pub lock : ground (without Op.LOCK) off ≡ form 0xF0 None 0 None
  pub count_3 : ground (three_operands) off ≡ G.Question 1
  pub first_malformed : ground (with_one Op.INC malformed) off ≡ G.Question 1
  pub int1 : ground (without Op.INT1) off ≡ G.Question 2
  pub add_at_bx_5 : ground (with_two Op.ADD (at_bx None) (imm (pos 5))) off ≡ G.Question 3
  pub not_at_bx : ground (with_one Op.NOT (at_bx None)) off ≡ G.Question 3
  pub inc_at_bx : ground (with_one Op.INC (at_bx None)) off ≡ G.Question 3
  pub shl_at_bx_1 : ground (with_two Op.SHL (at_bx None) (imm (pos 1))) off ≡ G.Question 3
  pub pop_5 : ground (with_one Op.POP (imm (pos 5))) off ≡ G.Question 3
  pub pop_byte_5 : ground (with_one Op.POP (sized S.Byte (imm (pos 5)))) off ≡ G.Question 3
  pub pop_word_5 : ground (with_one Op.POP (sized S.Word (imm (pos 5)))) off ≡ G.Question 5
  pub pop_bl : ground (with_one Op.POP (byte 3)) off ≡ G.Question 3
  pub pop_cs : ground (with_one Op.POP (segment 1)) off ≡ G.Question 5
  pub xlatb_byte : ground (with_one Op.XLATB (at_bx (Some Z.Byte))) off ≡ G.Question 3
  pub mov_ax_bl : ground (with_two Op.MOV (word 0) (byte 3)) off ≡ G.Question 4
  pub mov_5_ax : ground (with_two Op.MOV (imm (pos 5)) (word 0)) off ≡ G.Question 5
  pub shl_bx_2 : ground (with_two Op.SHL (word 3) (imm (pos 2))) off ≡ G.Question 5
  pub jmp_65536 : ground (with_one Op.JMP (imm (pos 65536))) off ≡ G.Question 6
  pub jmp_far_65536 : ground (with_one Op.JMP (far_operand one (pos 65536) (pos 6))) off ≡ G.Question 6
  pub call_far_65536 : ground (with_one Op.CALL (far_operand one (pos 65536) (pos 6))) off ≡ G.Question 5
  pub call_65536 : ground (with_one Op.CALL (imm (pos 65536))) off ≡ G.Question 6
  pub mov_al_256 : ground (with_two Op.MOV (byte 0) (imm (pos 256))) off ≡ G.Question 6
  pub mov_al_at_minus_1 : ground (with_two Op.MOV (byte 0) below) off ≡ G.Question 6
  pub in_al_256 : ground (with_two Op.IN (byte 0) (imm (pos 256))) off ≡ G.Question 6

pub rows : (off : ℕ) → Rows off
unfolding ground questions well_formed prefix is_repeat is_string grouped_of forms_of forms number_of
rows off = record {
  rep_movsb = refl;
  repne_scasw = refl;
  rep = refl;
  rep_esc = refl;
  repeat_99 = refl;
  add_bx_5 = refl;
  cmp_word_bx_minus_1 = refl;
  add_ax_200 = refl;
  add_bx_200 = refl;
  sub_byte_bx_5 = refl;
  add_ax_bx = refl;
  add_ax_at_bx = refl;
  neg_bl = refl;
  inc_bx = refl;
  inc_bl = refl;
  dec_word_bx = refl;
  mov_bx_5 = refl;
  mov_bl_5 = refl;
  mov_byte_bx_5 = refl;
  mov_ax_es_at_bx = refl;
  mov_al_address = refl;
  mov_es_address_ax = refl;
  mov_bx_ds = refl;
  mov_ds_bx = refl;
  test_bl_5 = refl;
  test_ax_5 = refl;
  test_cl_at_bx = refl;
  xchg_ax_cx = refl;
  xchg_cx_ax = refl;
  xchg_cl_at_bx = refl;
  nop = refl;
  xchg_ax_ax = refl;
  push_bx = refl;
  push_ds = refl;
  push_word_bx = refl;
  pop_bx = refl;
  pop_ds = refl;
  pop_word_bx = refl;
  lea_bx = refl;
  les_bx = refl;
  shl_bx_1 = refl;
  shl_bx_cl = refl;
  call_5 = refl;
  call_bx = refl;
  call_far = refl;
  jmp_5 = refl;
  jmp_far = refl;
  jmp_bx = refl;
  ret = refl;
  ret_5 = refl;
  int_5 = refl;
  int3 = refl;
  aam = refl;
  aad = refl;
  xlatb = refl;
  in_al_5 = refl;
  in_ax_dx = refl;
  out_5_al = refl;
  out_dx_ax = refl;
  movsb = refl;
  lock = refl;
  count_3 = refl;
  first_malformed = refl;
  int1 = refl;
  add_at_bx_5 = refl;
  not_at_bx = refl;
  inc_at_bx = refl;
  shl_at_bx_1 = refl;
  pop_5 = refl;
  pop_byte_5 = refl;
  pop_word_5 = refl;
  pop_bl = refl;
  pop_cs = refl;
  xlatb_byte = refl;
  mov_ax_bl = refl;
  mov_5_ax = refl;
  shl_bx_2 = refl;
  jmp_65536 = refl;
  jmp_far_65536 = refl;
  call_far_65536 = refl;
  call_65536 = refl;
  mov_al_256 = refl;
  mov_al_at_minus_1 = refl;
  in_al_256 = refl;
}

-- a short branch at its limits: JE, and JMP of kind Short
pub record Short : Type 0 where
  pub je_129 : ground (with_one Op.JE (imm (pos 129))) 0 ≡ form 0x74 None 1 None
  pub je_130 : ground (with_one Op.JE (imm (pos 130))) 0 ≡ G.Question 7
  pub loop_0 : ground (with_one Op.LOOP (imm (pos 0))) 0 ≡ form 0xE2 None 1 None
  pub jmp_short_129 : ground (with_one Op.JMP (kinded (Some J.Short) (imm (pos 129)))) 0 ≡ form 0xEB None 1 (between (pos 0) (pos 65535))
  pub jmp_short_130 : ground (with_one Op.JMP (kinded (Some J.Short) (imm (pos 130)))) 0 ≡ G.Question 7
  pub jmp_short_65536 : ground (with_one Op.JMP (kinded (Some J.Short) (imm (pos 65536)))) 65534 ≡ G.Question 6

pub short : Short
unfolding ground questions well_formed prefix grouped_of forms_of forms number_of
short = record { je_129 = refl; je_130 = refl; loop_0 = refl; jmp_short_129 = refl; jmp_short_130 = refl; jmp_short_65536 = refl }
