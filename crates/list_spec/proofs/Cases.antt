-- The bench sheet's lists (document 01), at every offset. P marks the rows that 01 marks.
-- Assumes nothing.
use Rattle.std.specs.Prelude.{None, Some}
use mathlib.Core.Path.{◌≡◌, refl}
use mathlib.Core.List.{List, [], ◌∷◌}
use Prim.Native.Nat.{ℕ}
use lib.IntN.{pos, negsuc}
use Rattle.mrc_compiler.specs.declared.ast.Span.{Span}
use Rattle.mrc_compiler.specs.declared.ast.DataSize.TheVariants as D
use Rattle.mrc_compiler.specs.declared.encoder.OperandData.{OperandData}
use Rattle.mrc_compiler.specs.declared.encoder.OperandSize.TheVariants as S
use Rattle.mrc_compiler.specs.declared.operations.Operation.{Operation}
use Rattle.mrc_compiler.specs.declared.operations.Operation.TheVariants as Op
use Rattle.mrc_compiler.specs.Operations.{number_of, is_string}
use Rattle.mrc_compiler.specs.Builders.{immediate_operand, register_operand, indirect_operand, no_operands, one_operand, two_operands, with_repeat}
use Rattle.x86.specs.Forms.{forms}
use Rattle.x86.specs.Instructions.{canonical}
use Rattle.x86.specs.Reading.{starting_with, read_form, prefix, read_plain, is_repeat, repeats, reads}
use Rattle.encode_spec.specs.Operands.{counted}
use Rattle.encode_spec.specs.Meaning.{meant, meaning}
use Rattle.encode_groups.specs.Grouping.{grouped_of}
use Rattle.list_spec.specs.Operands.{same_operand, same_instruction}
use Rattle.list_spec.specs.Starts.{arithmetic_immediate, arithmetic, move_immediate, move, exchange, test_immediate, test, stack, ret, jump, single, start_in, start_of}
use Rattle.list_spec.specs.Possible.{is_accumulator, is_address, mode_for, mode_fits, with_alternate, immediate_fits, arithmetic_fits, move_alternate, exchange_fits, encoding_fits, start_fits, possible}
use Rattle.list_spec.specs.Candidates.{string_of, candidate_of}
use Rattle.list_spec.specs.Entries.{entry, spelled, key, is_whole, reads_as, is_listed, insert_by, among, listing}

abbrev span : Span
span = record { start = 1; end = 9 }

abbrev listed : ℕ → Operation → OperandData → OperandData → List (List ℕ)
listed off op a b = listing off (meaning (two_operands span op a b))

abbrev listed_one : ℕ → Operation → OperandData → List (List ℕ)
listed_one off op a = listing off (meaning (one_operand span op a))

pub record Rows (off : ℕ) : Type 0 where
  -- P
  pub add_ax_5 : listed off Op.ADD (register_operand span 0 S.Word) (immediate_operand span (pos 5))
      ≡ (0x05 ∷ 0x05 ∷ 0x00 ∷ []) ∷ (0x83 ∷ 0xC0 ∷ 0x05 ∷ []) ∷ (0x81 ∷ 0xC0 ∷ 0x05 ∷ 0x00 ∷ []) ∷ []
  -- P: twelve, with DS's prefix and without
  pub add_word_bx_5 : listed off Op.ADD (indirect_operand span 7 (pos 0) (Some D.Word) None) (immediate_operand span (pos 5))
      ≡ (0x83 ∷ 0x07 ∷ 0x05 ∷ [])
      ∷ (0x3E ∷ 0x83 ∷ 0x07 ∷ 0x05 ∷ [])
      ∷ (0x81 ∷ 0x07 ∷ 0x05 ∷ 0x00 ∷ [])
      ∷ (0x83 ∷ 0x47 ∷ 0x00 ∷ 0x05 ∷ [])
      ∷ (0x3E ∷ 0x81 ∷ 0x07 ∷ 0x05 ∷ 0x00 ∷ [])
      ∷ (0x3E ∷ 0x83 ∷ 0x47 ∷ 0x00 ∷ 0x05 ∷ [])
      ∷ (0x81 ∷ 0x47 ∷ 0x00 ∷ 0x05 ∷ 0x00 ∷ [])
      ∷ (0x83 ∷ 0x87 ∷ 0x00 ∷ 0x00 ∷ 0x05 ∷ [])
      ∷ (0x3E ∷ 0x81 ∷ 0x47 ∷ 0x00 ∷ 0x05 ∷ 0x00 ∷ [])
      ∷ (0x3E ∷ 0x83 ∷ 0x87 ∷ 0x00 ∷ 0x00 ∷ 0x05 ∷ [])
      ∷ (0x81 ∷ 0x87 ∷ 0x00 ∷ 0x00 ∷ 0x05 ∷ 0x00 ∷ [])
      ∷ (0x3E ∷ 0x81 ∷ 0x87 ∷ 0x00 ∷ 0x00 ∷ 0x05 ∷ 0x00 ∷ [])
      ∷ []
  -- P
  pub xchg_cx_cx : listed off Op.XCHG (register_operand span 1 S.Word) (register_operand span 1 S.Word) ≡ (0x87 ∷ 0xC9 ∷ []) ∷ []
  -- NOP
  pub xchg_ax_ax : listed off Op.XCHG (register_operand span 0 S.Word) (register_operand span 0 S.Word) ≡ (0x90 ∷ []) ∷ (0x87 ∷ 0xC0 ∷ []) ∷ []
  -- 200 is not a byte that 83 extends
  pub add_bx_200 : listed off Op.ADD (register_operand span 3 S.Word) (immediate_operand span (pos 200)) ≡ (0x81 ∷ 0xC3 ∷ 0xC8 ∷ 0x00 ∷ []) ∷ []
  -- No. 2: -1 and 65,535 are one instruction; P
  pub add_ax_minus_1 : listed off Op.ADD (register_operand span 0 S.Word) (immediate_operand span (negsuc 0))
      ≡ (0x05 ∷ 0xFF ∷ 0xFF ∷ []) ∷ (0x83 ∷ 0xC0 ∷ 0xFF ∷ []) ∷ (0x81 ∷ 0xC0 ∷ 0xFF ∷ 0xFF ∷ []) ∷ []
  pub add_ax_65535 : listed off Op.ADD (register_operand span 0 S.Word) (immediate_operand span (pos 65535))
      ≡ listed off Op.ADD (register_operand span 0 S.Word) (immediate_operand span (negsuc 0))
  -- No. 4: the same of MOV; P
  pub mov_al_255 : listed off Op.MOV (register_operand span 0 S.Byte) (immediate_operand span (pos 255)) ≡ (0xB0 ∷ 0xFF ∷ []) ∷ (0xC6 ∷ 0xC0 ∷ 0xFF ∷ []) ∷ []
  pub mov_al_minus_1 : listed off Op.MOV (register_operand span 0 S.Byte) (immediate_operand span (negsuc 0))
      ≡ listed off Op.MOV (register_operand span 0 S.Byte) (immediate_operand span (pos 255))
  pub mov_ax_65535 : listed off Op.MOV (register_operand span 0 S.Word) (immediate_operand span (pos 65535)) ≡ (0xB8 ∷ 0xFF ∷ 0xFF ∷ []) ∷ (0xC7 ∷ 0xC0 ∷ 0xFF ∷ 0xFF ∷ []) ∷ []
  pub mov_ax_minus_1 : listed off Op.MOV (register_operand span 0 S.Word) (immediate_operand span (negsuc 0))
      ≡ listed off Op.MOV (register_operand span 0 S.Word) (immediate_operand span (pos 65535))
  -- No. 1
  pub test_ax_bx : listed off Op.TEST (register_operand span 0 S.Word) (register_operand span 3 S.Word) ≡ (0x85 ∷ 0xD8 ∷ []) ∷ []
  pub test_bx_ax : listed off Op.TEST (register_operand span 3 S.Word) (register_operand span 0 S.Word) ≡ (0x85 ∷ 0xC3 ∷ []) ∷ []
  pub test_al_5 : listed off Op.TEST (register_operand span 0 S.Byte) (immediate_operand span (pos 5)) ≡ (0xA8 ∷ 0x05 ∷ []) ∷ (0xF6 ∷ 0xC0 ∷ 0x05 ∷ []) ∷ []
  pub push_ax : listed_one off Op.PUSH (register_operand span 0 S.Word) ≡ (0x50 ∷ []) ∷ (0xFF ∷ 0xF0 ∷ []) ∷ []
  pub pop_ax : listed_one off Op.POP (register_operand span 0 S.Word) ≡ (0x58 ∷ []) ∷ (0x8F ∷ 0xC0 ∷ []) ∷ []
  pub ret_4 : listed_one off Op.RET (immediate_operand span (pos 4)) ≡ (0xC2 ∷ 0x04 ∷ 0x00 ∷ []) ∷ []
  pub ret : listing off (meaning (no_operands span Op.RET)) ≡ (0xC3 ∷ []) ∷ []
  pub wait : listing off (meaning (no_operands span Op.WAIT)) ≡ (0x9B ∷ []) ∷ []
  pub jmp_65534_0 : listed_one 65534 Op.JMP (immediate_operand span (pos 0)) ≡ (0xEB ∷ 0x00 ∷ []) ∷ (0xE9 ∷ 0xFF ∷ 0xFF ∷ []) ∷ []
  pub jmp_0_5 : listed_one 0 Op.JMP (immediate_operand span (pos 5)) ≡ (0xEB ∷ 0x03 ∷ []) ∷ (0xE9 ∷ 0x02 ∷ 0x00 ∷ []) ∷ []
  pub jmp_0_200 : listed_one 0 Op.JMP (immediate_operand span (pos 200)) ≡ (0xE9 ∷ 0xC5 ∷ 0x00 ∷ []) ∷ []
  -- No. 11
  pub rep : listing off (meaning (no_operands span Op.REP)) ≡ (0xF3 ∷ []) ∷ []
  pub repne : listing off (meaning (no_operands span Op.REPNE)) ≡ (0xF2 ∷ []) ∷ []
  pub movsb : listing off (meaning (no_operands span Op.MOVSB)) ≡ (0xA4 ∷ []) ∷ []
  pub rep_movsb : listing off (meaning (with_repeat 0xF3 (no_operands span Op.MOVSB))) ≡ (0xF3 ∷ 0xA4 ∷ []) ∷ []
  pub repne_scasw : listing off (meaning (with_repeat 0xF2 (no_operands span Op.SCASW))) ≡ (0xF2 ∷ 0xAF ∷ []) ∷ []
  -- TEST of memory and a register, in either order
  pub test_memory : listed off Op.TEST (indirect_operand span 7 (pos 0) None None) (register_operand span 1 S.Byte)
      ≡ listed off Op.TEST (register_operand span 1 S.Byte) (indirect_operand span 7 (pos 0) None None)

pub rows : (off : ℕ) → Rows off
unfolding forms canonical starting_with read_form prefix read_plain is_repeat repeats reads counted meant grouped_of same_operand same_instruction arithmetic_immediate arithmetic move_immediate move exchange test_immediate test stack ret jump single start_in start_of string_of candidate_of entry spelled key is_whole reads_as is_listed insert_by among is_accumulator is_address mode_for mode_fits with_alternate immediate_fits arithmetic_fits move_alternate exchange_fits encoding_fits start_fits possible is_string number_of
rows off = record {
  rep = refl;
  repne = refl;
  movsb = refl;
  rep_movsb = refl;
  repne_scasw = refl;
  add_ax_5 = refl;
  add_word_bx_5 = refl;
  xchg_cx_cx = refl;
  xchg_ax_ax = refl;
  add_bx_200 = refl;
  add_ax_minus_1 = refl;
  add_ax_65535 = refl;
  mov_al_255 = refl;
  mov_al_minus_1 = refl;
  mov_ax_65535 = refl;
  mov_ax_minus_1 = refl;
  test_ax_bx = refl;
  test_bx_ax = refl;
  test_al_5 = refl;
  push_ax = refl;
  pop_ax = refl;
  ret_4 = refl;
  ret = refl;
  wait = refl;
  jmp_65534_0 = refl;
  jmp_0_5 = refl;
  jmp_0_200 = refl;
  test_memory = refl;
}
