-- Document 02's and the manual's rows for the shortest writing (No. 8): what is written, at every offset where none is said, and 9.
-- Assumes nothing.
use Rattle.std.specs.Prelude.{None, Some, Err, Ok}
use mathlib.Core.Path.{◌≡◌, refl}
use mathlib.Core.List.{[], ◌∷◌}
use Prim.Native.Nat.{ℕ}
use lib.IntN.{pos}
use Rattle.mrc_compiler.specs.declared.ast.Span.{Span}
use Rattle.mrc_compiler.specs.declared.ast.Segment.TheVariants as G
use Rattle.mrc_compiler.specs.declared.encoder.EncodeError.TheVariants as E
use Rattle.mrc_compiler.specs.declared.encoder.InstructionData.{InstructionData}
use Rattle.mrc_compiler.specs.declared.encoder.OperandData.{OperandData}
use Rattle.mrc_compiler.specs.declared.encoder.OperandSize.TheVariants as S
use Rattle.mrc_compiler.specs.declared.operations.Operation.TheVariants as Op
use Rattle.mrc_compiler.specs.Operations.{number_of, is_string}
use Rattle.mrc_compiler.specs.Builders.{immediate_operand, register_operand, indirect_operand, no_operands, one_operand, two_operands, with_repeat}
use Rattle.x86.specs.Forms.{forms}
use Rattle.x86.specs.Instructions.{canonical}
use Rattle.x86.specs.Reading.{starting_with, read_form, prefix, read_plain, is_repeat, repeats, reads}
use Rattle.encode_spec.specs.WellFormed.{well_formed}
use Rattle.encode_spec.specs.Choice.{forms_of}
use Rattle.encode_spec.specs.Layout.{layout}
use Rattle.encode_spec.specs.Questions.{questions}
use Rattle.encode_spec.specs.Operands.{counted}
use Rattle.encode_spec.specs.Meaning.{meant}
use Rattle.encode_spec.specs.Answer.{answer, outcome, slice_after}
use Rattle.encode_groups.specs.Grouping.{grouped_of}
use Rattle.list_spec.specs.Operands.{same_operand, same_instruction}
use Rattle.list_spec.specs.Starts.{arithmetic_immediate, arithmetic, move_immediate, move_from, move_into, move, exchange, load, stack, jump, single, start_in, start_of}
use Rattle.list_spec.specs.Possible.{is_accumulator, is_address, mode_for, mode_fits, with_alternate, immediate_fits, arithmetic_fits, move_alternate, exchange_fits, encoding_fits, start_fits, possible}
use Rattle.list_spec.specs.Candidates.{string_of, candidate_of}
use Rattle.list_spec.specs.Entries.{entry, spelled, key, is_whole, reads_as, is_listed, insert_by, among}
use Rattle.shortest_encoder.specs.Shortest.{shortest, shortest_answer}

abbrev span : Span
span = record { start = 1; end = 9 }

-- MOV AX,[BX+d] with a segment or none
abbrev loaded : OperandData → InstructionData
loaded b = two_operands span Op.MOV (register_operand span 0 S.Word) b

abbrev jump_5 : InstructionData
jump_5 = one_operand span Op.JMP (immediate_operand span (pos 5))

pub record Rows (off : ℕ) : Type 0 where
  -- the lowest of two of three bytes
  pub add_ax_5 : shortest (two_operands span Op.ADD (register_operand span 0 S.Word) (immediate_operand span (pos 5))) off ≡ 0x05 ∷ 0x05 ∷ 0x00 ∷ []
  pub add_bx_200 : shortest (two_operands span Op.ADD (register_operand span 3 S.Word) (immediate_operand span (pos 200))) off ≡ 0x81 ∷ 0xC3 ∷ 0xC8 ∷ 0x00 ∷ []
  pub xchg_bx_cx : shortest (two_operands span Op.XCHG (register_operand span 3 S.Word) (register_operand span 1 S.Word)) off ≡ 0x87 ∷ 0xCB ∷ []
  pub xchg_cx_bx : shortest (two_operands span Op.XCHG (register_operand span 1 S.Word) (register_operand span 3 S.Word)) off ≡ 0x87 ∷ 0xCB ∷ []
  pub xchg_ax_ax : shortest (two_operands span Op.XCHG (register_operand span 0 S.Word) (register_operand span 0 S.Word)) off ≡ 0x90 ∷ []
  -- the default segment's prefix goes, another stays, and ES before LEA
  pub default_segment : shortest (loaded (indirect_operand span 7 (pos 0) None (Some G.DS))) off ≡ 0x8B ∷ 0x07 ∷ []
  pub other_segment : shortest (loaded (indirect_operand span 7 (pos 0) None (Some G.ES))) off ≡ 0x26 ∷ 0x8B ∷ 0x07 ∷ []
  pub lea_es : shortest (two_operands span Op.LEA (register_operand span 0 S.Word) (indirect_operand span 7 (pos 0) None (Some G.ES))) off ≡ 0x26 ∷ 0x8D ∷ 0x07 ∷ []
  -- mode 2 for 65,535, which is -1
  pub mode_2 : shortest (loaded (indirect_operand span 7 (pos 65535) None None)) off ≡ 0x8B ∷ 0x47 ∷ 0xFF ∷ []
  pub push_ax : shortest (one_operand span Op.PUSH (register_operand span 0 S.Word)) off ≡ 0x50 ∷ []
  pub rep_movsb : shortest (with_repeat 0xF3 (no_operands span Op.MOVSB)) off ≡ 0xF3 ∷ 0xA4 ∷ []
  pub jmp_65534_0 : shortest (one_operand span Op.JMP (immediate_operand span (pos 0))) 65534 ≡ 0xEB ∷ 0x00 ∷ []
  pub jmp_0_5 : shortest jump_5 0 ≡ 0xEB ∷ 0x03 ∷ []
  pub jmp_0_200 : shortest (one_operand span Op.JMP (immediate_operand span (pos 200))) 0 ≡ 0xE9 ∷ 0xC5 ∷ 0x00 ∷ []

pub rows : (off : ℕ) → Rows off
unfolding forms canonical starting_with read_form prefix read_plain is_repeat repeats reads counted meant grouped_of same_operand same_instruction arithmetic_immediate arithmetic move_immediate move_from move_into move exchange load stack jump single start_in start_of is_accumulator is_address mode_for mode_fits with_alternate immediate_fits arithmetic_fits move_alternate exchange_fits encoding_fits start_fits possible string_of candidate_of entry spelled key is_whole reads_as is_listed insert_by among is_string number_of
rows off = record {
  add_ax_5 = refl;
  add_bx_200 = refl;
  xchg_bx_cx = refl;
  xchg_cx_bx = refl;
  xchg_ax_ax = refl;
  default_segment = refl;
  other_segment = refl;
  lea_es = refl;
  mode_2 = refl;
  push_ax = refl;
  rep_movsb = refl;
  jmp_65534_0 = refl;
  jmp_0_5 = refl;
  jmp_0_200 = refl;
}

-- ---- 9, by the length of what each would write
pub record Nine : Type 0 where
  pub encode_9 : outcome (answer jump_5 0) span (0x11 ∷ 0x22 ∷ []) ≡ Err (E.SliceTooShort span)
  pub shortest_2 : outcome (shortest_answer jump_5 0) span (0x11 ∷ 0x22 ∷ []) ≡ Ok 2
  pub two_bytes : slice_after (shortest_answer jump_5 0) (0x11 ∷ 0x22 ∷ []) ≡ 0xEB ∷ 0x03 ∷ []
  pub byte_behind : slice_after (shortest_answer jump_5 0) (0x11 ∷ 0x22 ∷ 0x33 ∷ []) ≡ 0xEB ∷ 0x03 ∷ 0x33 ∷ []
  pub shortest_9 : outcome (shortest_answer jump_5 0) span (0x11 ∷ []) ≡ Err (E.SliceTooShort span)
  pub unchanged : slice_after (shortest_answer jump_5 0) (0x11 ∷ []) ≡ 0x11 ∷ []
  -- a refusal of questions 1 to 7 comes first
  pub as_encode : outcome (shortest_answer (no_operands span Op.ESC) 0) span [] ≡ Err (E.NotSupported span)

pub nine : Nine
unfolding answer questions well_formed forms_of layout shortest_answer forms canonical starting_with read_form prefix read_plain is_repeat repeats reads counted meant grouped_of same_operand same_instruction jump start_in start_of mode_for mode_fits with_alternate encoding_fits start_fits possible string_of candidate_of entry spelled key is_whole reads_as is_listed insert_by among is_string number_of
nine = record {
  encode_9 = refl;
  shortest_2 = refl;
  two_bytes = refl;
  byte_behind = refl;
  shortest_9 = refl;
  unchanged = refl;
  as_encode = refl;
}
