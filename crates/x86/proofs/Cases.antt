-- Readings of document 01 and of the issue, and what counts as the same instruction, one row each.
-- Assumes nothing.
use Rattle.std.specs.Prelude.{Ok, Err}
use mathlib.Core.Path.{◌≡◌, refl, ap}
use mathlib.Core.List.{List, [], ◌∷◌}
use Prim.Native.Nat.{ℕ, ◌+◌, ◌%◌}
use native.Mathlib.Omega.{arith}
use Rattle.mrc_compiler.specs.declared.ast.Segment.TheVariants as G
use Rattle.mrc_compiler.specs.declared.encoder.OperandSize.TheVariants as S
use Rattle.mrc_compiler.specs.declared.operations.Operation.TheVariants as Op
use Rattle.mrc_compiler.specs.Operations.{number_of, is_string}
use Rattle.x86.specs.declared.Operand.TheVariants as O
use Rattle.x86.specs.declared.Instruction.{Instruction}
use Rattle.x86.specs.declared.ReadError.TheVariants.{NotAnInstruction, NotComplete}
use Rattle.x86.specs.Instructions.{instruction, canonical, repeated}
use Rattle.x86.specs.Forms.{forms}
use Rattle.x86.specs.Reading.{read_form, starting_with, prefix, read_plain, is_repeat, repeats, reads}
use Rattle.x86.specs.Listing.{ReadsAs}

-- each row at every offset, but where it gives one
pub record Readings (off : ℕ) : Type 0 where
  -- P: the proved cases of document 01
  pub no_bytes : reads off [] ≡ Err NotComplete
  pub prefix_before_register : reads off (0x26 ∷ 0x8B ∷ 0xC0 ∷ []) ≡ Err NotAnInstruction
  pub mov_ax : reads off (0xB8 ∷ 0x34 ∷ 0x12 ∷ []) ≡ Ok (instruction Op.MOV S.Word (O.Register 0) (O.Immediate 0x1234), 3)
  pub aam : reads off (0xD4 ∷ 0x0A ∷ []) ≡ Ok (instruction Op.AAM S.Unspecified O.None O.None, 2)
  pub test_al : reads off (0xA8 ∷ 0x05 ∷ []) ≡ Ok (instruction Op.TEST S.Byte (O.Register 0) (O.Immediate 5), 2)
  pub add_ax : reads off (0x83 ∷ 0xC0 ∷ 0x05 ∷ []) ≡ Ok (instruction Op.ADD S.Word (O.Register 0) (O.Immediate 5), 3)
  pub add_bx_memory : reads off (0x83 ∷ 0x07 ∷ 0x05 ∷ []) ≡ Ok (instruction Op.ADD S.Word (O.Memory 7 0 G.DS) (O.Immediate 5), 3)
  pub xchg_cl_al : reads off (0x86 ∷ 0xC8 ∷ []) ≡ Ok (instruction Op.XCHG S.Byte (O.Register 0) (O.Register 1), 2)
  pub je_forth : reads 0 (0x74 ∷ 0x7F ∷ []) ≡ Ok (instruction Op.JE S.Unspecified (O.Near 129) O.None, 2)
  pub je_back : reads 256 (0x74 ∷ 0x80 ∷ []) ≡ Ok (instruction Op.JE S.Unspecified (O.Near 130) O.None, 2)
  pub je_end : reads 65534 (0x74 ∷ 0x00 ∷ []) ≡ Ok (instruction Op.JE S.Unspecified (O.Near 0) O.None, 2)
  pub jmp_end : reads 65533 (0xE9 ∷ 0x00 ∷ 0x00 ∷ []) ≡ Ok (instruction Op.JMP S.Unspecified (O.Near 0) O.None, 3)
  pub mov_al_bp : reads off (0x8A ∷ 0x46 ∷ 0x00 ∷ []) ≡ Ok (instruction Op.MOV S.Byte (O.Register 0) (O.Memory 6 0 G.SS), 3)
  -- the forms that 000 leaves open
  pub test_registers : reads off (0x85 ∷ 0xD8 ∷ []) ≡ Ok (instruction Op.TEST S.Word (O.Register 0) (O.Register 3), 2)
  pub test_memory : reads off (0x84 ∷ 0x0F ∷ []) ≡ Ok (instruction Op.TEST S.Byte (O.Register 1) (O.Memory 7 0 G.DS), 2)
  pub test_ax : reads off (0xA9 ∷ 0x05 ∷ 0x00 ∷ []) ≡ Ok (instruction Op.TEST S.Word (O.Register 0) (O.Immediate 5), 3)
  pub test_byte : reads off (0xF6 ∷ 0xC3 ∷ 0x05 ∷ []) ≡ Ok (instruction Op.TEST S.Byte (O.Register 3) (O.Immediate 5), 3)
  pub test_word : reads off (0xF7 ∷ 0x07 ∷ 0x34 ∷ 0x12 ∷ []) ≡ Ok (instruction Op.TEST S.Word (O.Memory 7 0 G.DS) (O.Immediate 0x1234), 4)
  pub push_memory : reads off (0xFF ∷ 0x37 ∷ []) ≡ Ok (instruction Op.PUSH S.Word (O.Memory 7 0 G.DS) O.None, 2)
  pub pop_memory : reads off (0x8F ∷ 0x07 ∷ []) ≡ Ok (instruction Op.POP S.Word (O.Memory 7 0 G.DS) O.None, 2)
  pub ret_4 : reads off (0xC2 ∷ 0x04 ∷ 0x00 ∷ []) ≡ Ok (instruction Op.RET S.Unspecified (O.Immediate 4) O.None, 3)
  pub call_far : reads off (0xFF ∷ 0x1F ∷ []) ≡ Ok (instruction Op.CALL S.Unspecified (O.Memory 7 0 G.DS) O.None, 2)
  pub jmp_short : reads 0x100 (0xEB ∷ 0xFE ∷ []) ≡ Ok (instruction Op.JMP S.Unspecified (O.Near 0x100) O.None, 2)
  pub wait : reads off (0x9B ∷ []) ≡ Ok (instruction Op.WAIT S.Unspecified O.None O.None, 1)
  -- what the encoder never writes
  pub add_r_rm : reads off (0x03 ∷ 0xC3 ∷ []) ≡ Ok (instruction Op.ADD S.Word (O.Register 0) (O.Register 3), 2)
  pub xchg : reads off (0x87 ∷ 0xC1 ∷ []) ≡ Ok (instruction Op.XCHG S.Word (O.Register 0) (O.Register 1), 2)
  pub mov_c7 : reads off (0xC7 ∷ 0xC0 ∷ 0x34 ∷ 0x12 ∷ []) ≡ Ok (instruction Op.MOV S.Word (O.Register 0) (O.Immediate 0x1234), 4)
  pub inc_ff : reads off (0xFF ∷ 0xC0 ∷ []) ≡ Ok (instruction Op.INC S.Word (O.Register 0) O.None, 2)
  pub mov_direct : reads off (0x8B ∷ 0x06 ∷ 0x34 ∷ 0x12 ∷ []) ≡ Ok (instruction Op.MOV S.Word (O.Register 0) (O.Memory 8 0x1234 G.DS), 4)
  pub nop : reads off (0x90 ∷ []) ≡ Ok (instruction Op.NOP S.Unspecified O.None O.None, 1)
  pub sar_ax : reads off (0xD1 ∷ 0xF8 ∷ []) ≡ Ok (instruction Op.SAR S.Word (O.Register 0) O.One, 2)
  pub shl_cl : reads off (0xD3 ∷ 0xE3 ∷ []) ≡ Ok (instruction Op.SHL S.Word (O.Register 3) (O.Register 1), 2)
  pub push_cs : reads off (0x0E ∷ []) ≡ Ok (instruction Op.PUSH S.Word (O.SegmentRegister 1) O.None, 1)
  pub mov_es : reads off (0x8E ∷ 0xC0 ∷ []) ≡ Ok (instruction Op.MOV S.Word (O.SegmentRegister 0) (O.Register 0), 2)
  pub in_dx : reads off (0xEC ∷ []) ≡ Ok (instruction Op.IN S.Byte (O.Register 0) (O.Register 2), 1)
  pub xlat_cs : reads off (0x2E ∷ 0xD7 ∷ []) ≡ Ok (instruction Op.XLATB S.Byte (O.Memory 7 0 G.CS) O.None, 2)
  pub prefix_alone : reads off (0xF3 ∷ []) ≡ Ok (instruction Op.REP S.Unspecified O.None O.None, 1)  -- LOCK, REP and REPNE are instructions by themselves
  pub behind : reads off (0x90 ∷ 0x82 ∷ 0xFF ∷ []) ≡ Ok (instruction Op.NOP S.Unspecified O.None O.None, 1)  -- what stands behind is not looked at
  -- document 02, No. 11: F2 or F3 belongs to a string operation behind it, and else is an instruction of its own
  pub rep_movsb : reads off (0xF3 ∷ 0xA4 ∷ []) ≡ Ok (repeated 0xF3 (instruction Op.MOVSB S.Unspecified O.None O.None), 2)
  pub repne_movsb : reads off (0xF2 ∷ 0xA4 ∷ []) ≡ Ok (repeated 0xF2 (instruction Op.MOVSB S.Unspecified O.None O.None), 2)
  pub repne_scasb : reads off (0xF2 ∷ 0xAE ∷ []) ≡ Ok (repeated 0xF2 (instruction Op.SCASB S.Unspecified O.None O.None), 2)
  pub rep_stosw : reads off (0xF3 ∷ 0xAB ∷ []) ≡ Ok (repeated 0xF3 (instruction Op.STOSW S.Unspecified O.None O.None), 2)
  pub rep_movsb_behind : reads off (0xF3 ∷ 0xA4 ∷ 0xA4 ∷ []) ≡ Ok (repeated 0xF3 (instruction Op.MOVSB S.Unspecified O.None O.None), 2)
  pub movsb : reads off (0xA4 ∷ []) ≡ Ok (instruction Op.MOVSB S.Unspecified O.None O.None, 1)
  pub repne_alone : reads off (0xF2 ∷ []) ≡ Ok (instruction Op.REPNE S.Unspecified O.None O.None, 1)
  pub rep_rep : reads off (0xF3 ∷ 0xF3 ∷ 0xA4 ∷ []) ≡ Ok (instruction Op.REP S.Unspecified O.None O.None, 1)
  pub rep_prefix : reads off (0xF3 ∷ 0x26 ∷ 0xA4 ∷ []) ≡ Ok (instruction Op.REP S.Unspecified O.None O.None, 1)
  pub rep_nop : reads off (0xF3 ∷ 0x90 ∷ []) ≡ Ok (instruction Op.REP S.Unspecified O.None O.None, 1)
  pub rep_unread : reads off (0xF3 ∷ 0x82 ∷ []) ≡ Ok (instruction Op.REP S.Unspecified O.None O.None, 1)
  pub rep_test : reads off (0xF3 ∷ 0xA8 ∷ 0x05 ∷ []) ≡ Ok (instruction Op.REP S.Unspecified O.None O.None, 1)
  pub lock_movsb : reads off (0xF0 ∷ 0xA4 ∷ []) ≡ Ok (instruction Op.LOCK S.Unspecified O.None O.None, 1)
  pub prefix_rep : reads off (0x26 ∷ 0xF3 ∷ 0xA4 ∷ []) ≡ Err NotAnInstruction
  pub prefix_movsb : reads off (0x26 ∷ 0xA4 ∷ []) ≡ Err NotAnInstruction
  -- refusal 10
  pub opcode_82 : reads off (0x82 ∷ []) ≡ Err NotAnInstruction
  pub shift_6 : reads off (0xD0 ∷ 0xF0 ∷ []) ≡ Err NotAnInstruction
  pub f6_1 : reads off (0xF6 ∷ 0xC8 ∷ []) ≡ Err NotAnInstruction
  pub pop_8f_1 : reads off (0x8F ∷ 0xC8 ∷ []) ≡ Err NotAnInstruction
  pub jmp_ff_5 : reads off (0xFF ∷ 0x2F ∷ []) ≡ Err NotAnInstruction
  pub call_far_register : reads off (0xFF ∷ 0xD8 ∷ []) ≡ Err NotAnInstruction
  pub prefix_call_far_register : reads off (0x26 ∷ 0xFF ∷ 0xD8 ∷ []) ≡ Err NotAnInstruction
  pub f7_1 : reads off (0xF7 ∷ 0xC8 ∷ []) ≡ Err NotAnInstruction
  pub mov_from_segment_4 : reads off (0x8C ∷ 0xE0 ∷ []) ≡ Err NotAnInstruction
  pub mov_to_cs : reads off (0x8E ∷ 0xC8 ∷ []) ≡ Err NotAnInstruction
  pub mov_to_segment_5 : reads off (0x8E ∷ 0xE8 ∷ []) ≡ Err NotAnInstruction
  pub pop_cs : reads off (0x0F ∷ []) ≡ Err NotAnInstruction
  pub lea_register : reads off (0x8D ∷ 0xC0 ∷ []) ≡ Err NotAnInstruction
  pub les_register : reads off (0xC4 ∷ 0xC0 ∷ []) ≡ Err NotAnInstruction
  pub lds_register : reads off (0xC5 ∷ 0xC0 ∷ []) ≡ Err NotAnInstruction
  pub aam_0b : reads off (0xD4 ∷ 0x0B ∷ []) ≡ Err NotAnInstruction
  pub aad_a0 : reads off (0xD5 ∷ 0xA0 ∷ []) ≡ Err NotAnInstruction
  pub fe_2 : reads off (0xFE ∷ 0xD0 ∷ []) ≡ Err NotAnInstruction
  pub c6_1 : reads off (0xC6 ∷ 0xC8 ∷ []) ≡ Err NotAnInstruction
  pub two_prefixes : reads off (0x26 ∷ 0x26 ∷ 0x8B ∷ 0x07 ∷ []) ≡ Err NotAnInstruction
  pub prefix_prefix : reads off (0x26 ∷ 0x26 ∷ []) ≡ Err NotAnInstruction
  pub prefix_before_immediate : reads off (0x26 ∷ 0x05 ∷ []) ≡ Err NotAnInstruction
  pub prefix_before_push : reads off (0x2E ∷ 0x50 ∷ []) ≡ Err NotAnInstruction
  pub prefix_before_aam : reads off (0x36 ∷ 0xD4 ∷ []) ≡ Err NotAnInstruction
  -- refusal 11
  pub test_f6_short : reads off (0xF6 ∷ 0xC0 ∷ []) ≡ Err NotComplete
  pub ret_short : reads off (0xC2 ∷ 0x04 ∷ []) ≡ Err NotComplete
  pub prefix_only : reads off (0x26 ∷ []) ≡ Err NotComplete
  pub mov_only : reads off (0x8B ∷ []) ≡ Err NotComplete
  pub mov_displacement : reads off (0x8B ∷ 0x86 ∷ 0x00 ∷ []) ≡ Err NotComplete
  pub aam_only : reads off (0xD4 ∷ []) ≡ Err NotComplete
  pub prefix_mov : reads off (0x26 ∷ 0x8B ∷ []) ≡ Err NotComplete
  pub jmp_far_short : reads off (0xEA ∷ 0x00 ∷ 0x00 ∷ 0x00 ∷ []) ≡ Err NotComplete
  pub add_83_short : reads off (0x83 ∷ 0xC0 ∷ []) ≡ Err NotComplete
  pub prefix_direct_short : reads off (0x2E ∷ 0xA1 ∷ 0x00 ∷ []) ≡ Err NotComplete
  -- targets
  pub jmp : reads off (0xE9 ∷ 0x34 ∷ 0x12 ∷ []) ≡ Ok (instruction Op.JMP S.Unspecified (O.Near ((off + 3 + 0x1234) % 65536)) O.None, 3)
  pub jmp_wraps : reads 0 (0xE9 ∷ 0xFD ∷ 0xFF ∷ []) ≡ Ok (instruction Op.JMP S.Unspecified (O.Near 0) O.None, 3)
  pub call : reads 0x100 (0xE8 ∷ 0xFD ∷ 0xFF ∷ []) ≡ Ok (instruction Op.CALL S.Unspecified (O.Near 0x100) O.None, 3)
  pub loop : reads 0x105 (0xE2 ∷ 0xF9 ∷ []) ≡ Ok (instruction Op.LOOP S.Unspecified (O.Near 256) O.None, 2)
  pub jo : reads 0 (0x70 ∷ 0x00 ∷ []) ≡ Ok (instruction Op.JO S.Unspecified (O.Near 2) O.None, 2)
  pub jno : reads 0 (0x71 ∷ 0x00 ∷ []) ≡ Ok (instruction Op.JNO S.Unspecified (O.Near 2) O.None, 2)
  pub loopnz : reads 0 (0xE0 ∷ 0x00 ∷ []) ≡ Ok (instruction Op.LOOPNZ S.Unspecified (O.Near 2) O.None, 2)
  pub loopz : reads 0 (0xE1 ∷ 0x00 ∷ []) ≡ Ok (instruction Op.LOOPZ S.Unspecified (O.Near 2) O.None, 2)
  pub jmp_far : reads off (0xEA ∷ 0x34 ∷ 0x12 ∷ 0x78 ∷ 0x56 ∷ []) ≡ Ok (instruction Op.JMP S.Unspecified (O.Far 0x1234 0x5678) O.None, 5)
  pub jmp_register : reads off (0xFF ∷ 0xE0 ∷ []) ≡ Ok (instruction Op.JMP S.Word (O.Register 0) O.None, 2)

-- each row is computed
pub readings : (off : ℕ) → Readings off
unfolding reads read_plain repeats is_repeat read_form starting_with prefix forms canonical is_string number_of
readings off =
    record {
      no_bytes = refl;
      prefix_before_register = refl;
      mov_ax = refl;
      aam = refl;
      test_al = refl;
      add_ax = refl;
      add_bx_memory = refl;
      xchg_cl_al = refl;
      je_forth = refl;
      je_back = refl;
      je_end = refl;
      jmp_end = refl;
      mov_al_bp = refl;
      test_registers = refl;
      test_memory = refl;
      test_ax = refl;
      test_byte = refl;
      test_word = refl;
      push_memory = refl;
      pop_memory = refl;
      ret_4 = refl;
      call_far = refl;
      jmp_short = refl;
      wait = refl;
      add_r_rm = refl;
      xchg = refl;
      mov_c7 = refl;
      inc_ff = refl;
      mov_direct = refl;
      nop = refl;
      sar_ax = refl;
      shl_cl = refl;
      push_cs = refl;
      mov_es = refl;
      in_dx = refl;
      xlat_cs = refl;
      prefix_alone = refl;
      behind = refl;
      rep_movsb = refl;
      repne_movsb = refl;
      repne_scasb = refl;
      rep_stosw = refl;
      rep_movsb_behind = refl;
      movsb = refl;
      repne_alone = refl;
      rep_rep = refl;
      rep_prefix = refl;
      rep_nop = refl;
      rep_unread = refl;
      rep_test = refl;
      lock_movsb = refl;
      prefix_rep = refl;
      prefix_movsb = refl;
      opcode_82 = refl;
      shift_6 = refl;
      f6_1 = refl;
      pop_8f_1 = refl;
      jmp_ff_5 = refl;
      call_far_register = refl;
      prefix_call_far_register = refl;
      f7_1 = refl;
      mov_from_segment_4 = refl;
      mov_to_cs = refl;
      mov_to_segment_5 = refl;
      pop_cs = refl;
      lea_register = refl;
      les_register = refl;
      lds_register = refl;
      aam_0b = refl;
      aad_a0 = refl;
      fe_2 = refl;
      c6_1 = refl;
      two_prefixes = refl;
      prefix_prefix = refl;
      prefix_before_immediate = refl;
      prefix_before_push = refl;
      prefix_before_aam = refl;
      test_f6_short = refl;
      ret_short = refl;
      prefix_only = refl;
      mov_only = refl;
      mov_displacement = refl;
      aam_only = refl;
      prefix_mov = refl;
      jmp_far_short = refl;
      add_83_short = refl;
      prefix_direct_short = refl;
      jmp = refl;
      jmp_wraps = refl;
      call = refl;
      loop = refl;
      jo = refl;
      jno = refl;
      loopnz = refl;
      loopz = refl;
      jmp_far = refl;
      jmp_register = refl;
    }

-- ---- 'same instruction', each clause with an equal and an unequal pair
-- s at one offset and t at another read, to the last byte, as the same instruction
abbrev pub Equal : ℕ → List ℕ → ℕ → List ℕ → Type 0
Equal off s off' t = (m : Instruction) × ReadsAs off m s × ReadsAs off' m t

-- as two that are not the same
abbrev pub Unequal : ℕ → List ℕ → ℕ → List ℕ → Type 0
Unequal off s off' t = (m : Instruction) × (n : Instruction) × ReadsAs off m s × ReadsAs off' n t × (m ≡ n → ⊥)

-- equal instructions are equal part by part
record Parts (m n : Instruction) : Type 0 where
  repeat : m.repeat ≡ n.repeat
  operation : m.operation ≡ n.operation
  width : m.width ≡ n.width
  first : m.first ≡ n.first
  second : m.second ≡ n.second

parts : {m n : Instruction} → m ≡ n → Parts m n
parts e =
    record {
      repeat = ap (λ (i : Instruction). i.repeat) e;
      operation = ap (λ (i : Instruction). i.operation) e;
      width = ap (λ (i : Instruction). i.width) e;
      first = ap (λ (i : Instruction). i.first) e;
      second = ap (λ (i : Instruction). i.second) e;
    }

-- a row a pair
pub record Same (off : ℕ) : Type 0 where
  -- the repeat, as it is written
  pub other_repeat : Unequal off (0xF2 ∷ 0xA4 ∷ []) off (0xF3 ∷ 0xA4 ∷ [])
  pub no_repeat : Unequal off (0xF3 ∷ 0xA4 ∷ []) off (0xA4 ∷ [])
  -- operation
  pub operation : Equal off (0x03 ∷ 0xC3 ∷ []) off (0x01 ∷ 0xD8 ∷ [])
  pub other_operation : Unequal off (0x03 ∷ 0xC3 ∷ []) off (0x2B ∷ 0xC3 ∷ [])
  -- width: the form's
  pub width : Equal off (0x8A ∷ 0xC1 ∷ []) off (0x88 ∷ 0xC8 ∷ [])
  pub other_width : Unequal off (0x00 ∷ 0xC0 ∷ []) off (0x01 ∷ 0xC0 ∷ [])
  -- used operands
  pub operands : Equal off (0xFF ∷ 0xC3 ∷ []) off (0x43 ∷ [])
  pub other_operand : Unequal off (0x8B ∷ 0xC3 ∷ []) off (0x8B ∷ 0xC1 ∷ [])
  pub ordered : Unequal off (0x8B ∷ 0xC1 ∷ []) off (0x8B ∷ 0xC8 ∷ [])
  pub count : Unequal off (0xD1 ∷ 0xE0 ∷ []) off (0xD3 ∷ 0xE0 ∷ [])
  pub segment_register : Unequal off (0x8C ∷ 0xD8 ∷ []) off (0x8B ∷ 0xC3 ∷ [])
  -- immediates modulo 256 or 65,536, 83's byte sign_extended first
  pub sign_extended : Equal off (0x83 ∷ 0xC0 ∷ 0xFF ∷ []) off (0x81 ∷ 0xC0 ∷ 0xFF ∷ 0xFF ∷ [])
  pub immediate_word : Equal off (0x83 ∷ 0xC0 ∷ 0x05 ∷ []) off (0x05 ∷ 0x05 ∷ 0x00 ∷ [])
  pub immediate_byte : Equal off (0x80 ∷ 0xC0 ∷ 0xFF ∷ []) off (0x04 ∷ 0xFF ∷ [])
  pub not_zero_extended : Unequal off (0x83 ∷ 0xC0 ∷ 0xFF ∷ []) off (0x81 ∷ 0xC0 ∷ 0xFF ∷ 0x00 ∷ [])
  pub other_immediate : Unequal off (0x83 ∷ 0xC0 ∷ 0x7F ∷ []) off (0x81 ∷ 0xC0 ∷ 0xFF ∷ 0x00 ∷ [])
  -- memory: base
  pub base : Equal off (0x8B ∷ 0x07 ∷ []) off (0x8B ∷ 0x47 ∷ 0x00 ∷ [])
  pub other_base : Unequal off (0x8B ∷ 0x07 ∷ []) off (0x8B ∷ 0x04 ∷ [])
  pub direct : Equal off (0xA1 ∷ 0x34 ∷ 0x12 ∷ []) off (0x8B ∷ 0x06 ∷ 0x34 ∷ 0x12 ∷ [])
  pub direct_not_bp : Unequal off (0x3E ∷ 0x8B ∷ 0x46 ∷ 0x00 ∷ []) off (0x8B ∷ 0x06 ∷ 0x00 ∷ 0x00 ∷ [])
  -- memory: displacement modulo 65,536
  pub displacement : Equal off (0x8B ∷ 0x47 ∷ 0xFF ∷ []) off (0x8B ∷ 0x87 ∷ 0xFF ∷ 0xFF ∷ [])
  pub other_displacement : Unequal off (0x8B ∷ 0x47 ∷ 0x01 ∷ []) off (0x8B ∷ 0x47 ∷ 0x02 ∷ [])
  -- memory: segment in effect, SS for rm 2, 3 and for rm 6 with mode 1 or 2, else DS
  pub segment_ds : Equal off (0x3E ∷ 0x8B ∷ 0x07 ∷ []) off (0x8B ∷ 0x07 ∷ [])
  pub segment_bp : Equal off (0x36 ∷ 0x8B ∷ 0x46 ∷ 0x00 ∷ []) off (0x8B ∷ 0x46 ∷ 0x00 ∷ [])
  pub segment_bp_word : Equal off (0x36 ∷ 0x8B ∷ 0x86 ∷ 0x00 ∷ 0x00 ∷ []) off (0x8B ∷ 0x86 ∷ 0x00 ∷ 0x00 ∷ [])
  pub segment_bp_si : Equal off (0x36 ∷ 0x8B ∷ 0x02 ∷ []) off (0x8B ∷ 0x02 ∷ [])
  pub segment_bp_di : Equal off (0x36 ∷ 0x8B ∷ 0x03 ∷ []) off (0x8B ∷ 0x03 ∷ [])
  pub segment_address : Equal off (0x3E ∷ 0xA1 ∷ 0x34 ∷ 0x12 ∷ []) off (0x8B ∷ 0x06 ∷ 0x34 ∷ 0x12 ∷ [])
  pub segment_xlat : Equal off (0x3E ∷ 0xD7 ∷ []) off (0xD7 ∷ [])
  pub other_segment : Unequal off (0x26 ∷ 0x8B ∷ 0x07 ∷ []) off (0x8B ∷ 0x07 ∷ [])
  pub ds_before_bp : Unequal off (0x3E ∷ 0x8B ∷ 0x46 ∷ 0x00 ∷ []) off (0x8B ∷ 0x46 ∷ 0x00 ∷ [])
  -- near: offset + length + distance, modulo 65,536
  pub near : Equal 0 (0xE9 ∷ 0xFD ∷ 0xFF ∷ []) 65533 (0xE9 ∷ 0x00 ∷ 0x00 ∷ [])
  pub near_short : Equal 0 (0x74 ∷ 0x7F ∷ []) 128 (0x74 ∷ 0xFF ∷ [])
  pub other_near : Unequal 0 (0xE9 ∷ 0xFD ∷ 0xFF ∷ []) 1 (0xE9 ∷ 0xFD ∷ 0xFF ∷ [])
  -- far: offset and segment
  pub far : Equal 0 (0xEA ∷ 0x34 ∷ 0x12 ∷ 0x78 ∷ 0x56 ∷ []) off (0xEA ∷ 0x34 ∷ 0x12 ∷ 0x78 ∷ 0x56 ∷ [])
  pub other_far_segment : Unequal off (0xEA ∷ 0x34 ∷ 0x12 ∷ 0x78 ∷ 0x56 ∷ []) off (0xEA ∷ 0x34 ∷ 0x12 ∷ 0x79 ∷ 0x56 ∷ [])
  pub other_far_offset : Unequal off (0xEA ∷ 0x34 ∷ 0x12 ∷ 0x78 ∷ 0x56 ∷ []) off (0xEA ∷ 0x35 ∷ 0x12 ∷ 0x78 ∷ 0x56 ∷ [])
  -- near and far are never the same
  pub near_not_far : Unequal 0 (0xE9 ∷ 0xFD ∷ 0xFF ∷ []) 0 (0xEA ∷ 0x00 ∷ 0x00 ∷ 0x00 ∷ 0x00 ∷ [])
  -- XCHG has no first and second
  pub xchg : Equal off (0x87 ∷ 0xC1 ∷ []) off (0x87 ∷ 0xC8 ∷ [])
  pub xchg_short : Equal off (0x91 ∷ []) off (0x87 ∷ 0xC1 ∷ [])
  pub xchg_memory : Equal off (0x86 ∷ 0x07 ∷ []) off (0x3E ∷ 0x86 ∷ 0x47 ∷ 0x00 ∷ [])
  pub xchg_memory_first : canonical Op.XCHG S.Byte (O.Memory 7 0 G.DS) (O.Register 0) ≡ canonical Op.XCHG S.Byte (O.Register 0) (O.Memory 7 0 G.DS)
  pub other_xchg : Unequal off (0x87 ∷ 0xC1 ∷ []) off (0x87 ∷ 0xC2 ∷ [])
  -- TEST has no first and second between a register and memory; two registers keep their order
  pub test_either_way : canonical Op.TEST S.Byte (O.Memory 7 0 G.DS) (O.Register 1) ≡ canonical Op.TEST S.Byte (O.Register 1) (O.Memory 7 0 G.DS)
  pub test_ordered : Unequal off (0x85 ∷ 0xD8 ∷ []) off (0x85 ∷ 0xC3 ∷ [])
  pub test_immediate : Equal off (0xA8 ∷ 0x05 ∷ []) off (0xF6 ∷ 0xC0 ∷ 0x05 ∷ [])
  -- near and far through one place
  pub far_through : Unequal off (0xFF ∷ 0x17 ∷ []) off (0xFF ∷ 0x1F ∷ [])
  -- E9 and EB to one target
  pub jmp_either : Equal 0 (0xE9 ∷ 0xFD ∷ 0xFF ∷ []) 0 (0xEB ∷ 0xFE ∷ [])
  pub other_jmp : Unequal 0 (0xE9 ∷ 0xFD ∷ 0xFF ∷ []) 0 (0xEB ∷ 0xFD ∷ [])
  -- 50 and FF F0, 58 and 8F C0
  pub push_either : Equal off (0x50 ∷ []) off (0xFF ∷ 0xF0 ∷ [])
  pub pop_either : Equal off (0x58 ∷ []) off (0x8F ∷ 0xC0 ∷ [])
  pub push_not_pop : Unequal off (0xFF ∷ 0xF0 ∷ []) off (0x8F ∷ 0xC0 ∷ [])
  -- RET and RET 0
  pub ret_0 : Unequal off (0xC3 ∷ []) off (0xC2 ∷ 0x00 ∷ 0x00 ∷ [])
  -- XCHG AX,AX is NOP
  pub nop : Equal off (0x87 ∷ 0xC0 ∷ []) off (0x90 ∷ [])
  pub xchg_al_al : Unequal off (0x86 ∷ 0xC0 ∷ []) off (0x90 ∷ [])
  pub xchg_cx_cx : Unequal off (0x87 ∷ 0xC9 ∷ []) off (0x90 ∷ [])

-- each reading is computed; two that differ, differ in a part
pub same : (off : ℕ) → Same off
unfolding reads read_plain repeats is_repeat read_form starting_with prefix forms canonical is_string number_of
same off =
    record {
      other_repeat = (
        repeated 0xF2 (instruction Op.MOVSB S.Unspecified O.None O.None),
        repeated 0xF3 (instruction Op.MOVSB S.Unspecified O.None O.None),
        refl,
        refl,
        λ e. let p = parts e in let z : ◌≡◌ {A = ℕ} 0xF2 0xF3 = cc in omega arith,
      );
      no_repeat = (
        repeated 0xF3 (instruction Op.MOVSB S.Unspecified O.None O.None),
        instruction Op.MOVSB S.Unspecified O.None O.None,
        refl,
        refl,
        λ e. let p = parts e in let z : ◌≡◌ {A = ℕ} 0xF3 0 = cc in omega arith,
      );
      operation = (instruction Op.ADD S.Word (O.Register 0) (O.Register 3), refl, refl);
      other_operation = (
        instruction Op.ADD S.Word (O.Register 0) (O.Register 3),
        instruction Op.SUB S.Word (O.Register 0) (O.Register 3),
        refl,
        refl,
        λ e. let p = parts e in let z : ◌≡◌ {A = ℕ} 0 1 = cc in omega arith,
      );
      width = (instruction Op.MOV S.Byte (O.Register 0) (O.Register 1), refl, refl);
      other_width = (
        instruction Op.ADD S.Byte (O.Register 0) (O.Register 0),
        instruction Op.ADD S.Word (O.Register 0) (O.Register 0),
        refl,
        refl,
        λ e. let p = parts e in let z : ◌≡◌ {A = ℕ} 0 1 = cc in omega arith,
      );
      operands = (instruction Op.INC S.Word (O.Register 3) O.None, refl, refl);
      other_operand = (
        instruction Op.MOV S.Word (O.Register 0) (O.Register 3),
        instruction Op.MOV S.Word (O.Register 0) (O.Register 1),
        refl,
        refl,
        λ e. let p = parts e in let z : ◌≡◌ {A = ℕ} 3 1 = cc in omega arith,
      );
      ordered = (
        instruction Op.MOV S.Word (O.Register 0) (O.Register 1),
        instruction Op.MOV S.Word (O.Register 1) (O.Register 0),
        refl,
        refl,
        λ e. let p = parts e in let z : ◌≡◌ {A = ℕ} 0 1 = cc in omega arith,
      );
      count = (
        instruction Op.SHL S.Word (O.Register 0) O.One,
        instruction Op.SHL S.Word (O.Register 0) (O.Register 1),
        refl,
        refl,
        λ e. let p = parts e in let z : ◌≡◌ {A = ℕ} 0 1 = cc in omega arith,
      );
      segment_register = (
        instruction Op.MOV S.Word (O.Register 0) (O.SegmentRegister 3),
        instruction Op.MOV S.Word (O.Register 0) (O.Register 3),
        refl,
        refl,
        λ e. let p = parts e in let z : ◌≡◌ {A = ℕ} 0 1 = cc in omega arith,
      );
      sign_extended = (instruction Op.ADD S.Word (O.Register 0) (O.Immediate 0xFFFF), refl, refl);
      immediate_word = (instruction Op.ADD S.Word (O.Register 0) (O.Immediate 5), refl, refl);
      immediate_byte = (instruction Op.ADD S.Byte (O.Register 0) (O.Immediate 0xFF), refl, refl);
      not_zero_extended = (
        instruction Op.ADD S.Word (O.Register 0) (O.Immediate 0xFFFF),
        instruction Op.ADD S.Word (O.Register 0) (O.Immediate 0xFF),
        refl,
        refl,
        λ e. let p = parts e in let z : ◌≡◌ {A = ℕ} 0xFFFF 0xFF = cc in omega arith,
      );
      other_immediate = (
        instruction Op.ADD S.Word (O.Register 0) (O.Immediate 0x7F),
        instruction Op.ADD S.Word (O.Register 0) (O.Immediate 0xFF),
        refl,
        refl,
        λ e. let p = parts e in let z : ◌≡◌ {A = ℕ} 0x7F 0xFF = cc in omega arith,
      );
      base = (instruction Op.MOV S.Word (O.Register 0) (O.Memory 7 0 G.DS), refl, refl);
      other_base = (
        instruction Op.MOV S.Word (O.Register 0) (O.Memory 7 0 G.DS),
        instruction Op.MOV S.Word (O.Register 0) (O.Memory 4 0 G.DS),
        refl,
        refl,
        λ e. let p = parts e in let z : ◌≡◌ {A = ℕ} 7 4 = cc in omega arith,
      );
      direct = (instruction Op.MOV S.Word (O.Register 0) (O.Memory 8 0x1234 G.DS), refl, refl);
      direct_not_bp = (
        instruction Op.MOV S.Word (O.Register 0) (O.Memory 6 0 G.DS),
        instruction Op.MOV S.Word (O.Register 0) (O.Memory 8 0 G.DS),
        refl,
        refl,
        λ e. let p = parts e in let z : ◌≡◌ {A = ℕ} 6 8 = cc in omega arith,
      );
      displacement = (instruction Op.MOV S.Word (O.Register 0) (O.Memory 7 0xFFFF G.DS), refl, refl);
      other_displacement = (
        instruction Op.MOV S.Word (O.Register 0) (O.Memory 7 1 G.DS),
        instruction Op.MOV S.Word (O.Register 0) (O.Memory 7 2 G.DS),
        refl,
        refl,
        λ e. let p = parts e in let z : ◌≡◌ {A = ℕ} 1 2 = cc in omega arith,
      );
      segment_ds = (instruction Op.MOV S.Word (O.Register 0) (O.Memory 7 0 G.DS), refl, refl);
      segment_bp = (instruction Op.MOV S.Word (O.Register 0) (O.Memory 6 0 G.SS), refl, refl);
      segment_bp_word = (instruction Op.MOV S.Word (O.Register 0) (O.Memory 6 0 G.SS), refl, refl);
      segment_bp_si = (instruction Op.MOV S.Word (O.Register 0) (O.Memory 2 0 G.SS), refl, refl);
      segment_bp_di = (instruction Op.MOV S.Word (O.Register 0) (O.Memory 3 0 G.SS), refl, refl);
      segment_address = (instruction Op.MOV S.Word (O.Register 0) (O.Memory 8 0x1234 G.DS), refl, refl);
      segment_xlat = (instruction Op.XLATB S.Byte (O.Memory 7 0 G.DS) O.None, refl, refl);
      other_segment = (
        instruction Op.MOV S.Word (O.Register 0) (O.Memory 7 0 G.ES),
        instruction Op.MOV S.Word (O.Register 0) (O.Memory 7 0 G.DS),
        refl,
        refl,
        λ e. let p = parts e in let z : ◌≡◌ {A = ℕ} 0 1 = cc in omega arith,
      );
      ds_before_bp = (
        instruction Op.MOV S.Word (O.Register 0) (O.Memory 6 0 G.DS),
        instruction Op.MOV S.Word (O.Register 0) (O.Memory 6 0 G.SS),
        refl,
        refl,
        λ e. let p = parts e in let z : ◌≡◌ {A = ℕ} 0 1 = cc in omega arith,
      );
      near = (instruction Op.JMP S.Unspecified (O.Near 0) O.None, refl, refl);
      near_short = (instruction Op.JE S.Unspecified (O.Near 129) O.None, refl, refl);
      other_near = (
        instruction Op.JMP S.Unspecified (O.Near 0) O.None,
        instruction Op.JMP S.Unspecified (O.Near 1) O.None,
        refl,
        refl,
        λ e. let p = parts e in let z : ◌≡◌ {A = ℕ} 0 1 = cc in omega arith,
      );
      far = (instruction Op.JMP S.Unspecified (O.Far 0x1234 0x5678) O.None, refl, refl);
      other_far_segment = (
        instruction Op.JMP S.Unspecified (O.Far 0x1234 0x5678) O.None,
        instruction Op.JMP S.Unspecified (O.Far 0x1234 0x5679) O.None,
        refl,
        refl,
        λ e. let p = parts e in let z : ◌≡◌ {A = ℕ} 0x5678 0x5679 = cc in omega arith,
      );
      other_far_offset = (
        instruction Op.JMP S.Unspecified (O.Far 0x1234 0x5678) O.None,
        instruction Op.JMP S.Unspecified (O.Far 0x1235 0x5678) O.None,
        refl,
        refl,
        λ e. let p = parts e in let z : ◌≡◌ {A = ℕ} 0x1234 0x1235 = cc in omega arith,
      );
      near_not_far = (
        instruction Op.JMP S.Unspecified (O.Near 0) O.None,
        instruction Op.JMP S.Unspecified (O.Far 0 0) O.None,
        refl,
        refl,
        λ e. let p = parts e in let z : ◌≡◌ {A = ℕ} 0 1 = cc in omega arith,
      );
      xchg = (instruction Op.XCHG S.Word (O.Register 0) (O.Register 1), refl, refl);
      xchg_short = (instruction Op.XCHG S.Word (O.Register 0) (O.Register 1), refl, refl);
      xchg_memory = (instruction Op.XCHG S.Byte (O.Register 0) (O.Memory 7 0 G.DS), refl, refl);
      xchg_memory_first = refl;
      other_xchg = (
        instruction Op.XCHG S.Word (O.Register 0) (O.Register 1),
        instruction Op.XCHG S.Word (O.Register 0) (O.Register 2),
        refl,
        refl,
        λ e. let p = parts e in let z : ◌≡◌ {A = ℕ} 1 2 = cc in omega arith,
      );
      test_either_way = refl;
      test_ordered = (
        instruction Op.TEST S.Word (O.Register 0) (O.Register 3),
        instruction Op.TEST S.Word (O.Register 3) (O.Register 0),
        refl,
        refl,
        λ e. let p = parts e in let z : ◌≡◌ {A = ℕ} 0 3 = cc in omega arith,
      );
      test_immediate = (instruction Op.TEST S.Byte (O.Register 0) (O.Immediate 5), refl, refl);
      far_through = (
        instruction Op.CALL S.Word (O.Memory 7 0 G.DS) O.None,
        instruction Op.CALL S.Unspecified (O.Memory 7 0 G.DS) O.None,
        refl,
        refl,
        λ e. let p = parts e in let z : ◌≡◌ {A = ℕ} 0 1 = cc in omega arith,
      );
      jmp_either = (instruction Op.JMP S.Unspecified (O.Near 0) O.None, refl, refl);
      other_jmp = (
        instruction Op.JMP S.Unspecified (O.Near 0) O.None,
        instruction Op.JMP S.Unspecified (O.Near 0xFFFF) O.None,
        refl,
        refl,
        λ e. let p = parts e in let z : ◌≡◌ {A = ℕ} 0 0xFFFF = cc in omega arith,
      );
      push_either = (instruction Op.PUSH S.Word (O.Register 0) O.None, refl, refl);
      pop_either = (instruction Op.POP S.Word (O.Register 0) O.None, refl, refl);
      push_not_pop = (
        instruction Op.PUSH S.Word (O.Register 0) O.None,
        instruction Op.POP S.Word (O.Register 0) O.None,
        refl,
        refl,
        λ e. let p = parts e in let z : ◌≡◌ {A = ℕ} 0 1 = cc in omega arith,
      );
      ret_0 = (
        instruction Op.RET S.Unspecified O.None O.None,
        instruction Op.RET S.Unspecified (O.Immediate 0) O.None,
        refl,
        refl,
        λ e. let p = parts e in let z : ◌≡◌ {A = ℕ} 0 1 = cc in omega arith,
      );
      nop = (instruction Op.NOP S.Unspecified O.None O.None, refl, refl);
      xchg_al_al = (
        instruction Op.XCHG S.Byte (O.Register 0) (O.Register 0),
        instruction Op.NOP S.Unspecified O.None O.None,
        refl,
        refl,
        λ e. let p = parts e in let z : ◌≡◌ {A = ℕ} 0 1 = cc in omega arith,
      );
      xchg_cx_cx = (
        instruction Op.XCHG S.Word (O.Register 1) (O.Register 1),
        instruction Op.NOP S.Unspecified O.None O.None,
        refl,
        refl,
        λ e. let p = parts e in let z : ◌≡◌ {A = ℕ} 0 1 = cc in omega arith,
      );
    }
