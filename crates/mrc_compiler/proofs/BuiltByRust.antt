-- What the Rust's own builders make: each row is a call of ours, and the fields that 000 gives it. tests/differential/run builders writes this file.
-- Assumes nothing.
use Rattle.std.specs.Prelude.{None, Some, Option}
use mathlib.Core.Path.{◌≡◌, refl}
use mathlib.Core.List.{[], ◌∷◌}
use Prim.Native.Nat.{ℕ}
use lib.IntN.{ℤ, pos, negsuc}
use Rattle.mrc_compiler.specs.declared.ast.Span.{Span}
use Rattle.mrc_compiler.specs.declared.ast.ByteRegister.TheVariants as B
use Rattle.mrc_compiler.specs.declared.ast.WordRegister.TheVariants as W
use Rattle.mrc_compiler.specs.declared.ast.Register.TheVariants as R
use Rattle.mrc_compiler.specs.declared.ast.Segment.TheVariants as G
use Rattle.mrc_compiler.specs.declared.ast.DataSize.TheVariants as D
use Rattle.mrc_compiler.specs.declared.ast.IndirectEncoding.TheVariants as I
use Rattle.mrc_compiler.specs.declared.operations.Operation.{Operation}
use Rattle.mrc_compiler.specs.declared.operations.Operation.TheVariants as Op
use Rattle.mrc_compiler.specs.declared.encoder.OperandKind.{OperandKind}
use Rattle.mrc_compiler.specs.declared.encoder.OperandKind.TheVariants as K
use Rattle.mrc_compiler.specs.declared.encoder.OperandSize.{OperandSize}
use Rattle.mrc_compiler.specs.declared.encoder.OperandSize.TheVariants as S
use Rattle.mrc_compiler.specs.declared.encoder.JumpKind.{JumpKind}
use Rattle.mrc_compiler.specs.declared.encoder.JumpKind.TheVariants as J
use Rattle.mrc_compiler.specs.declared.encoder.OperandData.{OperandData}
use Rattle.mrc_compiler.specs.declared.encoder.InstructionData.{InstructionData}
use Rattle.mrc_compiler.specs.Registers.{register, data_size_of, segment, indirect_encoding}
use Rattle.mrc_compiler.specs.Builders.{size_from_some, immediate_operand, far_operand, register_operand, segment_operand, direct_operand, indirect_operand, no_operands, one_operand, two_operands}

module _ (s : Span) where
  -- kind, size, prefix, displacement size, jump kind, mode, r/m, immediate, displacement: the order of a show file's record
  abbrev operand : OperandKind → OperandSize → ℕ → OperandSize → Option JumpKind → ℕ → ℕ → ℤ → ℤ → OperandData
  operand kind size prefix length jump mode rm imm displacement = record {
    span = s;
    size = size;
    kind = kind;
    segment_prefix = prefix;
    imm = imm;
    displacement = displacement;
    displacement_size = length;
    jmp_kind = jump;
    mode = mode;
    rm = rm;
  }

  abbrev made : Operation → ℕ → OperandData → OperandData → InstructionData
  made op count a b = record { operation = op; num_opers = count; repeat = 0; opers = a ∷ b ∷ []; opers_span = s }

  record Rows : Type 0 where
    byte_al : register_operand s (register (R.Byte B.Al)) (size_from_some (data_size_of (R.Byte B.Al))) ≡ operand K.Reg S.Byte 0 S.Unspecified None 3 0 (pos 0) (pos 0)
    byte_cl : register_operand s (register (R.Byte B.Cl)) (size_from_some (data_size_of (R.Byte B.Cl))) ≡ operand K.Reg S.Byte 0 S.Unspecified None 3 1 (pos 0) (pos 0)
    byte_dl : register_operand s (register (R.Byte B.Dl)) (size_from_some (data_size_of (R.Byte B.Dl))) ≡ operand K.Reg S.Byte 0 S.Unspecified None 3 2 (pos 0) (pos 0)
    byte_bl : register_operand s (register (R.Byte B.Bl)) (size_from_some (data_size_of (R.Byte B.Bl))) ≡ operand K.Reg S.Byte 0 S.Unspecified None 3 3 (pos 0) (pos 0)
    byte_ah : register_operand s (register (R.Byte B.Ah)) (size_from_some (data_size_of (R.Byte B.Ah))) ≡ operand K.Reg S.Byte 0 S.Unspecified None 3 4 (pos 0) (pos 0)
    byte_ch : register_operand s (register (R.Byte B.Ch)) (size_from_some (data_size_of (R.Byte B.Ch))) ≡ operand K.Reg S.Byte 0 S.Unspecified None 3 5 (pos 0) (pos 0)
    byte_dh : register_operand s (register (R.Byte B.Dh)) (size_from_some (data_size_of (R.Byte B.Dh))) ≡ operand K.Reg S.Byte 0 S.Unspecified None 3 6 (pos 0) (pos 0)
    byte_bh : register_operand s (register (R.Byte B.Bh)) (size_from_some (data_size_of (R.Byte B.Bh))) ≡ operand K.Reg S.Byte 0 S.Unspecified None 3 7 (pos 0) (pos 0)
    word_ax : register_operand s (register (R.Word W.Ax)) (size_from_some (data_size_of (R.Word W.Ax))) ≡ operand K.Reg S.Word 0 S.Unspecified None 3 0 (pos 0) (pos 0)
    word_cx : register_operand s (register (R.Word W.Cx)) (size_from_some (data_size_of (R.Word W.Cx))) ≡ operand K.Reg S.Word 0 S.Unspecified None 3 1 (pos 0) (pos 0)
    word_dx : register_operand s (register (R.Word W.Dx)) (size_from_some (data_size_of (R.Word W.Dx))) ≡ operand K.Reg S.Word 0 S.Unspecified None 3 2 (pos 0) (pos 0)
    word_bx : register_operand s (register (R.Word W.Bx)) (size_from_some (data_size_of (R.Word W.Bx))) ≡ operand K.Reg S.Word 0 S.Unspecified None 3 3 (pos 0) (pos 0)
    word_sp : register_operand s (register (R.Word W.Sp)) (size_from_some (data_size_of (R.Word W.Sp))) ≡ operand K.Reg S.Word 0 S.Unspecified None 3 4 (pos 0) (pos 0)
    word_bp : register_operand s (register (R.Word W.Bp)) (size_from_some (data_size_of (R.Word W.Bp))) ≡ operand K.Reg S.Word 0 S.Unspecified None 3 5 (pos 0) (pos 0)
    word_si : register_operand s (register (R.Word W.Si)) (size_from_some (data_size_of (R.Word W.Si))) ≡ operand K.Reg S.Word 0 S.Unspecified None 3 6 (pos 0) (pos 0)
    word_di : register_operand s (register (R.Word W.Di)) (size_from_some (data_size_of (R.Word W.Di))) ≡ operand K.Reg S.Word 0 S.Unspecified None 3 7 (pos 0) (pos 0)
    segment_es : segment_operand s (segment G.ES) ≡ operand K.Seg S.Word 0 S.Unspecified None 3 0 (pos 0) (pos 0)
    segment_cs : segment_operand s (segment G.CS) ≡ operand K.Seg S.Word 0 S.Unspecified None 3 1 (pos 0) (pos 0)
    segment_ss : segment_operand s (segment G.SS) ≡ operand K.Seg S.Word 0 S.Unspecified None 3 2 (pos 0) (pos 0)
    segment_ds : segment_operand s (segment G.DS) ≡ operand K.Seg S.Word 0 S.Unspecified None 3 3 (pos 0) (pos 0)
    direct_0 : direct_operand s (pos 0) None None ≡ operand K.Mem S.Unspecified 0 S.Word None 0 6 (pos 0) (pos 0)
    direct_1 : direct_operand s (pos 4660) (Some D.Byte) (Some G.ES) ≡ operand K.Mem S.Byte 38 S.Word None 0 6 (pos 0) (pos 4660)
    direct_2 : direct_operand s (pos 65535) (Some D.Word) (Some G.CS) ≡ operand K.Mem S.Word 46 S.Word None 0 6 (pos 0) (pos 65535)
    direct_3 : direct_operand s (negsuc 0) None (Some G.SS) ≡ operand K.Mem S.Unspecified 54 S.Word None 0 6 (pos 0) (negsuc 0)
    direct_4 : direct_operand s (negsuc 32767) (Some D.Byte) (Some G.DS) ≡ operand K.Mem S.Byte 62 S.Word None 0 6 (pos 0) (negsuc 32767)
    indirect_bxsi_0 : indirect_operand s (indirect_encoding I.BxSi) (pos 0) None None ≡ operand K.Mem S.Unspecified 0 S.Unspecified None 0 0 (pos 0) (pos 0)
    indirect_bxsi_1 : indirect_operand s (indirect_encoding I.BxSi) (pos 1) (Some D.Byte) (Some G.CS) ≡ operand K.Mem S.Byte 46 S.Byte None 1 0 (pos 0) (pos 1)
    indirect_bxsi_2 : indirect_operand s (indirect_encoding I.BxSi) (pos 128) (Some D.Word) (Some G.DS) ≡ operand K.Mem S.Word 62 S.Word None 2 0 (pos 0) (pos 128)
    indirect_bxdi_0 : indirect_operand s (indirect_encoding I.BxDi) (pos 0) (Some D.Byte) (Some G.ES) ≡ operand K.Mem S.Byte 38 S.Unspecified None 0 1 (pos 0) (pos 0)
    indirect_bxdi_1 : indirect_operand s (indirect_encoding I.BxDi) (negsuc 0) (Some D.Word) (Some G.SS) ≡ operand K.Mem S.Word 54 S.Byte None 1 1 (pos 0) (negsuc 0)
    indirect_bxdi_2 : indirect_operand s (indirect_encoding I.BxDi) (negsuc 128) None None ≡ operand K.Mem S.Unspecified 0 S.Word None 2 1 (pos 0) (negsuc 128)
    indirect_bpsi_0 : indirect_operand s (indirect_encoding I.BpSi) (pos 0) (Some D.Word) (Some G.CS) ≡ operand K.Mem S.Word 46 S.Unspecified None 0 2 (pos 0) (pos 0)
    indirect_bpsi_1 : indirect_operand s (indirect_encoding I.BpSi) (pos 127) None (Some G.DS) ≡ operand K.Mem S.Unspecified 62 S.Byte None 1 2 (pos 0) (pos 127)
    indirect_bpsi_2 : indirect_operand s (indirect_encoding I.BpSi) (pos 32767) (Some D.Byte) (Some G.ES) ≡ operand K.Mem S.Byte 38 S.Word None 2 2 (pos 0) (pos 32767)
    indirect_bpdi_0 : indirect_operand s (indirect_encoding I.BpDi) (pos 0) None (Some G.SS) ≡ operand K.Mem S.Unspecified 54 S.Unspecified None 0 3 (pos 0) (pos 0)
    indirect_bpdi_1 : indirect_operand s (indirect_encoding I.BpDi) (negsuc 127) (Some D.Byte) None ≡ operand K.Mem S.Byte 0 S.Byte None 1 3 (pos 0) (negsuc 127)
    indirect_bpdi_2 : indirect_operand s (indirect_encoding I.BpDi) (negsuc 32767) (Some D.Word) (Some G.CS) ≡ operand K.Mem S.Word 46 S.Word None 2 3 (pos 0) (negsuc 32767)
    indirect_si_0 : indirect_operand s (indirect_encoding I.Si) (pos 0) (Some D.Byte) (Some G.DS) ≡ operand K.Mem S.Byte 62 S.Unspecified None 0 4 (pos 0) (pos 0)
    indirect_si_1 : indirect_operand s (indirect_encoding I.Si) (pos 1) (Some D.Word) (Some G.ES) ≡ operand K.Mem S.Word 38 S.Byte None 1 4 (pos 0) (pos 1)
    indirect_si_2 : indirect_operand s (indirect_encoding I.Si) (pos 128) None (Some G.SS) ≡ operand K.Mem S.Unspecified 54 S.Word None 2 4 (pos 0) (pos 128)
    indirect_di_0 : indirect_operand s (indirect_encoding I.Di) (pos 0) (Some D.Word) None ≡ operand K.Mem S.Word 0 S.Unspecified None 0 5 (pos 0) (pos 0)
    indirect_di_1 : indirect_operand s (indirect_encoding I.Di) (negsuc 0) None (Some G.CS) ≡ operand K.Mem S.Unspecified 46 S.Byte None 1 5 (pos 0) (negsuc 0)
    indirect_di_2 : indirect_operand s (indirect_encoding I.Di) (negsuc 128) (Some D.Byte) (Some G.DS) ≡ operand K.Mem S.Byte 62 S.Word None 2 5 (pos 0) (negsuc 128)
    indirect_bp_1 : indirect_operand s (indirect_encoding I.Bp) (pos 127) (Some D.Byte) (Some G.SS) ≡ operand K.Mem S.Byte 54 S.Byte None 1 6 (pos 0) (pos 127)
    indirect_bp_2 : indirect_operand s (indirect_encoding I.Bp) (pos 32767) (Some D.Word) None ≡ operand K.Mem S.Word 0 S.Word None 2 6 (pos 0) (pos 32767)
    indirect_bx_0 : indirect_operand s (indirect_encoding I.Bx) (pos 0) (Some D.Byte) (Some G.CS) ≡ operand K.Mem S.Byte 46 S.Unspecified None 0 7 (pos 0) (pos 0)
    indirect_bx_1 : indirect_operand s (indirect_encoding I.Bx) (negsuc 127) (Some D.Word) (Some G.DS) ≡ operand K.Mem S.Word 62 S.Byte None 1 7 (pos 0) (negsuc 127)
    indirect_bx_2 : indirect_operand s (indirect_encoding I.Bx) (negsuc 32767) None (Some G.ES) ≡ operand K.Mem S.Unspecified 38 S.Word None 2 7 (pos 0) (negsuc 32767)
    immediate_0 : immediate_operand s (pos 0) ≡ operand K.Imm S.Unspecified 0 S.Unspecified None 0 0 (pos 0) (pos 0)
    immediate_1 : immediate_operand s (pos 5) ≡ operand K.Imm S.Unspecified 0 S.Unspecified None 0 0 (pos 5) (pos 0)
    immediate_2 : immediate_operand s (negsuc 0) ≡ operand K.Imm S.Unspecified 0 S.Unspecified None 0 0 (negsuc 0) (pos 0)
    immediate_3 : immediate_operand s (pos 65535) ≡ operand K.Imm S.Unspecified 0 S.Unspecified None 0 0 (pos 65535) (pos 0)
    immediate_4 : immediate_operand s (negsuc 2147483647) ≡ operand K.Imm S.Unspecified 0 S.Unspecified None 0 0 (negsuc 2147483647) (pos 0)
    immediate_5 : immediate_operand s (pos 2147483647) ≡ operand K.Imm S.Unspecified 0 S.Unspecified None 0 0 (pos 2147483647) (pos 0)
    empty : immediate_operand s (pos 0) ≡ operand K.Imm S.Unspecified 0 S.Unspecified None 0 0 (pos 0) (pos 0)
    far_0 : far_operand s (pos 4660) (pos 22136) ≡ operand K.Imm S.Unspecified 0 S.Unspecified (Some J.Far) 0 0 (pos 4660) (pos 22136)
    far_1 : far_operand s (negsuc 0) (negsuc 1) ≡ operand K.Imm S.Unspecified 0 S.Unspecified (Some J.Far) 0 0 (negsuc 0) (negsuc 1)
    none : no_operands s Op.HLT ≡ made Op.HLT 0 (operand K.Imm S.Unspecified 0 S.Unspecified None 0 0 (pos 0) (pos 0)) (operand K.Imm S.Unspecified 0 S.Unspecified None 0 0 (pos 0) (pos 0))
    one : one_operand s Op.INT (immediate_operand s (pos 5)) ≡ made Op.INT 1 (operand K.Imm S.Unspecified 0 S.Unspecified None 0 0 (pos 5) (pos 0)) (operand K.Imm S.Unspecified 0 S.Unspecified None 0 0 (pos 0) (pos 0))
    two : two_operands s Op.MOV (register_operand s 0 S.Word) (immediate_operand s (pos 5)) ≡ made Op.MOV 2 (operand K.Reg S.Word 0 S.Unspecified None 3 0 (pos 0) (pos 0)) (operand K.Imm S.Unspecified 0 S.Unspecified None 0 0 (pos 5) (pos 0))

  rows : Rows
  rows = record {
    byte_al = refl;
    byte_cl = refl;
    byte_dl = refl;
    byte_bl = refl;
    byte_ah = refl;
    byte_ch = refl;
    byte_dh = refl;
    byte_bh = refl;
    word_ax = refl;
    word_cx = refl;
    word_dx = refl;
    word_bx = refl;
    word_sp = refl;
    word_bp = refl;
    word_si = refl;
    word_di = refl;
    segment_es = refl;
    segment_cs = refl;
    segment_ss = refl;
    segment_ds = refl;
    direct_0 = refl;
    direct_1 = refl;
    direct_2 = refl;
    direct_3 = refl;
    direct_4 = refl;
    indirect_bxsi_0 = refl;
    indirect_bxsi_1 = refl;
    indirect_bxsi_2 = refl;
    indirect_bxdi_0 = refl;
    indirect_bxdi_1 = refl;
    indirect_bxdi_2 = refl;
    indirect_bpsi_0 = refl;
    indirect_bpsi_1 = refl;
    indirect_bpsi_2 = refl;
    indirect_bpdi_0 = refl;
    indirect_bpdi_1 = refl;
    indirect_bpdi_2 = refl;
    indirect_si_0 = refl;
    indirect_si_1 = refl;
    indirect_si_2 = refl;
    indirect_di_0 = refl;
    indirect_di_1 = refl;
    indirect_di_2 = refl;
    indirect_bp_1 = refl;
    indirect_bp_2 = refl;
    indirect_bx_0 = refl;
    indirect_bx_1 = refl;
    indirect_bx_2 = refl;
    immediate_0 = refl;
    immediate_1 = refl;
    immediate_2 = refl;
    immediate_3 = refl;
    immediate_4 = refl;
    immediate_5 = refl;
    empty = refl;
    far_0 = refl;
    far_1 = refl;
    none = refl;
    one = refl;
    two = refl;
  }
