-- The form and the question as the code finds them: off the bytes that are written, and off the refusal. Nobody has to believe it: proofs/Found shows that they are
-- those of Ground.
-- Definitions only.
use Rattle.std.specs.Prelude.{ℕ, suc, ◌/◌, ◌%◌, Bool, true, false, List, eqb, ltb, leb, get_or, Option, Some, None}
use Rattle.mrc_compiler.specs.declared.encoder.EncodeError.{EncodeError}
use Rattle.mrc_compiler.specs.declared.encoder.EncodeError.TheVariants as E
use Rattle.mrc_compiler.specs.declared.encoder.InstructionData.{InstructionData}
use Rattle.mrc_compiler.specs.Choose.{pick, by_size}
use Rattle.x86.specs.Reading.{digit, prefix}
use Rattle.encode_groups.specs.declared.Group.{Group}
use Rattle.encode_groups.specs.declared.Group.TheVariants as G
use Rattle.encode_groups.specs.Grouping.{group_of}
use Rattle.encode_spec.specs.Records.{dst}
use Rattle.encode_spec.specs.Limits.{data_byte, data_word, sign_extended, vector, popped, target}
use Rattle.encode_form.specs.declared.Limits.{Limits}
use Rattle.encode_form.specs.declared.Written.{Written}
use Rattle.encode_form.specs.Ground.{between}

-- 80 to 83, 8F, C6, C7, D0 to D3, F6, F7, FE, FF
abbrev pub has_digit : ℕ → Bool
has_digit c =
    pick (ltb c 0x80) false (pick (ltb c 0x84) true (pick (eqb c 0x8F) true (pick (ltb c 0xC6) false (pick (ltb c 0xC8) true
    (pick (ltb c 0xD0) false (pick (ltb c 0xD4) true (pick (ltb c 0xF6) false (pick (ltb c 0xF8) true (leb 0xFE c)))))))))

abbrev pub digit_at : ℕ → ℕ → Option ℕ
digit_at c x = pick (has_digit c) (Some (digit x)) None

-- by the opcode's low bit
abbrev pub data_limits : ℕ → Option Limits
data_limits c = pick (eqb (c % 2) 0) (between data_byte) (between data_word)

-- 04, 05 .. 3C, 3D; 83; 80, 81; A8, A9; B0 to BF; C2; C6, C7; CD; E4 to E7; E8 to EB; F6 /0, F7 /0
abbrev pub limits_by : ℕ → Bool → Option Limits
limits_by c digit_is_0 =
    pick (ltb c 0x40) (pick (eqb (c % 8 / 2) 2) (data_limits c) None)
    (pick (eqb c 0x83) (between sign_extended)
    (pick (eqb (c / 2) 0x40) (data_limits c)
    (pick (eqb (c / 2) 0x54) (data_limits c)
    (pick (eqb (c / 8) 0x16) (between data_byte)
    (pick (eqb (c / 8) 0x17) (between data_word)
    (pick (eqb c 0xC2) (between popped)
    (pick (eqb (c / 2) 0x63) (data_limits c)
    (pick (eqb c 0xCD) (between vector)
    (pick (eqb (c / 4) 0x39) (between vector)
    (pick (eqb (c / 4) 0x3A) (between target)
    (pick (eqb (c / 2) 0x7B) (pick digit_is_0 (data_limits c) None) None)))))))))))

-- the forms of a group use so many operands; of RET those of a record that counts none, or some
abbrev pub operands_in : Group → Bool → ℕ
operands_in G.Arithmetic counts_none = 2
operands_in G.Unary counts_none = 1
operands_in G.Mov counts_none = 2
operands_in G.Test counts_none = 2
operands_in G.Xchg counts_none = 2
operands_in G.IncDec counts_none = 1
operands_in G.Push counts_none = 1
operands_in G.Pop counts_none = 1
operands_in G.Ret counts_none = pick counts_none 0 1
operands_in G.Lea counts_none = 2
operands_in G.LesLds counts_none = 2
operands_in G.Shift counts_none = 2
operands_in G.Call counts_none = 1
operands_in G.Jmp counts_none = 1
operands_in G.Jcc counts_none = 1
operands_in G.Loopc counts_none = 1
operands_in G.NoOperands counts_none = 0
operands_in G.Prefixes counts_none = 0
operands_in G.Int counts_none = 1
operands_in G.Aam counts_none = 0
operands_in G.Aad counts_none = 0
operands_in G.Xlat counts_none = 1
operands_in G.In counts_none = 2
operands_in G.Out counts_none = 2
operands_in G.Unsupported counts_none = 0

-- by the opcode c and the byte x behind it
abbrev pub written_at : ℕ → ℕ → InstructionData → Written
written_at c x insn =
    record {
      opcode = c;
      digit = digit_at c x;
      operands = operands_in (group_of insn.operation) (eqb insn.num_opers 0);
      limits = limits_by c (eqb (digit x) 0);
    }

-- the opcode stands behind a repeat or a prefix, or first
abbrev pub opcode_place : ℕ → ℕ → ℕ
opcode_place repeat b = pick (eqb repeat 0) (pick (prefix b) 1 0) 1

abbrev pub written_from : ℕ → List ℕ → InstructionData → Written
written_from at bs insn = written_at (get_or bs at 0) (get_or bs (suc at) 0) insn

abbrev pub written_in : List ℕ → InstructionData → Written
written_in bs insn = written_from (opcode_place insn.repeat (get_or bs 0 0)) bs insn

-- the question of a refusal: 4 is question 5's where the size was stated
abbrev pub question_by : EncodeError → InstructionData → ℕ
question_by (E.InvalidOperands s) insn = 5
question_by (E.OperandSizeNotSpecified s) insn = 3
question_by (E.OperandSizesDoNotMatch s) insn = 4
question_by (E.InvalidOperandSize s) insn = by_size (dst insn).size 3 3 5
question_by (E.ImmediateOutOfRange s v l h) insn = 6
question_by (E.RelativeJumpOutOfRange s z b d) insn = 7
question_by (E.NotSupported s) insn = 2
question_by (E.NotWellFormed s) insn = 1
question_by (E.InvalidRepeat s) insn = 1
question_by (E.SliceTooShort s) insn = 8
