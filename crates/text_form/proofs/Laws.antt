-- How long the line of a ground is.
-- Assumes nothing.
use Rattle.std.specs.Prelude.{Option, Some, None}
use mathlib.Core.Path.{◌≡◌}
use mathlib.Core.Bool.{Bool, true, false}
use mathlib.Core.List.{[], ◌∷◌, ◌++◌}
use Prim.Native.Nat.{ℕ, ◌≤◌}
use native.Mathlib.Omega.{arith}
use lib.Dec.{leb}
use lib.ListN.{length, length-append}
use Rattle.mrc_compiler.specs.declared.encoder.InstructionData.{InstructionData}
use Rattle.mrc_compiler.specs.declared.encoder.OperandData.{OperandData}
use Rattle.mrc_compiler.specs.declared.encoder.OperandKind.{OperandKind}
use Rattle.mrc_compiler.specs.declared.encoder.OperandKind.TheVariants as K
use Rattle.mrc_compiler.specs.declared.encoder.OperandSize.{OperandSize}
use Rattle.mrc_compiler.specs.declared.encoder.OperandSize.TheVariants as S
use Rattle.mrc_compiler.specs.Choose.{pick}
use Rattle.encode_spec.specs.Records.{dst, src}
use Rattle.encode_form.specs.declared.Limits.{Limits}
use Rattle.encode_form.specs.declared.Written.{Written}
use Rattle.encode_form.specs.declared.Ground.{Ground}
use Rattle.encode_form.specs.declared.Ground.TheVariants as G
use Rattle.text_line.specs.Numbers.{line_feed, hex_byte, decimal, signed}
use Rattle.text_line.specs.declared.Line.{Line}
use Rattle.text_line.specs.Steps.{empty_line, appended}
use Rattle.text_line.proofs.Laws.{Holds, line_holds, hex_byte_length, decimal-length, signed-length}
use Rattle.text_form.specs.Lines.{kind_name, size_name, digit_text, operand_text, used_text, limits_text, form_line, question_line, ground_line, most_ground}

kind_length : (k : OperandKind) → length (kind_name k) ≤ 3
kind_length K.Imm = omega arith
kind_length K.Reg = omega arith
kind_length K.Seg = omega arith
kind_length K.Mem = omega arith

size_length : (s : OperandSize) → length (size_name s) ≤ 11
size_length S.Unspecified = omega arith
size_length S.Byte = omega arith
size_length S.Word = omega arith

digit_text_length : (d : Option ℕ) → length (digit_text d) ≤ 7
digit_text_length None = omega arith
digit_text_length (Some n) = let l = decimal-length n in omega arith

operand_length : (o : OperandData) → length (operand_text o) ≤ 16
unfolding operand_text
operand_length o =
    let k = kind_length o.kind in
    let s = size_length o.size in
    omega (arith, length-append (kind_name o.kind) (0x3A ∷ size_name o.size))

used_length : (m n : ℕ) (o : OperandData) → length (used_text m n o) ≤ 16
unfolding used_text
used_length m n o = go (leb m n)
  where
    go : (t : Bool) → length (pick t (operand_text o) []) ≤ 16
    go true = operand_length o
    go false = omega arith

limits_length : (l : Option Limits) → length (limits_text l) ≤ 15
limits_length None = omega arith
limits_length (Some l) =
    let x = signed-length l.low in
    let y = signed-length l.high in
    omega (arith, length-append (signed l.low) (0x2E ∷ 0x2E ∷ signed l.high))

form_length : (w : Written) (a b : OperandData) → length (form_line w a b) ≤ most_ground
unfolding form_line
form_length w a b =
    let end = line_feed ∷ [] in
    let limited = limits_text w.limits ++ end in
    let second = used_text 2 w.operands b ++ limited in
    let first = used_text 1 w.operands a ++ second in
    omega (
      arith,
      hex_byte_length w.opcode,
      digit_text_length w.digit,
      used_length 1 w.operands a,
      used_length 2 w.operands b,
      limits_length w.limits,
      length-append (hex_byte w.opcode) (digit_text w.digit ++ first),
      length-append (digit_text w.digit) first,
      length-append (used_text 1 w.operands a) second,
      length-append (used_text 2 w.operands b) limited,
      length-append (limits_text w.limits) end,
    )

question_length : (n : ℕ) → length (question_line n) ≤ most_ground
unfolding question_line
question_length n = let d = decimal-length n in omega (arith, length-append (decimal n) (line_feed ∷ []))

pub ground_length : (g : Ground) (insn : InstructionData) → length (ground_line g insn) ≤ most_ground
ground_length (G.Form w) insn = form_length w (dst insn) (src insn)
ground_length (G.Question n) insn = question_length n

-- a line with nothing before it
pub ground_holds : (empty : Line) (g : Ground) (insn : InstructionData) {line : Line} → empty ≡ empty_line → line ≡ appended empty (ground_line g insn) → Holds line (ground_line g insn)
ground_holds empty g insn {line} he hl =
    let l = ground_length g insn in
    line_holds line (ground_line g insn) (omega arith) (rw he at hl)
