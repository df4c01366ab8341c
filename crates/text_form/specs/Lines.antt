-- The line that `fsqform` prints for a ground (REFERENCE 9), in ASCII.
-- Definitions only.
use Rattle.std.specs.Prelude.{ℕ, List, [], ◌∷◌, ◌++◌, leb, length, drop, Option, Some, None, Err, Ok, Result}
use Rattle.mrc_compiler.specs.declared.encoder.EncodeError.{EncodeError}
use Rattle.mrc_compiler.specs.declared.ast.Span.{Span}
use Rattle.mrc_compiler.specs.declared.encoder.EncodeError.TheVariants as E
use Rattle.mrc_compiler.specs.declared.encoder.InstructionData.{InstructionData}
use Rattle.mrc_compiler.specs.declared.encoder.OperandData.{OperandData}
use Rattle.mrc_compiler.specs.declared.encoder.OperandKind.{OperandKind}
use Rattle.mrc_compiler.specs.declared.encoder.OperandKind.TheVariants as K
use Rattle.mrc_compiler.specs.declared.encoder.OperandSize.{OperandSize}
use Rattle.mrc_compiler.specs.declared.encoder.OperandSize.TheVariants as S
use Rattle.mrc_compiler.specs.Choose.{pick}
use Rattle.encode_spec.specs.Records.{dst, src}
use Rattle.encode_form.specs.declared.Limits.{Limits}
use Rattle.encode_form.specs.declared.Written.{Written}
use Rattle.encode_form.specs.declared.Ground.{Ground}
use Rattle.encode_form.specs.declared.Ground.TheVariants as G
use Rattle.text_line.specs.Numbers.{blank, line_feed, hex_byte, decimal, signed}

-- "Imm", "Reg", "Seg", "Mem"
abbrev pub kind_name : OperandKind → List ℕ
kind_name K.Imm = 0x49 ∷ 0x6D ∷ 0x6D ∷ []
kind_name K.Reg = 0x52 ∷ 0x65 ∷ 0x67 ∷ []
kind_name K.Seg = 0x53 ∷ 0x65 ∷ 0x67 ∷ []
kind_name K.Mem = 0x4D ∷ 0x65 ∷ 0x6D ∷ []

-- "Unspecified", "Byte", "Word"
abbrev pub size_name : OperandSize → List ℕ
size_name S.Unspecified = 0x55 ∷ 0x6E ∷ 0x73 ∷ 0x70 ∷ 0x65 ∷ 0x63 ∷ 0x69 ∷ 0x66 ∷ 0x69 ∷ 0x65 ∷ 0x64 ∷ []
size_name S.Byte = 0x42 ∷ 0x79 ∷ 0x74 ∷ 0x65 ∷ []
size_name S.Word = 0x57 ∷ 0x6F ∷ 0x72 ∷ 0x64 ∷ []

-- " /n", or nothing
abbrev pub digit_text : Option ℕ → List ℕ
digit_text None = []
digit_text (Some n) = blank ∷ 0x2F ∷ decimal n

-- " kind:size"
unfoldable pub operand_text : OperandData → List ℕ
operand_text o = blank ∷ kind_name o.kind ++ (0x3A ∷ size_name o.size)

-- an operand that the form uses
unfoldable pub used_text : ℕ → ℕ → OperandData → List ℕ
used_text at_least n o = pick (leb at_least n) (operand_text o) []

-- " low..high", or " -"
abbrev pub limits_text : Option Limits → List ℕ
limits_text None = blank ∷ 0x2D ∷ []
limits_text (Some l) = blank ∷ signed l.low ++ (0x2E ∷ 0x2E ∷ signed l.high)

-- "form ": opcode, digit, operands, limits
unfoldable pub form_line : Written → OperandData → OperandData → List ℕ
form_line w a b =
    (0x66 ∷ 0x6F ∷ 0x72 ∷ 0x6D ∷ blank ∷ [])
    ++ (hex_byte w.opcode ++ (digit_text w.digit ++ (used_text 1 w.operands a ++ (used_text 2 w.operands b ++ (limits_text w.limits ++ (line_feed ∷ []))))))

-- "question "
unfoldable pub question_line : ℕ → List ℕ
question_line n = (0x71 ∷ 0x75 ∷ 0x65 ∷ 0x73 ∷ 0x74 ∷ 0x69 ∷ 0x6F ∷ 0x6E ∷ blank ∷ []) ++ (decimal n ++ (line_feed ∷ []))

abbrev pub ground_line : Ground → InstructionData → List ℕ
ground_line (G.Form w) insn = form_line w (dst insn) (src insn)
ground_line (G.Question n) insn = question_line n

-- ---- a slice that is lent for a line, and the longest line
abbrev pub most_ground : ℕ
most_ground = 64

abbrev pub explained : List ℕ → Span → List ℕ → Result ℕ EncodeError
explained line span out = pick (leb most_ground (length out)) (Ok (length line)) (Err (E.SliceTooShort span))

abbrev pub explained_in : List ℕ → List ℕ → List ℕ
explained_in line out = pick (leb most_ground (length out)) (line ++ drop (length line) out) out
