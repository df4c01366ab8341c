-- The program of a list of cues, as instruction records, and its bytes, which are the encoder's answers (REFERENCE 14).
-- Definitions only.
use Rattle.std.specs.Prelude.{ℕ, ◌+◌, List, [], ◌∷◌, ◌++◌, pos, length}
use Rattle.mrc_compiler.specs.declared.ast.Span.{Span}
use Rattle.mrc_compiler.specs.declared.ast.ByteRegister.TheVariants as B
use Rattle.mrc_compiler.specs.declared.ast.WordRegister.TheVariants as W
use Rattle.mrc_compiler.specs.declared.encoder.InstructionData.{InstructionData}
use Rattle.mrc_compiler.specs.declared.encoder.OperandSize.TheVariants as S
use Rattle.mrc_compiler.specs.declared.operations.Operation.TheVariants as Op
use Rattle.mrc_compiler.specs.Builders.{immediate_operand, register_operand, no_operands, one_operand, two_operands}
use Rattle.mrc_compiler.specs.Registers.{byte_register, word_register}
use Rattle.encode_spec.specs.Answer.{Answer, bytes, refused, answer}
use Rattle.cue_compile.specs.declared.Cue.{Cue}

-- there is no source text
abbrev pub no_span : Span
no_span = record { start = 0; end = 0 }

-- MOV CX,delay
abbrev pub move_delay : ℕ → InstructionData
move_delay delay = two_operands no_span Op.MOV (register_operand no_span (word_register W.Cx) S.Word) (immediate_operand no_span (pos delay))

-- LOOP to this offset
abbrev pub loop_to : ℕ → InstructionData
loop_to at = one_operand no_span Op.LOOP (immediate_operand no_span (pos at))

-- MOV AL,mask
abbrev pub move_mask : ℕ → InstructionData
move_mask mask = two_operands no_span Op.MOV (register_operand no_span (byte_register B.Al) S.Byte) (immediate_operand no_span (pos mask))

-- OUT port,AL
abbrev pub output : ℕ → InstructionData
output port = two_operands no_span Op.OUT (immediate_operand no_span (pos port)) (register_operand no_span (byte_register B.Al) S.Byte)

abbrev pub halt : InstructionData
halt = no_operands no_span Op.HLT

-- a record for each offset that it may stand at: LOOP goes to itself
abbrev pub of_cue : Cue → List (ℕ → InstructionData)
of_cue c = (λ at. move_delay c.delay) ∷ (λ at. loop_to at) ∷ (λ at. move_mask c.mask) ∷ (λ at. output c.port) ∷ []

unfoldable pub program : List Cue → List (ℕ → InstructionData)
program [] = (λ at. halt) ∷ []
program (c ∷ cs) = of_cue c ++ program cs

-- the bytes of an answer. No record of a program is refused (proofs/Bytes)
abbrev pub given : Answer → List ℕ
given (bytes bs) = bs
given (refused e) = []

-- what the encoder answers to each, one behind the other from an offset on
unfoldable pub assembled : ℕ → List (ℕ → InstructionData) → List ℕ
assembled at [] = []
assembled at (r ∷ rs) = let bs = given (answer (r at) at) in bs ++ assembled (at + length bs) rs

-- from origin 0
abbrev pub image_of : List Cue → List ℕ
image_of cs = assembled 0 (program cs)
