-- What fsq_encode answers, and what it leaves in out.
-- Definitions only.
use Rattle.std.specs.Prelude.{ℕ, List, length}
use Rattle.mrc_compiler.specs.declared.encoder.InstructionData.{InstructionData}
use Rattle.mrc_compiler.specs.Choose.{pick}
use Rattle.encode_spec.specs.Answer.{answer, outcome, slice_after}
use Rattle.show_record.specs.Record.{is_record, codes_known, instruction_at}
use Rattle.foreign_report.specs.declared.Response.{Response}
use Rattle.foreign_report.specs.Crossing.{response_alone, response_encoded}

pub data Record : Type 0 where
  wrong_length : Record  -- 14
  unknown_code : Record  -- 15
  of : InstructionData → Record

-- the record that 56 or 57 bytes are; its length is asked before its codes
unfoldable pub record_of : List ℕ → Record
record_of s = pick (is_record (length s)) (pick (codes_known s) (of (instruction_at s)) unknown_code) wrong_length

abbrev pub record_number : Record → ℕ
record_number wrong_length = 14
record_number unknown_code = 15
record_number (of insn) = 0

-- 14 and 15 stand alone, and nothing is written for them
unfoldable pub response_of : Record → (InstructionData → Response) → Response
response_of wrong_length f = response_alone (record_number wrong_length)
response_of unknown_code f = response_alone (record_number unknown_code)
response_of (of insn) f = f insn

unfoldable pub left_by : Record → List ℕ → (InstructionData → List ℕ) → List ℕ
left_by wrong_length out f = out
left_by unknown_code out f = out
left_by (of insn) out f = f insn

abbrev pub response_record : Record → ℕ → List ℕ → Response
response_record r off out = response_of r (λ insn. response_encoded (outcome (answer insn off) insn.opers_span out))

abbrev pub out_after : Record → ℕ → List ℕ → List ℕ
out_after r off out = left_by r out (λ insn. slice_after (answer insn off) out)
