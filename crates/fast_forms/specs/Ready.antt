-- A record of 56 bytes whose operands are well formed, and what a packed run says of a code list's answer.
-- Definitions only.
use Rattle.std.specs.Prelude.{◌≡◌, ℕ, ◌+◌, ◌<◌, ◌≤◌, List, length, ◌==◌}
use Rattle.mrc_compiler.specs.declared.encoder.generate.Code.{Code}
use Rattle.mrc_compiler.specs.declared.encoder.generate.Codes.{Codes}
use Rattle.mrc_compiler.specs.Choose.{pick}
use Rattle.encode_spec.specs.Answer.{Answer, bytes}
use Rattle.encode_lines.specs.Lines.{immediate}
use Rattle.encode_fields.specs.Fields.{code_answer}
use Rattle.encode_codes.specs.Emit.{codes_answer}
use Rattle.show_record.specs.Record.{operand_length, first_place, second_place, record_length, byte_at, instruction_at}
use Rattle.fast_run.specs.Packed.{digits, unpacked, Valued}
use Rattle.fast_rows.specs.Rows.{data_of}
use Rattle.fast_operand.specs.Formed.{Formed}

pub record Ready (s : List ℕ) : Type 0 where
  pub length_is : length s ≡ record_length
  pub below : (i : ℕ) → byte_at s i < 256
  pub first : Formed s first_place
  pub second : Formed s second_place

-- one of its operands
pub record Operand (s : List ℕ) (at : ℕ) : Type 0 where
  pub inside : at + operand_length ≤ length s
  pub formed : Formed s at

-- where operand k of a record stands, and the other one
abbrev pub place : ℕ → ℕ
place k = pick (k == 0) first_place second_place

abbrev pub other_place : ℕ → ℕ
other_place k = pick (k == 0) second_place first_place

-- what a code list answers for a record
abbrev pub codes_at : List ℕ → ℕ → Codes → Answer
codes_at s off codes = codes_answer codes (instruction_at s) off

-- a run that is there is the answer's bytes
abbrev pub Gives : ℕ → Answer → Type 0
Gives r a = 0 < r → a ≡ bytes (unpacked r)

-- and the size of the form is known
abbrev pub Sized : ℕ → ℕ → Answer → Type 0
Sized size r a = 0 < r → (0 < size) × (a ≡ bytes (unpacked r))

-- a value of n bytes that is there is what a code answers
pub record Answers (n v : ℕ) (a : Answer) : Type 0 where
  pub valued : Valued n v
  pub is : a ≡ bytes (digits n v)

abbrev pub Value : List ℕ → Code → ℕ → ℕ → Type 0
Value s code n v = v < 65536 → (off : ℕ) → Answers n v (code_answer code (instruction_at s) off)
