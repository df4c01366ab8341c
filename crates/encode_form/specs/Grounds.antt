-- What a ground says of the record: proofs/Grounds has it for every record at every offset.
-- Definitions only.
use Rattle.std.specs.Prelude.{ℕ, Bool, true, false, ◌⊎◌, ◌≡◌, length, Ok}
use mathlib.Core.List.{List, [], ◌∷◌, ◌++◌, Memᴰ}
use Rattle.mrc_compiler.specs.declared.encoder.InstructionData.{InstructionData}
use Rattle.mrc_compiler.specs.declared.encoder.OperandData.{OperandData}
use Rattle.mrc_compiler.specs.Choose.{both}
use Rattle.x86_forms.specs.declared.FormName.{FormName}
use Rattle.x86.specs.declared.Instruction.{Instruction}
use Rattle.x86.specs.Forms.{Form, forms}
use Rattle.x86.specs.Forms as F
use Rattle.encode_groups.specs.Grouping.{group_of}
use Rattle.encode_spec.specs.Records.{dst, src}
use Rattle.encode_spec.specs.Choice.{takes, size_in}
use Rattle.encode_spec.specs.Layout.{prefix_bytes, layout}
use Rattle.encode_spec.specs.Limits.{Asked}
use Rattle.encode_spec.specs.Meaning.{meaning}
use Rattle.encode_spec.specs.Questions.{questions}
use Rattle.encode_spec.specs.Answer.{bytes, refused, answer}
use Rattle.read_table.specs.Rows.{named, name_of}
use Rattle.reader.specs.Answer.{reading, decoded}
use Rattle.encode_form.specs.declared.Written.{Written}
use Rattle.encode_form.specs.declared.Ground.{Ground}
use Rattle.encode_form.specs.declared.Ground.TheVariants as G
use Rattle.encode_form.specs.Ground.{written_by}

abbrev pub are_all_yes : List Asked → Bool
are_all_yes [] = true
are_all_yes (q ∷ qs) = both q.yes (are_all_yes qs)

-- question n refuses the record: those before it get yes, and it gets no
pub record RefusedBy (insn : InstructionData) (off n : ℕ) : Type 0 where
  pub before : List Asked
  pub question : Asked
  pub behind : List Asked
  pub in_order : questions insn off ≡ before ++ (question ∷ behind)
  pub yes_before : are_all_yes before ≡ true
  pub gets_no : question.yes ≡ false
  pub its_number : question.number ≡ n
  pub its_refusal : answer insn off ≡ refused question.refusal

-- the string s reads, to the last byte, as the instruction m and by the form of that name
abbrev pub ReadsBy : ℕ → List ℕ → Instruction → FormName → Type 0
ReadsBy off s m f = decoded off s ≡ Ok (reading m f (length s))

-- the record's operands, as they stand or the other way round
abbrev pub OperandsOf : InstructionData → OperandData → OperandData → Type 0
OperandsOf insn a b = ((a ≡ dst insn) × (b ≡ src insn)) ⊎ ((a ≡ src insn) × (b ≡ dst insn))

-- the bytes of a form with the operands a and b, behind the record's repeat
abbrev pub bytes_by : InstructionData → ℕ → Form → OperandData → OperandData → List ℕ
bytes_by insn off f a b = prefix_bytes insn.repeat ++ layout f off a b

-- the record is written by a form of the table, which takes its operands and by which the bytes read. The byte 90 is that of two forms, which are the same
-- instruction: it reads as XCHG's, 90 +r, also where it is written for NOP
pub record WrittenIn (insn : InstructionData) (off : ℕ) (w : Written) : Type 0 where
  pub form : Form
  pub first : OperandData
  pub second : OperandData
  pub operands_are : OperandsOf insn first second
  pub listed : Memᴰ form forms
  pub its_operation : form.operation ≡ insn.operation
  pub takes_first : takes form.first (size_in (group_of insn.operation) (dst insn) (src insn) first) first ≡ true
  pub takes_second : takes form.second (size_in (group_of insn.operation) (dst insn) (src insn) second) second ≡ true
  pub is_written : w ≡ written_by (group_of insn.operation) form first second
  pub its_bytes : answer insn off ≡ bytes (bytes_by insn off form first second)
  pub read_by : ReadsBy off (bytes_by insn off form first second) (meaning insn) (name_of form) ⊎ ((w.opcode ≡ 0x90) × ReadsBy off (bytes_by insn off form first second) (meaning insn) (named 0x90 F.+r))

abbrev pub Grounded : InstructionData → ℕ → Ground → Type 0
Grounded insn off (G.Form w) = WrittenIn insn off w
Grounded insn off (G.Question n) = RefusedBy insn off n
