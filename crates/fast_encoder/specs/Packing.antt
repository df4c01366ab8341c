-- What a packed run says of its bytes: they are a record, its codes are known, and its answer is these bytes.
-- Definitions only.
use Rattle.std.specs.Prelude.{ℕ, ◌<◌, ◌≡◌, true, false, List, [], ◌∷◌, eqb, length, get_or, Result}
use Rattle.mrc_compiler.specs.declared.operations.Operation.TheVariants as Op
use Rattle.mrc_compiler.specs.Operations.{operations}
use Rattle.encode_groups.specs.declared.Group.TheVariants as G
use Rattle.encode_groups.specs.Grouping.{group_of, base_of}
use Rattle.encode_spec.specs.WellFormed.{repeat_formed}
use Rattle.encode_spec.specs.Answer.{Answer, bytes, answer}
use Rattle.mrc_compiler.specs.declared.ast.DataSize.{DataSize}
use Rattle.mrc_compiler.specs.declared.encoder.generate.NoForm.{NoForm}
use Rattle.encode_lines.specs.declared.Line.{Line}
use Rattle.encode_lines.specs.Lines.{decision, planned}
use Rattle.encode_plans.specs.Decisions.{decision_in}
use Rattle.encoder.specs.Coded.{plan_answer}
use Rattle.show_record.specs.Record.{first_place, second_place, byte_at, operand_at, instruction_at, is_record, codes_known}
use Rattle.fast_run.specs.Packed.{unpacked}

pub record Packed (s : List ℕ) (off r : ℕ) : Type 0 where
  pub has_record_length : is_record (length s) ≡ true
  pub known : codes_known s ≡ true
  pub is : answer (instruction_at s) off ≡ bytes (unpacked r)

-- a jump through a register or memory that holds an offset: neither Far nor Short, and no byte
pub record Through (s : List ℕ) : Type 0 where
  pub not_far : byte_at s 14 ≡ 1 → ⊥
  pub not_short : byte_at s 14 ≡ 3 → ⊥
  pub not_byte : byte_at s 11 ≡ 1 → ⊥

-- what a line of the table answers for a record
abbrev pub line_at : List ℕ → ℕ → Result Line NoForm → DataSize → ℕ → Answer
line_at s off l z base = plan_answer (planned (decision l z) base) (instruction_at s) off

-- what the plan of an operation's group answers for a record's operands
unfoldable pub decided_at : ℕ → ℕ → List ℕ → ℕ → Answer
decided_at code count s off =
    let op = get_or operations code Op.MOV in
    plan_answer (planned (decision_in (group_of op) count (operand_at s first_place) (operand_at s second_place)) (base_of op)) (instruction_at s) off

-- a string operation behind its repeat
pub record Repeated (code repeat r : ℕ) : Type 0 where
  pub known : code < 99
  pub there : eqb repeat 0 ≡ false
  pub formed : repeat_formed repeat (get_or operations code Op.MOV) ≡ true
  pub group_is : group_of (get_or operations code Op.MOV) ≡ G.NoOperands
  pub is : unpacked r ≡ repeat ∷ base_of (get_or operations code Op.MOV) ∷ []
