-- What document 01 says of each group of operations, a row a group: how its size is asked, what its immediate is, how a record without a
-- form is refused, what it means, and what is said of this group alone. The questions, the limits and the meaning all go by these rows.
-- Definitions only.
use Rattle.mrc_compiler.specs.declared.encoder.OperandData.{OperandData}
use Rattle.mrc_compiler.specs.declared.encoder.OperandSize.TheVariants as S
use Rattle.mrc_compiler.specs.declared.encoder.generate.Why.{Why}
use Rattle.mrc_compiler.specs.declared.encoder.generate.Why.TheVariants as W
use Rattle.mrc_compiler.specs.declared.encoder.generate.At.{At}
use Rattle.mrc_compiler.specs.declared.encoder.generate.At.TheVariants as At
use Rattle.mrc_compiler.specs.declared.operations.Operation.{Operation}
use Rattle.std.specs.Prelude.{Bool, true, false}
use Rattle.mrc_compiler.specs.declared.encoder.OperandSize.{OperandSize}
use Rattle.mrc_compiler.specs.Choose.{pick, by_size, by_jump}
use Rattle.x86.specs.declared.Instruction.{Instruction}
use Rattle.encode_groups.specs.declared.Group.{Group}
use Rattle.encode_groups.specs.declared.Group.TheVariants as G
use Rattle.encode_spec.specs.Operands.{if_imm, if_rm, of_none, of_one, of_first, of_two, of_address, of_shift, of_input, of_output, of_vector, of_popped, of_near, of_transfer}

-- questions 3 and 4
pub data Sizing : Type 0 where
  unasked : Sizing
  either_states : Sizing  -- either operand states the size, no two unequal ones, and both count with it
  first_states : Why → At → Sizing  -- the first operand states its size
  first_is_word : Sizing

-- question 6: what the immediate byte or word of a form is
pub data Immediate : Type 0 where
  number : Immediate
  vector : Immediate
  port : Immediate
  popped : Immediate  -- of RET: the bytes that it takes off the stack

-- question 5: the refusal of a record without a form
pub record Refusal : Type 0 where
  pub why : Why
  pub at : At

abbrev pub refusal : Why → At → Refusal
refusal w a = record { why = w; at = a }

-- what is said of one group alone
pub data Special : Type 0 where
  ordinary : Special
  unordered : Special  -- XCHG: its operands have no first and second
  unordered_memory : Special  -- TEST: a register and memory have none
  by_count : Special  -- RET: at count 0 the form without an operand, else the one with
  target_first : Special  -- JMP: its immediate's range is asked before its form
  not_supported : Special  -- question 2

pub record Rule : Type 0 where
  pub sizing : Sizing
  pub immediate : Immediate
  pub without_form : OperandData → OperandData → Refusal
  pub means : Operation → OperandData → OperandData → Instruction
  pub special : Special

-- ---- the refusals
abbrev pub is_word : OperandSize → Bool
is_word size = by_size size false false true

-- 1, at the instruction or at the first operand
abbrev pub at_operands : OperandData → OperandData → Refusal
at_operands a b = refusal W.InvalidOperands At.Operands

abbrev pub at_first : OperandData → OperandData → Refusal
at_first a b = refusal W.InvalidOperands At.First

-- POP of an immediate is 4
abbrev pub of_pop : OperandData → OperandData → Refusal
of_pop a b = pick (if_imm a true) (refusal W.InvalidOperandSize At.First) (at_operands a b)

-- JMP through a register or memory of kind Far or Short names the operand
abbrev pub of_jump : OperandData → OperandData → Refusal
of_jump a b = pick (if_rm a (by_jump a.jmp_kind false true false true)) (at_first a b) (at_operands a b)

-- ---- the rows
abbrev pub row_of : Special → Sizing → Immediate → (OperandData → OperandData → Refusal) → (Operation → OperandData → OperandData → Instruction) → Rule
row_of x s i r m = record { sizing = s; immediate = i; without_form = r; means = m; special = x }

abbrev pub row : Sizing → Immediate → (OperandData → OperandData → Refusal) → (Operation → OperandData → OperandData → Instruction) → Rule
row = row_of ordinary

-- the first operand states its size, or else 2 at the instruction, 2 at the operand, 4 at the operand
abbrev pub else_2 : Sizing
else_2 = first_states W.OperandSizeNotSpecified At.Operands

abbrev pub else_2_first : Sizing
else_2_first = first_states W.OperandSizeNotSpecified At.First

abbrev pub else_4_first : Sizing
else_4_first = first_states W.InvalidOperandSize At.First

-- how the size is asked, what the immediate is, the refusal without a form, the meaning
abbrev pub rule : Group → Rule
rule G.Arithmetic = row either_states number at_operands of_two
rule G.Unary = row else_2 number at_operands of_first
rule G.Mov = row either_states number at_operands of_two
rule G.Test = row_of unordered_memory either_states number at_operands of_two
rule G.Xchg = row_of unordered either_states number at_operands of_two
rule G.IncDec = row else_4_first number at_operands of_first
rule G.Push = row unasked number at_first (of_one S.Word)
rule G.Pop = row first_is_word number of_pop (of_one S.Word)
rule G.Ret = row_of by_count unasked popped at_operands of_popped
rule G.Lea = row unasked number at_operands of_address
rule G.LesLds = row unasked number at_operands of_address
rule G.Shift = row else_2_first number at_operands of_shift
rule G.Call = row unasked number at_operands of_transfer
rule G.Jmp = row_of target_first unasked number of_jump of_transfer
rule G.Jcc = row unasked number at_first of_near
rule G.Loopc = row unasked number at_operands of_near
rule G.NoOperands = row unasked number at_operands of_none
rule G.Prefixes = row unasked number at_operands of_none
rule G.Int = row unasked vector at_first of_vector
rule G.Aam = row unasked number at_operands of_none
rule G.Aad = row unasked number at_operands of_none
rule G.Xlat = row first_is_word number at_operands (of_one S.Byte)
rule G.In = row unasked port at_operands of_input
rule G.Out = row unasked port at_operands of_output
rule G.Unsupported = row_of not_supported unasked number at_operands of_none
