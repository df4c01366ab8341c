-- The encoder's questions in their order, each with its refusal (REFERENCE 5).
-- Definitions only.
use Rattle.std.specs.Prelude.{ℕ, Bool, true, false, List, [], ◌∷◌, ◌++◌, leb}
use Rattle.mrc_compiler.specs.declared.ast.Span.{Span}
use Rattle.mrc_compiler.specs.declared.encoder.EncodeError.{EncodeError}
use Rattle.mrc_compiler.specs.declared.encoder.EncodeError.TheVariants as E
use Rattle.mrc_compiler.specs.declared.encoder.InstructionData.{InstructionData}
use Rattle.mrc_compiler.specs.declared.encoder.OperandData.{OperandData}
use Rattle.mrc_compiler.specs.declared.encoder.OperandSize.{OperandSize}
use Rattle.mrc_compiler.specs.declared.encoder.generate.Why.{Why}
use Rattle.mrc_compiler.specs.declared.encoder.generate.Why.TheVariants as W
use Rattle.mrc_compiler.specs.declared.encoder.generate.At.{At}
use Rattle.mrc_compiler.specs.declared.encoder.generate.At.TheVariants as At
use Rattle.mrc_compiler.specs.Builders.{is_specified}
use Rattle.mrc_compiler.specs.Choose.{either, by_size, by_kind}
use Rattle.mrc_compiler.specs.Values.{within}
use Rattle.encode_spec.specs.Records.{dst, src}
use Rattle.encode_spec.specs.WellFormed.{well_formed, repeat_formed}
use Rattle.encode_groups.specs.declared.Group.{Group}
use Rattle.encode_groups.specs.Grouping.{group_of}
use Rattle.encode_spec.specs.Rules.{Sizing, unasked, either_states, first_states, first_is_word, Special, ordinary, unordered, unordered_memory, by_count, target_first, not_supported, is_word, rule}
use Rattle.encode_spec.specs.Choice.{Choice, none, straight, crossed, choice, forms_of}
use Rattle.encode_spec.specs.Limits.{Asked, asked, of_form, limits, target}

-- ---- the questions that a group answers before a byte is known: 3, 4, 5, and 6 of JMP. Their refusals have no values, but a span
pub record Ask : Type 0 where
  pub number : ℕ
  pub yes : Bool
  pub why : Why
  pub at : At

abbrev pub ask : ℕ → Bool → Why → At → Ask
ask n t w a = record { number = n; yes = t; why = w; at = a }

abbrev pub span_at : At → InstructionData → Span
span_at At.Operands insn = insn.opers_span
span_at At.First insn = (dst insn).span

abbrev pub error_of : Why → At → InstructionData → EncodeError
error_of W.InvalidOperands at insn = E.InvalidOperands (span_at at insn)
error_of W.OperandSizeNotSpecified at insn = E.OperandSizeNotSpecified (span_at at insn)
error_of W.OperandSizesDoNotMatch at insn = E.OperandSizesDoNotMatch (span_at at insn)
error_of W.InvalidOperandSize at insn = E.InvalidOperandSize (span_at at insn)
error_of W.TargetOutOfRange at insn = E.ImmediateOutOfRange (span_at at insn) (dst insn).imm (limits target).low (limits target).high
error_of W.NotSupported at insn = E.NotSupported (span_at at insn)

-- 3: is the size stated?
abbrev pub stated_by : Sizing → OperandData → OperandData → Ask
stated_by unasked a b = ask 3 true W.OperandSizeNotSpecified At.Operands
stated_by either_states a b = ask 3 (either (is_specified a.size) (is_specified b.size)) W.OperandSizeNotSpecified At.Operands
stated_by (first_states why at) a b = ask 3 (is_specified a.size) why at
stated_by first_is_word a b = ask 3 (is_word a.size) W.InvalidOperandSize At.First

-- 4: are no two stated sizes unequal?
abbrev pub agree : OperandSize → OperandSize → Bool
agree a b = by_size a true (by_size b true true false) (by_size b true false true)

abbrev pub agree_by : Sizing → OperandData → OperandData → Bool
agree_by unasked a b = true
agree_by either_states a b = agree a.size b.size
agree_by (first_states why at) a b = true
agree_by first_is_word a b = true

-- 6 of JMP, which is asked before 5: is an immediate target a word?
abbrev pub target_by : Special → OperandData → Bool
target_by ordinary a = true
target_by unordered a = true
target_by unordered_memory a = true
target_by by_count a = true
target_by target_first a = by_kind a.kind (within (limits target).low (limits target).high a.imm) true true true
target_by not_supported a = true

abbrev pub size_stated : Group → OperandData → OperandData → Ask
size_stated g a b = stated_by (rule g).sizing a b

abbrev pub sizes_agree : Group → OperandData → OperandData → Ask
sizes_agree g a b = ask 4 (agree_by (rule g).sizing a b) W.OperandSizesDoNotMatch At.Operands

abbrev pub target_asked : Group → OperandData → Ask
target_asked g a = ask 6 (target_by (rule g).special a) W.TargetOutOfRange At.First

abbrev pub is_form : Choice → Bool
is_form none = false
is_form (straight f) = true
is_form (crossed f) = true

-- 5: is there a form?
abbrev pub form_found : Group → Choice → OperandData → OperandData → Ask
form_found g c a b = let r = (rule g).without_form a b in ask 5 (is_form c) r.why r.at

-- the questions of a group, for operands a and b and the form chosen
abbrev pub group_asks : Group → Choice → OperandData → OperandData → List Ask
group_asks g c a b = size_stated g a b ∷ sizes_agree g a b ∷ target_asked g a ∷ form_found g c a b ∷ []

-- ---- all questions
abbrev pub with_span : InstructionData → List Ask → List Asked
with_span insn [] = []
with_span insn (q ∷ qs) = asked q.number q.yes (error_of q.why q.at insn) ∷ with_span insn qs

-- 1: count, first operand, second operand, repeat
abbrev pub well_formed_asked : InstructionData → List Asked
well_formed_asked insn =
    asked 1 (leb insn.num_opers 2) (E.NotWellFormed insn.opers_span)
    ∷ asked 1 (well_formed (dst insn)) (E.NotWellFormed (dst insn).span)
    ∷ asked 1 (well_formed (src insn)) (E.NotWellFormed (src insn).span)
    ∷ asked 1 (repeat_formed insn.repeat insn.operation) (E.InvalidRepeat insn.opers_span)
    ∷ []

-- 2: any operation but INT1, ESC
abbrev pub supported_by : Special → Bool
supported_by ordinary = true
supported_by unordered = true
supported_by unordered_memory = true
supported_by by_count = true
supported_by target_first = true
supported_by not_supported = false

abbrev pub is_supported : Group → Bool
is_supported g = supported_by (rule g).special

-- 6 and 7, of the form chosen
abbrev pub form_asked : Group → Choice → ℕ → OperandData → OperandData → List Asked
form_asked g none off a b = []
form_asked g (straight f) off a b = of_form g f off a b
form_asked g (crossed f) off a b = of_form g f off b a

abbrev pub chosen : InstructionData → Choice
chosen insn =
    let op = insn.operation in
    choice (group_of op) (forms_of op) insn.num_opers (dst insn) (src insn)

unfoldable pub questions : InstructionData → ℕ → List Asked
questions insn off =
    let g = group_of insn.operation in
    well_formed_asked insn
    ++ (asked 2 (is_supported g) (E.NotSupported insn.opers_span)
    ∷ (with_span insn (group_asks g (chosen insn) (dst insn) (src insn))
    ++ form_asked g (chosen insn) off (dst insn) (src insn)))
