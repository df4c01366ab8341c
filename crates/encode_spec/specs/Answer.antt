-- What encode answers to a record at an offset, and what it leaves in the lent slice.
-- Definitions only.
use Rattle.std.specs.Prelude.{ℕ, List, [], ◌∷◌, ◌++◌, leb, length, drop, Err, Ok, Result}
use Rattle.mrc_compiler.specs.declared.ast.Span.{Span}
use Rattle.mrc_compiler.specs.declared.encoder.EncodeError.{EncodeError}
use Rattle.mrc_compiler.specs.declared.encoder.EncodeError.TheVariants as E
use Rattle.mrc_compiler.specs.declared.encoder.InstructionData.{InstructionData}
use Rattle.mrc_compiler.specs.declared.encoder.OperandData.{OperandData}
use Rattle.mrc_compiler.specs.Choose.{pick}
use Rattle.encode_spec.specs.Records.{dst, src}
use Rattle.encode_spec.specs.Choice.{Choice, none, straight, crossed}
use Rattle.encode_spec.specs.Layout.{prefix_bytes, layout}
use Rattle.encode_spec.specs.Limits.{Asked}
use Rattle.encode_spec.specs.Questions.{questions, chosen}

-- the first question whose answer is no
pub data First : Type 0 where
  all_yes : First
  no : Asked → First

abbrev pub first_no : List Asked → First
first_no [] = all_yes
first_no (q ∷ qs) = pick q.yes (first_no qs) (no q)

-- the bytes of the form chosen
abbrev pub written : Choice → ℕ → OperandData → OperandData → List ℕ
written none off a b = []
written (straight f) off a b = layout f off a b
written (crossed f) off a b = layout f off b a

-- the record's: its repeat, and the form's. A string operation has no target, so its offset does not count
abbrev pub record_bytes : InstructionData → ℕ → List ℕ
record_bytes insn off = prefix_bytes insn.repeat ++ written (chosen insn) off (dst insn) (src insn)

pub data Answer : Type 0 where
  bytes : List ℕ → Answer
  refused : EncodeError → Answer

abbrev pub answered : First → List ℕ → Answer
answered all_yes bs = bytes bs
answered (no q) bs = refused q.refusal

-- questions 1 to 7, and the bytes where all get yes
unfoldable pub answer : InstructionData → ℕ → Answer
answer insn off = answered (first_no (questions insn off)) (record_bytes insn off)

-- question 8: what is returned, and the slice afterwards
abbrev pub outcome : Answer → Span → List ℕ → Result ℕ EncodeError
outcome (refused e) span s = Err e
outcome (bytes bs) span s = pick (leb (length bs) (length s)) (Ok (length bs)) (Err (E.SliceTooShort span))

abbrev pub slice_after : Answer → List ℕ → List ℕ
slice_after (refused e) s = s
slice_after (bytes bs) s = pick (leb (length bs) (length s)) (bs ++ drop (length bs) s) s
