-- What list answers to a record at an offset, and what it leaves in the lent slice (REFERENCE 7).
-- Definitions only.
use Rattle.std.specs.Prelude.{ℕ, ◌*◌, List, [], ◌++◌, leb, length, drop, Result, Ok, Err}
use Rattle.mrc_compiler.specs.declared.encoder.EncodeError.{EncodeError}
use Rattle.mrc_compiler.specs.declared.encoder.EncodeError.TheVariants as E
use Rattle.mrc_compiler.specs.declared.encoder.InstructionData.{InstructionData}
use Rattle.mrc_compiler.specs.Choose.{pick}
use Rattle.x86.specs.Reading.{Read}
use Rattle.encode_spec.specs.Meaning.{meaning}
use Rattle.encode_spec.specs.Answer.{Answer, bytes, refused}
use Rattle.list_spec.specs.Entries.{entries, listing}

-- the listing of what was read
abbrev pub listing_of : Read → ℕ → List (List ℕ)
listing_of (Ok (m, n)) off = listing off m
listing_of (Err e) off = []

-- the listing of a record's instruction; Demand3 in listing says what it holds
abbrev pub listed : InstructionData → ℕ → List (List ℕ)
listed insn off = listing off (meaning insn)

-- the encoder's refusal by questions 1 to 7; then 9 where the slice is shorter than 96; then the count
abbrev pub outcome : Answer → InstructionData → ℕ → List ℕ → Result ℕ EncodeError
outcome (refused e) insn off s = Err e
outcome (bytes bs) insn off s = pick (leb 96 (length s)) (Ok (length (listed insn off))) (Err (E.SliceTooShort insn.opers_span))

-- the entries from the front, and every byte behind the last as it was lent. A refusal changes nothing
abbrev pub slice_after : Answer → InstructionData → ℕ → List ℕ → List ℕ
slice_after (refused e) insn off s = s
slice_after (bytes bs) insn off s = pick (leb 96 (length s)) (entries (listed insn off) ++ drop (8 * length (listed insn off)) s) s
