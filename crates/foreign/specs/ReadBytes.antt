-- What fsq_read answers, and the 24 bytes that an instruction crosses as: six u32 (fast_reader, specs/Words), little-endian. The first holds length, operation (002's
-- number), width (0 none, 1 Byte, 2 Word) and the form's opcode, a byte each; the second the form's extension and the repeat; then two for each operand: kind,
-- number and segment, a byte each, and displacement, immediate or target with a far target's segment, a word each.
-- Definitions only.
use Rattle.std.specs.Prelude.{ℕ, ◌+◌, ◌*◌, List, ◌++◌, length, drop, nat_le, Ok, Err}
use Rattle.mrc_compiler.specs.Choose.{pick}
use Rattle.x86.specs.declared.Instruction.{Instruction}
use Rattle.x86_forms.specs.declared.FormName.{FormName}
pub use Rattle.fast_reader.specs.Words.{segment_number, segment_in, extension_number, head_of}
unfoldable pub use Rattle.fast_reader.specs.Words.{operand_head, operand_values}
use Rattle.x86.specs.Reading.{refusal_number}
use Rattle.reader.specs.Answer.{Decoded}
use Rattle.foreign_report.specs.Crossing.{three_bytes}

abbrev pub read_length : ℕ
read_length = 24

abbrev pub read_bytes : Instruction → FormName → ℕ → List ℕ
read_bytes m f n =
    three_bytes (head_of m f n) (extension_number f.extension + 256 * m.repeat) (operand_head m.first)
    ++ three_bytes (operand_values m.first) (operand_head m.second) (operand_values m.second)

-- 0, 10 or 11
abbrev pub read_number : Decoded → ℕ
read_number (Ok r) = 0
read_number (Err e) = refusal_number e

-- the lent slice afterwards: its later bytes stay, and a shorter one stays whole; so does any where nothing is read
abbrev pub read_after : Decoded → List ℕ → List ℕ
read_after (Ok r) s = pick (nat_le read_length (length s)) (read_bytes r.instruction r.form r.length ++ drop read_length s) s
read_after (Err e) s = s
