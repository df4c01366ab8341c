-- What six words say of some bytes: they read as an instruction, and these are its words.
-- The words: six u32. The first holds length, operation (002's number), width (0 none, 1 Byte, 2 Word) and the form's opcode, a byte each; the second the form's
-- extension and the repeat; then two for each operand: kind, number and segment, a byte each, and displacement, immediate or target with a far target's segment, a word each.
-- Definitions only.
use Rattle.std.specs.Prelude.{ℕ, ◌+◌, ◌*◌, ◌/◌, ◌%◌, true, eqb, ltb, ◌≡◌, List, [], Ok}
use Rattle.mrc_compiler.specs.declared.ast.Segment.{Segment}
use Rattle.mrc_compiler.specs.declared.ast.Segment.TheVariants as G
use Rattle.mrc_compiler.specs.Operations.{number_of}
use Rattle.x86.specs.declared.Instruction.{Instruction}
use Rattle.x86.specs.declared.Operand.{Operand}
use Rattle.x86.specs.declared.Operand.TheVariants as O
use Rattle.x86_forms.specs.declared.Extension.{Extension}
use Rattle.x86_forms.specs.declared.Extension.TheVariants as X
use Rattle.x86_forms.specs.declared.FormName.{FormName}
use Rattle.x86.specs.Operands.{type_of, displacement_in, value_in, far_segment_in, size_number}
use Rattle.mrc_compiler.specs.Choose.{either}
use Rattle.x86.specs.Reading.{mode, low, displacement_length, rm_at}
use Rattle.reader.specs.Answer.{reading, decoded}
use Rattle.fast_reader.specs.declared.Words.{Words}

-- ES, CS, SS, DS
abbrev pub segment_number : Segment → ℕ
segment_number G.ES = 0
segment_number G.CS = 1
segment_number G.SS = 2
segment_number G.DS = 3

-- the segment in effect of memory, else 0
abbrev pub segment_in : Operand → ℕ
segment_in O.None = 0
segment_in (O.Register n) = 0
segment_in (O.SegmentRegister n) = 0
segment_in (O.Memory b d s) = segment_number s
segment_in (O.Immediate v) = 0
segment_in (O.Near t) = 0
segment_in (O.Far t s) = 0
segment_in O.One = 0

-- none, +r, +s, /r, 0A; 8 + n for /n
abbrev pub extension_number : Extension → ℕ
extension_number X.None = 0
extension_number X.PlusRegister = 1
extension_number X.PlusSegment = 2
extension_number X.ModRm = 3
extension_number X.Second0A = 4
extension_number (X.Digit n) = (8 + n) % 256

abbrev pub head_of : Instruction → FormName → ℕ → ℕ
head_of m f n = n % 256 + 256 * (number_of m.operation + 256 * (size_number m.width + 256 * f.opcode))

unfoldable pub operand_head : Operand → ℕ
operand_head o = (type_of o).kind + 256 * ((type_of o).number + 256 * segment_in o)

-- one of displacement and value is 0
unfoldable pub operand_values : Operand → ℕ
operand_values o = (displacement_in o + value_in o) % 65536 + 65536 * far_segment_in o

-- what a place says of the r/m operand of second byte x behind prefix p (0: none): its head, and the bytes of its displacement
pub record Placed (p x r : ℕ) : Type 0 where
  pub head : r % 0x1000000 ≡ operand_head (rm_at p x [])
  pub displacement : r / 0x1000000 ≡ displacement_length (mode x) (low x)
  pub stands : either (eqb p 0) (ltb (mode x) 3) ≡ true

-- the words of a string operation with plan q behind its repeat
abbrev pub repeated_words : ℕ → ℕ → Words
repeated_words q b = record { head = 2 + 256 * (q % 0x1000000); extension = 256 * b; a = 0; b = 0; c = 0; d = 0 }

pub record Reads (off : ℕ) (s : List ℕ) (w : Words) : Type 0 where
  pub insn : Instruction
  pub form : FormName
  pub n : ℕ
  pub is : decoded off s ≡ Ok (reading insn form n)
  pub head : w.head ≡ head_of insn form n
  pub extension : w.extension ≡ extension_number form.extension + 256 * insn.repeat
  pub a : w.a ≡ operand_head insn.first
  pub b : w.b ≡ operand_values insn.first
  pub c : w.c ≡ operand_head insn.second
  pub d : w.d ≡ operand_values insn.second
