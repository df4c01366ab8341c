-- The twelve strings among which all strings of an instruction are: six starts, without and with the prefix of its segment. The values in
-- them are the instruction's.
-- Definitions only.
use Rattle.std.specs.Prelude.{ℕ, ◌+◌, ◌-◌, ◌/◌, ◌%◌, List, [], ◌∷◌, ◌++◌, eqb, ltb, Option, Some, None}
use Rattle.mrc_compiler.specs.Choose.{pick}
use Rattle.x86.specs.declared.Instruction.{Instruction}
use Rattle.x86.specs.Reading.{mode, low, displacement_length}
use Rattle.encode_spec.specs.Layout.{word_bytes, prefix_bytes}
use Rattle.list_spec.specs.declared.Second.{Second}
use Rattle.list_spec.specs.declared.Second.TheVariants as X
use Rattle.list_spec.specs.declared.Tail.{Tail}
use Rattle.list_spec.specs.declared.Tail.TheVariants as L
use Rattle.list_spec.specs.declared.Start.{Start}
use Rattle.list_spec.specs.declared.Parts.{Parts}
use Rattle.list_spec.specs.Parts.{parts_of}
use Rattle.list_spec.specs.Starts.{start_of}

abbrev pub byte_of : ℕ → List ℕ
byte_of v = v % 256 ∷ []

-- a displacement of n bytes
abbrev pub displacement_bytes : ℕ → ℕ → List ℕ
displacement_bytes n d = pick (eqb n 0) [] (pick (eqb n 1) (byte_of d) (word_bytes d))

-- the second byte, with a displacement of value d where it is ModRM
abbrev pub second_bytes : Option Second → ℕ → List ℕ
second_bytes None d = []
second_bytes (Some (X.ModRm x)) d = x % 256 ∷ displacement_bytes (displacement_length (mode x) (low x)) d
second_bytes (Some (X.Fixed x)) d = byte_of x

-- the distance to the target t from the end of n bytes at an offset
abbrev pub distance : ℕ → ℕ → ℕ → ℕ
distance t off n = (t + 131072 - (off + n)) % 65536

-- the tail at an offset: address d, value or target v, far segment s, each below 65,536
abbrev pub tail_bytes : Option Tail → ℕ → ℕ → ℕ → ℕ → List ℕ
tail_bytes None off d v s = []
tail_bytes (Some L.Byte) off d v s = byte_of v
tail_bytes (Some L.Word) off d v s = word_bytes v
tail_bytes (Some L.Near8) off d v s = byte_of (distance v off 2)
tail_bytes (Some L.Near16) off d v s = word_bytes (distance v off 3)
tail_bytes (Some L.Far) off d v s = word_bytes v ++ word_bytes s
tail_bytes (Some L.Address) off d v s = word_bytes d

-- the string at an offset with a prefix, a start and the values of the parts q
unfoldable pub string_of : ℕ → ℕ → Start → Parts → List ℕ
string_of off p s q =
    prefix_bytes p
    ++ (s.opcode % 256
    ∷ (second_bytes s.second q.displacement ++ tail_bytes s.tail off q.displacement q.value q.segment))

-- with a repeat: it and the opcode
abbrev pub repeated_string : ℕ → ℕ → List ℕ
repeated_string repeat opcode = byte_of repeat ++ byte_of opcode

-- candidate i, below 12
unfoldable pub candidate_of : ℕ → Parts → ℕ → List ℕ
candidate_of off q i =
    let s = start_of q (i / 3 % 2) (i % 3) in
    pick (eqb q.repeat 0) (string_of off (pick (ltb i 6) 0 q.prefix) s q) (repeated_string q.repeat s.opcode)

abbrev pub candidate : ℕ → Instruction → ℕ → List ℕ
candidate off m i = candidate_of off (parts_of m) i
