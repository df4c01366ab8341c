-- The bytes of a form with its operands (SDM volume 2, section 2.1): prefix, opcode, ModRM, displacement, immediate.
-- Definitions only.
use Rattle.std.specs.Prelude.{ℕ, ◌+◌, ◌*◌, ◌/◌, ◌%◌, List, [], ◌∷◌, ◌++◌, eqb, ℤ}
use Rattle.mrc_compiler.specs.declared.encoder.OperandData.{OperandData}
use Rattle.mrc_compiler.specs.Choose.{pick, by_size}
use Rattle.mrc_compiler.specs.Values.{mod_z}
use Rattle.base_values.specs.Distances.{distance_of}
use Rattle.x86.specs.Forms.{Slot, rm, rm_near, mem, mem_far, reg, sreg, sreg_not_cs, acc, low3, bits34, bits34_not_cs, cl, dx, one, moffs, xlat, ib, iw, ib_sx, cb, cw, ptr, nil, Extension, Form}
use Rattle.x86.specs.Forms as F

-- a word, low byte first
abbrev pub word_bytes : ℕ → List ℕ
word_bytes n = n % 256 ∷ n / 256 ∷ []

abbrev pub byte_of : ℤ → List ℕ
byte_of z = mod_z 256 z ∷ []

abbrev pub word_of : ℤ → List ℕ
word_of z = word_bytes (mod_z 65536 z)

-- 0 means no prefix
abbrev pub prefix_bytes : ℕ → List ℕ
prefix_bytes p = pick (eqb p 0) [] (p ∷ [])

abbrev pub displacement_bytes : OperandData → List ℕ
displacement_bytes o = by_size o.displacement_size [] (byte_of o.displacement) (word_of o.displacement)

-- what an operand gives to the bytes: its prefix, what it adds to the opcode and to ModRM, its displacement or address, its immediate
pub record Part : Type 0 where
  pub prefix : List ℕ
  pub opcode : ℕ
  pub modrm : ℕ
  pub memory : List ℕ
  pub immediate : List ℕ

abbrev pub nothing : Part
nothing = record { prefix = []; opcode = 0; modrm = 0; memory = []; immediate = [] }

abbrev pub in_rm : OperandData → Part
in_rm o = record { prefix = prefix_bytes o.segment_prefix; opcode = 0; modrm = o.mode * 64 + o.rm; memory = displacement_bytes o; immediate = [] }

abbrev pub in_reg : ℕ → Part
in_reg n = record { prefix = []; opcode = 0; modrm = n * 8; memory = []; immediate = [] }

abbrev pub in_opcode : ℕ → Part
in_opcode n = record { prefix = []; opcode = n; modrm = 0; memory = []; immediate = [] }

abbrev pub behind_opcode : ℕ → List ℕ → Part
behind_opcode p bs = record { prefix = prefix_bytes p; opcode = 0; modrm = 0; memory = bs; immediate = [] }

abbrev pub as_immediate : List ℕ → Part
as_immediate bs = record { prefix = []; opcode = 0; modrm = 0; memory = []; immediate = bs }

-- the part of an operand in a slot, at an offset. A branch holds the distance from its end, two or three bytes on
abbrev pub part : Slot → ℕ → OperandData → Part
part (rm w) off o = in_rm o
part rm_near off o = in_rm o
part mem off o = in_rm o
part mem_far off o = in_rm o
part (reg w) off o = in_reg o.rm
part sreg off o = in_reg o.rm
part sreg_not_cs off o = in_reg o.rm
part (acc w) off o = nothing
part (low3 w) off o = in_opcode o.rm
part bits34 off o = in_opcode (8 * o.rm)
part bits34_not_cs off o = in_opcode (8 * o.rm)
part cl off o = nothing
part dx off o = nothing
part one off o = nothing
part (moffs w) off o = behind_opcode o.segment_prefix (word_of o.displacement)
part xlat off o = behind_opcode o.segment_prefix []
part ib off o = as_immediate (byte_of o.imm)
part iw off o = as_immediate (word_of o.imm)
part ib_sx off o = as_immediate (byte_of o.imm)
part cb off o = as_immediate (byte_of (distance_of o.imm off 2))
part cw off o = as_immediate (word_of (distance_of o.imm off 3))
part ptr off o = as_immediate (word_of o.imm ++ word_of o.displacement)
part nil off o = nothing

-- the second byte, where the form has one: m is what the operands add to ModRM
abbrev pub second : Extension → ℕ → List ℕ
second F.no m = []
second F.+r m = []
second F.+s m = []
second F./r m = m ∷ []
second (F./ n) m = (m + n * 8) ∷ []
second F.0A m = 0x0A ∷ []

-- the form f at an offset, with a in its first slot and b in its second
unfoldable pub layout : Form → ℕ → OperandData → OperandData → List ℕ
layout f off a b =
    let p = part f.first off a in
    let q = part f.second off b in
    p.prefix ++ (q.prefix ++ ((f.opcode + p.opcode + q.opcode) ∷ (second f.extension (p.modrm + q.modrm)
    ++ (p.memory ++ (q.memory ++ (p.immediate ++ q.immediate))))))
