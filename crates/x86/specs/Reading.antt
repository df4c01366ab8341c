-- What the forms read at the front of some bytes (REFERENCE 6).
-- Definitions only.
use Rattle.std.specs.Prelude.{ℕ, Result, suc, ◌+◌, ◌*◌, ◌/◌, ◌%◌, Bool, true, false, List, [], ◌∷◌, eqb, ltb, leb, length, get_or, drop, Ok, Err}
use Rattle.mrc_compiler.specs.declared.ast.Segment.TheVariants as G
use Rattle.mrc_compiler.specs.declared.encoder.OperandSize.{OperandSize}
use Rattle.mrc_compiler.specs.Choose.{pick, both, either, isnt, by_size}
use Rattle.mrc_compiler.specs.Operations.{is_string}
use Rattle.x86.specs.declared.Operand.{Operand}
use Rattle.x86.specs.declared.Operand.TheVariants as O
use Rattle.x86.specs.declared.Instruction.{Instruction}
use Rattle.x86.specs.declared.ReadError.{ReadError}
use Rattle.x86.specs.declared.ReadError.TheVariants.{NotAnInstruction, NotComplete}
use Rattle.x86.specs.Instructions.{default_segment, in_effect, base, canonical, repeated}
use Rattle.x86.specs.Forms.{Slot, rm, rm_near, mem, mem_far, reg, sreg, sreg_not_cs, acc, low3, bits34, bits34_not_cs, cl, dx, one, moffs, xlat, ib, iw, ib_sx, cb, cw, ptr, nil, Extension, Form, forms}
use Rattle.x86.specs.Forms as F
-- what is known of a slot before the bytes behind the opcode are read
pub use Rattle.x86_forms.specs.declared.About.{About}
pub use Rattle.x86_forms.specs.Slots.{is, about}
-- how it names memory
pub use Rattle.x86_forms.specs.declared.Place.{Place}
pub use Rattle.x86_forms.specs.declared.Place.TheVariants.{Nowhere as nowhere, ByModRm as by_modrm, ByAddress as by_address, ByBxAl as by_bx_al}
-- which bytes it has
pub use Rattle.x86_forms.specs.declared.Restriction.{Restriction}
pub use Rattle.x86_forms.specs.declared.Restriction.TheVariants.{
  Any as any,
  MemoryOnly as memory_only,  -- mode 0 to 2
  To3 as to3,  -- the reg field is a segment register's number
  To3NotCs as to3_not_cs,
  OpcodeNotCs as opcode_not_cs,  -- bits 3 and 4 of the opcode
}

-- ---- the fields of a ModRM byte x
abbrev pub mode : ℕ → ℕ
mode x = x / 64

abbrev pub digit : ℕ → ℕ
digit x = x / 8 % 8

abbrev pub low : ℕ → ℕ
low x = x % 8

-- displacement bytes, by mode and r/m: none in mode 0, but two with r/m 6; one in mode 1; two in mode 2; a register has none
abbrev pub displacement_length : ℕ → ℕ → ℕ
displacement_length m l = pick (eqb m 0) (pick (eqb l 6) 2 0) (pick (eqb m 1) 1 (pick (eqb m 2) 2 0))

-- a form's width: what its first slot states, or else its second
abbrev pub width_of : Form → OperandSize
width_of f = let w = (about f.first).width in by_size w (about f.second).width w w

-- ---- which first bytes c and second bytes x a form has
abbrev pub opcode_fits : Extension → ℕ → ℕ → Bool
opcode_fits F.no o c = eqb c o
opcode_fits F.+r o c = eqb (c / 8) (o / 8)
opcode_fits F.+s o c = both (ltb c 0x20) (eqb (c % 8) o)
opcode_fits F./r o c = eqb c o
opcode_fits (F./ n) o c = eqb c o
opcode_fits F.0A o c = eqb c o

abbrev pub allows_opcode : Restriction → ℕ → Bool
allows_opcode any c = true
allows_opcode memory_only c = true
allows_opcode to3 c = true
allows_opcode to3_not_cs c = true
allows_opcode opcode_not_cs c = isnt (eqb (c / 8) 1)

abbrev pub has_opcode : ℕ → Form → Bool
has_opcode c f = both (opcode_fits f.extension f.opcode c) (allows_opcode (about f.first).restriction c)

abbrev pub second_fits : Extension → ℕ → Bool
second_fits F.no x = true
second_fits F.+r x = true
second_fits F.+s x = true
second_fits F./r x = true
second_fits (F./ n) x = eqb (digit x) n
second_fits F.0A x = eqb x 0x0A

abbrev pub allows_second : Restriction → ℕ → Bool
allows_second any x = true
allows_second memory_only x = ltb (mode x) 3
allows_second to3 x = ltb (digit x) 4
allows_second to3_not_cs x = both (ltb (digit x) 4) (isnt (eqb (digit x) 1))
allows_second opcode_not_cs x = true

abbrev pub fits : ℕ → Form → Bool
fits x f = both (second_fits f.extension x) (both (allows_second (about f.first).restriction x) (allows_second (about f.second).restriction x))

-- ---- the list searched
abbrev pub put : Bool → Form → List Form → List Form
put true f fs = f ∷ fs
put false f fs = fs

-- the forms of a list that pass a test
abbrev pub keep : (Form → Bool) → List Form → List Form
keep q [] = []
keep q (f ∷ fs) = put (q f) f (keep q fs)

abbrev pub some : (Form → Bool) → List Form → Bool
some q [] = false
some q (f ∷ fs) = either (q f) (some q fs)

-- the forms with first byte c
unfoldable pub starting_with : ℕ → List Form
starting_with c = keep (has_opcode c) forms

-- those of them that have the second byte x
abbrev pub fitting : ℕ → List Form → List Form
fitting x fs = keep (fits x) fs

-- ---- lengths
abbrev pub address_length : Place → ℕ → ℕ
address_length nowhere x = 0
address_length by_modrm x = displacement_length (mode x) (low x)
address_length by_address x = 2
address_length by_bx_al x = 0

abbrev pub has_second : Extension → Bool
has_second F.no = false
has_second F.+r = false
has_second F.+s = false
has_second F./r = true
has_second (F./ n) = true
has_second F.0A = true

-- prefix (p = 0: none), opcode and second byte
abbrev pub head_length : ℕ → Form → ℕ
head_length p f = pick (eqb p 0) 0 1 + pick (has_second f.extension) 2 1

-- the displacement or address
abbrev pub memory_length : Form → ℕ → ℕ
memory_length f x = address_length (about f.first).place x + address_length (about f.second).place x

-- what follows the head: displacement or address, then the immediate
abbrev pub tail_length : Form → ℕ → ℕ
tail_length f x = memory_length f x + ((about f.first).takes + (about f.second).takes)

-- ---- memory
abbrev pub in_memory : Place → ℕ → Bool
in_memory nowhere x = false
in_memory by_modrm x = ltb (mode x) 3
in_memory by_address x = true
in_memory by_bx_al x = true

abbrev pub somewhere : Place → Bool
somewhere nowhere = false
somewhere by_modrm = true
somewhere by_address = true
somewhere by_bx_al = true

abbrev pub names_memory : Form → ℕ → Bool
names_memory f x = either (in_memory (about f.first).place x) (in_memory (about f.second).place x)

abbrev pub may_name_memory : Form → Bool
may_name_memory f = either (somewhere (about f.first).place) (somewhere (about f.second).place)

-- ---- the operand in a slot: prefix p (0: none), first byte c, second byte x, the offset past the instruction,
-- the bytes t behind opcode and second byte, the bytes u behind the displacement
abbrev pub word_at : ℕ → List ℕ → ℕ
word_at i t = get_or t i 0 + 256 * get_or t (suc i) 0

-- a byte sign-extended to 16 bits
abbrev pub sign_extended : ℕ → ℕ
sign_extended b = pick (ltb b 128) b (b + 65280)

-- a displacement of n bytes
abbrev pub displacement_at : ℕ → List ℕ → ℕ
displacement_at n t = pick (eqb n 0) 0 (pick (eqb n 1) (sign_extended (get_or t 0 0)) (word_at 0 t))

abbrev pub memory_at : ℕ → ℕ → List ℕ → Operand
memory_at p x t =
    O.Memory (base (mode x) (low x)) (displacement_at (displacement_length (mode x) (low x)) t) (in_effect p (default_segment (mode x) (low x)))

-- mode 3 is a register
abbrev pub rm_at : ℕ → ℕ → List ℕ → Operand
rm_at p x t = pick (ltb (mode x) 3) (memory_at p x t) (O.Register (low x))

abbrev pub at : Slot → ℕ → ℕ → ℕ → ℕ → List ℕ → List ℕ → Operand
at (rm w) p c x next t u = rm_at p x t
at rm_near p c x next t u = rm_at p x t
at mem p c x next t u = rm_at p x t
at mem_far p c x next t u = rm_at p x t
at (reg w) p c x next t u = O.Register (digit x)
at sreg p c x next t u = O.SegmentRegister (digit x)
at sreg_not_cs p c x next t u = O.SegmentRegister (digit x)
at (acc w) p c x next t u = O.Register 0
at (low3 w) p c x next t u = O.Register (c % 8)
at bits34 p c x next t u = O.SegmentRegister (c / 8)
at bits34_not_cs p c x next t u = O.SegmentRegister (c / 8)
at cl p c x next t u = O.Register 1
at dx p c x next t u = O.Register 2
at one p c x next t u = O.One
at (moffs w) p c x next t u = O.Memory 8 (word_at 0 t) (in_effect p G.DS)
at xlat p c x next t u = O.Memory 7 0 (in_effect p G.DS)
at ib p c x next t u = O.Immediate (get_or u 0 0)
at iw p c x next t u = O.Immediate (word_at 0 u)
at ib_sx p c x next t u = O.Immediate (sign_extended (get_or u 0 0))
at cb p c x next t u = O.Near ((next + sign_extended (get_or u 0 0)) % 65536)
at cw p c x next t u = O.Near ((next + word_at 0 u) % 65536)
at ptr p c x next t u = O.Far (word_at 0 u) (word_at 2 u)
at nil p c x next t u = O.None

-- ---- the reading
-- what stands at the front of some bytes: an instruction with its length, or why it is none
abbrev pub Read : Type 0
Read = Result (Instruction × ℕ) ReadError

-- document 01's numbers of the refusals
abbrev pub refusal_number : ReadError → ℕ
refusal_number NotAnInstruction = 10
refusal_number NotComplete = 11

abbrev pub instruction_of : ℕ → ℕ → Form → ℕ → ℕ → List ℕ → Instruction
instruction_of off p f c x t =
    let next = off + (head_length p f + tail_length f x) in
    let u = drop (memory_length f x) t in
    canonical f.operation (width_of f) (at f.first p c x next t u) (at f.second p c x next t u)

-- by one form: a prefix stands only before memory
unfoldable pub read_form : ℕ → ℕ → ℕ → ℕ → List ℕ → Form → Read
read_form off p c x t f =
    pick (either (eqb p 0) (names_memory f x))
    (pick (leb (tail_length f x) (length t)) (Ok (instruction_of off p f c x t, head_length p f + tail_length f x)) (Err NotComplete))
    (Err NotAnInstruction)

-- by the form that fits. There is one at most (Unambiguous), but for 90, whose two forms are the same instruction
abbrev pub read_first : ℕ → ℕ → ℕ → ℕ → List ℕ → List Form → Read
read_first off p c x t [] = Err NotAnInstruction
read_first off p c x t (f ∷ fs) = read_form off p c x t f

abbrev pub read_second : ℕ → ℕ → ℕ → List Form → List ℕ → Read
read_second off p c fs [] = Err NotComplete
read_second off p c fs (x ∷ t) = read_first off p c x t (fitting x fs)

-- behind the first byte c, whose forms are fs
abbrev pub read_behind : ℕ → ℕ → ℕ → List Form → List ℕ → Read
read_behind off p c fs t =
    pick (some (λ f. either (eqb p 0) (may_name_memory f)) fs)
    (pick (some (λ f. has_second f.extension) fs) (read_second off p c fs t) (read_first off p c 0 t fs))
    (Err NotAnInstruction)

abbrev pub read_opcode : ℕ → ℕ → List ℕ → Read
read_opcode off p [] = Err NotComplete
read_opcode off p (c ∷ t) = read_behind off p c (starting_with c) t

-- 26, 2E, 36, 3E
unfoldable pub prefix : ℕ → Bool
prefix b = either (eqb b 0x26) (either (eqb b 0x2E) (either (eqb b 0x36) (eqb b 0x3E)))

-- at most one segment prefix, and what follows it read as the rest of the same bytes
unfoldable pub read_plain : ℕ → List ℕ → Read
read_plain off [] = Err NotComplete
read_plain off (b ∷ s) = pick (prefix b) (read_opcode off b s) (read_opcode off 0 (b ∷ s))

-- ---- REPNE and REP: F2 or F3 before a string operation belongs to it, and else is an instruction of its own
unfoldable pub is_repeat : ℕ → Bool
is_repeat b = either (eqb b 0xF2) (eqb b 0xF3)

abbrev pub begins_string : List ℕ → Bool
begins_string [] = false
begins_string (c ∷ t) = some (λ f. is_string f.operation) (starting_with c)

unfoldable pub repeats : List ℕ → Bool
repeats [] = false
repeats (b ∷ s) = both (is_repeat b) (begins_string s)

-- what is read behind the repeat b. A string operation has no target, so its offset does not count
abbrev pub behind_repeat : ℕ → Read → Read
behind_repeat b (Ok (m, n)) = Ok (repeated b m, suc n)
behind_repeat b (Err e) = Err e

unfoldable pub reads : ℕ → List ℕ → Read
reads off [] = Err NotComplete
reads off (b ∷ s) = pick (repeats (b ∷ s)) (behind_repeat b (read_plain off s)) (read_plain off (b ∷ s))
