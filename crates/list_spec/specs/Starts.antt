-- The opcodes and second bytes with which a string of an instruction may start, group by group of document 01's code list: two encodings (the
-- primary and the alternate one) and, where an operand is memory, three modes each. A start that does not fit does no harm, since the lister keeps only what reads as the
-- instruction; that none is forgotten is proofs/Covered.
-- Definitions only.
use Rattle.std.specs.Prelude.{ℕ, ◌+◌, ◌*◌, ◌/◌, ◌%◌, eqb, Option, Some, None}
use Rattle.mrc_compiler.specs.declared.encoder.OperandSize.{OperandSize}
use Rattle.mrc_compiler.specs.Choose.{pick, both, by_size}
use Rattle.encode_groups.specs.declared.Group.{Group}
use Rattle.encode_groups.specs.declared.Group.TheVariants as Gr
use Rattle.x86.specs.declared.operands.OperandType.{OperandType}
use Rattle.list_spec.specs.declared.Second.{Second}
use Rattle.list_spec.specs.declared.Second.TheVariants as X
use Rattle.list_spec.specs.declared.Tail.{Tail}
use Rattle.list_spec.specs.declared.Tail.TheVariants as L
use Rattle.list_spec.specs.declared.Start.{Start}
use Rattle.list_spec.specs.declared.Parts.{Parts}
use Rattle.x86.specs.Operands.{a_register, a_segment, in_memory, an_immediate, a_near, a_far}

-- the first of the two encodings; any other number is the alternate
abbrev pub primary : ℕ
primary = 0

abbrev pub start : ℕ → Option Second → Option Tail → Start
start c x t = record { opcode = c; second = x; tail = t }

-- no second byte
abbrev pub bare : ℕ → Option Tail → Start
bare c t = start c None t

-- the opcode of a width
abbrev pub sized : OperandSize → ℕ → ℕ → ℕ
sized w b c = by_size w b b c

-- the immediate of a width
abbrev pub immediate : OperandSize → Option Tail
immediate w = by_size w (Some L.Byte) (Some L.Byte) (Some L.Word)

-- n added to an opcode byte
abbrev pub plus : ℕ → ℕ → ℕ
plus c n = (c + n) % 256

-- ModRM with n in reg and the operand o in r/m: a register, or memory in mode 0, 1 or 2; 8 is an address without base
abbrev pub modrm : ℕ → OperandType → ℕ → ℕ
modrm n o mode =
    n % 8 * 8
    + pick (eqb o.kind in_memory) (pick (eqb o.number 8) 6 (mode % 3 * 64 + o.number % 8)) (192 + o.number % 8)

-- an opcode with that ModRM
abbrev pub with_rm : ℕ → ℕ → OperandType → ℕ → Option Tail → Start
with_rm c n o mode t = start c (Some (X.ModRm (modrm n o mode))) t

-- ADD OR ADC SBB AND SUB XOR CMP, base n, with an immediate: 80, 81 (or, for a register, the accumulator's form) and 83
unfoldable pub arithmetic_immediate : ℕ → OperandSize → OperandType → ℕ → ℕ → Start
arithmetic_immediate n w a encoding mode =
    pick (eqb encoding primary)
    (pick (both (eqb a.kind a_register) (eqb mode 0)) (bare (sized w (plus n 4) (plus n 5)) (immediate w))
    (with_rm (sized w 0x80 0x81) (n / 8) a mode (immediate w)))
    (with_rm 0x83 (n / 8) a mode (Some L.Byte))

unfoldable pub arithmetic : ℕ → OperandSize → OperandType → OperandType → ℕ → ℕ → Start
arithmetic n w a b encoding mode =
    pick (eqb b.kind an_immediate) (arithmetic_immediate n w a encoding mode)
    (pick (eqb encoding primary) (with_rm (sized w n (plus n 1)) b.number a mode None) (with_rm (sized w (plus n 2) (plus n 3)) a.number b mode None))

-- NOT NEG MUL IMUL DIV IDIV
unfoldable pub unary : ℕ → OperandSize → OperandType → ℕ → Start
unary n w a mode = with_rm (sized w 0xF6 0xF7) n a mode None

-- INC DEC
unfoldable pub inc_dec : ℕ → OperandSize → OperandType → ℕ → ℕ → Start
inc_dec n w a encoding mode = pick (eqb encoding primary) (with_rm (sized w 0xFE 0xFF) n a mode None) (bare (0x40 + n % 2 * 8 + a.number % 8) None)

-- MOV of an immediate
unfoldable pub move_immediate : OperandSize → OperandType → ℕ → ℕ → Start
move_immediate w a encoding mode =
    pick (eqb encoding primary) (with_rm (sized w 0xC6 0xC7) 0 a mode (immediate w)) (bare (sized w (0xB0 + a.number % 8) (0xB8 + a.number % 8)) (immediate w))

-- MOV from memory
unfoldable pub move_from : OperandSize → OperandType → OperandType → ℕ → ℕ → Start
move_from w a b encoding mode = pick (eqb encoding primary) (with_rm (sized w 0x8A 0x8B) a.number b mode None) (bare (sized w 0xA0 0xA1) (Some L.Address))

-- MOV into memory, or between registers
unfoldable pub move_into : OperandSize → OperandType → OperandType → ℕ → ℕ → Start
move_into w a b encoding mode =
    pick (eqb encoding primary) (with_rm (sized w 0x88 0x89) b.number a mode None)
    (pick (eqb a.kind in_memory) (bare (sized w 0xA2 0xA3) (Some L.Address)) (with_rm (sized w 0x8A 0x8B) a.number b mode None))

unfoldable pub move : OperandSize → OperandType → OperandType → ℕ → ℕ → Start
move w a b encoding mode =
    pick (eqb b.kind an_immediate) (move_immediate w a encoding mode)
    (pick (eqb b.kind a_segment) (with_rm 0x8C b.number a mode None)
    (pick (eqb a.kind a_segment) (with_rm 0x8E a.number b mode None)
    (pick (eqb b.kind in_memory) (move_from w a b encoding mode) (move_into w a b encoding mode))))

-- XCHG: either operand in reg; 90 with the higher register
unfoldable pub exchange : OperandSize → OperandType → OperandType → ℕ → ℕ → Start
exchange w a b encoding mode =
    pick (eqb encoding primary)
    (pick (both (eqb b.kind a_register) (eqb mode 0)) (bare (0x90 + b.number % 8) None) (with_rm (sized w 0x86 0x87) a.number b mode None))
    (with_rm (sized w 0x86 0x87) b.number a mode None)

-- TEST of an immediate: F6, F7 and the accumulator's form
unfoldable pub test_immediate : OperandSize → OperandType → ℕ → ℕ → Start
test_immediate w a encoding mode = pick (eqb encoding primary) (with_rm (sized w 0xF6 0xF7) 0 a mode (immediate w)) (bare (sized w 0xA8 0xA9) (immediate w))

-- TEST of a register: of two the second in reg; memory stands second
unfoldable pub test : OperandSize → OperandType → OperandType → ℕ → ℕ → Start
test w a b encoding mode =
    pick (eqb b.kind an_immediate) (test_immediate w a encoding mode)
    (pick (eqb b.kind in_memory) (with_rm (sized w 0x84 0x85) a.number b mode None) (with_rm (sized w 0x84 0x85) b.number a mode None))

-- PUSH and POP: the opcodes for a register and a segment register; the one with /n for a register or memory
unfoldable pub stack : ℕ → ℕ → ℕ → ℕ → OperandType → ℕ → ℕ → Start
stack c d e n a encoding mode =
    pick (eqb encoding primary) (with_rm e n a mode None)
    (bare (pick (eqb a.kind a_register) (plus c (a.number % 8)) (plus d (a.number % 4 * 8))) None)

-- RET, with an immediate or without
unfoldable pub ret : OperandType → Start
ret a = pick (eqb a.kind an_immediate) (bare 0xC2 (Some L.Word)) (bare 0xC3 None)

-- LEA LES LDS
unfoldable pub load : ℕ → OperandType → OperandType → ℕ → Start
load c a b mode = with_rm c a.number b mode None

-- ROL ROR RCL RCR SHL SHR SAR, by CL or by 1
unfoldable pub shift : ℕ → OperandSize → OperandType → OperandType → ℕ → Start
shift n w a b mode = with_rm (pick (eqb b.kind a_register) (sized w 0xD2 0xD3) (sized w 0xD0 0xD1)) n a mode None

-- CALL: through memory near at the width of a word, far without a width
unfoldable pub call : OperandSize → OperandType → ℕ → Start
call w a mode = pick (eqb a.kind a_near) (bare 0xE8 (Some L.Near16)) (with_rm 0xFF (sized w 3 2) a mode None)

unfoldable pub jump : OperandType → ℕ → ℕ → Start
jump a encoding mode =
    pick (eqb a.kind a_near) (pick (eqb encoding primary) (bare 0xE9 (Some L.Near16)) (bare 0xEB (Some L.Near8)))
    (pick (eqb a.kind a_far) (bare 0xEA (Some L.Far)) (with_rm 0xFF 4 a mode None))

-- a single byte; NOP is 87 C0 too
unfoldable pub single : ℕ → ℕ → Start
single c encoding = pick (eqb encoding primary) (bare c None) (start 0x87 (Some (X.ModRm 0xC0)) None)

-- IN and OUT: the port is an immediate or DX
unfoldable pub port : OperandSize → OperandType → ℕ → ℕ → ℕ → ℕ → Start
port w o b c d e = pick (eqb o.kind an_immediate) (bare (sized w b c) (Some L.Byte)) (bare (sized w d e) None)

unfoldable pub start_in : Group → ℕ → OperandSize → OperandType → OperandType → ℕ → ℕ → Start
start_in Gr.Arithmetic n w a b encoding mode = arithmetic n w a b encoding mode
start_in Gr.Unary n w a b encoding mode = unary n w a mode
start_in Gr.Mov n w a b encoding mode = move w a b encoding mode
start_in Gr.Test n w a b encoding mode = test w a b encoding mode
start_in Gr.Xchg n w a b encoding mode = exchange w a b encoding mode
start_in Gr.IncDec n w a b encoding mode = inc_dec n w a encoding mode
start_in Gr.Push n w a b encoding mode = stack 0x50 0x06 0xFF 6 a encoding mode
start_in Gr.Pop n w a b encoding mode = stack 0x58 0x07 0x8F 0 a encoding mode
start_in Gr.Ret n w a b encoding mode = ret a
start_in Gr.Lea n w a b encoding mode = load n a b mode
start_in Gr.LesLds n w a b encoding mode = load n a b mode
start_in Gr.Shift n w a b encoding mode = shift n w a b mode
start_in Gr.Call n w a b encoding mode = call w a mode
start_in Gr.Jmp n w a b encoding mode = jump a encoding mode
start_in Gr.Jcc n w a b encoding mode = bare n (Some L.Near8)
start_in Gr.Loopc n w a b encoding mode = bare n (Some L.Near8)
start_in Gr.NoOperands n w a b encoding mode = single n encoding
start_in Gr.Prefixes n w a b encoding mode = bare n None
start_in Gr.Int n w a b encoding mode = bare 0xCD (Some L.Byte)
start_in Gr.Aam n w a b encoding mode = start 0xD4 (Some (X.Fixed 0x0A)) None
start_in Gr.Aad n w a b encoding mode = start 0xD5 (Some (X.Fixed 0x0A)) None
start_in Gr.Xlat n w a b encoding mode = bare 0xD7 None
start_in Gr.In n w a b encoding mode = port w b 0xE4 0xE5 0xEC 0xED
start_in Gr.Out n w a b encoding mode = port w a 0xE6 0xE7 0xEE 0xEF
start_in Gr.Unsupported n w a b encoding mode = bare 0 None

-- the start of an instruction with parts q, by encoding and mode
unfoldable pub start_of : Parts → ℕ → ℕ → Start
start_of q encoding mode = start_in q.group q.base q.width q.first q.second encoding mode
