-- The forms of document 01's code list, as volume 2 of the SDM prints them: opcode, extension, operation, operands.
-- Lay it beside the opcode column of the book and tick the lines off. The reading and question 5 both go by this list. Its order is the
-- encoder's preference: of an operation's forms that take a record's operands it writes the first. The reading goes by the first that
-- fits, and only at 90 do two fit: XCHG AX,AX and NOP, which are the same instruction.
-- Definitions only.
use Rattle.std.specs.Prelude.{List, [], ◌∷◌, ◌++◌, ℕ, suc, ◌+◌, ◌*◌}
use Rattle.mrc_compiler.specs.declared.encoder.OperandSize.{OperandSize}
use Rattle.mrc_compiler.specs.declared.encoder.OperandSize.TheVariants as S
use Rattle.mrc_compiler.specs.declared.operations.Operation.{Operation}
use Rattle.mrc_compiler.specs.declared.operations.Operation.TheVariants.{MOV, PUSH, POP, XCHG, IN, OUT, XLATB, LEA, LDS, LES, LAHF, SAHF, PUSHF, POPF, ADD, ADC, INC, AAA, DAA, SUB, SBB, DEC, NEG, CMP, AAS, DAS, MUL, IMUL, AAM, DIV, IDIV, AAD, CBW, CWD, NOT, SHL, SHR, SAR, ROL, ROR, RCL, RCR, AND, TEST, OR, XOR, REP, REPNE, MOVSB, MOVSW, CMPSB, CMPSW, SCASB, SCASW, LODSB, LODSW, STOSB, STOSW, CALL, JMP, RET, JE, JL, JLE, JB, JBE, JP, JO, JS, JNE, JNL, JNLE, JNB, JNBE, JNP, JNO, JNS, LOOP, LOOPZ, LOOPNZ, JCXZ, INT, INT3, INTO, IRET, CLC, CMC, STC, CLD, STD, CLI, STI, HLT, WAIT, LOCK, NOP, SALC}
use Rattle.mrc_compiler.specs.Values.{digit_of}
-- where an operand stands
pub use Rattle.x86_forms.specs.declared.Slot.{Slot}
pub use Rattle.x86_forms.specs.declared.Slot.TheVariants.{
  Rm as rm,  -- r/m field of ModRM: a register or memory
  RmNear as rm_near,  -- the same, a word that holds a near target
  Mem as mem,  -- r/m field, memory only
  MemFar as mem_far,  -- the same, memory that holds a far target (m16:16)
  Reg as reg,  -- reg field of ModRM
  Sreg as sreg,  -- reg field, a segment register
  SregNotCs as sreg_not_cs,  -- the same, not CS
  Acc as acc,  -- AL or AX
  Low3 as low3,  -- register in the opcode's low three bits
  Bits34 as bits34,  -- segment register in the opcode's bits 3 and 4
  Bits34NotCs as bits34_not_cs,  -- the same, not CS
  Cl as cl,
  Dx as dx,
  One as one,  -- the constant 1
  Moffs as moffs,  -- memory at the address word behind the opcode
  Xlat as xlat,  -- memory at [BX + AL]
  Ib as ib,  -- immediate byte
  Iw as iw,  -- immediate word
  IbSx as ib_sx,  -- immediate byte, sign-extended to a word
  Cb as cb,  -- near target, a distance byte
  Cw as cw,  -- near target, a distance word
  Ptr as ptr,  -- far target, offset word and segment word (ptr16:16)
  Nil as nil,  -- no operand
}
-- what the opcode column has beside the opcode
pub use Rattle.x86_forms.specs.declared.Extension.{Extension}
pub use Rattle.x86_forms.specs.declared.Extension.TheVariants.{
  None as no,
  PlusRegister as +r,  -- 40+rw: the register's number is added to the opcode
  PlusSegment as +s,  -- 06 + 8 × segment
  ModRm as /r,  -- a ModRM byte whose reg field is an operand
  Digit as /,  -- a ModRM byte whose reg field is this digit
  Second0A as 0A,  -- a second byte, 0A
}

abbrev pub byte : OperandSize
byte = S.Byte

abbrev pub word : OperandSize
word = S.Word

pub record Form : Type 0 where
  pub opcode : ℕ
  pub extension : Extension
  pub operation : Operation
  pub first : Slot
  pub second : Slot

abbrev pub form : ℕ → Extension → Operation → Slot → Slot → Form
form c e op a b = record { opcode = c; extension = e; operation = op; first = a; second = b }

-- f c, f (c + 1) .. with these operations
abbrev pub from : ℕ → (ℕ → Operation → Form) → List Operation → List Form
from c f [] = []
from c f (op ∷ ops) = f c op ∷ from (suc c) f ops

-- ADD OR ADC SBB AND SUB XOR CMP, base b: a Word immediate of -128 to 127 takes 83, others the accumulator's form where there is one
abbrev pub arithmetic : ℕ → Operation → List Form
arithmetic b op =
    form b /r op (rm byte) (reg byte)
    ∷ form (b + 1) /r op (rm word) (reg word)
    ∷ form (b + 2) /r op (reg byte) (rm byte)
    ∷ form (b + 3) /r op (reg word) (rm word)
    ∷ form 0x83 (/ (digit_of b)) op (rm word) ib_sx
    ∷ form (b + 4) no op (acc byte) ib
    ∷ form (b + 5) no op (acc word) iw
    ∷ form 0x80 (/ (digit_of b)) op (rm byte) ib
    ∷ form 0x81 (/ (digit_of b)) op (rm word) iw
    ∷ []

-- NOT NEG MUL IMUL DIV IDIV
abbrev pub unary : ℕ → Operation → List Form
unary n op = form 0xF6 (/ n) op (rm byte) nil ∷ form 0xF7 (/ n) op (rm word) nil ∷ []

-- INC DEC
abbrev pub inc_dec : ℕ → Operation → List Form
inc_dec n op =
    form (0x40 + 8 * n) +r op (low3 word) nil
    ∷ form 0xFE (/ n) op (rm byte) nil
    ∷ form 0xFF (/ n) op (rm word) nil
    ∷ []

-- MOV
abbrev pub move : Operation → List Form
move op =
    form 0xA0 no op (acc byte) (moffs byte)
    ∷ form 0xA1 no op (acc word) (moffs word)
    ∷ form 0xA2 no op (moffs byte) (acc byte)
    ∷ form 0xA3 no op (moffs word) (acc word)
    ∷ form 0x88 /r op (rm byte) (reg byte)
    ∷ form 0x89 /r op (rm word) (reg word)
    ∷ form 0x8A /r op (reg byte) (rm byte)
    ∷ form 0x8B /r op (reg word) (rm word)
    ∷ form 0x8C /r op (rm word) sreg
    ∷ form 0x8E /r op sreg_not_cs (rm word)
    ∷ form 0xB0 +r op (low3 byte) ib
    ∷ form 0xB8 +r op (low3 word) iw
    ∷ form 0xC6 (/ 0) op (rm byte) ib
    ∷ form 0xC7 (/ 0) op (rm word) iw
    ∷ []

-- XCHG
abbrev pub exchange : Operation → List Form
exchange op =
    form 0x90 +r op (acc word) (low3 word)
    ∷ form 0x86 /r op (reg byte) (rm byte)
    ∷ form 0x87 /r op (reg word) (rm word)
    ∷ []

-- TEST
abbrev pub test : Operation → List Form
test op =
    form 0x84 /r op (rm byte) (reg byte)
    ∷ form 0x85 /r op (rm word) (reg word)
    ∷ form 0xA8 no op (acc byte) ib
    ∷ form 0xA9 no op (acc word) iw
    ∷ form 0xF6 (/ 0) op (rm byte) ib
    ∷ form 0xF7 (/ 0) op (rm word) iw
    ∷ []

abbrev pub push : Operation → List Form
push op = form 0x50 +r op (low3 word) nil ∷ form 0x06 +s op bits34 nil ∷ form 0xFF (/ 6) op (rm word) nil ∷ []

abbrev pub pop : Operation → List Form
pop op = form 0x58 +r op (low3 word) nil ∷ form 0x07 +s op bits34_not_cs nil ∷ form 0x8F (/ 0) op (rm word) nil ∷ []

-- LEA LES LDS
abbrev pub load : ℕ → Operation → List Form
load c op = form c /r op (reg word) mem ∷ []

-- ROL ROR RCL RCR SHL SHR SAR
abbrev pub shift : ℕ → Operation → List Form
shift n op =
    form 0xD0 (/ n) op (rm byte) one
    ∷ form 0xD1 (/ n) op (rm word) one
    ∷ form 0xD2 (/ n) op (rm byte) cl
    ∷ form 0xD3 (/ n) op (rm word) cl
    ∷ []

abbrev pub call : Operation → List Form
call op = form 0xE8 no op cw nil ∷ form 0xFF (/ 2) op rm_near nil ∷ form 0xFF (/ 3) op mem_far nil ∷ []

abbrev pub jump : Operation → List Form
jump op = form 0xE9 no op cw nil ∷ form 0xEA no op ptr nil ∷ form 0xEB no op cb nil ∷ form 0xFF (/ 4) op rm_near nil ∷ []

-- RET
abbrev pub ret : Operation → List Form
ret op = form 0xC3 no op nil nil ∷ form 0xC2 no op iw nil ∷ []

-- Jcc, LOOPNZ LOOPZ LOOP JCXZ
abbrev pub short : ℕ → Operation → Form
short c op = form c no op cb nil

abbrev pub interrupt : Operation → List Form
interrupt op = form 0xCD no op ib nil ∷ []

abbrev pub translate : Operation → List Form
translate op = form 0xD7 no op xlat nil ∷ []

abbrev pub input : Operation → List Form
input op =
    form 0xE4 no op (acc byte) ib
    ∷ form 0xE5 no op (acc word) ib
    ∷ form 0xEC no op (acc byte) dx
    ∷ form 0xED no op (acc word) dx
    ∷ []

abbrev pub output : Operation → List Form
output op =
    form 0xE6 no op ib (acc byte)
    ∷ form 0xE7 no op ib (acc word)
    ∷ form 0xEE no op dx (acc byte)
    ∷ form 0xEF no op dx (acc word)
    ∷ []

-- AAM AAD
abbrev pub adjust : ℕ → Operation → List Form
adjust c op = form c 0A op nil nil ∷ []

abbrev pub single : ℕ → Operation → Form
single c op = form c no op nil nil

unfoldable pub forms : List Form
forms =
    arithmetic 0x00 ADD ++ arithmetic 0x08 OR ++ arithmetic 0x10 ADC ++ arithmetic 0x18 SBB
    ++ arithmetic 0x20 AND ++ arithmetic 0x28 SUB ++ arithmetic 0x30 XOR ++ arithmetic 0x38 CMP
    ++ unary 2 NOT ++ unary 3 NEG ++ unary 4 MUL ++ unary 5 IMUL ++ unary 6 DIV ++ unary 7 IDIV
    ++ inc_dec 0 INC ++ inc_dec 1 DEC
    ++ move MOV ++ exchange XCHG ++ test TEST ++ push PUSH ++ pop POP
    ++ load 0x8D LEA ++ load 0xC4 LES ++ load 0xC5 LDS
    ++ shift 0 ROL ++ shift 1 ROR ++ shift 2 RCL ++ shift 3 RCR ++ shift 4 SHL ++ shift 5 SHR ++ shift 7 SAR
    ++ call CALL ++ jump JMP ++ ret RET
    ++ from 0x70 short (JO ∷ JNO ∷ JB ∷ JNB ∷ JE ∷ JNE ∷ JBE ∷ JNBE ∷ JS ∷ JNS ∷ JP ∷ JNP ∷ JL ∷ JNL ∷ JLE ∷ JNLE ∷ [])
    ++ from 0xE0 short (LOOPNZ ∷ LOOPZ ∷ LOOP ∷ JCXZ ∷ [])
    ++ interrupt INT ++ translate XLATB ++ input IN ++ output OUT ++ adjust 0xD4 AAM ++ adjust 0xD5 AAD
    -- single bytes; 90 is XCHG AX,AX too, which is the same instruction
    ++ single 0x27 DAA ∷ single 0x2F DAS ∷ single 0x37 AAA ∷ single 0x3F AAS ∷ single 0x90 NOP
    ∷ single 0x98 CBW ∷ single 0x99 CWD
    ∷ from 0x9B single (WAIT ∷ PUSHF ∷ POPF ∷ SAHF ∷ LAHF ∷ [])
    ++ from 0xA4 single (MOVSB ∷ MOVSW ∷ CMPSB ∷ CMPSW ∷ [])
    ++ from 0xAA single (STOSB ∷ STOSW ∷ LODSB ∷ LODSW ∷ SCASB ∷ SCASW ∷ [])
    ++ single 0xCC INT3 ∷ single 0xCE INTO ∷ single 0xCF IRET
    ∷ single 0xD6 SALC
    ∷ single 0xF0 LOCK ∷ single 0xF2 REPNE ∷ single 0xF3 REP ∷ single 0xF4 HLT ∷ single 0xF5 CMC
    ∷ from 0xF8 single (CLC ∷ STC ∷ CLI ∷ STI ∷ CLD ∷ STD ∷ [])
