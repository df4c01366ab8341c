-- The group of each operation, of which document 01's questions speak, and its base: the dispatch of 000.
-- Definitions only.
use Rattle.mrc_compiler.specs.declared.operations.Operation.{Operation}
use Rattle.mrc_compiler.specs.declared.operations.Operation.TheVariants as Op
use Rattle.std.specs.Prelude.{ℕ}
use Rattle.encode_groups.specs.declared.Group.{Group}
use Rattle.encode_groups.specs.declared.Group.TheVariants as Gr
use Rattle.encode_groups.specs.declared.Grouped.{Grouped}

unfoldable pub grouped_of : Operation → Grouped
grouped_of Op.ADD = record { group = Gr.Arithmetic; base = 0x00 }
grouped_of Op.OR = record { group = Gr.Arithmetic; base = 0x08 }
grouped_of Op.ADC = record { group = Gr.Arithmetic; base = 0x10 }
grouped_of Op.SBB = record { group = Gr.Arithmetic; base = 0x18 }
grouped_of Op.AND = record { group = Gr.Arithmetic; base = 0x20 }
grouped_of Op.SUB = record { group = Gr.Arithmetic; base = 0x28 }
grouped_of Op.XOR = record { group = Gr.Arithmetic; base = 0x30 }
grouped_of Op.CMP = record { group = Gr.Arithmetic; base = 0x38 }
grouped_of Op.NOT = record { group = Gr.Unary; base = 0x02 }
grouped_of Op.NEG = record { group = Gr.Unary; base = 0x03 }
grouped_of Op.MUL = record { group = Gr.Unary; base = 0x04 }
grouped_of Op.IMUL = record { group = Gr.Unary; base = 0x05 }
grouped_of Op.DIV = record { group = Gr.Unary; base = 0x06 }
grouped_of Op.IDIV = record { group = Gr.Unary; base = 0x07 }
grouped_of Op.MOV = record { group = Gr.Mov; base = 0x00 }
grouped_of Op.TEST = record { group = Gr.Test; base = 0x00 }
grouped_of Op.XCHG = record { group = Gr.Xchg; base = 0x00 }
grouped_of Op.INC = record { group = Gr.IncDec; base = 0x00 }
grouped_of Op.DEC = record { group = Gr.IncDec; base = 0x01 }
grouped_of Op.PUSH = record { group = Gr.Push; base = 0x00 }
grouped_of Op.POP = record { group = Gr.Pop; base = 0x00 }
grouped_of Op.RET = record { group = Gr.Ret; base = 0xC2 }
grouped_of Op.LEA = record { group = Gr.Lea; base = 0x8D }
grouped_of Op.LES = record { group = Gr.LesLds; base = 0xC4 }
grouped_of Op.LDS = record { group = Gr.LesLds; base = 0xC5 }
grouped_of Op.ROL = record { group = Gr.Shift; base = 0x00 }
grouped_of Op.ROR = record { group = Gr.Shift; base = 0x01 }
grouped_of Op.RCL = record { group = Gr.Shift; base = 0x02 }
grouped_of Op.RCR = record { group = Gr.Shift; base = 0x03 }
grouped_of Op.SHL = record { group = Gr.Shift; base = 0x04 }
grouped_of Op.SHR = record { group = Gr.Shift; base = 0x05 }
grouped_of Op.SAR = record { group = Gr.Shift; base = 0x07 }
grouped_of Op.CALL = record { group = Gr.Call; base = 0x00 }
grouped_of Op.JMP = record { group = Gr.Jmp; base = 0x00 }
grouped_of Op.JO = record { group = Gr.Jcc; base = 0x70 }
grouped_of Op.JNO = record { group = Gr.Jcc; base = 0x71 }
grouped_of Op.JB = record { group = Gr.Jcc; base = 0x72 }
grouped_of Op.JNB = record { group = Gr.Jcc; base = 0x73 }
grouped_of Op.JE = record { group = Gr.Jcc; base = 0x74 }
grouped_of Op.JNE = record { group = Gr.Jcc; base = 0x75 }
grouped_of Op.JBE = record { group = Gr.Jcc; base = 0x76 }
grouped_of Op.JNBE = record { group = Gr.Jcc; base = 0x77 }
grouped_of Op.JS = record { group = Gr.Jcc; base = 0x78 }
grouped_of Op.JNS = record { group = Gr.Jcc; base = 0x79 }
grouped_of Op.JP = record { group = Gr.Jcc; base = 0x7A }
grouped_of Op.JNP = record { group = Gr.Jcc; base = 0x7B }
grouped_of Op.JL = record { group = Gr.Jcc; base = 0x7C }
grouped_of Op.JNL = record { group = Gr.Jcc; base = 0x7D }
grouped_of Op.JLE = record { group = Gr.Jcc; base = 0x7E }
grouped_of Op.JNLE = record { group = Gr.Jcc; base = 0x7F }
grouped_of Op.LOOPNZ = record { group = Gr.Loopc; base = 0xE0 }
grouped_of Op.LOOPZ = record { group = Gr.Loopc; base = 0xE1 }
grouped_of Op.LOOP = record { group = Gr.Loopc; base = 0xE2 }
grouped_of Op.JCXZ = record { group = Gr.Loopc; base = 0xE3 }
grouped_of Op.DAA = record { group = Gr.NoOperands; base = 0x27 }
grouped_of Op.DAS = record { group = Gr.NoOperands; base = 0x2F }
grouped_of Op.AAA = record { group = Gr.NoOperands; base = 0x37 }
grouped_of Op.AAS = record { group = Gr.NoOperands; base = 0x3F }
grouped_of Op.NOP = record { group = Gr.NoOperands; base = 0x90 }
grouped_of Op.CBW = record { group = Gr.NoOperands; base = 0x98 }
grouped_of Op.CWD = record { group = Gr.NoOperands; base = 0x99 }
grouped_of Op.INT3 = record { group = Gr.NoOperands; base = 0xCC }
grouped_of Op.INTO = record { group = Gr.NoOperands; base = 0xCE }
grouped_of Op.IRET = record { group = Gr.NoOperands; base = 0xCF }
grouped_of Op.SALC = record { group = Gr.NoOperands; base = 0xD6 }
grouped_of Op.HLT = record { group = Gr.NoOperands; base = 0xF4 }
grouped_of Op.CMC = record { group = Gr.NoOperands; base = 0xF5 }
grouped_of Op.CLC = record { group = Gr.NoOperands; base = 0xF8 }
grouped_of Op.STC = record { group = Gr.NoOperands; base = 0xF9 }
grouped_of Op.CLI = record { group = Gr.NoOperands; base = 0xFA }
grouped_of Op.STI = record { group = Gr.NoOperands; base = 0xFB }
grouped_of Op.CLD = record { group = Gr.NoOperands; base = 0xFC }
grouped_of Op.STD = record { group = Gr.NoOperands; base = 0xFD }
grouped_of Op.PUSHF = record { group = Gr.NoOperands; base = 0x9C }
grouped_of Op.POPF = record { group = Gr.NoOperands; base = 0x9D }
grouped_of Op.SAHF = record { group = Gr.NoOperands; base = 0x9E }
grouped_of Op.LAHF = record { group = Gr.NoOperands; base = 0x9F }
grouped_of Op.MOVSB = record { group = Gr.NoOperands; base = 0xA4 }
grouped_of Op.CMPSB = record { group = Gr.NoOperands; base = 0xA6 }
grouped_of Op.STOSB = record { group = Gr.NoOperands; base = 0xAA }
grouped_of Op.LODSB = record { group = Gr.NoOperands; base = 0xAC }
grouped_of Op.SCASB = record { group = Gr.NoOperands; base = 0xAE }
grouped_of Op.MOVSW = record { group = Gr.NoOperands; base = 0xA5 }
grouped_of Op.CMPSW = record { group = Gr.NoOperands; base = 0xA7 }
grouped_of Op.STOSW = record { group = Gr.NoOperands; base = 0xAB }
grouped_of Op.LODSW = record { group = Gr.NoOperands; base = 0xAD }
grouped_of Op.SCASW = record { group = Gr.NoOperands; base = 0xAF }
grouped_of Op.LOCK = record { group = Gr.Prefixes; base = 0xF0 }
grouped_of Op.REPNE = record { group = Gr.Prefixes; base = 0xF2 }
grouped_of Op.REP = record { group = Gr.Prefixes; base = 0xF3 }
grouped_of Op.INT = record { group = Gr.Int; base = 0x00 }
grouped_of Op.AAM = record { group = Gr.Aam; base = 0x00 }
grouped_of Op.AAD = record { group = Gr.Aad; base = 0x00 }
grouped_of Op.XLATB = record { group = Gr.Xlat; base = 0x00 }
grouped_of Op.IN = record { group = Gr.In; base = 0x00 }
grouped_of Op.OUT = record { group = Gr.Out; base = 0x00 }
grouped_of Op.INT1 = record { group = Gr.Unsupported; base = 0x00 }
grouped_of Op.WAIT = record { group = Gr.NoOperands; base = 0x9B }
grouped_of Op.ESC = record { group = Gr.Unsupported; base = 0x00 }

abbrev pub group_of : Operation → Group
group_of op = (grouped_of op).group

abbrev pub base_of : Operation → ℕ
base_of op = (grouped_of op).base
