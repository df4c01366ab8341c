-- The operations and their numbers: the place, from 0, in 002 (REFERENCE 2).
-- Definitions only.
use Rattle.std.specs.Prelude.{◌≡◌, ℕ, Bool, false, List, [], ◌∷◌, eqb, ltb, length, get_or, None, Option, Some, Result, MatchResult}
use Rattle.mrc_compiler.specs.declared.operations.Operation.{Operation}
use Rattle.mrc_compiler.specs.declared.operations.Operation.TheVariants as Op
use Rattle.mrc_compiler.specs.declared.operations.UnknownOperation.{UnknownOperation}
use Rattle.mrc_compiler.specs.Choose.{pick, either}

unfoldable pub number_of : Operation → ℕ
number_of Op.MOV = 0
number_of Op.PUSH = 1
number_of Op.POP = 2
number_of Op.XCHG = 3
number_of Op.IN = 4
number_of Op.OUT = 5
number_of Op.XLATB = 6
number_of Op.LEA = 7
number_of Op.LDS = 8
number_of Op.LES = 9
number_of Op.LAHF = 10
number_of Op.SAHF = 11
number_of Op.PUSHF = 12
number_of Op.POPF = 13
number_of Op.ADD = 14
number_of Op.ADC = 15
number_of Op.INC = 16
number_of Op.AAA = 17
number_of Op.DAA = 18
number_of Op.SUB = 19
number_of Op.SBB = 20
number_of Op.DEC = 21
number_of Op.NEG = 22
number_of Op.CMP = 23
number_of Op.AAS = 24
number_of Op.DAS = 25
number_of Op.MUL = 26
number_of Op.IMUL = 27
number_of Op.AAM = 28
number_of Op.DIV = 29
number_of Op.IDIV = 30
number_of Op.AAD = 31
number_of Op.CBW = 32
number_of Op.CWD = 33
number_of Op.NOT = 34
number_of Op.SHL = 35
number_of Op.SHR = 36
number_of Op.SAR = 37
number_of Op.ROL = 38
number_of Op.ROR = 39
number_of Op.RCL = 40
number_of Op.RCR = 41
number_of Op.AND = 42
number_of Op.TEST = 43
number_of Op.OR = 44
number_of Op.XOR = 45
number_of Op.REP = 46
number_of Op.REPNE = 47
number_of Op.MOVSB = 48
number_of Op.MOVSW = 49
number_of Op.CMPSB = 50
number_of Op.CMPSW = 51
number_of Op.SCASB = 52
number_of Op.SCASW = 53
number_of Op.LODSB = 54
number_of Op.LODSW = 55
number_of Op.STOSB = 56
number_of Op.STOSW = 57
number_of Op.CALL = 58
number_of Op.JMP = 59
number_of Op.RET = 60
number_of Op.JE = 61
number_of Op.JL = 62
number_of Op.JLE = 63
number_of Op.JB = 64
number_of Op.JBE = 65
number_of Op.JP = 66
number_of Op.JO = 67
number_of Op.JS = 68
number_of Op.JNE = 69
number_of Op.JNL = 70
number_of Op.JNLE = 71
number_of Op.JNB = 72
number_of Op.JNBE = 73
number_of Op.JNP = 74
number_of Op.JNO = 75
number_of Op.JNS = 76
number_of Op.LOOP = 77
number_of Op.LOOPZ = 78
number_of Op.LOOPNZ = 79
number_of Op.JCXZ = 80
number_of Op.INT = 81
number_of Op.INT1 = 82
number_of Op.INT3 = 83
number_of Op.INTO = 84
number_of Op.IRET = 85
number_of Op.CLC = 86
number_of Op.CMC = 87
number_of Op.STC = 88
number_of Op.CLD = 89
number_of Op.STD = 90
number_of Op.CLI = 91
number_of Op.STI = 92
number_of Op.HLT = 93
number_of Op.WAIT = 94
number_of Op.ESC = 95
number_of Op.LOCK = 96
number_of Op.NOP = 97
number_of Op.SALC = 98

-- are two operations the same?
abbrev pub same_operation : Operation → Operation → Bool
same_operation a b = eqb (number_of a) (number_of b)

-- those that REP and REPNE repeat
abbrev pub strings : List Operation
strings = Op.MOVSB ∷ Op.MOVSW ∷ Op.CMPSB ∷ Op.CMPSW ∷ Op.SCASB ∷ Op.SCASW ∷ Op.LODSB ∷ Op.LODSW ∷ Op.STOSB ∷ Op.STOSW ∷ []

abbrev pub one_of : List Operation → Operation → Bool
one_of [] op = false
one_of (s ∷ l) op = either (same_operation op s) (one_of l op)

unfoldable pub is_string : Operation → Bool
is_string op = one_of strings op

-- in their order; proofs/Numbers shows that each stands at its number
unfoldable pub operations : List Operation
operations =
    Op.MOV ∷ Op.PUSH ∷ Op.POP ∷ Op.XCHG ∷ Op.IN ∷ Op.OUT ∷ Op.XLATB ∷ Op.LEA ∷ Op.LDS ∷ Op.LES
    ∷ Op.LAHF ∷ Op.SAHF ∷ Op.PUSHF ∷ Op.POPF ∷ Op.ADD ∷ Op.ADC ∷ Op.INC ∷ Op.AAA ∷ Op.DAA ∷ Op.SUB
    ∷ Op.SBB ∷ Op.DEC ∷ Op.NEG ∷ Op.CMP ∷ Op.AAS ∷ Op.DAS ∷ Op.MUL ∷ Op.IMUL ∷ Op.AAM ∷ Op.DIV
    ∷ Op.IDIV ∷ Op.AAD ∷ Op.CBW ∷ Op.CWD ∷ Op.NOT ∷ Op.SHL ∷ Op.SHR ∷ Op.SAR ∷ Op.ROL ∷ Op.ROR
    ∷ Op.RCL ∷ Op.RCR ∷ Op.AND ∷ Op.TEST ∷ Op.OR ∷ Op.XOR ∷ Op.REP ∷ Op.REPNE ∷ Op.MOVSB ∷ Op.MOVSW
    ∷ Op.CMPSB ∷ Op.CMPSW ∷ Op.SCASB ∷ Op.SCASW ∷ Op.LODSB ∷ Op.LODSW ∷ Op.STOSB ∷ Op.STOSW ∷ Op.CALL ∷ Op.JMP
    ∷ Op.RET ∷ Op.JE ∷ Op.JL ∷ Op.JLE ∷ Op.JB ∷ Op.JBE ∷ Op.JP ∷ Op.JO ∷ Op.JS ∷ Op.JNE
    ∷ Op.JNL ∷ Op.JNLE ∷ Op.JNB ∷ Op.JNBE ∷ Op.JNP ∷ Op.JNO ∷ Op.JNS ∷ Op.LOOP ∷ Op.LOOPZ ∷ Op.LOOPNZ
    ∷ Op.JCXZ ∷ Op.INT ∷ Op.INT1 ∷ Op.INT3 ∷ Op.INTO ∷ Op.IRET ∷ Op.CLC ∷ Op.CMC ∷ Op.STC ∷ Op.CLD
    ∷ Op.STD ∷ Op.CLI ∷ Op.STI ∷ Op.HLT ∷ Op.WAIT ∷ Op.ESC ∷ Op.LOCK ∷ Op.NOP ∷ Op.SALC ∷ []

-- the operation of a number
abbrev pub operation_numbered : ℕ → Option Operation
operation_numbered n = pick (ltb n (length operations)) (Some (get_or operations n Op.MOV)) None

-- the result is the operation of the number, or an error with a number that no operation has
abbrev pub Numbers : ℕ → Result Operation UnknownOperation → Type 0
Numbers n r = MatchResult r (λ operation. operation_numbered n ≡ Some operation) (λ e. (e.0 ≡ n) × (operation_numbered n ≡ None))
