-- Numbers for what the dispatch goes by: an operation's group with its base, and the size of two operands.
-- Definitions only.
use Rattle.std.specs.Prelude.{ℕ, ◌+◌, ◌*◌, ◌/◌, ◌%◌, ◌<◌, ◌≡◌, List, [], ◌∷◌, eqb}
use Rattle.mrc_compiler.specs.declared.ast.DataSize.{DataSize}
use Rattle.mrc_compiler.specs.declared.ast.DataSize.TheVariants as Z
use Rattle.mrc_compiler.specs.declared.operations.Operation.{Operation}
use Rattle.mrc_compiler.specs.Choose.{pick}
use Rattle.encode_groups.specs.declared.Group.{Group}
use Rattle.encode_groups.specs.declared.Group.TheVariants as G
use Rattle.encode_groups.specs.Grouping.{group_of, base_of}

-- the groups by their numbers
abbrev pub groups : List Group
groups = G.Arithmetic ∷ G.Mov ∷ G.Test ∷ G.Xchg ∷ G.Unary ∷ G.IncDec ∷ G.Push ∷ G.Pop ∷ G.Lea ∷ G.LesLds ∷ G.Shift ∷ G.Call ∷ G.Jmp ∷ G.Jcc ∷ G.Loopc ∷ G.Int ∷ G.Xlat ∷ G.In ∷ G.Out ∷ G.NoOperands ∷ G.Prefixes ∷ G.Aam ∷ G.Aad ∷ G.Ret ∷ G.Unsupported ∷ []

abbrev pub group_number : Group → ℕ
group_number G.Arithmetic = 0
group_number G.Mov = 1
group_number G.Test = 2
group_number G.Xchg = 3
group_number G.Unary = 4
group_number G.IncDec = 5
group_number G.Push = 6
group_number G.Pop = 7
group_number G.Lea = 8
group_number G.LesLds = 9
group_number G.Shift = 10
group_number G.Call = 11
group_number G.Jmp = 12
group_number G.Jcc = 13
group_number G.Loopc = 14
group_number G.Int = 15
group_number G.Xlat = 16
group_number G.In = 17
group_number G.Out = 18
group_number G.NoOperands = 19
group_number G.Prefixes = 20
group_number G.Aam = 21
group_number G.Aad = 22
group_number G.Ret = 23
group_number G.Unsupported = 24

-- 4096 times the group's number, and the base
abbrev pub row_of : Operation → ℕ
row_of op = group_number (group_of op) * 4096 + base_of op

-- the rows of the operations, by their numbers; proofs/Laws shows that they are
abbrev pub rows : List ℕ
rows =
    0x1000 ∷ 0x6000 ∷ 0x7000 ∷ 0x3000 ∷ 0x11000 ∷ 0x12000 ∷ 0x10000 ∷ 0x808d ∷ 0x90c5 ∷ 0x90c4 ∷ 0x1309f
    ∷ 0x1309e ∷ 0x1309c ∷ 0x1309d ∷ 0x0 ∷ 0x10 ∷ 0x5000 ∷ 0x13037 ∷ 0x13027 ∷ 0x28 ∷ 0x18 ∷ 0x5001
    ∷ 0x4003 ∷ 0x38 ∷ 0x1303f ∷ 0x1302f ∷ 0x4004 ∷ 0x4005 ∷ 0x15000 ∷ 0x4006 ∷ 0x4007 ∷ 0x16000 ∷ 0x13098
    ∷ 0x13099 ∷ 0x4002 ∷ 0xa004 ∷ 0xa005 ∷ 0xa007 ∷ 0xa000 ∷ 0xa001 ∷ 0xa002 ∷ 0xa003 ∷ 0x20 ∷ 0x2000
    ∷ 0x8 ∷ 0x30 ∷ 0x140f3 ∷ 0x140f2 ∷ 0x130a4 ∷ 0x130a5 ∷ 0x130a6 ∷ 0x130a7 ∷ 0x130ae ∷ 0x130af ∷ 0x130ac
    ∷ 0x130ad ∷ 0x130aa ∷ 0x130ab ∷ 0xb000 ∷ 0xc000 ∷ 0x170c2 ∷ 0xd074 ∷ 0xd07c ∷ 0xd07e ∷ 0xd072 ∷ 0xd076
    ∷ 0xd07a ∷ 0xd070 ∷ 0xd078 ∷ 0xd075 ∷ 0xd07d ∷ 0xd07f ∷ 0xd073 ∷ 0xd077 ∷ 0xd07b ∷ 0xd071 ∷ 0xd079
    ∷ 0xe0e2 ∷ 0xe0e1 ∷ 0xe0e0 ∷ 0xe0e3 ∷ 0xf000 ∷ 0x18000 ∷ 0x130cc ∷ 0x130ce ∷ 0x130cf ∷ 0x130f8 ∷ 0x130f5
    ∷ 0x130f9 ∷ 0x130fc ∷ 0x130fd ∷ 0x130fa ∷ 0x130fb ∷ 0x130f4 ∷ 0x1309b ∷ 0x18000 ∷ 0x140f0 ∷ 0x13090 ∷ 0x130d6 ∷ []

-- the row of a number that is no operation's
abbrev pub no_row : ℕ
no_row = 0x18000

-- 1 where two sizes (0 unspecified, 1 byte, 2 word; the first times 3) make a byte, 2 where they make a word, else 0
abbrev pub commons : List ℕ
commons = 0 ∷ 1 ∷ 2 ∷ 1 ∷ 1 ∷ 0 ∷ 2 ∷ 0 ∷ 2 ∷ []

abbrev pub data_of : ℕ → DataSize
data_of n = pick (eqb n 1) Z.Byte Z.Word
