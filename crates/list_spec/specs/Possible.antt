-- Which candidates can read as an instruction, by its operands' kinds and its displacement; no other is read. That none is forgotten is proofs/Found.
-- Definitions only.
use Rattle.std.specs.Prelude.{ℕ, ◌/◌, ◌%◌, Bool, true, false, eqb, ltb}
use Rattle.mrc_compiler.specs.declared.encoder.OperandSize.{OperandSize}
use Rattle.mrc_compiler.specs.Choose.{pick, both, either, isnt, by_size}
use Rattle.encode_groups.specs.declared.Group.{Group}
use Rattle.encode_groups.specs.declared.Group.TheVariants as Gr
use Rattle.x86.specs.declared.operands.OperandType.{OperandType}
use Rattle.x86.specs.Operands.{a_register, a_segment, in_memory, an_immediate, a_near}
use Rattle.list_spec.specs.declared.Parts.{Parts}
use Rattle.list_spec.specs.Starts.{primary}

abbrev pub is_a : ℕ → OperandType → Bool
is_a k o = eqb o.kind k

-- AL or AX
unfoldable pub is_accumulator : OperandType → Bool
is_accumulator o = both (is_a a_register o) (eqb o.number 0)

-- an address without base
unfoldable pub is_address : OperandType → Bool
is_address o = both (is_a in_memory o) (eqb o.number 8)

abbrev pub is_word : OperandSize → Bool
is_word w = by_size w false false true

-- a register of 16 bits
abbrev pub is_word_register : OperandSize → OperandType → Bool
is_word_register w o = both (is_a a_register o) (is_word w)

-- AX
abbrev pub is_ax : OperandSize → OperandType → Bool
is_ax w o = both (is_accumulator o) (is_word w)

-- ---- the mode
-- of memory number n, where its displacement is 0 or not, short or not: [BP] has no mode 0, and an address without base has no other
unfoldable pub mode_for : ℕ → Bool → Bool → ℕ → Bool
mode_for n zero short k = pick (eqb n 8) (eqb k 0) (pick (eqb k 0) (both (isnt (eqb n 6)) zero) (pick (eqb k 1) short true))

-- of the operand in memory, if there is one
unfoldable pub mode_fits : OperandType → OperandType → Bool → Bool → ℕ → Bool
mode_fits a b zero short k =
    pick (is_a in_memory a) (mode_for a.number zero short k) (pick (is_a in_memory b) (mode_for b.number zero short k) true)

-- ---- the encoding
-- without memory mode 0 stands for all
abbrev pub modeless : OperandType → OperandType → ℕ → Bool
modeless a b k = either (is_a in_memory a) (either (is_a in_memory b) (eqb k 0))

-- the primary one, and the alternate one where it may be
unfoldable pub with_alternate : Bool → OperandType → OperandType → ℕ → ℕ → Bool
with_alternate may a b encoding k = both (either (eqb encoding primary) may) (modeless a b k)

abbrev pub alone : OperandType → OperandType → ℕ → ℕ → Bool
alone a b encoding k = with_alternate false a b encoding k

-- where modes 0 and 1 are two starts: the accumulator's, and that of any register
abbrev pub by_accumulator : Bool → ℕ → Bool
by_accumulator accumulator k = pick (eqb k 0) accumulator (eqb k 1)

-- arithmetic with an immediate
unfoldable pub immediate_fits : OperandSize → OperandType → OperandType → ℕ → ℕ → Bool
immediate_fits w a b encoding k =
    pick (is_a a_register a) (pick (eqb encoding primary) (by_accumulator (is_accumulator a) k) (with_alternate (is_word w) a b encoding k))
    (with_alternate (is_word w) a b encoding k)

-- the register r in reg
abbrev pub with_register : OperandType → OperandType → OperandType → ℕ → Bool
with_register r a b k = both (is_a a_register r) (modeless a b k)

unfoldable pub arithmetic_fits : OperandSize → OperandType → OperandType → ℕ → ℕ → Bool
arithmetic_fits w a b encoding k =
    pick (is_a an_immediate b) (immediate_fits w a b encoding k) (pick (eqb encoding primary) (with_register b a b k) (with_register a a b k))

-- A0 to A3
abbrev pub by_address : OperandType → OperandType → Bool
by_address memory other = both (is_address memory) (is_accumulator other)

-- those, or B0 to BF; between registers 8A and 8B
unfoldable pub move_alternate : OperandType → OperandType → Bool
move_alternate a b =
    pick (is_a in_memory a) (by_address a b) (pick (is_a in_memory b) (by_address b a) (both (is_a a_register a) (isnt (is_a a_segment b))))

-- A8 and A9
abbrev pub test_alternate : OperandType → OperandType → Bool
test_alternate a b = both (is_a an_immediate b) (is_accumulator a)

-- 90 with AX, or 86 and 87
abbrev pub registers_fit : OperandSize → OperandType → ℕ → Bool
registers_fit w a k = both (is_a a_register a) (by_accumulator (is_ax w a) k)

unfoldable pub exchange_fits : OperandSize → OperandType → OperandType → ℕ → ℕ → Bool
exchange_fits w a b encoding k =
    pick (is_a a_register b) (pick (eqb encoding primary) (registers_fit w a k) (modeless a b k)) (with_alternate false a b encoding k)

-- of a group with base n
unfoldable pub encoding_fits : Group → ℕ → OperandSize → OperandType → OperandType → ℕ → ℕ → Bool
encoding_fits Gr.Arithmetic n w a b encoding k = arithmetic_fits w a b encoding k
encoding_fits Gr.Unary n w a b encoding k = alone a b encoding k
encoding_fits Gr.Mov n w a b encoding k = with_alternate (move_alternate a b) a b encoding k
encoding_fits Gr.Test n w a b encoding k = with_alternate (test_alternate a b) a b encoding k
encoding_fits Gr.Xchg n w a b encoding k = exchange_fits w a b encoding k
encoding_fits Gr.IncDec n w a b encoding k = with_alternate (is_word_register w a) a b encoding k
encoding_fits Gr.Push n w a b encoding k = with_alternate (isnt (is_a in_memory a)) a b encoding k
encoding_fits Gr.Pop n w a b encoding k = with_alternate (isnt (is_a in_memory a)) a b encoding k
encoding_fits Gr.Ret n w a b encoding k = alone a b encoding k
encoding_fits Gr.Lea n w a b encoding k = alone a b encoding k
encoding_fits Gr.LesLds n w a b encoding k = alone a b encoding k
encoding_fits Gr.Shift n w a b encoding k = alone a b encoding k
encoding_fits Gr.Call n w a b encoding k = alone a b encoding k
encoding_fits Gr.Jmp n w a b encoding k = with_alternate (is_a a_near a) a b encoding k
encoding_fits Gr.Jcc n w a b encoding k = alone a b encoding k
encoding_fits Gr.Loopc n w a b encoding k = alone a b encoding k
encoding_fits Gr.NoOperands n w a b encoding k = with_alternate (eqb n 0x90) a b encoding k
encoding_fits Gr.Prefixes n w a b encoding k = alone a b encoding k
encoding_fits Gr.Int n w a b encoding k = alone a b encoding k
encoding_fits Gr.Aam n w a b encoding k = alone a b encoding k
encoding_fits Gr.Aad n w a b encoding k = alone a b encoding k
encoding_fits Gr.Xlat n w a b encoding k = alone a b encoding k
encoding_fits Gr.In n w a b encoding k = alone a b encoding k
encoding_fits Gr.Out n w a b encoding k = alone a b encoding k
encoding_fits Gr.Unsupported n w a b encoding k = alone a b encoding k

-- ---- the candidate
-- the start by encoding and mode, where the displacement is 0 or not, short or not
unfoldable pub start_fits : Parts → Bool → Bool → ℕ → ℕ → Bool
start_fits q zero short encoding k =
    both (mode_fits q.first q.second zero short k) (encoding_fits q.group q.base q.width q.first q.second encoding k)

-- without a prefix, or where there is one
abbrev pub prefix_fits : ℕ → ℕ → Bool
prefix_fits prefix i = either (ltb i 6) (isnt (eqb prefix 0))

-- candidate i; with a repeat there is one start
unfoldable pub possible : Parts → ℕ → Bool
possible q i =
    both (prefix_fits q.prefix i)
    (pick (eqb q.repeat 0) (start_fits q q.zero q.short (i / 3 % 2) (i % 3)) (eqb (i % 6) 0))
