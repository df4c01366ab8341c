-- 'Same instruction' (REFERENCE 6): the canonical instruction, such that equality is sameness.
-- Definitions only.
use Rattle.std.specs.Prelude.{ℕ, Bool, true, false, eqb, ltb}
use Rattle.mrc_compiler.specs.declared.ast.Segment.{Segment}
use Rattle.mrc_compiler.specs.declared.ast.Segment.TheVariants as G
use Rattle.mrc_compiler.specs.declared.encoder.OperandSize.{OperandSize}
use Rattle.mrc_compiler.specs.declared.encoder.OperandSize.TheVariants as S
use Rattle.mrc_compiler.specs.declared.operations.Operation.{Operation}
use Rattle.mrc_compiler.specs.declared.operations.Operation.TheVariants as Op
use Rattle.mrc_compiler.specs.Choose.{pick, both, either, by_size}
use Rattle.mrc_compiler.specs.Operations.{same_operation}
use Rattle.x86.specs.declared.Operand.{Operand}
use Rattle.x86.specs.declared.Operand.TheVariants as O
use Rattle.x86.specs.declared.Instruction.{Instruction}

abbrev pub instruction : Operation → OperandSize → Operand → Operand → Instruction
instruction op w a b = record { repeat = 0; operation = op; width = w; first = a; second = b }

-- the same, behind REPNE or REP
abbrev pub repeated : ℕ → Instruction → Instruction
repeated b m = record { repeat = b; operation = m.operation; width = m.width; first = m.first; second = m.second }

-- ---- memory
-- SS for rm 2, 3 and for rm 6 with mode 1 or 2, else DS
abbrev pub default_segment : ℕ → ℕ → Segment
default_segment mode rm = pick (either (eqb rm 2) (either (eqb rm 3) (both (eqb rm 6) (ltb 0 mode)))) G.SS G.DS

-- the segment that a prefix byte names
abbrev pub named : ℕ → Segment
named p = pick (eqb p 0x26) G.ES (pick (eqb p 0x2E) G.CS (pick (eqb p 0x36) G.SS G.DS))

-- the segment in effect: the prefix's, or the default where there is none (p = 0)
abbrev pub in_effect : ℕ → Segment → Segment
in_effect p default = pick (eqb p 0) default (named p)

-- the base that mode and r/m name; mode 0 with r/m 6 is an address without one, 8
abbrev pub base : ℕ → ℕ → ℕ
base mode rm = pick (both (eqb mode 0) (eqb rm 6)) 8 rm

-- ---- operations whose operands have no first and second
-- the register's number, or none
abbrev pub by_register : {A : Type 0} → Operand → (ℕ → A) → A → A
by_register O.None r e = e
by_register (O.Register n) r e = r n
by_register (O.SegmentRegister n) r e = e
by_register (O.Memory b d s) r e = e
by_register (O.Immediate v) r e = e
by_register (O.Near t) r e = e
by_register (O.Far t s) r e = e
by_register O.One r e = e

-- XCHG: of two registers the lower stands first, and a register before memory
abbrev pub exchanged : Operand → Operand → Bool
exchanged a b = by_register a (λ m. by_register b (λ n. ltb n m) false) true

-- TEST: a register stands before memory, and two registers keep their order
abbrev pub memory_first : Operand → Operand → Bool
memory_first a b = by_register a (λ m. false) (by_register b (λ n. true) false)

-- do the operands change places?
abbrev pub crossing : Operation → Operand → Operand → Bool
crossing op a b = either (both (same_operation op Op.XCHG) (exchanged a b)) (both (same_operation op Op.TEST) (memory_first a b))

-- XCHG AX,AX
abbrev pub is_nop : Operation → OperandSize → Operand → Operand → Bool
is_nop op w a b =
    both (same_operation op Op.XCHG)
    (by_register a (λ m. by_register b (λ n. by_size w false false (both (eqb m 0) (eqb n 0))) false) false)

-- operation, width and operands, brought into the one form that all the same instructions have
unfoldable pub canonical : Operation → OperandSize → Operand → Operand → Instruction
canonical op w a b =
    pick (is_nop op w a b) (instruction Op.NOP S.Unspecified O.None O.None)
    (pick (crossing op a b) (instruction op w b a) (instruction op w a b))
