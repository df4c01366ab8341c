-- Which operands change places in the canonical instruction: XCHG's by their order, TEST's where memory stands before a register.
-- Assumes nothing.
use mathlib.Core.Path.{◌≡◌}
use Prim.Native.Nat.{ℕ}
use mathlib.Core.Bool.{true, false}
use borrow.Author.Tests.{eqb-true}
use Rattle.mrc_compiler.specs.declared.ast.Segment.{Segment}
use Rattle.mrc_compiler.specs.declared.encoder.OperandSize.{OperandSize}
use Rattle.mrc_compiler.specs.declared.operations.Operation.{Operation}
use Rattle.mrc_compiler.specs.declared.operations.Operation.TheVariants as Op
use Rattle.mrc_compiler.specs.Choose.{both}
use Rattle.mrc_compiler.specs.Operations.{number_of, same_operation}
use Rattle.x86.specs.declared.Operand.{Operand}
use Rattle.x86.specs.declared.Operand.TheVariants as O
use Rattle.x86.specs.Instructions.{instruction, memory_first, canonical}

-- TEST is not XCHG
pub test_only : (op : Operation) → same_operation op Op.TEST ≡ true → same_operation op Op.XCHG ≡ false
unfolding number_of
test_only op e = let n : number_of op ≡ 43 = eqb-true (number_of op) 43 e in rw n

pub xchg_only : (op : Operation) → same_operation op Op.XCHG ≡ true → same_operation op Op.TEST ≡ false
unfolding number_of
xchg_only op e = let n : number_of op ≡ 3 = eqb-true (number_of op) 3 e in rw n

-- all others stand as they are
pub as_they_stand : (op : Operation) (w : OperandSize) (a b : Operand) → same_operation op Op.XCHG ≡ false → both (same_operation op Op.TEST) (memory_first a b) ≡ false
    → canonical op w a b ≡ instruction op w a b
unfolding canonical
as_they_stand op w a b x t = rw (x, t)

-- memory before a register, in TEST
pub test_crossed : (op : Operation) (w : OperandSize) (a b : Operand) → same_operation op Op.TEST ≡ true → memory_first a b ≡ true → canonical op w a b ≡ instruction op w b a
unfolding canonical
test_crossed op w a b t m = rw (test_only op t, t, m)

pub test_either : (op : Operation) → same_operation op Op.TEST ≡ true → (w : OperandSize) (m v d : ℕ) (g : Segment)
    → canonical op w (O.Memory v d g) (O.Register m) ≡ canonical op w (O.Register m) (O.Memory v d g)
unfolding canonical
test_either op t w m v d g = rw (test_only op t, t)
