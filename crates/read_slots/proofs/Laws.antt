-- The cases of XCHG and TEST.
-- Assumes nothing.
use Rattle.std.specs.Prelude.{Some, None}
use mathlib.Core.Path.{◌≡◌, refl}
use mathlib.Core.Bool.{true, false}
use Prim.Native.Nat.{ℕ}
use Rattle.mrc_compiler.specs.declared.encoder.OperandSize.{OperandSize}
use Rattle.mrc_compiler.specs.declared.operations.Operation.{Operation}
use Rattle.mrc_compiler.specs.declared.operations.Operation.TheVariants.{XCHG, TEST}
use Rattle.mrc_compiler.specs.Operations.{same_operation}
use Rattle.x86.specs.declared.Operand.{Operand}
use Rattle.x86.specs.declared.Operand.TheVariants as O
use Rattle.x86.specs.Instructions.{instruction, by_register, canonical}
use Rattle.x86.proofs.Orders.{test_only, xchg_only, as_they_stand, test_crossed}
use Rattle.read_slots.specs.Slots.{register_in}

-- ---- XCHG, by which of its operands are registers
pub is_register : (a : Operand) (m : ℕ) → register_in a ≡ Some m → a ≡ O.Register m
is_register O.None m e = cc
is_register (O.Register n) m e = cc
is_register (O.SegmentRegister n) m e = cc
is_register (O.Memory b d s) m e = cc
is_register (O.Immediate v) m e = cc
is_register (O.Near v) m e = cc
is_register (O.Far v s) m e = cc
is_register O.One m e = cc

module _ (op : Operation) (w : OperandSize) (x : same_operation op XCHG ≡ true) where
  pub none_first : (a k : Operand) → register_in a ≡ None → canonical op w a k ≡ instruction op w k a
  unfolding canonical
  none_first O.None k e = rw x
  none_first (O.Register n) k e = cc
  none_first (O.SegmentRegister n) k e = rw x
  none_first (O.Memory b d s) k e = rw x
  none_first (O.Immediate v) k e = rw x
  none_first (O.Near v) k e = rw x
  none_first (O.Far v s) k e = rw x
  none_first O.One k e = rw x

  pub none_second : (m : ℕ) (a : Operand) → register_in a ≡ None → canonical op w (O.Register m) a ≡ instruction op w (O.Register m) a
  unfolding canonical
  none_second m O.None e = rw (x, xchg_only op x)
  none_second m (O.Register n) e = cc
  none_second m (O.SegmentRegister n) e = rw (x, xchg_only op x)
  none_second m (O.Memory b d s) e = rw (x, xchg_only op x)
  none_second m (O.Immediate v) e = rw (x, xchg_only op x)
  none_second m (O.Near v) e = rw (x, xchg_only op x)
  none_second m (O.Far v s) e = rw (x, xchg_only op x)
  none_second m O.One e = rw (x, xchg_only op x)

-- ---- TEST
no_register : {A : Type 0} (a : Operand) (f : ℕ → A) (e : A) → register_in a ≡ None → by_register a f e ≡ e
no_register O.None f e h = refl
no_register (O.Register n) f e h = cc
no_register (O.SegmentRegister n) f e h = refl
no_register (O.Memory b d s) f e h = refl
no_register (O.Immediate v) f e h = refl
no_register (O.Near v) f e h = refl
no_register (O.Far v s) f e h = refl
no_register O.One f e h = refl

module _ (op : Operation) (w : OperandSize) (t : same_operation op TEST ≡ true) (a b : Operand) where
  pub register_first : (m : ℕ) → register_in a ≡ Some m → canonical op w a b ≡ instruction op w a b
  register_first m e = as_they_stand op w a b (test_only op t) (rw (t, is_register a m e))

  pub register_behind : (n : ℕ) → register_in a ≡ None → register_in b ≡ Some n → canonical op w a b ≡ instruction op w b a
  register_behind n e f = test_crossed op w a b t (rw (no_register a (λ m. false) (by_register b (λ n. true) false) e, is_register b n f))

  pub no_registers : register_in a ≡ None → register_in b ≡ None → canonical op w a b ≡ instruction op w a b
  no_registers e f =
      as_they_stand op w a b (test_only op t) (rw (t, no_register a (λ m. false) (by_register b (λ n. true) false) e, no_register b (λ n. true) false f))
