-- Bringing an instruction into its canonical form keeps what the operands sum up to.
-- Assumes nothing.
use mathlib.Core.Path.{◌≡◌, refl, ◌∙◌, ap}
use Prim.Native.Nat.{ℕ, ◌+◌}
use native.Mathlib.Omega.{arith}
use mathlib.Core.Bool.{Bool, true, false}
use lib.Dec.{eqb}
use Rattle.mrc_compiler.specs.declared.encoder.OperandSize.{OperandSize}
use Rattle.mrc_compiler.specs.declared.encoder.OperandSize.TheVariants as S
use Rattle.mrc_compiler.specs.declared.operations.Operation.{Operation}
use Rattle.mrc_compiler.specs.declared.operations.Operation.TheVariants as Op
use Rattle.mrc_compiler.specs.Choose.{pick, both, by_size}
use Rattle.mrc_compiler.specs.Operations.{same_operation}
use Rattle.x86.specs.declared.Operand.{Operand}
use Rattle.x86.specs.declared.Operand.TheVariants as O
use Rattle.x86.specs.declared.Instruction.{Instruction}
use Rattle.x86.specs.Instructions.{instruction, crossing, by_register, is_nop, canonical}

false-true : {P : Type 0} → false ≡ true → P
false-true e = let z : ◌≡◌ {A = ℕ} 0 1 = cc in absurd (omega arith)

is_register : (a : Operand) (f : ℕ → Bool) → by_register a f false ≡ true → (n : ℕ) × (a ≡ O.Register n) × (f n ≡ true)
is_register O.None f e = false-true e
is_register (O.Register n) f e = (n, refl, e)
is_register (O.SegmentRegister n) f e = false-true e
is_register (O.Memory n d s) f e = false-true e
is_register (O.Immediate n) f e = false-true e
is_register (O.Near n) f e = false-true e
is_register (O.Far n s) f e = false-true e
is_register O.One f e = false-true e

-- a number of an operand that no register has
module _ (g : Operand → ℕ) (nothing : g O.None ≡ 0) (register : (n : ℕ) → g (O.Register n) ≡ 0) where
  abbrev sum : Instruction → ℕ
  sum m = g m.first + g m.second

  both_none : (w : OperandSize) (a b : Operand) → by_register a (λ m. by_register b (λ n. by_size w false false (both (eqb m 0) (eqb n 0))) false) false ≡ true
      → g a + g b ≡ 0
  both_none w a b e =
      let (m, i, d) = is_register a (λ m. by_register b (λ n. by_size w false false (both (eqb m 0) (eqb n 0))) false) e in
      let (n, j, _) = is_register b (λ n. by_size w false false (both (eqb m 0) (eqb n 0))) d in
      omega (arith, ap g i ∙ register m, ap g j ∙ register n)

  nop_none : (q : Bool) (w : OperandSize) (a b : Operand)
      → both q (by_register a (λ m. by_register b (λ n. by_size w false false (both (eqb m 0) (eqb n 0))) false) false) ≡ true → g a + g b ≡ 0
  nop_none true w a b e = both_none w a b e
  nop_none false w a b e = false-true e

  pub canonical-sum : (op : Operation) (w : OperandSize) (a b : Operand) → sum (canonical op w a b) ≡ g a + g b
  unfolding canonical
  canonical-sum op w a b = go (is_nop op w a b) (crossing op a b) refl
    where
      go : (i j : Bool) → is_nop op w a b ≡ i
          → sum (pick i (instruction Op.NOP S.Unspecified O.None O.None) (pick j (instruction op w b a) (instruction op w a b))) ≡ g a + g b
      go true j e = omega (arith, nothing, nop_none (same_operation op Op.XCHG) w a b e)
      go false true e = omega arith
      go false false e = refl
