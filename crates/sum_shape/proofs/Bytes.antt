-- A step opens at most one bracket.
-- Assumes nothing.
use mathlib.Core.Bool.{Bool, true, false}
use Prim.Native.Nat.{ℕ, ◌+◌, ◌-◌, ◌≤◌}
use native.Mathlib.Omega.{arith}
use lib.Dec.{eqb}
use Rattle.mrc_compiler.specs.Choose.{pick}
use Rattle.sum_shape.specs.declared.Kind.{Kind}
use Rattle.sum_shape.specs.declared.Kind.TheVariants as K
use Rattle.sum_shape.specs.declared.Stand.{Stand}
use Rattle.sum_shape.specs.declared.Stand.TheVariants as S
use Rattle.sum_shape.specs.Pass.{stuck_pass, pass_at, pass_after, pass_due, pass_digits, pass_by}

after_depth : (d m : ℕ) (k : Kind) → (pass_after d m k).depth ≤ d + 1
after_depth d m K.Digit = omega arith
after_depth d m K.Operator = omega arith
after_depth d m K.Minus = omega arith
after_depth d m K.Opens = omega arith
after_depth d m K.Closes = go (eqb d 0)
  where
    go : (b : Bool) → (pick b stuck_pass (pass_at S.Behind (d - 1) m)).depth ≤ d + 1
    go true = omega arith
    go false = omega arith
after_depth d m K.Other = omega arith

due_depth : (d m : ℕ) (k : Kind) → (pass_due d m k).depth ≤ d + 1
due_depth d m K.Digit = omega arith
due_depth d m K.Operator = omega arith
due_depth d m K.Minus = omega arith
due_depth d m K.Opens = omega arith
due_depth d m K.Closes = omega arith
due_depth d m K.Other = omega arith

digits_depth : (d m : ℕ) (k : Kind) → (pass_digits d m k).depth ≤ d + 1
digits_depth d m K.Digit = omega arith
digits_depth d m K.Operator = omega arith
digits_depth d m K.Minus = omega arith
digits_depth d m K.Opens = omega arith
digits_depth d m K.Closes = after_depth d m K.Closes
digits_depth d m K.Other = omega arith

pub by_depth : (s : Stand) (d m : ℕ) (k : Kind) → (pass_by s d m k).depth ≤ d + 1
by_depth S.Due d m k = due_depth d m k
by_depth S.Digits d m k = digits_depth d m k
by_depth S.Behind d m k = after_depth d m k
by_depth S.Stuck d m k = omega arith
