-- Which of the seven an operation is.
-- Assumes nothing.
use mathlib.Core.Path.{◌≡◌, refl, sym, subst}
use mathlib.Core.Bool.{Bool, true, false}
use mathlib.Core.List.{List, [], ◌∷◌}
use Prim.Native.Nat.{ℕ}
use native.Mathlib.Omega.{arith}
use lib.Dec.{T}
use Rattle.mrc_compiler.specs.declared.operations.Operation.{Operation}
use Rattle.mrc_compiler.specs.Choose.{either}
use Rattle.mrc_compiler.specs.Operations.{same_operation, one_of}
use Rattle.mrc_compiler.proofs.Numbers.{operation_eq}
use Rattle.shift_copies.specs.Shifting.{Shift, rol, ror, rcl, rcr, shl, shr, sar, operation_of, is_shift}

abbrev Named : Operation → Type 0
Named op = (s : Shift) × (op ≡ operation_of s)

first_or : (s : Shift) (op : Operation) (rest : Bool) → (rest ≡ true → Named op) → either (same_operation op (operation_of s)) rest ≡ true → Named op
first_or s op rest later = go (same_operation op (operation_of s)) refl
  where
    go : (b : Bool) → same_operation op (operation_of s) ≡ b → either b rest ≡ true → Named op
    go true e h = (s, operation_eq op (operation_of s) (subst T (sym e) tt))
    go false e h = later h

none_left : {op : Operation} → false ≡ true → Named op
none_left e = absurd (subst T (sym e) tt)

pub named : (op : Operation) → is_shift op ≡ true → Named op
unfolding is_shift
named op = first_or rol op _ (first_or ror op _ (first_or rcl op _ (first_or rcr op _ (first_or shl op _ (first_or shr op _ (first_or sar op _ none_left))))))
