-- Laws of i32 values against the limits of a type. A local holds bits, so what the code reads of a value z is `to_z w32 (of_z w32 z)`.
-- Assumes nothing.
use mathlib.Core.Path.{◌≡◌, refl, sym, ◌∙◌, subst}
use mathlib.Core.Logic.{◌⊎◌, inl, inr}
use mathlib.Core.Bool.{Bool, true, false, not, ◌&&◌}
use Prim.Native.Nat.{ℕ, suc, ◌<◌, ◌≤◌}
use native.Mathlib.Omega.{arith}
use native.Mathlib.Nat.{mod-eq_of_lt}
use lib.Dec.{T, eqb, leb}
use lib.IntN.{ℤ, pos, negsuc, nat_abs}
use lib.Signed.{mag, le_z, non_neg}
use mir.Syntax.{Width, w16, w32}
use mir.Val.{SFits, to_z, of_z}
use mir.ValLaws.{to_z-of_z}
use borrow.Author.Tests.{leb-true, not-false}
use Rattle.mrc_compiler.specs.declared.ast.Segment.{Segment}
use Rattle.mrc_compiler.specs.declared.ast.Segment.TheVariants as G
use Rattle.mrc_compiler.specs.Choose.{both, isnt}
use Rattle.mrc_compiler.specs.Values.{within, mod_z}
use Rattle.mrc_compiler.specs.Registers.{segment}

-- ---- the two tests of a value_is function, on a signed value of any width
module _ (w : Width) (lo hi z : ℤ) (f : SFits w z) where
  pub low_holds : le_z lo (to_z w (of_z w z)) ≡ true → le_z (to_z w (of_z w z)) hi ≡ within lo hi z
  low_holds t = let e = to_z-of_z w z f in simp (e, rw e at t)

  pub low_fails : le_z lo (to_z w (of_z w z)) ≡ false → le_z lo (to_z w (of_z w z)) ≡ within lo hi z
  low_fails t = let e = to_z-of_z w z f in simp (e, rw e at t)

-- ---- what a value between the limits of a type gives
and_true : (a b : Bool) → a && b ≡ true → (a ≡ true) × (b ≡ true)
and_true true b t = (refl, t)
and_true false b t = absurd (subst T (sym t) tt)

-- -(n + 1) to n
pub mag_below : (n : ℕ) (z : ℤ) → within (negsuc n) (pos n) z ≡ true → mag z ≤ n
mag_below n (pos k) t = leb-true k n t
mag_below n (negsuc k) t = leb-true k n (and_true (leb k n) true t).0

-- 0 to n
abs_below : (n : ℕ) (z : ℤ) → within (pos 0) (pos n) z ≡ true → T (non_neg z) × (nat_abs z ≤ n)
abs_below n (pos k) t = (tt, leb-true k n (and_true (leb 0 k) (leb k n) t).1)
abs_below n (negsuc k) t = absurd (subst T (sym t) tt)

abs_mod : (n : ℕ) (z : ℤ) → within (pos 0) (pos n) z ≡ true → nat_abs z ≡ mod_z (suc n) z
abs_mod n (pos k) t = sym (mod-eq_of_lt (omega (arith, leb-true k n (and_true (leb 0 k) (leb k n) t).1)))
abs_mod n (negsuc k) t = absurd (subst T (sym t) tt)

-- ---- an i16 as an i32
module _ (z : ℤ) (f : SFits w16 z) where
  wider : SFits w32 z
  wider = record { sfits = omega (arith, f.sfits) }

  pub wide_fits : SFits w32 (to_z w16 (of_z w16 z))
  wide_fits = rw (to_z-of_z w16 z f) wider

  pub wide_same : to_z w32 (of_z w32 (to_z w16 (of_z w16 z))) ≡ z
  wide_same = rw (to_z-of_z w16 z f) (to_z-of_z w32 z wider)

-- ---- an indirect address that has a displacement: its value is not 0 (Q), or it is and the r/m is 6 (P); r is what the test of the value answered
pub displaced : (d : ℤ) (rm : ℕ) {r : Bool} {P Q : Type 0}
    → r ≡ within (pos 0) (pos 0) d
    → (P → (r ≡ true) × (not (eqb rm 6) ≡ false))
    → (Q → r ≡ false)
    → P ⊎ Q
    → both (within (pos 0) (pos 0) d) (isnt (eqb rm 6)) ≡ false
displaced d rm e p q (inl h) = rw (sym e ∙ (p h).0, not-false (eqb rm 6) (p h).1)
displaced d rm e p q (inr h) = rw (sym e ∙ q h)

-- ---- a segment's number
pub segment_below : (seg : Segment) → segment seg < 4
segment_below G.ES = omega arith
segment_below G.CS = omega arith
segment_below G.SS = omega arith
segment_below G.DS = omega arith
