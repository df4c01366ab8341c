-- A start that is possible where the displacement is as short as a form's is possible for the displacement that the form reads.
-- Assumes nothing.
use mathlib.Core.Path.{◌≡◌, refl}
use Prim.Native.Nat.{ℕ, zero, suc, ◌+◌, ◌<◌}
use native.Mathlib.Omega.{arith}
use mathlib.Core.Bool.{Bool, true, false}
use mathlib.Core.List.{List}
use lib.Dec.{T, eqb, ltb, eqb→eq, ltb→lt}
use lib.ListN.{get_or}
use borrow.Author.Tests.{le-ltb, le-leb, ltb-false}
use Rattle.mrc_compiler.specs.Choose.{pick, both, isnt}
use Rattle.x86.specs.declared.operands.OperandType.{OperandType}
use Rattle.x86.specs.Operands.{in_memory}
use Rattle.x86.specs.Reading.{displacement_at}
use Rattle.x86.specs.Listing.{Bytes}
use Rattle.x86.proofs.Tests.{both_parts}
use Rattle.list_spec.specs.declared.Parts.{Parts}
use Rattle.list_spec.specs.Parts.{is_short}
use Rattle.list_spec.specs.Possible.{is_a, mode_for, mode_fits, encoding_fits, start_fits}
use Rattle.list_spec.proofs.Choices.{both_true}

-- ---- a displacement of no byte, and of one at most
pub no_bytes : (n : ℕ) (t : List ℕ) → T (eqb n 0) → T (eqb (displacement_at n t) 0)
no_bytes zero t h = tt
no_bytes (suc n) t h = let e = eqb→eq (suc n) 0 h in absurd (omega arith)

extended_short : (b : ℕ) (q : Bool) → ltb b 128 ≡ q → b < 256 → T (is_short (pick q b (b + 65280)))
extended_short b true e h = rw e tt
extended_short b false e h =
    let l = ltb-false b 128 e in rw (le-ltb (b + 65280) 128 (omega arith), le-leb 65408 (b + 65280) (omega arith)) tt

pub short_bytes : (n : ℕ) (t : List ℕ) → Bytes t → T (ltb n 2) → T (is_short (displacement_at n t))
short_bytes zero t bs h = tt
short_bytes (suc zero) t bs h = extended_short (get_or t 0 0) (ltb (get_or t 0 0) 128) refl (bs 0)
short_bytes (suc (suc n)) t bs h = let l = ltb→lt (suc (suc n)) 2 h in absurd (omega arith)

-- ---- shorter displacements have more modes
picks : (q : Bool) (a b c d : Bool) → (T a → T c) → (T b → T d) → T (pick q a b) → T (pick q c d)
picks true a b c d f g = f
picks false a b c d f g = g

behind : (p a b : Bool) → (T a → T b) → T (both p a) → T (both p b)
behind true a b f = f
behind false a b f = λ t. t

before : (p a b : Bool) → (T a → T b) → T (both a p) → T (both b p)
before p a b f t = let (x, y) = both_parts a p t in both_true b p (f x) y

module _ (zero short zero₂ short₂ : Bool) (f : T zero → T zero₂) (g : T short → T short₂) where
  mode_for_lem : (n k : ℕ) → T (mode_for n zero short k) → T (mode_for n zero₂ short₂ k)
  unfolding mode_for
  mode_for_lem n k =
      picks (eqb n 8) (eqb k 0) _ (eqb k 0) _ (λ t. t)
      (picks (eqb k 0) _ _ _ _ (behind (isnt (eqb n 6)) zero zero₂ f) (picks (eqb k 1) short true short₂ true g (λ t. t)))

  mode_fits_lem : (a b : OperandType) (k : ℕ) → T (mode_fits a b zero short k) → T (mode_fits a b zero₂ short₂ k)
  unfolding mode_fits
  mode_fits_lem a b k = picks (is_a in_memory a) _ _ _ _ (mode_for_lem a.number k) (picks (is_a in_memory b) _ true _ true (mode_for_lem b.number k) (λ t. t))

  pub start_fits_lem : (q : Parts) (encoding k : ℕ) → T (start_fits q zero short encoding k) → T (start_fits q zero₂ short₂ encoding k)
  unfolding start_fits
  start_fits_lem q encoding k =
      before (encoding_fits q.group q.base q.width q.first q.second encoding k)
      (mode_fits q.first q.second zero short k) (mode_fits q.first q.second zero₂ short₂ k) (mode_fits_lem q.first q.second k)
