-- A conjunction whose second part holds, and the numbers of the string operations.
-- Assumes nothing.
use mathlib.Core.Path.{◌≡◌, refl, sym, ◌∙◌, ap}
use mathlib.Core.Bool.{Bool, true, false}
use Prim.Native.Nat.{ℕ, ◌<◌}
use native.Mathlib.Omega.{arith}
use lib.Dec.{T, eqb, leb}
use borrow.Author.Tests.{ne_eqb, leb-true, leb-false}
use Rattle.mrc_compiler.specs.declared.operations.Operation.{Operation}
use Rattle.mrc_compiler.specs.Choose.{both, either}
use Rattle.mrc_compiler.specs.Operations.{number_of, is_string}
use Rattle.x86.proofs.Tests.{same, same_is, up_to, up_to_at}

pub both_yes : (t : Bool) → both t true ≡ t
both_yes true = refl
both_yes false = refl

both_no : (t : Bool) → both t false ≡ false
both_no true = refl
both_no false = refl

abbrev is_one : ℕ → Bool
is_one n =
    either (eqb n 48) (either (eqb n 49) (either (eqb n 50) (either (eqb n 51) (either (eqb n 52)
    (either (eqb n 53) (either (eqb n 54) (either (eqb n 55) (either (eqb n 56) (either (eqb n 57) false)))))))))

abbrev between : ℕ → Bool
between n = both (leb 48 n) (leb n 57)

numbers : T (up_to 58 (λ n. same (is_one n) (between n)))
numbers = tt

above : (n : ℕ) → 57 < n → is_one n ≡ false
above n h =
    rw (
      ne_eqb n 48 (λ e. omega (arith, h, e)),
      ne_eqb n 49 (λ e. omega (arith, h, e)),
      ne_eqb n 50 (λ e. omega (arith, h, e)),
      ne_eqb n 51 (λ e. omega (arith, h, e)),
      ne_eqb n 52 (λ e. omega (arith, h, e)),
      ne_eqb n 53 (λ e. omega (arith, h, e)),
      ne_eqb n 54 (λ e. omega (arith, h, e)),
      ne_eqb n 55 (λ e. omega (arith, h, e)),
      ne_eqb n 56 (λ e. omega (arith, h, e)),
      ne_eqb n 57 (λ e. omega (arith, h, e)),
    ) refl

one_between : (n : ℕ) → is_one n ≡ between n
one_between n = go (leb n 57) refl
  where
    go : (b : Bool) → leb n 57 ≡ b → is_one n ≡ both (leb 48 n) b
    go true e = same_is (is_one n) (between n) (up_to_at 58 (λ n. same (is_one n) (between n)) numbers n (omega (arith, leb-true n 57 e))) ∙ ap (both (leb 48 n)) e
    go false e = above n (leb-false n 57 e) ∙ sym (both_no (leb 48 n))

pub string_number : (op : Operation) (n : ℕ) → n ≡ number_of op → is_string op ≡ both (leb 48 n) (leb n 57)
unfolding is_string number_of
string_number op n e = rw e (one_between (number_of op))
