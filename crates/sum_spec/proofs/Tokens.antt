-- The bytes of a text and their tokens: a byte's token says which byte it is.
-- Assumes nothing.
use mathlib.Core.Path.{◌≡◌, refl, sym, subst}
use mathlib.Core.Bool.{Bool, true, false}
use Prim.Native.Nat.{ℕ, zero, suc, ◌-◌, ◌≤◌, ◌<◌}
use native.Mathlib.Omega.{arith}
use lib.Dec.{T, leb, eqb}
use borrow.Author.Tests.{eqb-true, leb-true, le-leb}
use Rattle.mrc_compiler.specs.Choose.{pick, both}
use Rattle.sum_spec.specs.Sums.{Digit, d0, d1, d2, d3, d4, d5, d6, d7, d8, d9, digit_number, digit_text}
use Rattle.sum_spec.specs.Reading.{Token, digit, plus_sign, minus_sign, star, slash, opens, closes, other, digit_at, is_digit, token_of}

pub token_of_digit : (d : Digit) → token_of (digit_text d) ≡ digit d
token_of_digit d0 = refl
token_of_digit d1 = refl
token_of_digit d2 = refl
token_of_digit d3 = refl
token_of_digit d4 = refl
token_of_digit d5 = refl
token_of_digit d6 = refl
token_of_digit d7 = refl
token_of_digit d8 = refl
token_of_digit d9 = refl

pub digit_below : (d : Digit) → digit_number d < 10
digit_below d0 = omega arith
digit_below d1 = omega arith
digit_below d2 = omega arith
digit_below d3 = omega arith
digit_below d4 = omega arith
digit_below d5 = omega arith
digit_below d6 = omega arith
digit_below d7 = omega arith
digit_below d8 = omega arith
digit_below d9 = omega arith

pub digit_number_lem : (n : ℕ) → n < 10 → digit_number (digit_at n) ≡ n
digit_number_lem zero h = refl
digit_number_lem (suc zero) h = refl
digit_number_lem (suc (suc zero)) h = refl
digit_number_lem (suc (suc (suc zero))) h = refl
digit_number_lem (suc (suc (suc (suc zero)))) h = refl
digit_number_lem (suc (suc (suc (suc (suc zero))))) h = refl
digit_number_lem (suc (suc (suc (suc (suc (suc zero)))))) h = refl
digit_number_lem (suc (suc (suc (suc (suc (suc (suc zero))))))) h = refl
digit_number_lem (suc (suc (suc (suc (suc (suc (suc (suc zero)))))))) h = refl
digit_number_lem (suc (suc (suc (suc (suc (suc (suc (suc (suc zero))))))))) h = refl
digit_number_lem (suc (suc (suc (suc (suc (suc (suc (suc (suc (suc n)))))))))) h = absurd (omega arith)

-- what a byte with this token is
pub data View (c : ℕ) : Token → Type 0 where
  is_a_digit : {d : Digit} → c ≡ digit_text d → View c (digit d)
  is_plus : c ≡ 0x2B → View c plus_sign
  is_minus : c ≡ 0x2D → View c minus_sign
  is_star : c ≡ 0x2A → View c star
  is_slash : c ≡ 0x2F → View c slash
  is_open : c ≡ 0x28 → View c opens
  is_close : c ≡ 0x29 → View c closes
  is_other : is_digit c ≡ false → View c other

module _ (c : ℕ) where
  view_low : (low high : Bool) → leb 0x30 c ≡ low → leb c 0x39 ≡ high → both low high ≡ is_digit c
      → View c (pick (both low high) (digit (digit_at (c - 0x30))) other)
  view_low true true l h e =
      let n = digit_number_lem (c - 0x30) (omega (arith, leb-true c 0x39 h, leb-true 0x30 c l)) in
      is_a_digit {d = digit_at (c - 0x30)} (omega (arith, n, leb-true 0x30 c l))
  view_low true false l h e = is_other (sym e)
  view_low false true l h e = is_other (sym e)
  view_low false false l h e = is_other (sym e)

  view_close : (b : Bool) → eqb c 0x29 ≡ b → View c (pick b closes (pick (is_digit c) (digit (digit_at (c - 0x30))) other))
  view_close true e = is_close (eqb-true c 0x29 e)
  view_close false e = view_low (leb 0x30 c) (leb c 0x39) refl refl refl

  view_open : (b : Bool) → eqb c 0x28 ≡ b → View c (pick b opens (pick (eqb c 0x29) closes (pick (is_digit c) (digit (digit_at (c - 0x30))) other)))
  view_open true e = is_open (eqb-true c 0x28 e)
  view_open false e = view_close (eqb c 0x29) refl

  view_slash : (b : Bool) → eqb c 0x2F ≡ b → View c (pick b slash (pick (eqb c 0x28) opens (pick (eqb c 0x29) closes (pick (is_digit c) (digit (digit_at (c - 0x30))) other))))
  view_slash true e = is_slash (eqb-true c 0x2F e)
  view_slash false e = view_open (eqb c 0x28) refl

  view_star : (b : Bool) → eqb c 0x2A ≡ b → View c (pick b star (pick (eqb c 0x2F) slash (pick (eqb c 0x28) opens (pick (eqb c 0x29) closes (pick (is_digit c) (digit (digit_at (c - 0x30))) other)))))
  view_star true e = is_star (eqb-true c 0x2A e)
  view_star false e = view_slash (eqb c 0x2F) refl

  view_minus : (b : Bool) → eqb c 0x2D ≡ b → View c (pick b minus_sign (pick (eqb c 0x2A) star (pick (eqb c 0x2F) slash (pick (eqb c 0x28) opens (pick (eqb c 0x29) closes (pick (is_digit c) (digit (digit_at (c - 0x30))) other))))))
  view_minus true e = is_minus (eqb-true c 0x2D e)
  view_minus false e = view_star (eqb c 0x2A) refl

  view_plus : (b : Bool) → eqb c 0x2B ≡ b → View c (pick b plus_sign (pick (eqb c 0x2D) minus_sign (pick (eqb c 0x2A) star (pick (eqb c 0x2F) slash (pick (eqb c 0x28) opens (pick (eqb c 0x29) closes (pick (is_digit c) (digit (digit_at (c - 0x30))) other)))))))
  view_plus true e = is_plus (eqb-true c 0x2B e)
  view_plus false e = view_minus (eqb c 0x2D) refl

  pub view : View c (token_of c)
  view = view_plus (eqb c 0x2B) refl

pub digit_range : (c : ℕ) → 0x30 ≤ c → c ≤ 0x39 → is_digit c ≡ false → ⊥
digit_range c l h e = subst T (rw (le-leb 0x30 c l, le-leb c 0x39 h) at e) tt
