-- How deep a text is, read off the text alone: the most brackets open at once. The depth of its reading is that number.
-- Assumes nothing.
use mathlib.Core.Path.{◌≡◌, ap, ap₂, ◌∙◌}
use mathlib.Core.List.{List, [], ◌∷◌, ◌++◌, append_assoc, append-nil}
use Prim.Native.Nat.{ℕ, ◌+◌, ◌-◌, ◌≤◌, max}
use native.Mathlib.Omega.{arith}
use Rattle.sum_spec.specs.Sums.{Digit, digits_text, Sum, product, plus, less, Product, factor, times, over, Factor, digits, minus, bracket, sum_text, product_text, factor_text, sum_depth, product_depth, factor_depth}
use Rattle.sum_spec.specs.Reading.{Token, digit, plus_sign, minus_sign, star, slash, opens, closes, other, token_of}
use Rattle.sum_spec.proofs.Tokens.{token_of_digit}

-- the brackets that are open behind a byte
abbrev pub open_behind : Token → ℕ → ℕ
open_behind (digit d) n = n
open_behind plus_sign n = n
open_behind minus_sign n = n
open_behind star n = n
open_behind slash n = n
open_behind opens n = n + 1
open_behind closes n = n - 1
open_behind other n = n

-- the most that are open at once, n being open and m the most so far
abbrev pub most_open : ℕ → ℕ → List ℕ → ℕ
most_open n m [] = m
most_open n m (c ∷ s) = most_open (open_behind (token_of c) n) (max m (open_behind (token_of c) n)) s

same : {n n' m m' : ℕ} (s : List ℕ) → n ≡ n' → m ≡ m' → most_open n m s ≡ most_open n' m' s
same s e f = ap₂ (λ (n m : ℕ). most_open n m s) e f

-- a byte that is no bracket
past : (n m : ℕ) (s : List ℕ) → n ≤ m → most_open n (max m n) s ≡ most_open n m s
past n m s h = ap (λ (k : ℕ). most_open n k s) (omega arith)

past_digits : (ds : List Digit) (n m : ℕ) (s : List ℕ) → n ≤ m → most_open n m (digits_text ds ++ s) ≡ most_open n m s
past_digits [] n m s h = same s (omega arith) (omega arith)
past_digits (d ∷ ds) n m s h =
    ap (λ (t : Token). most_open (open_behind t n) (max m (open_behind t n)) (digits_text ds ++ s)) (token_of_digit d)
    ∙ past n m (digits_text ds ++ s) h
    ∙ past_digits ds n m s h

mutual
  past_sum : (t : Sum) (n m : ℕ) (s : List ℕ) → n ≤ m → most_open n m (sum_text t ++ s) ≡ most_open n (max m (n + sum_depth t)) s
  past_sum (product p) n m s h = past_product p n m s h
  past_sum (plus t p) n m s h =
      rw append_assoc
      (past_sum t n m (0x2B ∷ product_text p ++ s) h
      ∙ past n (max m (n + sum_depth t)) (product_text p ++ s) (omega arith)
      ∙ past_product p n (max m (n + sum_depth t)) s (omega arith)
      ∙ ap (λ (k : ℕ). most_open n k s) (omega arith))
  past_sum (less t p) n m s h =
      rw append_assoc
      (past_sum t n m (0x2D ∷ product_text p ++ s) h
      ∙ past n (max m (n + sum_depth t)) (product_text p ++ s) (omega arith)
      ∙ past_product p n (max m (n + sum_depth t)) s (omega arith)
      ∙ ap (λ (k : ℕ). most_open n k s) (omega arith))

  past_product : (p : Product) (n m : ℕ) (s : List ℕ) → n ≤ m → most_open n m (product_text p ++ s) ≡ most_open n (max m (n + product_depth p)) s
  past_product (factor f) n m s h = past_factor f n m s h
  past_product (times p f) n m s h =
      rw append_assoc
      (past_product p n m (0x2A ∷ factor_text f ++ s) h
      ∙ past n (max m (n + product_depth p)) (factor_text f ++ s) (omega arith)
      ∙ past_factor f n (max m (n + product_depth p)) s (omega arith)
      ∙ ap (λ (k : ℕ). most_open n k s) (omega arith))
  past_product (over p f) n m s h =
      rw append_assoc
      (past_product p n m (0x2F ∷ factor_text f ++ s) h
      ∙ past n (max m (n + product_depth p)) (factor_text f ++ s) (omega arith)
      ∙ past_factor f n (max m (n + product_depth p)) s (omega arith)
      ∙ ap (λ (k : ℕ). most_open n k s) (omega arith))

  past_factor : (f : Factor) (n m : ℕ) (s : List ℕ) → n ≤ m → most_open n m (factor_text f ++ s) ≡ most_open n (max m (n + factor_depth f)) s
  past_factor (digits d ds) n m s h =
      past_digits (d ∷ ds) n m s h ∙ ap (λ (k : ℕ). most_open n k s) (omega arith)
  past_factor (minus f) n m s h = past n m (factor_text f ++ s) h ∙ past_factor f n m s h
  past_factor (bracket t) n m s h =
      rw append_assoc
      (past_sum t (n + 1) (max m (n + 1)) (0x29 ∷ s) (omega arith)
      ∙ same s (omega arith) (omega arith))

pub depth_is : (t : Sum) → most_open 0 0 (sum_text t) ≡ sum_depth t
depth_is t =
    let h = past_sum t 0 0 [] (omega arith) in
    (rw append-nil at h) ∙ omega arith
