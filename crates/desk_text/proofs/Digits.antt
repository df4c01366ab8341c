-- The laws of decimal digits: one more, one that is none, and that a value only grows.
-- Assumes nothing.
use Rattle.std.specs.Prelude.{None, Some}
use mathlib.Core.Path.{◌≡◌, refl, ◌∙◌}
use mathlib.Core.Bool.{Bool, true, false}
use mathlib.Core.List.{List, [], ◌∷◌}
use Prim.Native.Nat.{ℕ, zero, suc, ◌+◌, ◌*◌, ◌-◌, ◌<◌, ◌≤◌}
use native.Mathlib.Omega.{arith}
use lib.Dec.{leb}
use lib.ListN.{length, take, get_or}
use lib.Seq.{take-length}
use borrow.Author.Tests.{le-leb, lt-leb}
use Rattle.mrc_compiler.specs.Choose.{pick, both}
use Rattle.std.specs.Char.{is_ascii_digit}
use Rattle.desk_text.specs.Budget.{is_digit, are_digits, value_behind, is_budget, budget_of}

-- a digit, by std's word
by_ascii : (b : ℕ) → is_digit b ≡ is_ascii_digit b
by_ascii b = refl

grows : (n : ℕ) (l : List ℕ) → n ≤ value_behind n l
grows n [] = omega arith
grows n (b ∷ l) = let h = grows (10 * n + (b - 0x30)) l in omega arith

front_less : (n i : ℕ) (l : List ℕ) → value_behind n (take i l) ≤ value_behind n l
front_less n zero l = grows n l
front_less n (suc i) [] = omega arith
front_less n (suc i) (b ∷ l) = front_less (10 * n + (b - 0x30)) i l

value_next : (n i : ℕ) (l : List ℕ) → i < length l → value_behind n (take (i + 1) l) ≡ 10 * value_behind n (take i l) + (get_or l i 0 - 0x30)
value_next n i [] h = absurd (omega arith)
value_next n zero (b ∷ l) h = refl
value_next n (suc i) (b ∷ l) h = let q : suc i + 1 ≡ suc (i + 1) = omega arith in rw q (value_next (10 * n + (b - 0x30)) i l (omega arith))

digits_next : (i : ℕ) (l : List ℕ) → i < length l → are_digits (take i l) ≡ true → is_digit (get_or l i 0) ≡ true → are_digits (take (i + 1) l) ≡ true
digits_next i [] h e d = absurd (omega arith)
digits_next zero (b ∷ l) h e d = rw d refl
digits_next (suc i) (b ∷ l) h e d =
    let q : suc i + 1 ≡ suc (i + 1) = omega arith in
    rw q (on (is_digit b) e (λ e. digits_next i l (omega arith) e d))
  where
    on : (t : Bool) → both t (are_digits (take i l)) ≡ true → (are_digits (take i l) ≡ true → are_digits (take (i + 1) l) ≡ true) → both t (are_digits (take (i + 1) l)) ≡ true
    on true e next = next e
    on false e next = e

none : (i : ℕ) (l : List ℕ) → i < length l → is_digit (get_or l i 0) ≡ false → are_digits l ≡ false
none i [] h d = absurd (omega arith)
none zero (b ∷ l) h d = rw d refl
none (suc i) (b ∷ l) h d = rw (none i l (omega arith) d) (on (is_digit b))
  where
    on : (t : Bool) → both t false ≡ false
    on true = refl
    on false = refl

-- the first i bytes are digits of this value, of 32 bits
pub record Read (l : List ℕ) (i n : ℕ) : Type 0 where
  pub inside : i ≤ length l
  pub digits : are_digits (take i l) ≡ true
  pub value : n ≡ value_behind 0 (take i l)
  pub small : n ≤ 0xFFFFFFFF

pub read_start : (l : List ℕ) → Read l 0 0
read_start l = record { inside = omega arith; digits = refl; value = refl; small = omega arith }

pub read_next : (l : List ℕ) (i n m : ℕ) → Read l i n → i < length l → 0x30 ≤ get_or l i 0 → get_or l i 0 ≤ 0x39 → m ≡ 10 * n + (get_or l i 0 - 0x30) → m ≤ 0xFFFFFFFF → Read l (i + 1) m
read_next l i n m r less low high e small = record {
  inside = omega arith;
  digits = digits_next i l less r.digits (rw (le-leb 0x30 (get_or l i 0) low, le-leb (get_or l i 0) 0x39 high) refl);
  value = rw (value_next 0 i l less, ← r.value) e;
  small = small;
}

pub read_whole : (l : List ℕ) (i n : ℕ) → Read l i n → length l ≤ i → 1 ≤ length l → Some n ≡ budget_of l
unfolding is_budget budget_of
read_whole l i n r all some =
    let q : i ≡ length l = let h = r.inside in omega arith in
    let d : are_digits l ≡ true = rw (q, take-length l) at r.digits in
    let v : n ≡ value_behind 0 l = rw (q, take-length l) at r.value in
    rw (le-leb 1 (length l) some, d, ← v, le-leb n 0xFFFFFFFF r.small) refl

no_digit : (l : List ℕ) (i : ℕ) → i < length l → is_digit (get_or l i 0) ≡ false → None ≡ budget_of l
unfolding is_budget budget_of
no_digit l i less d = rw (none i l less d) (on (leb 1 (length l)))
  where
    on : (t : Bool) → None ≡ pick (both t false) (Some (value_behind 0 l)) None
    on true = refl
    on false = refl

pub another : (l : List ℕ) (i : ℕ) → i < length l → is_ascii_digit (get_or l i 0) ≡ false → None ≡ budget_of l
another l i less d = no_digit l i less (by_ascii (get_or l i 0) ∙ d)

pub too_large : (l : List ℕ) (i n m : ℕ) → Read l i n → i < length l → m ≡ 10 * n + (get_or l i 0 - 0x30) → 0xFFFFFFFF < m → None ≡ budget_of l
unfolding is_budget budget_of
too_large l i n m r less e large =
    let v = value_next 0 i l less in
    let w = r.value in
    let f = front_less 0 (i + 1) l in
    rw (lt-leb (value_behind 0 l) 0xFFFFFFFF (omega arith)) (on (leb 1 (length l)) (are_digits l))
  where
    on : (s t : Bool) → None ≡ pick (both s (both t false)) (Some (value_behind 0 l)) None
    on true true = refl
    on true false = refl
    on false true = refl
    on false false = refl

pub empty : (l : List ℕ) → length l ≡ 0 → None ≡ budget_of l
unfolding is_budget budget_of
empty l e = rw (lt-leb 1 (length l) (omega arith)) refl
