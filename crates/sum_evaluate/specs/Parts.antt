-- What the evaluator's parts promise: where such a part stands at the front of a text, its value, and the text behind it.
-- Definitions only.
use Rattle.std.specs.Prelude.{◌≡◌, Bool, true, false, List, [], ◌∷◌, ◌++◌, ◌+◌, ℕ, zero, suc, ◌≤◌, min, length, ℤ, pos, neg_ℤ, Option}
use Rattle.sum_spec.specs.Sums.{sum_depth, Digit, digits_text, Sum, Product, Factor, sum_value, product_value, factor_value, decimal_from, kept, reads}
use Rattle.sum_spec.specs.Reading.{open_around, open_before, open_left, Token, digit, plus_sign, minus_sign, star, slash, opens, closes, other, token_of, Around, Before, first, Left, begin, minus_then, close_factor, closed_sum, due, behind, read_from}
use Rattle.sum_value.specs.Worth.{negations}

-- no number in reach is larger; larger ones are taken for it
abbrev pub most_number : ℕ
most_number = 2147483649

-- a number behind minus signs
abbrev pub numeral_value : ℕ → ℕ → Option ℤ
numeral_value zero n = kept (pos n)
numeral_value (suc k) n = negations k (kept (neg_ℤ (pos n)))

-- ---- where a part ends
abbrev pub is_factor_sign : Token → Bool
is_factor_sign (digit d) = false
is_factor_sign plus_sign = false
is_factor_sign minus_sign = false
is_factor_sign star = true
is_factor_sign slash = true
is_factor_sign opens = false
is_factor_sign closes = false
is_factor_sign other = false

abbrev pub is_term_sign : Token → Bool
is_term_sign (digit d) = false
is_term_sign plus_sign = true
is_term_sign minus_sign = true
is_term_sign star = true
is_term_sign slash = true
is_term_sign opens = false
is_term_sign closes = false
is_term_sign other = false

abbrev pub is_digit_sign : Token → Bool
is_digit_sign (digit d) = true
is_digit_sign plus_sign = false
is_digit_sign minus_sign = false
is_digit_sign star = false
is_digit_sign slash = false
is_digit_sign opens = false
is_digit_sign closes = false
is_digit_sign other = false

abbrev pub is_minus_sign : Token → Bool
is_minus_sign (digit d) = false
is_minus_sign plus_sign = false
is_minus_sign minus_sign = true
is_minus_sign star = false
is_minus_sign slash = false
is_minus_sign opens = false
is_minus_sign closes = false
is_minus_sign other = false

abbrev pub isnt : Bool → Bool
isnt true = false
isnt false = true

abbrev pub ends : (Token → Bool) → List ℕ → Bool
ends goes_on [] = true
ends goes_on (c ∷ s) = isnt (goes_on (token_of c))

abbrev pub ends_digits : List ℕ → Bool
ends_digits s = ends is_digit_sign s

abbrev pub ends_signs : List ℕ → Bool
ends_signs s = ends is_minus_sign s

abbrev pub ends_product : List ℕ → Bool
ends_product s = ends is_factor_sign s

abbrev pub ends_sum : List ℕ → Bool
ends_sum s = ends is_term_sign s

-- ---- what stands at the front of a text, and the rest behind it
-- the text is a front, and then the rest
pub record IsRest (text rest : List ℕ) : Type 0 where
  pub front : List ℕ
  pub text_is : text ≡ front ++ rest

-- digits, of the number n
pub record NumeralTo (text : List ℕ) (n : ℕ) (rest : List ℕ) : Type 0 where
  pub within : length rest ≤ length text
  pub number : List Digit
  pub text_is : text ≡ digits_text number ++ rest
  pub value_is : n ≡ min (decimal_from 0 number) most_number

-- n minus signs
abbrev pub signs_then : ℕ → Left → Left
signs_then zero k = k
signs_then (suc n) k = minus_then (signs_then n k)

pub record SignsTo (text : List ℕ) (n : ℕ) (rest : List ℕ) : Type 0 where
  pub within : n + length rest ≡ length text
  pub rest_is : IsRest text rest
  pub stands : (k : Left) → read_from (due k) text ≡ read_from (due (signs_then n k)) rest

-- a factor of a text that reads as t, its value v; t is no deeper than the brackets that are open and those for which there is room
pub record FactorTo (text : List ℕ) (room : ℕ) (v : Option ℤ) (rest : List ℕ) : Type 0 where
  pub within : length rest ≤ length text
  pub rest_is : IsRest text rest
  pub stands : (k : Left) (t : Sum) → sum_depth t ≤ open_left k + room → read_from (due k) text ≡ reads t
      → (f : Factor) × (v ≡ factor_value f) × (read_from (behind (close_factor k f)) rest ≡ reads t)

-- a product
pub record ProductTo (text : List ℕ) (room : ℕ) (v : Option ℤ) (rest : List ℕ) : Type 0 where
  pub within : length rest ≤ length text
  pub rest_is : IsRest text rest
  pub stands : (b : Before) (t : Sum) → sum_depth t ≤ open_before b + room → read_from (due (begin b)) text ≡ reads t
      → (p : Product) × (v ≡ product_value p) × (read_from (behind (record { before = b; done = p })) rest ≡ reads t)

-- a sum
pub record SumTo (text : List ℕ) (room : ℕ) (v : Option ℤ) (rest : List ℕ) : Type 0 where
  pub within : length rest ≤ length text
  pub rest_is : IsRest text rest
  pub stands : (a : Around) (t : Sum) → sum_depth t ≤ open_around a + room → read_from (due (begin (first a))) text ≡ reads t
      → (s : Sum) × (v ≡ sum_value s) × (read_from (behind (closed_sum a s)) rest ≡ reads t)
