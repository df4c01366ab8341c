-- Sums in operands (REFERENCE 12): the grammar, the text, the depth and the value of a reading, and the answer to it.
-- A reading is a tree. A sum is made of products and a product of factors, equals from the left; a factor is digits, a minus and
-- a factor, or a bracketed sum.
-- Definitions only.
use Rattle.std.specs.Prelude.{ℕ, ◌+◌, ◌*◌, max, Bool, List, [], ◌∷◌, ◌++◌, leb, ℤ, pos, negsuc, neg_ℤ, ◌+ℤ◌, ◌-ℤ◌, ◌*ℤ◌, Option, Some, None, Result, Ok, Err}
use Rattle.std.specs.Int.Signed.{le_z, quot_z}
use Rattle.mrc_compiler.specs.Choose.{pick, both}
use Rattle.sum_spec.specs.declared.SumError.{SumError}
use Rattle.sum_spec.specs.declared.SumError.TheVariants as E

-- ---- the grammar
pub data Digit : Type 0 where
  d0 d1 d2 d3 d4 d5 d6 d7 d8 d9 : Digit

mutual
  pub data Sum : Type 0 where
    product : Product → Sum
    plus : Sum → Product → Sum
    less : Sum → Product → Sum

  pub data Product : Type 0 where
    factor : Factor → Product
    times : Product → Factor → Product
    over : Product → Factor → Product

  pub data Factor : Type 0 where
    digits : Digit → List Digit → Factor
    minus : Factor → Factor
    bracket : Sum → Factor

-- ---- the text of a reading, in ASCII
abbrev pub digit_number : Digit → ℕ
digit_number d0 = 0
digit_number d1 = 1
digit_number d2 = 2
digit_number d3 = 3
digit_number d4 = 4
digit_number d5 = 5
digit_number d6 = 6
digit_number d7 = 7
digit_number d8 = 8
digit_number d9 = 9

abbrev pub digit_text : Digit → ℕ
digit_text d = 0x30 + digit_number d

abbrev pub digits_text : List Digit → List ℕ
digits_text [] = []
digits_text (d ∷ ds) = digit_text d ∷ digits_text ds

abbrev mutual
  pub sum_text : Sum → List ℕ
  sum_text (product p) = product_text p
  sum_text (plus s p) = sum_text s ++ 0x2B ∷ product_text p
  sum_text (less s p) = sum_text s ++ 0x2D ∷ product_text p

  pub product_text : Product → List ℕ
  product_text (factor f) = factor_text f
  product_text (times p f) = product_text p ++ 0x2A ∷ factor_text f
  product_text (over p f) = product_text p ++ 0x2F ∷ factor_text f

  pub factor_text : Factor → List ℕ
  factor_text (digits d ds) = digit_text d ∷ digits_text ds
  factor_text (minus f) = 0x2D ∷ factor_text f
  factor_text (bracket s) = 0x28 ∷ sum_text s ++ 0x29 ∷ []

-- ---- how many brackets deep it is; a minus does not count
abbrev mutual
  pub sum_depth : Sum → ℕ
  sum_depth (product p) = product_depth p
  sum_depth (plus s p) = max (sum_depth s) (product_depth p)
  sum_depth (less s p) = max (sum_depth s) (product_depth p)

  pub product_depth : Product → ℕ
  product_depth (factor f) = factor_depth f
  product_depth (times p f) = max (product_depth p) (factor_depth f)
  product_depth (over p f) = max (product_depth p) (factor_depth f)

  pub factor_depth : Factor → ℕ
  factor_depth (digits d ds) = 0
  factor_depth (minus f) = factor_depth f
  factor_depth (bracket s) = sum_depth s + 1

abbrev pub most_depth : ℕ
most_depth = 16

-- ---- its value
abbrev pub is_i_32 : ℤ → Bool
is_i_32 z = both (le_z (negsuc 2147483647) z) (le_z z (pos 2147483647))

-- every intermediate value is an i32
abbrev pub kept : ℤ → Option ℤ
kept z = pick (is_i_32 z) (Some z) None

-- a decimal number, read on from n
abbrev pub decimal_from : ℕ → List Digit → ℕ
decimal_from n [] = n
decimal_from n (d ∷ ds) = decimal_from (n * 10 + digit_number d) ds

abbrev pub decimal : Digit → List Digit → ℕ
decimal d ds = decimal_from (digit_number d) ds

abbrev pub negated : Option ℤ → Option ℤ
negated (Some x) = kept (neg_ℤ x)
negated None = None

abbrev pub sum_of : Option ℤ → Option ℤ → Option ℤ
sum_of (Some x) (Some y) = kept (x +ℤ y)
sum_of (Some x) None = None
sum_of None w = None

abbrev pub difference_of : Option ℤ → Option ℤ → Option ℤ
difference_of (Some x) (Some y) = kept (x -ℤ y)
difference_of (Some x) None = None
difference_of None w = None

abbrev pub product_of : Option ℤ → Option ℤ → Option ℤ
product_of (Some x) (Some y) = kept (x *ℤ y)
product_of (Some x) None = None
product_of None w = None

-- cut toward zero
abbrev pub quotient : ℤ → ℤ → Option ℤ
quotient x (pos ℕ.zero) = None
quotient x (pos (ℕ.suc n)) = kept (quot_z x (pos (ℕ.suc n)))
quotient x (negsuc n) = kept (quot_z x (negsuc n))

abbrev pub quotient_of : Option ℤ → Option ℤ → Option ℤ
quotient_of (Some x) (Some y) = quotient x y
quotient_of (Some x) None = None
quotient_of None w = None

-- the value of a minus and a factor that has the value v: a minus directly before digits is taken with them
abbrev pub minus_of : Factor → Option ℤ → Option ℤ
minus_of (digits d ds) v = kept (neg_ℤ (pos (decimal d ds)))
minus_of (minus f) v = negated v
minus_of (bracket s) v = negated v

abbrev mutual
  pub sum_value : Sum → Option ℤ
  sum_value (product p) = product_value p
  sum_value (plus s p) = sum_of (sum_value s) (product_value p)
  sum_value (less s p) = difference_of (sum_value s) (product_value p)

  pub product_value : Product → Option ℤ
  product_value (factor f) = factor_value f
  product_value (times p f) = product_of (product_value p) (factor_value f)
  product_value (over p f) = quotient_of (product_value p) (factor_value f)

  pub factor_value : Factor → Option ℤ
  factor_value (digits d ds) = kept (pos (decimal d ds))
  factor_value (minus f) = minus_of f (factor_value f)
  factor_value (bracket s) = sum_value s

-- ---- the answer: 16 is asked first, 17 next, 18 last
pub data Read : Type 0 where
  reads : Sum → Read
  no_text : Read

abbrev pub answer_of_value : Option ℤ → Result ℤ SumError
answer_of_value (Some x) = Ok x
answer_of_value None = Err E.OutOfRange

abbrev pub answer_of_read : Read → Result ℤ SumError
answer_of_read (reads s) = pick (leb (sum_depth s) most_depth) (answer_of_value (sum_value s)) (Err E.TooDeep)
answer_of_read no_text = Err E.NoText

-- document 02's numbers
abbrev pub number_of : SumError → ℕ
number_of E.NoText = 16
number_of E.TooDeep = 17
number_of E.OutOfRange = 18

pub data Numbered : Type 0 where
  value : ℤ → Numbered
  refused : ℕ → Numbered

abbrev pub numbered : Result ℤ SumError → Numbered
numbered (Ok x) = value x
numbered (Err e) = refused (number_of e)
