-- The reading of a text, from left to right. `Left` is what stands to the left of a factor that is due: each unfinished product,
-- sum and bracket around it. That this finds the reading where there is one, and that there is only one, is proved (proofs/Exact).
-- Definitions only.
use Rattle.std.specs.Prelude.{ℕ, ◌+◌, ◌-◌, Bool, List, [], ◌∷◌, ◌++◌, leb, eqb, get_or, ℤ, Result}
use Rattle.mrc_compiler.specs.Choose.{pick, both}
use Rattle.sum_spec.specs.declared.SumError.{SumError}
use Rattle.sum_spec.specs.Sums.{Digit, d0, d1, d2, d3, d4, d5, d6, d7, d8, d9, Sum, product, plus, less, Product, factor, times, over, Factor, digits, minus, bracket, Read, reads, no_text, answer_of_read}

-- ---- the bytes of a text
pub data Token : Type 0 where
  digit : Digit → Token
  plus_sign minus_sign star slash opens closes other : Token

abbrev pub digit_at : ℕ → Digit
digit_at n = get_or (d0 ∷ d1 ∷ d2 ∷ d3 ∷ d4 ∷ d5 ∷ d6 ∷ d7 ∷ d8 ∷ d9 ∷ []) n d0

abbrev pub is_digit : ℕ → Bool
is_digit c = both (leb 0x30 c) (leb c 0x39)

abbrev pub token_of : ℕ → Token
token_of c =
    pick (eqb c 0x2B) plus_sign (pick (eqb c 0x2D) minus_sign (pick (eqb c 0x2A) star (pick (eqb c 0x2F) slash (pick (eqb c 0x28) opens (pick (eqb c 0x29) closes (pick (is_digit c) (digit (digit_at (c - 0x30))) other))))))

-- ---- what stands to the left
mutual
  -- of a sum
  pub data Around : Type 0 where
    whole : Around
    in_bracket : Left → Around

  -- of a product
  pub data Before : Type 0 where
    first : Around → Before
    plus_then : Sum → Around → Before
    less_then : Sum → Around → Before

  -- of a factor
  pub data Left : Type 0 where
    begin : Before → Left
    times_then : Product → Before → Left
    over_then : Product → Before → Left
    minus_then : Left → Left

-- how many brackets are open there
abbrev mutual
  pub open_around : Around → ℕ
  open_around whole = 0
  open_around (in_bracket k) = open_left k + 1

  pub open_before : Before → ℕ
  open_before (first a) = open_around a
  open_before (plus_then s a) = open_around a
  open_before (less_then s a) = open_around a

  pub open_left : Left → ℕ
  open_left (begin b) = open_before b
  open_left (times_then p b) = open_before b
  open_left (over_then p b) = open_before b
  open_left (minus_then k) = open_left k

-- a product that may go on, and what stands to its left
pub record Closed : Type 0 where
  pub before : Before
  pub done : Product

-- a factor is complete
abbrev pub close_factor : Left → Factor → Closed
close_factor (begin b) f = record { before = b; done = factor f }
close_factor (times_then p b) f = record { before = b; done = times p f }
close_factor (over_then p b) f = record { before = b; done = over p f }
close_factor (minus_then k) f = close_factor k (minus f)

-- a product is complete: what stands to the left of the sum, and the sum so far
abbrev pub around_of : Before → Around
around_of (first a) = a
around_of (plus_then s a) = a
around_of (less_then s a) = a

abbrev pub sum_so_far : Before → Product → Sum
sum_so_far (first a) p = product p
sum_so_far (plus_then s a) p = plus s p
sum_so_far (less_then s a) p = less s p

-- the same of a sum that is complete
abbrev pub closed_sum : Around → Sum → Closed
closed_sum a (product p) = record { before = first a; done = p }
closed_sum a (plus s p) = record { before = plus_then s a; done = p }
closed_sum a (less s p) = record { before = less_then s a; done = p }

-- ---- the places on the way
pub data Place : Type 0 where
  due : Left → Place  -- a factor is due
  within : Left → Digit → List Digit → Place  -- in its digits
  behind : Closed → Place  -- behind a factor
  stuck : Place  -- no text begins so

-- a bracket closes the sum
abbrev pub close_sum : Around → Sum → Place
close_sum whole s = stuck
close_sum (in_bracket k) s = behind (close_factor k (bracket s))

abbrev pub after_factor : Closed → Token → Place
after_factor c (digit d) = stuck
after_factor c plus_sign = due (begin (plus_then (sum_so_far c.before c.done) (around_of c.before)))
after_factor c minus_sign = due (begin (less_then (sum_so_far c.before c.done) (around_of c.before)))
after_factor c star = due (times_then c.done c.before)
after_factor c slash = due (over_then c.done c.before)
after_factor c opens = stuck
after_factor c closes = close_sum (around_of c.before) (sum_so_far c.before c.done)
after_factor c other = stuck

abbrev pub where_due : Left → Token → Place
where_due k (digit d) = within k d []
where_due k plus_sign = stuck
where_due k minus_sign = due (minus_then k)
where_due k star = stuck
where_due k slash = stuck
where_due k opens = due (begin (first (in_bracket k)))
where_due k closes = stuck
where_due k other = stuck

abbrev pub in_digits : Left → Digit → List Digit → Token → Place
in_digits k d ds (digit e) = within k d (ds ++ e ∷ [])
in_digits k d ds plus_sign = after_factor (close_factor k (digits d ds)) plus_sign
in_digits k d ds minus_sign = after_factor (close_factor k (digits d ds)) minus_sign
in_digits k d ds star = after_factor (close_factor k (digits d ds)) star
in_digits k d ds slash = after_factor (close_factor k (digits d ds)) slash
in_digits k d ds opens = stuck
in_digits k d ds closes = after_factor (close_factor k (digits d ds)) closes
in_digits k d ds other = stuck

abbrev pub next : Place → Token → Place
next (due k) t = where_due k t
next (within k d ds) t = in_digits k d ds t
next (behind c) t = after_factor c t
next stuck t = stuck

abbrev pub run : Place → List ℕ → Place
run q [] = q
run q (c ∷ s) = run (next q (token_of c)) s

-- ---- the end of the text
abbrev pub close_text : Around → Sum → Read
close_text whole s = reads s
close_text (in_bracket k) s = no_text

abbrev pub end_behind : Closed → Read
end_behind c = close_text (around_of c.before) (sum_so_far c.before c.done)

abbrev pub end : Place → Read
end (due k) = no_text
end (within k d ds) = end_behind (close_factor k (digits d ds))
end (behind c) = end_behind c
end stuck = no_text

-- the reading of what is left of a text
abbrev pub read_from : Place → List ℕ → Read
read_from q s = end (run q s)

abbrev pub start : Place
start = due (begin (first whole))

unfoldable pub reading : List ℕ → Read
reading s = read_from start s

-- the answer to a text
unfoldable pub answer_of : List ℕ → Result ℤ SumError
answer_of s = answer_of_read (reading s)
