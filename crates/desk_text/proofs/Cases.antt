-- Texts of document 02, No. 10, in ASCII, and budgets.
-- Assumes nothing.
use Rattle.std.specs.Prelude.{None, Some}
use mathlib.Core.Path.{◌≡◌, refl}
use mathlib.Core.Bool.{true, false}
use mathlib.Core.List.{List, [], ◌∷◌, ◌++◌}
use Prim.Native.Nat.{ℕ}
use Rattle.desk_run.specs.declared.RunError.TheVariants as N
use Rattle.desk_run.specs.Running.{halted, refused}
use Rattle.text_line.specs.Numbers.{hex_byte, digit_from, decimal, long_decimal}
use Rattle.desk_text.specs.Budget.{is_budget, budget_of}
use Rattle.desk_text.specs.Lines.{pairs_text, text_by, fits}

-- "halted " and "refused "
abbrev halts : List ℕ
halts = 0x68 ∷ 0x61 ∷ 0x6C ∷ 0x74 ∷ 0x65 ∷ 0x64 ∷ 0x20 ∷ []

abbrev refuses : List ℕ
refuses = 0x72 ∷ 0x65 ∷ 0x66 ∷ 0x75 ∷ 0x73 ∷ 0x65 ∷ 0x64 ∷ 0x20 ∷ []

record Texts : Type 0 where
  -- "61 01", "0A FF", "halted 13107601"
  two_pairs : text_by (halted 13107601 (0x61 ∷ 1 ∷ 0x0A ∷ 0xFF ∷ []))
      ≡ (0x36 ∷ 0x31 ∷ 0x20 ∷ 0x30 ∷ 0x31 ∷ 0x0A ∷ 0x30 ∷ 0x41 ∷ 0x20 ∷ 0x46 ∷ 0x46 ∷ 0x0A ∷ []) ++ (halts ++ (0x31 ∷ 0x33 ∷ 0x31 ∷ 0x30 ∷ 0x37 ∷ 0x36 ∷ 0x30 ∷ 0x31 ∷ 0x0A ∷ []))
  no_pair : text_by (halted 1 []) ≡ halts ++ (0x31 ∷ 0x0A ∷ [])
  longest_count : text_by (halted 4294967295 []) ≡ halts ++ (0x34 ∷ 0x32 ∷ 0x39 ∷ 0x34 ∷ 0x39 ∷ 0x36 ∷ 0x37 ∷ 0x32 ∷ 0x39 ∷ 0x35 ∷ 0x0A ∷ [])
  refused_21 : text_by (refused N.NotCarriedOut) ≡ refuses ++ (0x32 ∷ 0x31 ∷ 0x0A ∷ [])
  refused_22 : text_by (refused N.BudgetSpent) ≡ refuses ++ (0x32 ∷ 0x32 ∷ 0x0A ∷ [])
  refused_9 : text_by (refused N.LogTooShort) ≡ refuses ++ (0x39 ∷ 0x0A ∷ [])
  -- 32,768 pairs of six bytes, and 18 for the last line
  most : fits 65536 196626 ≡ true
  byte_too_few : fits 65536 196625 ≡ false
  more : fits 65537 1000000 ≡ false

record Budgets : Type 0 where
  -- "0", "007", "4294967295"
  zero : budget_of (0x30 ∷ []) ≡ Some 0
  leading_zeros : budget_of (0x30 ∷ 0x30 ∷ 0x37 ∷ []) ≡ Some 7
  greatest : budget_of (0x34 ∷ 0x32 ∷ 0x39 ∷ 0x34 ∷ 0x39 ∷ 0x36 ∷ 0x37 ∷ 0x32 ∷ 0x39 ∷ 0x35 ∷ []) ≡ Some 4294967295
  -- "4294967296", the empty text, "-1", "+1", "1 ", "/", ":"
  one_more : budget_of (0x34 ∷ 0x32 ∷ 0x39 ∷ 0x34 ∷ 0x39 ∷ 0x36 ∷ 0x37 ∷ 0x32 ∷ 0x39 ∷ 0x36 ∷ []) ≡ None
  empty : budget_of [] ≡ None
  minus : budget_of (0x2D ∷ 0x31 ∷ []) ≡ None
  plus : budget_of (0x2B ∷ 0x31 ∷ []) ≡ None
  blank : budget_of (0x31 ∷ 0x20 ∷ []) ≡ None
  below_0 : budget_of (0x2F ∷ []) ≡ None
  above_9 : budget_of (0x3A ∷ []) ≡ None

texts : Texts
unfolding pairs_text fits hex_byte decimal long_decimal digit_from
texts = record {
  two_pairs = refl;
  no_pair = refl;
  longest_count = refl;
  refused_21 = refl;
  refused_22 = refl;
  refused_9 = refl;
  most = refl;
  byte_too_few = refl;
  more = refl;
}

budgets : Budgets
unfolding is_budget budget_of
budgets = record {
  zero = refl;
  leading_zeros = refl;
  greatest = refl;
  one_more = refl;
  empty = refl;
  minus = refl;
  plus = refl;
  blank = refl;
  below_0 = refl;
  above_9 = refl;
}
