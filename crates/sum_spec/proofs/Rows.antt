-- Texts and the answers to them (document 02, No. 6).
-- Assumes nothing.
use mathlib.Core.Path.{◌≡◌, refl}
use mathlib.Core.List.{List, [], ◌∷◌}
use Prim.Native.Nat.{ℕ}
use Prim.Native.Char.{code}
use Prim.Native.String as S
use Prim.Native.String.{String}
use lib.IntN.{pos, negsuc}
use Rattle.sum_spec.specs.Sums.{Numbered, value, refused, numbered}
use Rattle.sum_spec.specs.Reading.{reading, answer_of}

-- the bytes of an ASCII text
abbrev ascii : String → List ℕ
ascii S.[] = []
ascii (S.◌∷◌ c s) = code c ∷ ascii s

pub record Row : Type 0 where
  pub text : String
  pub answer : Numbered

abbrev row : String → Numbered → Row
row t a = record { text = t; answer = a }

abbrev rows : List Row
rows =
    -- document 02's own
    row "3*(40+2)-1" (value (pos 125))
    ∷ row "-2147483648" (value (negsuc 2147483647))
    ∷ row "1-2147483648" (refused 18)
    -- a number is an intermediate value; leading zeros are digits
    ∷ row "2147483648-1" (refused 18)
    ∷ row "007" (value (pos 7))
    ∷ row "00000000000000000000002147483647" (value (pos 2147483647))
    ∷ row "99999999999999999999" (refused 18)
    -- a minus directly before a number is taken with it, and no other
    ∷ row "-(2147483648)" (refused 18)
    ∷ row "--2147483648" (refused 18)
    ∷ row "(-2147483648)" (value (negsuc 2147483647))
    ∷ row "1*-2147483648" (value (negsuc 2147483647))
    ∷ row "-1--2147483648" (value (pos 2147483647))
    ∷ row "---2147483648" (refused 18)
    ∷ row "--2147483647" (value (pos 2147483647))
    ∷ row "-2147483649" (refused 18)
    -- 16 before 17, 17 before 18
    ∷ row "(((((((((((((((((1))))))))))))))))" (refused 16)
    ∷ row "(((((((((((((((((1/0)))))))))))))))))" (refused 17)
    ∷ row "((((((((((((((((1))))))))))))))))" (value (pos 1))
    ∷ row "((((((((((((((((1/0))))))))))))))))" (refused 18)
    ∷ row "(((((((((((((((((1)))))))))))))))))" (refused 17)
    ∷ row "(((((((((((((((((1))))))))))))))))))" (refused 16)
    -- a minus does not count as depth
    ∷ row "-----------------1" (value (negsuc 0))
    ∷ row "-(-(-(-(-(-(-(-(-(-(-(-(-(-(-(-(1))))))))))))))))" (value (pos 1))
    ∷ row "-(-(-(-(-(-(-(-(-(-(-(-(-(-(-(-(-(1)))))))))))))))))" (refused 17)
    -- no texts
    ∷ row "" (refused 16)
    ∷ row "+1" (refused 16)
    ∷ row "1++1" (refused 16)
    ∷ row "2(3)" (refused 16)
    ∷ row "()" (refused 16)
    ∷ row "1\n" (refused 16)
    ∷ row "1 +1" (refused 16)
    ∷ row "1)" (refused 16)
    ∷ row "(1" (refused 16)
    ∷ row "(1)(2)" (refused 16)
    ∷ row "(1)2" (refused 16)
    ∷ row "-" (refused 16)
    ∷ row "1-" (refused 16)
    ∷ row "x" (refused 16)
    ∷ row "1/0)" (refused 16)
    -- texts
    ∷ row "1+-1" (value (pos 0))
    ∷ row "1--1" (value (pos 2))
    ∷ row "-(-5)" (value (pos 5))
    ∷ row "((1))+(2)" (value (pos 3))
    -- the binding, and equals from the left
    ∷ row "2+3*4" (value (pos 14))
    ∷ row "-2*-3" (value (pos 6))
    ∷ row "-2147483648*1" (value (negsuc 2147483647))
    ∷ row "-2147483648/2" (value (negsuc 1073741823))
    ∷ row "7-4-2" (value (pos 1))
    ∷ row "8/4*2" (value (pos 4))
    ∷ row "-7/2" (value (negsuc 2))
    ∷ row "7/-2" (value (negsuc 2))
    ∷ row "1-2-3*4/5" (value (negsuc 2))
    -- a value outside i32 on the way, and a zero divisor
    ∷ row "2147483647+1-1" (refused 18)
    ∷ row "0*(1/0)" (refused 18)
    ∷ row "1/(2-2)" (refused 18)
    ∷ row "-2147483648/-1" (refused 18)
    ∷ row "65536*65536" (refused 18)
    ∷ row "46340*46340" (value (pos 2147395600))
    ∷ []

abbrev answered : List Row → List Numbered
answered [] = []
answered (r ∷ rs) = numbered (answer_of (ascii r.text)) ∷ answered rs

abbrev written : List Row → List Numbered
written [] = []
written (r ∷ rs) = r.answer ∷ written rs

all_rows : answered rows ≡ written rows
unfolding answer_of reading
all_rows = refl
