-- The line that `fsqsum` prints for a text (REFERENCE 12), in ASCII.
-- Definitions only.
use Rattle.std.specs.Prelude.{ℕ, List, [], ◌∷◌, ◌++◌, leb, length, drop, ℤ, Result, Ok, Err}
use Rattle.mrc_compiler.specs.Choose.{pick}
use Rattle.sum_spec.specs.declared.SumError.{SumError}
use Rattle.sum_spec.specs.Sums.{Numbered, value, refused, numbered}
use Rattle.sum_spec.specs.Reading.{answer_of}
use Rattle.text_line.specs.Numbers.{blank, line_feed, decimal, long_signed}
use Rattle.text_line.specs.declared.TooShort.{TooShort}

-- the value, or "refused " and the number
abbrev pub line_of : Numbered → List ℕ
line_of (value z) = long_signed z ++ (line_feed ∷ [])
line_of (refused n) = (0x72 ∷ 0x65 ∷ 0x66 ∷ 0x75 ∷ 0x73 ∷ 0x65 ∷ 0x64 ∷ blank ∷ []) ++ (decimal n ++ (line_feed ∷ []))

abbrev pub answer_line : Result ℤ SumError → List ℕ
answer_line a = line_of (numbered a)

-- ---- a slice that is lent for the line
-- no line is longer
abbrev pub most_answer : ℕ
most_answer = 16

unfoldable pub answered : List ℕ → ℕ → Result ℕ TooShort
answered text size = pick (leb most_answer size) (Ok (length (answer_line (answer_of text)))) (Err (record {}))

-- the line at the front of the slice
unfoldable pub slice_after : List ℕ → List ℕ → List ℕ
slice_after text out =
    let line = answer_line (answer_of text) in
    pick (leb most_answer (length out)) (line ++ drop (length line) out) out
