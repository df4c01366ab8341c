-- How long the line of an answer is, and what the line that the code makes holds.
-- Assumes nothing.
use mathlib.Core.Path.{◌≡◌}
use mathlib.Core.List.{[], ◌∷◌}
use Prim.Native.Nat.{◌≤◌}
use native.Mathlib.Omega.{arith}
use lib.ListN.{length, length-append}
use Rattle.std.specs.Prelude.{ℤ, Result}
use Rattle.sum_spec.specs.declared.SumError.{SumError}
use Rattle.sum_spec.specs.Sums.{Numbered, value, refused, numbered}
use Rattle.text_line.specs.declared.Line.{Line}
use Rattle.text_line.specs.Numbers.{line_feed, decimal, long_signed}
use Rattle.text_line.specs.Steps.{empty_line, appended}
use Rattle.text_line.proofs.Laws.{Holds, line_holds, decimal-length, long_signed_length}
use Rattle.sum_text.specs.Lines.{line_of, answer_line, most_answer}

line_length : (n : Numbered) → length (line_of n) ≤ most_answer
line_length (value z) = let l = long_signed_length z in rw (length-append (long_signed z) (line_feed ∷ [])) (omega arith)
line_length (refused n) = let l = decimal-length n in rw (length-append (decimal n) (line_feed ∷ [])) (omega arith)

pub answer_length : (a : Result ℤ SumError) → length (answer_line a) ≤ most_answer
answer_length a = line_length (numbered a)

pub answer_holds : (a : Result ℤ SumError) (line : Line) → line ≡ appended empty_line (answer_line a) → Holds line (answer_line a)
answer_holds a line e = let l = answer_length a in line_holds line (answer_line a) (omega arith) e
