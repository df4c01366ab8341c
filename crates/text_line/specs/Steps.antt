-- A line as the code holds it.
-- Definitions only.
use Rattle.std.specs.Prelude.{ℕ, ◌+◌, List, [], ◌∷◌, ltb, set, replicate}
use Rattle.mrc_compiler.specs.Choose.{pick}
use Rattle.text_line.specs.declared.Line.{Line}

-- no line is longer
abbrev pub line_length : ℕ
line_length = 96

abbrev pub empty_line : Line
empty_line = record { bytes = replicate line_length 0; len = 0 }

-- one byte more; a full line drops it
abbrev pub pushed : Line → ℕ → Line
pushed line b = pick (ltb line.len line_length) (record { bytes = set line.bytes line.len b; len = line.len + 1 }) line

abbrev pub appended : Line → List ℕ → Line
appended line [] = line
appended line (b ∷ bs) = appended (pushed line b) bs
