-- The text that `fsqshort` prints (REFERENCE 13), in ASCII, and the slice that is lent for it.
-- Definitions only.
use Rattle.std.specs.Prelude.{ℕ, List, [], ◌∷◌, ◌++◌, leb, length, drop, Result, Ok, Err}
use Rattle.mrc_compiler.specs.Choose.{pick}
use Rattle.text_line.specs.Numbers.{line_feed, hex_bytes, decimal}
use Rattle.text_line.specs.declared.TooShort.{TooShort}
use Rattle.short_list.specs.Short.{short_strings}

-- ---- a line for each string, in hexadecimal, and their number
abbrev pub line_of : List ℕ → List ℕ
line_of s = hex_bytes s ++ (line_feed ∷ [])

abbrev pub lines_of : List (List ℕ) → List ℕ
lines_of [] = []
lines_of (s ∷ l) = line_of s ++ lines_of l

abbrev pub count_line : ℕ → List ℕ
count_line n = decimal n ++ (line_feed ∷ [])

abbrev pub text_of : List (List ℕ) → List ℕ
text_of l = lines_of l ++ count_line (length l)

unfoldable pub short_text : List ℕ
short_text = text_of short_strings

-- ---- a slice that is lent for the text: does it hold it?
unfoldable pub written : ℕ → Result ℕ TooShort
written size = pick (leb (length short_text) size) (Ok (length short_text)) (Err (record {}))

-- the text at its front, and every byte behind it as it was lent
unfoldable pub slice_after : List ℕ → List ℕ
slice_after out = pick (leb (length short_text) (length out)) (short_text ++ drop (length short_text) out) out
