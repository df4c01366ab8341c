-- The text that `fsqrun` prints of a run (REFERENCE 15), in ASCII.
-- Definitions only.
use Rattle.std.specs.Prelude.{ℕ, ◌+◌, ◌*◌, Bool, List, [], ◌∷◌, ◌++◌, leb, length, drop, Result, Ok, Err}
use Rattle.mrc_compiler.specs.Choose.{pick, both}
use Rattle.desk_run.specs.Running.{Ending, halted, refused, number_of, ending, log_after}
use Rattle.text_line.specs.declared.TooShort.{TooShort}
use Rattle.text_line.specs.Numbers.{blank, line_feed, hex_byte, decimal, long_decimal}

-- port and mask, in hexadecimal
abbrev pub pair_line : ℕ → ℕ → List ℕ
pair_line p v = hex_byte p ++ (blank ∷ hex_byte v ++ (line_feed ∷ []))

-- a line for each pair
unfoldable pub pairs_text : List ℕ → List ℕ
pairs_text [] = []
pairs_text (p ∷ []) = []
pairs_text (p ∷ v ∷ l) = pair_line p v ++ pairs_text l

-- "halted ": the instructions carried out
abbrev pub halted_line : ℕ → List ℕ
halted_line n = (0x68 ∷ 0x61 ∷ 0x6C ∷ 0x74 ∷ 0x65 ∷ 0x64 ∷ blank ∷ []) ++ (long_decimal n ++ (line_feed ∷ []))

-- "refused ": the number
abbrev pub refused_line : ℕ → List ℕ
refused_line n = (0x72 ∷ 0x65 ∷ 0x66 ∷ 0x75 ∷ 0x73 ∷ 0x65 ∷ 0x64 ∷ blank ∷ []) ++ (decimal n ++ (line_feed ∷ []))

abbrev pub text_by : Ending → List ℕ
text_by (halted n log) = pairs_text log ++ halted_line n
text_by (refused e) = refused_line (number_of e)

unfoldable pub run_text : List ℕ → ℕ → ℕ → List ℕ
run_text image budget room = text_by (ending image budget room)

-- ---- the slices that are lent: a log of at most 32,768 pairs, and for the text six bytes a pair and the last line
unfoldable pub fits : ℕ → ℕ → Bool
fits room size = both (leb room 65536) (leb (3 * room + 18) size)

-- the one value of its type
abbrev pub too_short : TooShort
too_short = record {}

unfoldable pub written : List ℕ → ℕ → ℕ → ℕ → Result ℕ TooShort
written image budget room size = pick (fits room size) (Ok (length (run_text image budget room))) (Err too_short)

unfoldable pub out_after : List ℕ → ℕ → ℕ → List ℕ → List ℕ
out_after image budget room out =
    let t = run_text image budget room in
    pick (fits room (length out)) (t ++ drop (length t) out) out

-- the log as the run leaves it
unfoldable pub logged_after : List ℕ → ℕ → List ℕ → ℕ → List ℕ
logged_after image budget log size = pick (fits (length log) size) (log_after (ending image budget (length log)) log) log
