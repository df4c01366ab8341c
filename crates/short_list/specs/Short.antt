-- The strings of one or two bytes that read, whole, as one instruction at offset 0 (REFERENCE 13).
-- Definitions only.
use Rattle.std.specs.Prelude.{ℕ, zero, suc, ◌-◌, ◌/◌, ◌%◌, Bool, false, List, [], ◌∷◌, ◌++◌, eqb, ltb, length, Ok, Err}
use Rattle.mrc_compiler.specs.Choose.{pick}
use Rattle.x86.specs.Reading.{Read, reads}

-- all strings of one byte, then all of two, each by value
abbrev pub string_at : ℕ → List ℕ
string_at k = pick (ltb k 256) (k ∷ []) ((k - 256) / 256 ∷ (k - 256) % 256 ∷ [])

-- 256 and 65,536
abbrev pub strings : ℕ
strings = 65792

abbrev pub whole_by : Read → ℕ → Bool
whole_by (Ok (m, n)) l = eqb n l
whole_by (Err e) l = false

-- does a string read, to the last byte?
unfoldable pub reads_whole : List ℕ → Bool
reads_whole s = whole_by (reads 0 s) (length s)

-- those of the first n strings that do
unfoldable pub short_of : ℕ → List (List ℕ)
short_of zero = []
short_of (suc k) = short_of k ++ pick (reads_whole (string_at k)) (string_at k ∷ []) []

abbrev pub short_strings : List (List ℕ)
short_strings = short_of strings
