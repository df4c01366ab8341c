-- Where the records of a file from a 186 module stood (document 02, No. 12). A place is a record's number, or the count for the end.
-- Definitions only.
use Rattle.std.specs.Prelude.{ℕ, zero, suc, ◌+◌, Bool, true, false, List, length}
use Rattle.encode_spec.specs.Answer.{Answer, bytes, refused, answer}
use Rattle.show_file.specs.Show.{insn_at}
use Rattle.show_load.specs.Loading.{offset_behind, bytes_of}
use Rattle.convert_spec.specs.Counts.{times, with_count_one, old_bytes, gained}

-- the encoder's answer to record k so many bytes behind the origin, its count read as 1
abbrev pub answer_at : List ℕ → ℕ → ℕ → ℕ → Answer
answer_at file origin k at = answer (with_count_one (insn_at file k)) (offset_behind origin at)

abbrev pub length_of : Answer → ℕ
length_of a = length (bytes_of a)

abbrev pub is_refused : Answer → Bool
is_refused (bytes bs) = false
is_refused (refused e) = true

-- so many bytes behind the origin
unfoldable pub old_start : List ℕ → ℕ → ℕ → ℕ
old_start file origin zero = 0
old_start file origin (suc k) =
    let at = old_start file origin k in
    at + old_bytes (insn_at file k) (length_of (answer_at file origin k at))

abbrev pub old_offset : List ℕ → ℕ → ℕ → ℕ
old_offset file origin k = offset_behind origin (old_start file origin k)

abbrev pub old_answer : List ℕ → ℕ → ℕ → Answer
old_answer file origin k = answer_at file origin k (old_start file origin k)

-- the bytes gained before a place
unfoldable pub gain : List ℕ → ℕ → ℕ → ℕ
gain file origin zero = 0
gain file origin (suc k) = gain file origin k + gained (insn_at file k) (length_of (old_answer file origin k))

-- the number of the first record written for a place: its first copy
unfoldable pub first_copy : List ℕ → ℕ → ℕ
first_copy file zero = 0
first_copy file (suc k) = first_copy file k + times (insn_at file k)
