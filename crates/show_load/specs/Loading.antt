-- What loading a show file answers, and what it leaves in the image (REFERENCE 8).
-- Definitions only.
use Rattle.std.specs.Prelude.{ℕ, zero, suc, ◌+◌, ◌%◌, Bool, true, false, List, [], ◌++◌, length, drop, nat_le, nat_lt, Result, Ok, Err}
use Rattle.mrc_compiler.specs.declared.encoder.EncodeError.{EncodeError}
use Rattle.mrc_compiler.specs.declared.encoder.EncodeError.TheVariants as N
use Rattle.mrc_compiler.specs.Choose.{pick}
use Rattle.encode_spec.specs.Answer.{Answer, bytes, refused, answer}
use Rattle.show_file.specs.declared.Header.{Header}
use Rattle.show_file.specs.declared.LoadError.{LoadError}
use Rattle.show_file.specs.declared.LoadError.TheVariants as E
use Rattle.show_file.specs.Show.{most_records, opened, insn_at, first_from, first_unknown}

-- ---- the records, one after the other
-- their bytes, or the first that is refused
pub data Walk : Type 0 where
  all : List ℕ → Walk
  stopped : ℕ → EncodeError → Walk

-- the offset of what stands so many bytes behind the origin, which wraps at 65,536
abbrev pub offset_behind : ℕ → ℕ → ℕ
offset_behind origin at = (origin + at) % 65536

-- one step: the answer to record k, so many bytes behind the origin
abbrev pub answer_at : List ℕ → ℕ → ℕ → ℕ → Answer
answer_at file origin k at = answer (insn_at file k) (offset_behind origin at)

abbrev pub bytes_of : Answer → List ℕ
bytes_of (bytes bs) = bs
bytes_of (refused e) = []

-- record k, behind the bytes bs
abbrev pub followed : ℕ → List ℕ → Answer → Walk
followed k bs (bytes cs) = all (bs ++ cs)
followed k bs (refused e) = stopped k e

abbrev pub further : List ℕ → ℕ → ℕ → Walk → Walk
further file origin k (all bs) = followed k bs (answer_at file origin k (length bs))
further file origin k (stopped i e) = stopped i e

-- the first n records from the origin on
unfoldable pub walk : List ℕ → ℕ → ℕ → Walk
walk file origin zero = all []
walk file origin (suc k) = further file origin k (walk file origin k)

abbrev pub bytes_in : Walk → List ℕ
bytes_in (all bs) = bs
bytes_in (stopped k e) = []

abbrev pub is_all : Walk → Bool
is_all (all bs) = true
is_all (stopped k e) = false

-- ---- the first record that does not fit
-- an end behind the image's
unfoldable pub is_over : List ℕ → ℕ → ℕ → ℕ → Bool
is_over file origin size k = nat_lt size (length (bytes_in (walk file origin (suc k))))

abbrev pub first_over : List ℕ → ℕ → ℕ → ℕ → ℕ
first_over file origin size n = first_from (is_over file origin size) n 0

-- ---- the answer
-- the header with the length of the records' bytes, or the refusal of the first that is refused
abbrev pub measured : Header → Walk → Result (Header × ℕ) LoadError
measured h (all bs) = Ok (h, length bs)
measured h (stopped k e) = Err (E.Record k e)

-- codes of all records, then each record
unfoldable pub show_accepted : List ℕ → Header → Result (Header × ℕ) LoadError
show_accepted file h =
    let k = first_unknown file h.count in
    pick (nat_lt k h.count) (Err (E.UnknownCode k)) (measured h (walk file h.origin h.count))

abbrev pub accepted_by : List ℕ → Result Header LoadError → Result (Header × ℕ) LoadError
accepted_by file (Ok h) = show_accepted file h
accepted_by file (Err e) = Err e

-- the file, of no more records than the limit, then its records
abbrev pub accepted : ℕ → List ℕ → Result (Header × ℕ) LoadError
accepted limit file = accepted_by file (opened limit file)

-- 9, with the first record that does not fit
abbrev pub too_short : List ℕ → ℕ → LoadError
too_short file k = E.Record k (N.SliceTooShort (insn_at file k).opers_span)

abbrev pub fitted : List ℕ → ℕ → Result (Header × ℕ) LoadError → Result (Header × ℕ) LoadError
fitted file size (Ok (h, n)) = pick (nat_le n size) (Ok (h, n)) (Err (too_short file (first_over file h.origin size h.count)))
fitted file size (Err e) = Err e

-- then the image
abbrev pub loaded : List ℕ → ℕ → Result (Header × ℕ) LoadError
loaded file size = fitted file size (accepted most_records file)

-- ---- the image afterwards: the records' bytes at the front, or what it was
abbrev pub placed : List ℕ → List ℕ → Result (Header × ℕ) LoadError → List ℕ
placed file image (Ok (h, n)) =
    let bs = bytes_in (walk file h.origin h.count) in
    bs ++ drop (length bs) image
placed file image (Err e) = image

abbrev pub image_after : List ℕ → List ℕ → List ℕ
image_after file image = placed file image (loaded file (length image))
