-- What converting a file answers, and what it leaves in the lent slice (REFERENCE 16).
-- Definitions only.
use Rattle.std.specs.Prelude.{ℕ, Bool, List, ◌++◌, eqb, ltb, leb, length, drop, Err, Ok, Result}
use Rattle.mrc_compiler.specs.Choose.{pick, both, isnt}
use Rattle.encode_spec.specs.Answer.{Answer, bytes, refused}
use Rattle.show_file.specs.declared.Header.{Header}
use Rattle.show_file.specs.declared.LoadError.{LoadError}
use Rattle.show_file.specs.declared.LoadError.TheVariants as E
use Rattle.show_file.specs.Show.{version_place, header_length, most_records, has_mark, u16_at, header, insn_at, opened, first_from, first_unknown}
use Rattle.show_load.specs.Loading.{accepted}
use Rattle.convert_spec.specs.declared.ConvertError.{ConvertError}
use Rattle.convert_spec.specs.declared.ConvertError.TheVariants as X
use Rattle.convert_spec.specs.Counts.{count_taken}
use Rattle.convert_spec.specs.OldStarts.{is_refused, old_offset, old_answer}
use Rattle.convert_spec.specs.Targets.{first_stray}
use Rattle.convert_spec.specs.Written.{written}

-- ---- the questions about the file itself: those of the loader, and 13 for every version but 1
unfoldable pub is_other_version : List ℕ → Bool
is_other_version file = both (has_mark file) (both (leb header_length (length file)) (isnt (eqb (u16_at file version_place) 1)))

abbrev pub shown : List ℕ → Result Header LoadError
shown file = pick (is_other_version file) (Err E.WrongVersion) (opened most_records file)

-- ---- the first record of n, or n: with a count that is not taken; refused at its old start
abbrev pub first_miscounted : List ℕ → ℕ → ℕ
first_miscounted file n = first_from (λ k. isnt (count_taken (insn_at file k))) n 0

abbrev pub first_refused : List ℕ → ℕ → ℕ → ℕ
first_refused file origin n = first_from (λ k. is_refused (old_answer file origin k)) n 0

-- ---- the answer
-- the encoder's refusal of record k, or what is answered where it is accepted
abbrev pub or_refused : ℕ → Answer → Result ℕ ConvertError → Result ℕ ConvertError
or_refused k (refused e) c = Err (X.Load (E.Record k e))
or_refused k (bytes bs) c = c

-- the loader's refusal of the written file, with that file's record; then 9
abbrev pub fitted : ℕ → ℕ → Result (Header × ℕ) LoadError → Result ℕ ConvertError
fitted m size (Ok (h, n)) = pick (leb m size) (Ok m) (Err X.SliceTooShort)
fitted m size (Err e) = Err (X.Load e)

-- the questions about the records in their order: 15, 24, each at its old start, 25; then those about the written file, of which the length is
-- the last
unfoldable pub show_converted : List ℕ → Header → ℕ → Result ℕ ConvertError
show_converted file h size =
    let n = h.count in
    let origin = h.origin in
    let unknown = first_unknown file n in
    let miscounted = first_miscounted file n in
    let refusing = first_refused file origin n in
    let stray = first_stray (old_offset file origin) (insn_at file) n in
    let to = written file h in
    let behind : Result ℕ ConvertError = pick (ltb stray n) (Err (X.NoRecordAtTarget stray)) (fitted (length to) size (accepted most_records to)) in
    pick (ltb unknown n) (Err (X.Load (E.UnknownCode unknown)))
    (pick (ltb miscounted n) (Err (X.ShiftCountOutOfRange miscounted))
    (pick (ltb refusing n) (or_refused refusing (old_answer file origin refusing) behind) behind))

abbrev pub converted_by : List ℕ → ℕ → Result Header LoadError → Result ℕ ConvertError
converted_by file size (Ok h) = show_converted file h size
converted_by file size (Err e) = Err (X.Load e)

abbrev pub converted : List ℕ → ℕ → Result ℕ ConvertError
converted file size = converted_by file size (shown file)

-- ---- the slice afterwards: the written file at the front, or what it was
abbrev pub placed : List ℕ → List ℕ → Result ℕ ConvertError → List ℕ
placed file out (Ok m) = written file (header file) ++ drop m out
placed file out (Err e) = out

abbrev pub slice_after : List ℕ → List ℕ → List ℕ
slice_after file out = placed file out (converted file (length out))
