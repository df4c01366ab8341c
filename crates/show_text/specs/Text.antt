-- The texts of a show file, which `fsqlist` and `fsqform` print (REFERENCE 9), in ASCII.
-- Definitions only.
use Rattle.std.specs.Prelude.{ℕ, zero, suc, ◌+◌, ◌*◌, Bool, List, [], ◌∷◌, ◌++◌, leb, length, drop, Result, Ok, Err}
use Rattle.mrc_compiler.specs.Choose.{pick}
use Rattle.show_file.specs.declared.Header.{Header}
use Rattle.show_file.specs.declared.LoadError.{LoadError}
use Rattle.show_file.specs.declared.LoadError.TheVariants as E
use Rattle.show_file.specs.Show.{header, insn_at}
use Rattle.show_file.specs.Refusals.{number_of}
use Rattle.show_load.specs.Loading.{offset_behind, answer_at, bytes_of, walk, bytes_in, accepted, fitted}
use Rattle.encode_form.specs.Ground.{ground}
use Rattle.text_line.specs.declared.TooShort.{TooShort}
use Rattle.text_line.specs.Numbers.{blank, line_feed, hex_word, hex_bytes, decimal}
use Rattle.text_form.specs.Lines.{ground_line, most_ground}

-- ---- lines
-- "FSQ ": version, origin, count
unfoldable pub first_line : Header → List ℕ
first_line h =
    (0x46 ∷ 0x53 ∷ 0x51 ∷ blank ∷ [])
    ++ (decimal h.version ++ (blank ∷ hex_word h.origin ++ (blank ∷ decimal h.count ++ (line_feed ∷ []))))

-- offset, length, bytes
unfoldable pub line_of : ℕ → List ℕ → List ℕ
line_of offset bs = hex_word offset ++ (blank ∷ decimal (length bs) ++ (blank ∷ hex_bytes bs ++ (line_feed ∷ [])))

-- "-" where no record is refused
abbrev pub record_of : LoadError → List ℕ
record_of E.NoMark = 0x2D ∷ []
record_of E.WrongVersion = 0x2D ∷ []
record_of E.WrongLength = 0x2D ∷ []
record_of (E.UnknownCode k) = decimal k
record_of (E.Record k e) = decimal k

-- "refused ": number, record
unfoldable pub refused_line : LoadError → List ℕ
refused_line e =
    (0x72 ∷ 0x65 ∷ 0x66 ∷ 0x75 ∷ 0x73 ∷ 0x65 ∷ 0x64 ∷ blank ∷ [])
    ++ (decimal (number_of e) ++ (blank ∷ record_of e ++ (line_feed ∷ [])))

-- ---- the texts: without forms the one that `fsqlist` prints, with forms that of `fsqform`
-- record k, behind the bytes of those before it
unfoldable pub record_line : List ℕ → ℕ → ℕ → List ℕ
record_line file origin k =
    let at = length (bytes_in (walk file origin k)) in
    line_of (offset_behind origin at) (bytes_of (answer_at file origin k at))

-- and why it is answered so
unfoldable pub ground_at : List ℕ → ℕ → ℕ → List ℕ
ground_at file origin k =
    let at = length (bytes_in (walk file origin k)) in
    ground_line (ground (insn_at file k) (offset_behind origin at)) (insn_at file k)

unfoldable pub record_text : Bool → List ℕ → ℕ → ℕ → List ℕ
record_text forms file origin k = record_line file origin k ++ pick forms (ground_at file origin k) []

-- the texts of the first n records
unfoldable pub lines_of : Bool → List ℕ → ℕ → ℕ → List ℕ
lines_of forms file origin zero = []
lines_of forms file origin (suc k) = lines_of forms file origin k ++ record_text forms file origin k

-- ---- the shows that are printed: the loader takes longer ones
abbrev pub text_records : ℕ
text_records = 1000

-- an image that holds each of them: records have at most seven bytes
abbrev pub image_length : ℕ
image_length = 7 * text_records

unfoldable pub show_text : Bool → List ℕ → Header → List ℕ
show_text forms file h = first_line h ++ lines_of forms file h.origin h.count

-- of the record that is refused; a refusal of the file itself has no ground
abbrev pub refused_ground : List ℕ → LoadError → List ℕ
refused_ground file E.NoMark = []
refused_ground file E.WrongVersion = []
refused_ground file E.WrongLength = []
refused_ground file (E.UnknownCode k) = []
refused_ground file (E.Record k e) = ground_at file (header file).origin k

abbrev pub text_by : Bool → List ℕ → Result (Header × ℕ) LoadError → List ℕ
text_by forms file (Ok (h, n)) = show_text forms file h
text_by forms file (Err e) = refused_line e ++ pick forms (refused_ground file e) []

unfoldable pub text : Bool → List ℕ → List ℕ
text forms file = text_by forms file (fitted file image_length (accepted text_records file))

-- ---- a slice that is lent for the text
-- no line is longer, but that of a ground
abbrev pub most_line : ℕ
most_line = 32

-- no text of a record is longer, and none than the first line and those of the records
abbrev pub most_record : Bool → ℕ
most_record forms = most_line + pick forms most_ground 0

abbrev pub most_text : Bool → ℕ
most_text forms = most_line + most_record forms * text_records

unfoldable pub listed : Bool → List ℕ → ℕ → Result ℕ TooShort
listed forms file size = pick (leb (most_text forms) size) (Ok (length (text forms file))) (Err (record {}))

-- the text at the front of the slice
unfoldable pub slice_after : Bool → List ℕ → List ℕ → List ℕ
slice_after forms file out = pick (leb (most_text forms) (length out)) (text forms file ++ drop (length (text forms file)) out) out
