-- The show file: mark, version, origin, count, then the records (REFERENCE 8).
-- Definitions only.
use Rattle.std.specs.Prelude.{ℕ, zero, suc, ◌+◌, ◌*◌, Bool, List, [], ◌∷◌, eqb, leb, length, take, drop, Option, Some, None, Result, Ok, Err}
use Rattle.mrc_compiler.specs.declared.encoder.InstructionData.{InstructionData}
use Rattle.mrc_compiler.specs.Choose.{pick, both, isnt}
use Rattle.show_record.specs.Record.{record_length, repeat_length, byte_at, instruction_at, codes_known}
use Rattle.show_file.specs.declared.Counts.{Counts}
use Rattle.show_file.specs.declared.Header.{Header}
use Rattle.show_file.specs.declared.LoadError.{LoadError}
use Rattle.show_file.specs.declared.LoadError.TheVariants as E

-- ---- the header
abbrev pub version_place : ℕ
version_place = 3

abbrev pub origin_place : ℕ
origin_place = 5

abbrev pub count_place : ℕ
count_place = 7

abbrev pub header_length : ℕ
header_length = 9

-- ---- the versions: how many records a file of each has, and how many bytes a record
pub record Version : Type 0 where
  pub number : ℕ
  pub fewest : ℕ
  pub most : ℕ
  pub each : ℕ

abbrev version : ℕ → ℕ → ℕ → ℕ → Version
version v l m n = record { number = v; fewest = l; most = m; each = n }

-- a record of version 3 has a repeat
abbrev pub versions : List Version
versions = version 1 0 1000 record_length ∷ version 2 1001 8000 record_length ∷ version 3 0 8000 (record_length + repeat_length) ∷ []

-- of any version
abbrev pub most_records : ℕ
most_records = 8000

abbrev pub counts_in : List Version → ℕ → Option Counts
counts_in [] v = None
counts_in (r ∷ rs) v = pick (eqb v r.number) (Some (record { fewest = r.fewest; most = r.most })) (counts_in rs v)

-- the bytes of a record; of no version as of the first
abbrev pub each_in : List Version → ℕ → ℕ
each_in [] v = record_length
each_in (r ∷ rs) v = pick (eqb v r.number) r.each (each_in rs v)

-- "FSQ"
unfoldable pub has_mark : List ℕ → Bool
has_mark file = both (eqb (byte_at file 0) 0x46) (both (eqb (byte_at file 1) 0x53) (eqb (byte_at file 2) 0x51))

unfoldable pub u16_at : List ℕ → ℕ → ℕ
u16_at s i = byte_at s i + 256 * byte_at s (i + 1)

abbrev pub header : List ℕ → Header
header file = record { version = u16_at file version_place; origin = u16_at file origin_place; count = u16_at file count_place }

-- ---- the records
-- the bytes of each
unfoldable pub record_bytes : List ℕ → ℕ
record_bytes file = each_in versions (u16_at file version_place)

-- where record k begins
abbrev pub record_place : List ℕ → ℕ → ℕ
record_place file k = header_length + record_bytes file * k

abbrev pub record_at : List ℕ → ℕ → List ℕ
record_at file k = take (record_bytes file) (drop (record_place file k) file)

abbrev pub insn_at : List ℕ → ℕ → InstructionData
insn_at file k = instruction_at (record_at file k)

-- ---- the questions about the file itself: mark, header, version, count, exact length
-- a count of its version, and not above the limit of who asks: the loader takes all of them, a program that prints a text fewer
unfoldable pub is_count : ℕ → ℕ → ℕ → ℕ → Bool
is_count limit fewest most n = both (leb fewest n) (both (leb n most) (leb n limit))

abbrev pub counted : ℕ → List ℕ → Header → Option Counts → Result Header LoadError
counted limit file h None = Err E.WrongVersion
counted limit file h (Some counts) =
    pick (both (is_count limit counts.fewest counts.most h.count) (eqb (length file) (record_place file h.count))) (Ok h) (Err E.WrongLength)

unfoldable pub headed : ℕ → List ℕ → Result Header LoadError
headed limit file =
    let h = header file in
    pick (leb header_length (length file)) (counted limit file h (counts_in versions h.version)) (Err E.WrongLength)

unfoldable pub opened : ℕ → List ℕ → Result Header LoadError
opened limit file = pick (has_mark file) (headed limit file) (Err E.NoMark)

-- ---- the first of records i, i + 1 .. (k of them) where f says yes, or i + k
abbrev pub first_from : (ℕ → Bool) → ℕ → ℕ → ℕ
first_from f zero i = i
first_from f (suc k) i = pick (f i) i (first_from f k (suc i))

-- a code that is not known
unfoldable pub is_unknown : List ℕ → ℕ → Bool
is_unknown file k = isnt (codes_known (record_at file k))

abbrev pub first_unknown : List ℕ → ℕ → ℕ
first_unknown file n = first_from (is_unknown file) n 0
