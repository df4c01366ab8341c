-- What checking the targets of a show answers (REFERENCE 17).
-- Definitions only.
use Rattle.std.specs.Prelude.{ℕ, suc, ◌+◌, ◌-◌, ◌%◌, Bool, List, ltb, length, Err, Ok, Result}
use Rattle.mrc_compiler.specs.declared.encoder.InstructionData.{InstructionData}
use Rattle.mrc_compiler.specs.Choose.{pick}
use Rattle.show_file.specs.declared.LoadError.{LoadError}
use Rattle.show_file.specs.declared.Header.{Header}
use Rattle.show_file.specs.Show.{most_records, insn_at, first_from}
use Rattle.show_load.specs.Loading.{offset_behind, walk, bytes_in, accepted}
use Rattle.convert_spec.specs.Targets.{target_of, first_stray}
use Rattle.check_spec.specs.declared.CheckError.{CheckError}
use Rattle.check_spec.specs.declared.CheckError.TheVariants as C

-- ---- where record k starts; where the show ends, for k the count
abbrev pub start_of : List ℕ → ℕ → ℕ → ℕ
start_of file origin k = offset_behind origin (length (bytes_in (walk file origin k)))

-- ---- the record that a target falls into
-- from an offset on to another, which wraps at 65,536
abbrev pub on_to : ℕ → ℕ → ℕ
on_to a b = (b + 65536 - a) % 65536

-- does record k have a byte there?
unfoldable pub is_inside : (ℕ → ℕ) → ℕ → ℕ → Bool
is_inside starts target k = ltb (on_to (starts k) target) (on_to (starts k) (starts (suc k)))

-- the first of n that has, or n
abbrev pub record_around : (ℕ → ℕ) → ℕ → ℕ → ℕ
record_around starts n target = first_from (is_inside starts target) n 0

-- ---- the answer
abbrev pub strayed : ℕ → ℕ → ℕ → ℕ → Result ℕ CheckError
strayed n k target j = pick (ltb j n) (Err (C.Inside k target j)) (Err (C.Outside k target))

-- of n records that load, with an image of m bytes
unfoldable pub targets_checked : (ℕ → ℕ) → (ℕ → InstructionData) → ℕ → ℕ → Result ℕ CheckError
targets_checked starts insns n m =
    let k = first_stray starts insns n in
    let target = target_of (insns k) in
    pick (ltb k n) (strayed n k target (record_around starts n target)) (Ok m)

abbrev pub checked_by : List ℕ → Result (Header × ℕ) LoadError → Result ℕ CheckError
checked_by file (Ok (h, m)) = targets_checked (start_of file h.origin) (insn_at file) h.count m
checked_by file (Err e) = Err (C.Load e)

abbrev pub checked : List ℕ → Result ℕ CheckError
checked file = checked_by file (accepted most_records file)
