-- The file that a conversion writes (document 02, No. 12).
-- Definitions only.
use Rattle.std.specs.Prelude.{ℕ, zero, suc, ◌+◌, ◌/◌, ◌%◌, List, [], ◌∷◌, ◌++◌, ℤ, pos, ◌+ℤ◌, take, drop, None, Option, Some}
use Rattle.mrc_compiler.specs.declared.encoder.InstructionData.{InstructionData}
use Rattle.mrc_compiler.specs.Choose.{pick}
use Rattle.mrc_compiler.specs.Values.{mod_z}
use Rattle.encode_spec.specs.Records.{dst}
use Rattle.encode_spec.specs.Layout.{word_bytes}
use Rattle.show_record.specs.Record.{first_place, second_place, imm_place}
use Rattle.show_file.specs.declared.Header.{Header}
use Rattle.show_file.specs.Show.{count_place, record_at, insn_at}
use Rattle.convert_spec.specs.declared.Branch.{Branch}
use Rattle.convert_spec.specs.declared.Branch.TheVariants as B
use Rattle.convert_spec.specs.Counts.{has_count, times}
use Rattle.convert_spec.specs.OldStarts.{old_offset, gain, first_copy}
use Rattle.convert_spec.specs.Targets.{branch_of, is_branch, place_of}

-- ---- immediates
-- a target moved by so many bytes: that of E8 and E9 wraps at 65,536, the others do not
abbrev pub moved_by : Option Branch → ℤ → ℕ → ℤ
moved_by None z g = z
moved_by (Some B.Short) z g = z +ℤ pos g
moved_by (Some B.Near) z g = pos (mod_z 65536 (z +ℤ pos g))

-- the immediate of a branch: moved by what is gained before its target
unfoldable pub new_imm : List ℕ → ℕ → ℕ → InstructionData → ℤ
new_imm file origin n insn = moved_by (branch_of insn) (dst insn).imm (gain file origin (place_of (old_offset file origin) n insn))

-- ---- records
-- an i32, low byte first
abbrev pub i32_bytes : ℤ → List ℕ
i32_bytes z = let n = mod_z 4294967296 z in n % 256 ∷ n / 256 % 256 ∷ n / 65536 % 256 ∷ n / 65536 / 256 ∷ []

-- a record with another i32 at a place
abbrev pub replaced : List ℕ → ℕ → ℤ → List ℕ
replaced rec at z = take at rec ++ (i32_bytes z ++ drop (at + 4) rec)

-- record k: a branch with its new immediate, a shift with the count 1, all else as it was
unfoldable pub new_record : List ℕ → ℕ → ℕ → ℕ → List ℕ
new_record file origin n k =
    let rec = record_at file k in
    let insn = insn_at file k in
    pick (is_branch (branch_of insn)) (replaced rec (first_place + imm_place) (new_imm file origin n insn))
    (pick (has_count insn) (replaced rec (second_place + imm_place) (pos 1)) rec)

abbrev pub copies : ℕ → List ℕ → List ℕ
copies zero rec = []
copies (suc i) rec = copies i rec ++ rec

-- ---- the file
-- the records written for the first k of n
unfoldable pub records : List ℕ → ℕ → ℕ → ℕ → List ℕ
records file origin n zero = []
records file origin n (suc k) = records file origin n k ++ copies (times (insn_at file k)) (new_record file origin n k)

-- mark, version and origin as they were, the new count, the records
unfoldable pub written : List ℕ → Header → List ℕ
written file h =
    let n = h.count in
    take count_place file ++ (word_bytes (first_copy file n) ++ records file h.origin n n)
