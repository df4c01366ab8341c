-- What is proved of a file that is written: it loads at the same origin, its branches go where they went, and its shifts do what they did.
-- Definitions only.
use Rattle.std.specs.Prelude.{ℕ, ◌+◌, ◌<◌, ◌≤◌, ◌≡◌, true, List, length, Ok}
use Rattle.mrc_compiler.specs.declared.encoder.OperandSize.TheVariants as S
use Rattle.x86.specs.declared.Instruction.{Instruction}
use Rattle.x86.specs.declared.Operand.{Operand}
use Rattle.x86.specs.declared.Operand.TheVariants as O
use Rattle.x86.specs.Instructions.{instruction, canonical}
use Rattle.x86.specs.Listing.{ReadsAs}
use Rattle.encode_spec.specs.Records.{dst}
use Rattle.show_file.specs.declared.Header.{Header}
use Rattle.show_file.specs.Show.{header, insn_at}
use Rattle.show_load.specs.Demand2.{part, Loaded2}
use Rattle.show_load.specs.Loading.{offset_behind, loaded, image_after}
use Rattle.shift_copies.specs.Shifting.{Shift, operation_of, Width, size_of, Held, Fits, Same}
use Rattle.convert_spec.specs.Counts.{has_count, times}
use Rattle.convert_spec.specs.OldStarts.{old_offset, first_copy}
use Rattle.convert_spec.specs.Targets.{branch_of, is_branch, target_of}
use Rattle.convert_spec.specs.Written.{written}

abbrev pub origin_of : List ℕ → ℕ
origin_of file = (header file).origin

abbrev pub count_of : List ℕ → ℕ
count_of file = (header file).count

abbrev pub to : List ℕ → List ℕ
to file = written file (header file)

-- the written file's: version 1, the same origin
abbrev pub new_header : List ℕ → Header
new_header file = record { version = 1; origin = origin_of file; count = first_copy file (count_of file) }

-- ---- the written file in an image, where the bytes of its record j begin at starts j
module _ (file image : List ℕ) (starts : ℕ → ℕ) where
  -- where a record of it starts, or its end
  abbrev pub new_offset : ℕ → ℕ
  new_offset j = offset_behind (origin_of file) (starts j)

  -- a record's bytes read, to the last and at their own offset, as an instruction
  abbrev pub ReadsIn : ℕ → Instruction → Type 0
  ReadsIn j m = ReadsAs (new_offset j) m (part (starts j) (starts (j + 1)) (image_after (to file) image))

  -- a branch of the file: the place that stood at its target, and the branch in the image, which goes to the first copy of that record, or to
  -- the new end
  pub record Lands (k : ℕ) : Type 0 where
    pub place : ℕ
    pub there : place ≤ count_of file
    pub stood : old_offset file (origin_of file) place ≡ target_of (insn_at file k)
    pub lands : ReadsIn (first_copy file k) (canonical (insn_at file k).operation S.Unspecified (O.Near (new_offset (first_copy file place))) O.None)

  -- a shift by an immediate count: each copy in the image is that shift, at that width, of the same operand, by 1; and as many of them do what
  -- the one did
  pub record Shifts (k : ℕ) : Type 0 where
    pub op : Shift
    pub width : Width
    pub operand : Operand
    pub its_operation : (insn_at file k).operation ≡ operation_of op
    pub its_size : (dst (insn_at file k)).size ≡ size_of width
    pub each : (i : ℕ) → i < times (insn_at file k) → ReadsIn (first_copy file k + i) (instruction (operation_of op) (size_of width) operand O.One)
    pub same : (s : Held) → Fits width s → Same op width (times (insn_at file k)) s

  pub record Converts : Type 0 where
    pub loads : loaded (to file) (length image) ≡ Ok (new_header file, starts (first_copy file (count_of file)))
    pub records : Loaded2 (to file) (new_header file) (starts (first_copy file (count_of file))) starts image (image_after (to file) image)
    pub branches : (k : ℕ) → k < count_of file → is_branch (branch_of (insn_at file k)) ≡ true → Lands k
    pub shifts : (k : ℕ) → k < count_of file → has_count (insn_at file k) ≡ true → Shifts k
