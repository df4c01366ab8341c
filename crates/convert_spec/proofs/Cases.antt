-- Small shows and what converting them answers: the examples of document 02's No. 12 and of its questions, worked out by hand.
-- Assumes nothing.
use Rattle.std.specs.Prelude.{Err, Ok, Result}
use mathlib.Core.Path.{◌≡◌, refl}
use mathlib.Core.Bool.{true}
use mathlib.Core.List.{List, [], ◌∷◌, ◌++◌}
use Prim.Native.Nat.{ℕ, ◌/◌, ◌%◌}
use lib.IntN.{pos}
use lib.ListN.{length, replicate}
use Rattle.mrc_compiler.specs.declared.ast.Span.{Span}
use Rattle.mrc_compiler.specs.declared.encoder.EncodeError.TheVariants as N
use Rattle.mrc_compiler.specs.declared.encoder.OperandSize.TheVariants as S
use Rattle.mrc_compiler.specs.Operations.{number_of, operations}
use Rattle.x86.specs.Forms.{forms}
use Rattle.x86.specs.Reading.{prefix}
use Rattle.encode_groups.specs.Grouping.{grouped_of}
use Rattle.encode_spec.specs.WellFormed.{well_formed}
use Rattle.encode_spec.specs.Choice.{forms_of}
use Rattle.encode_spec.specs.Layout.{layout}
use Rattle.encode_spec.specs.Questions.{questions}
use Rattle.encode_spec.specs.Answer.{answer}
use Rattle.show_record.specs.Record.{operand_at, instruction_at, operand_known, codes_known}
use Rattle.show_file.specs.declared.LoadError.{LoadError}
use Rattle.show_file.specs.declared.LoadError.TheVariants as E
use Rattle.show_file.specs.Show.{has_mark, u16_at, record_bytes, is_count, headed, opened, is_unknown}
use Rattle.show_load.specs.Loading.{walk, show_accepted}
use Rattle.shift_copies.specs.Shifting.{is_shift}
use Rattle.convert_spec.specs.declared.ConvertError.{ConvertError}
use Rattle.convert_spec.specs.declared.ConvertError.TheVariants as X
use Rattle.convert_spec.specs.Refusals as Refusals
use Rattle.convert_spec.specs.Counts.{has_count, count_of, with_count_one, old_bytes}
use Rattle.convert_spec.specs.OldStarts.{old_start, gain, first_copy}
use Rattle.convert_spec.specs.Targets.{branch_of, is_stray}
use Rattle.convert_spec.specs.Written.{new_imm, new_record, records, written}
use Rattle.convert_spec.specs.Converting.{is_other_version, show_converted, converted, slice_after}

-- ---- files by hand
abbrev pub u16 : ℕ → List ℕ
u16 n = n % 256 ∷ n / 256 % 256 ∷ []

abbrev pub i32 : ℕ → List ℕ
i32 n = u16 n ++ u16 (n / 65536)

-- kind, size, displacement size, jump kind, mode, r/m, immediate, displacement; no prefix and no span
abbrev pub operand : ℕ → ℕ → ℕ → ℕ → ℕ → ℕ → ℕ → ℕ → List ℕ
operand k s ds j m r i d = k ∷ s ∷ 0 ∷ ds ∷ j ∷ m ∷ r ∷ (i32 i ++ (i32 d ++ replicate 8 0))

-- AX, with a value that is not used
abbrev pub ax : ℕ → List ℕ
ax i = operand 1 2 0 0 3 0 i 0

abbrev cl : ℕ → List ℕ
cl i = operand 1 1 0 0 3 1 i 0

abbrev pub imm : ℕ → List ℕ
imm n = operand 0 0 0 0 0 0 n 0

-- a target with its jump kind: 2 near, 3 short
abbrev pub target : ℕ → ℕ → List ℕ
target j n = operand 0 0 0 j 0 0 n 0

-- [4], of no stated size
abbrev unstated : List ℕ
unstated = operand 3 0 2 0 0 6 0 4

-- operation, operand count, operands; the instruction's span is 9 to 9
abbrev pub rec : ℕ → ℕ → List ℕ → List ℕ → List ℕ
rec op n a b = op ∷ n ∷ (i32 9 ++ (i32 9 ++ (a ++ b)))

abbrev shl : ℕ → List ℕ
shl n = rec 35 2 (ax 0) (imm n)

abbrev pub je : ℕ → List ℕ
je t = rec 61 1 (imm t) (imm 0)

abbrev pub call : ℕ → List ℕ
call t = rec 58 1 (imm t) (imm 0)

abbrev pub hlt : List ℕ
hlt = rec 93 0 (imm 0) (imm 0)

-- INT1, which is refused
abbrev pub int1 : List ℕ
int1 = rec 82 0 (imm 0) (imm 0)

-- a code that is not known
abbrev pub unknown : List ℕ
unknown = rec 99 0 (imm 0) (imm 0)

abbrev pub joined : List (List ℕ) → List ℕ
joined [] = []
joined (r ∷ rs) = r ++ joined rs

-- version, origin, records
abbrev pub of : ℕ → ℕ → List (List ℕ) → List ℕ
of v origin rs = 0x46 ∷ 0x53 ∷ 0x51 ∷ (u16 v ++ (u16 origin ++ (u16 (length rs) ++ joined rs)))

abbrev pub show : ℕ → List (List ℕ) → List ℕ
show = of 1

-- into room enough
abbrev answers : List ℕ → Result ℕ ConvertError
answers file = converted file 65536

-- the slice behind the written file keeps its byte
abbrev Becomes : List ℕ → List ℕ → Type 0
Becomes file to = slice_after file (replicate (length to) 7 ++ (8 ∷ [])) ≡ to ++ (8 ∷ [])

abbrev pub at : ℕ → Span
at s = record { start = s; end = s }

-- ---- what is written
record Writes : Type 0 where
  nothing : Becomes (show 100 []) (show 100 [])
  three_copies : Becomes (show 100 (shl 3 ∷ [])) (show 100 (shl 1 ∷ shl 1 ∷ shl 1 ∷ []))
  -- a shift by 1 has no count byte and stays, also before a branch
  by_one : Becomes (show 100 (shl 1 ∷ je 102 ∷ [])) (show 100 (shl 1 ∷ je 102 ∷ []))
  -- by CL: the value that the operand holds is no count
  by_cl : Becomes (show 100 (rec 35 2 (ax 0) (cl 5) ∷ je 102 ∷ [])) (show 100 (rec 35 2 (ax 0) (cl 5) ∷ je 102 ∷ []))
  -- SHL AX,3 stood at 100 to 102 and becomes six bytes: a branch to it stays, one to itself and to the end moves by three
  to_the_shift : Becomes (show 100 (shl 3 ∷ je 100 ∷ [])) (show 100 (shl 1 ∷ shl 1 ∷ shl 1 ∷ je 100 ∷ []))
  to_itself : Becomes (show 100 (shl 3 ∷ je 103 ∷ [])) (show 100 (shl 1 ∷ shl 1 ∷ shl 1 ∷ je 106 ∷ []))
  to_the_end : Becomes (show 100 (shl 3 ∷ je 105 ∷ [])) (show 100 (shl 1 ∷ shl 1 ∷ shl 1 ∷ je 108 ∷ []))
  -- what is gained behind the branch and before its target counts, what is gained before the branch and behind its target does not
  over_the_shift : Becomes (show 100 (je 105 ∷ shl 2 ∷ hlt ∷ [])) (show 100 (je 106 ∷ shl 1 ∷ shl 1 ∷ hlt ∷ []))
  back : Becomes (show 100 (hlt ∷ shl 2 ∷ je 100 ∷ [])) (show 100 (hlt ∷ shl 1 ∷ shl 1 ∷ je 100 ∷ []))
  -- EB, E9, E8
  short : Becomes (show 100 (shl 2 ∷ rec 59 1 (target 3 105) (imm 0) ∷ [])) (show 100 (shl 1 ∷ shl 1 ∷ rec 59 1 (target 3 106) (imm 0) ∷ []))
  near : Becomes (show 100 (shl 2 ∷ rec 59 1 (target 2 106) (imm 0) ∷ [])) (show 100 (shl 1 ∷ shl 1 ∷ rec 59 1 (target 2 107) (imm 0) ∷ []))
  called : Becomes (show 100 (shl 2 ∷ call 106 ∷ [])) (show 100 (shl 1 ∷ shl 1 ∷ call 107 ∷ []))
  -- EA and an immediate of another instruction are no targets: JMP 0:100, MOV AX,100
  far : Becomes (show 100 (shl 2 ∷ rec 59 1 (operand 0 0 0 1 0 0 103 0) (imm 0) ∷ [])) (show 100 (shl 1 ∷ shl 1 ∷ rec 59 1 (operand 0 0 0 1 0 0 103 0) (imm 0) ∷ []))
  data_stays : Becomes (show 100 (shl 2 ∷ rec 0 2 (ax 0) (imm 103) ∷ [])) (show 100 (shl 1 ∷ shl 1 ∷ rec 0 2 (ax 0) (imm 103) ∷ []))
  -- fields that are not used are copied
  free_fields : Becomes (show 100 (rec 35 2 (ax 77) (imm 2) ∷ rec 93 2 (ax 5) (cl 6) ∷ [])) (show 100 (rec 35 2 (ax 77) (imm 1) ∷ rec 35 2 (ax 77) (imm 1) ∷ rec 93 2 (ax 5) (cl 6) ∷ []))
  -- the last HLT stood at 65,535 and stands at 0: E8's target wraps
  call_wraps : Becomes (show 65531 (shl 2 ∷ hlt ∷ hlt ∷ call 65535 ∷ [])) (show 65531 (shl 1 ∷ shl 1 ∷ hlt ∷ hlt ∷ call 0 ∷ []))
  -- the branch stood at 0, its target -1 at 65,535: the sum is 0
  below_zero : Becomes (show 65530 (shl 2 ∷ hlt ∷ hlt ∷ hlt ∷ je 0xFFFFFFFF ∷ [])) (show 65530 (shl 1 ∷ shl 1 ∷ hlt ∷ hlt ∷ hlt ∷ je 0 ∷ []))
  -- document 02: the end stood at 65,536, which counts as 0
  two_goes_through : Becomes (show 65531 (shl 2 ∷ je 65536 ∷ [])) (show 65531 (shl 1 ∷ shl 1 ∷ je 65537 ∷ []))

writes : Writes
unfolding record_bytes opened headed is_count has_mark u16_at show_accepted is_unknown walk codes_known operand_known operations instruction_at operand_at answer questions well_formed prefix grouped_of forms_of forms number_of layout is_shift has_count count_of with_count_one old_bytes old_start gain first_copy branch_of is_stray new_imm new_record records written is_other_version show_converted
writes = record {
  nothing = refl;
  three_copies = refl;
  by_one = refl;
  by_cl = refl;
  to_the_shift = refl;
  to_itself = refl;
  to_the_end = refl;
  over_the_shift = refl;
  back = refl;
  short = refl;
  near = refl;
  called = refl;
  far = refl;
  data_stays = refl;
  free_fields = refl;
  call_wraps = refl;
  below_zero = refl;
  two_goes_through = refl;
}

-- ---- what is refused
abbrev loader : LoadError → Result ℕ ConvertError
loader e = Err (X.Load e)

record Refuses : Type 0 where
  -- document 02: three copies move the branch to 1, and its target to 65,539; the record is the written file's
  three_are_6 : answers (show 65531 (shl 3 ∷ je 65536 ∷ [])) ≡ loader (E.Record 3 (N.RelativeJumpOutOfRange (at 0) S.Byte true (pos 65536)))
  -- document 02: the last HLT stood at 65,535 and moves to 65,536
  short_is_5 : answers (show 65529 (shl 2 ∷ rec 59 1 (target 3 65535) (imm 0) ∷ hlt ∷ hlt ∷ [])) ≡ loader (E.Record 2 (N.ImmediateOutOfRange (at 0) (pos 65536) (pos 0) (pos 65535)))
  -- 24: 0 and 32, below 0, and with an operand that is not counted or states no size, which is 2 where the count is taken
  count_0 : answers (show 100 (shl 0 ∷ [])) ≡ Err (X.ShiftCountOutOfRange 0)
  count_31 : answers (show 100 (shl 31 ∷ [])) ≡ Ok 1745
  count_32 : answers (show 100 (hlt ∷ shl 32 ∷ shl 33 ∷ [])) ≡ Err (X.ShiftCountOutOfRange 1)
  count_below_0 : answers (show 100 (hlt ∷ hlt ∷ shl 0xFFFFFFFF ∷ [])) ≡ Err (X.ShiftCountOutOfRange 2)
  one_operand : answers (show 100 (rec 35 1 (ax 0) (imm 0) ∷ [])) ≡ Err (X.ShiftCountOutOfRange 0)
  unstated_by_40 : answers (show 100 (rec 35 2 unstated (imm 40) ∷ [])) ≡ Err (X.ShiftCountOutOfRange 0)
  unstated_by_2 : answers (show 100 (rec 35 2 unstated (imm 2) ∷ [])) ≡ loader (E.Record 0 (N.OperandSizeNotSpecified (at 0)))
  -- 25: into an old shift, behind its last copy's start, behind the end, before the origin
  into_the_shift : answers (show 100 (shl 3 ∷ je 101 ∷ [])) ≡ Err (X.NoRecordAtTarget 1)
  into_its_count : answers (show 100 (shl 3 ∷ je 102 ∷ [])) ≡ Err (X.NoRecordAtTarget 1)
  behind_the_end : answers (show 100 (hlt ∷ je 104 ∷ hlt ∷ je 107 ∷ [])) ≡ Err (X.NoRecordAtTarget 3)
  before_the_origin : answers (show 100 (je 99 ∷ je 98 ∷ [])) ≡ Err (X.NoRecordAtTarget 0)
  -- the file itself: mark, nine bytes, version, count and length
  no_mark : answers [] ≡ loader E.NoMark
  mark_alone : answers (0x46 ∷ 0x53 ∷ 0x51 ∷ []) ≡ loader E.WrongLength
  version_before_length : answers (of 4 100 [] ++ (0 ∷ [])) ≡ loader E.WrongVersion
  version_2_before_length : answers (of 2 100 [] ++ (0 ∷ [])) ≡ loader E.WrongVersion
  version_2 : answers (of 2 100 (shl 2 ∷ [])) ≡ loader E.WrongVersion
  version_3 : answers (of 3 100 []) ≡ loader E.WrongVersion
  too_long : answers (of 1 100 [] ++ (0 ∷ [])) ≡ loader E.WrongLength

refuses : Refuses
unfolding record_bytes opened headed is_count has_mark u16_at show_accepted is_unknown walk codes_known operand_known operations instruction_at operand_at answer questions well_formed prefix grouped_of forms_of forms number_of layout is_shift has_count count_of with_count_one old_bytes old_start gain first_copy branch_of is_stray new_imm new_record records written is_other_version show_converted
refuses = record {
  three_are_6 = refl;
  short_is_5 = refl;
  count_0 = refl;
  count_31 = refl;
  count_32 = refl;
  count_below_0 = refl;
  one_operand = refl;
  unstated_by_40 = refl;
  unstated_by_2 = refl;
  into_the_shift = refl;
  into_its_count = refl;
  behind_the_end = refl;
  before_the_origin = refl;
  no_mark = refl;
  mark_alone = refl;
  version_before_length = refl;
  version_2_before_length = refl;
  version_2 = refl;
  version_3 = refl;
  too_long = refl;
}

-- ---- the order of the questions
record Order : Type 0 where
  -- the file's length before its codes; a code before a count of an earlier record
  length_before_15 : answers (show 100 (unknown ∷ []) ++ (0 ∷ [])) ≡ loader E.WrongLength
  15-before-24 : answers (show 100 (shl 32 ∷ unknown ∷ [])) ≡ loader (E.UnknownCode 1)
  -- a count before an earlier record's own refusal, and that before an earlier target
  24-before-own : answers (show 100 (int1 ∷ shl 32 ∷ [])) ≡ Err (X.ShiftCountOutOfRange 1)
  own_before_25 : answers (show 100 (je 101 ∷ int1 ∷ int1 ∷ [])) ≡ loader (E.Record 1 (N.NotSupported (at 9)))
  -- a target before the written file's refusal, which is 6 with record 3
  25-before-written : answers (show 65531 (shl 3 ∷ je 65536 ∷ je 1 ∷ [])) ≡ Err (X.NoRecordAtTarget 2)
  -- the slice last
  written_before_9 : converted (show 65531 (shl 3 ∷ je 65536 ∷ [])) 0 ≡ loader (E.Record 3 (N.RelativeJumpOutOfRange (at 0) S.Byte true (pos 65536)))
  9-last : converted (show 100 (shl 3 ∷ [])) 176 ≡ Err X.SliceTooShort
  just_fits : converted (show 100 (shl 3 ∷ [])) 177 ≡ Ok 177
  -- a refusal leaves the slice
  slice_kept : slice_after (show 100 (shl 3 ∷ [])) (1 ∷ 2 ∷ []) ≡ 1 ∷ 2 ∷ []

order : Order
unfolding record_bytes opened headed is_count has_mark u16_at show_accepted is_unknown walk codes_known operand_known operations instruction_at operand_at answer questions well_formed prefix grouped_of forms_of forms number_of layout is_shift has_count count_of with_count_one old_bytes old_start gain first_copy branch_of is_stray new_imm new_record records written is_other_version show_converted
order = record {
  length_before_15 = refl;
  15-before-24 = refl;
  24-before-own = refl;
  own_before_25 = refl;
  25-before-written = refl;
  written_before_9 = refl;
  9-last = refl;
  just_fits = refl;
  slice_kept = refl;
}

-- ---- document 02's numbers, and document 01's of a slice and of the loader's own
record Numbers : Type 0 where
  count : Refusals.number_of (X.ShiftCountOutOfRange 3) ≡ 24
  target : Refusals.number_of (X.NoRecordAtTarget 3) ≡ 25
  slice : Refusals.number_of X.SliceTooShort ≡ 9
  other_version : Refusals.number_of (X.Load E.WrongVersion) ≡ 13
  own : Refusals.number_of (X.Load (E.Record 3 (N.NotSupported (at 9)))) ≡ 7

numbers : Numbers
numbers = record { count = refl; target = refl; slice = refl; other_version = refl; own = refl }
