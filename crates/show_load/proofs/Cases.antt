-- Which of the loader's questions comes first, and which record is named (REFERENCE 8); show_file has those about the file itself.
-- Assumes nothing.
use Rattle.std.proofs.Common.{◌≡◌, ℕ, List, [], ◌∷◌, ◌++◌, refl, Err}
use Rattle.mrc_compiler.specs.declared.ast.Span.{Span}
use Rattle.mrc_compiler.specs.declared.encoder.EncodeError.TheVariants as N
use Rattle.mrc_compiler.specs.Operations.{number_of, operations, is_string}
use Rattle.x86.specs.Forms.{forms}
use Rattle.x86.specs.Reading.{prefix, is_repeat}
use Rattle.encode_groups.specs.Grouping.{grouped_of}
use Rattle.encode_spec.specs.WellFormed.{well_formed}
use Rattle.encode_spec.specs.Choice.{forms_of}
use Rattle.encode_spec.specs.Layout.{layout}
use Rattle.encode_spec.specs.Questions.{questions}
use Rattle.encode_spec.specs.Answer.{answer}
use Rattle.show_record.specs.Record.{operand_at, instruction_at, operand_known, codes_known}
use Rattle.show_file.specs.declared.LoadError.TheVariants as E
use Rattle.show_file.specs.Show.{has_mark, u16_at, record_bytes, is_count, headed, opened, is_unknown}
use Rattle.show_file.proofs.Cases.{front, plain, longer}
use Rattle.show_load.specs.Loading.{walk, is_over, show_accepted, loaded, image_after}

-- one record of two, INT1 or an unknown code, behind a header with this mark and version
abbrev wrong : ℕ → ℕ → ℕ → List ℕ
wrong mark v op = (mark ∷ 0x53 ∷ 0x51 ∷ v ∷ 0 ∷ 0 ∷ 0 ∷ 2 ∷ 0 ∷ []) ++ plain op 1

record Order : Type 0 where
  -- the mark before version, length, codes, records and image; the version before the last four
  mark_first : (loaded (wrong 0x47 4 99) 0 ≡ Err E.NoMark) × (loaded (wrong 0x47 1 82) 0 ≡ Err E.NoMark)
  version_next : (loaded (wrong 0x46 4 99) 0 ≡ Err E.WrongVersion) × (loaded (wrong 0x46 4 82) 0 ≡ Err E.WrongVersion)
  -- the length before the codes
  length_before_codes : loaded (front 1 2 ++ plain 99 1) 0 ≡ Err E.WrongLength
  length_before_records : loaded (front 1 2 ++ plain 82 1) 0 ≡ Err E.WrongLength
  -- an unknown code before a refusal of an earlier record
  codes_before_records : loaded (front 1 2 ++ (plain 82 1 ++ plain 99 2)) 0 ≡ Err (E.UnknownCode 1)

order : Order
unfolding record_bytes opened headed is_count has_mark u16_at show_accepted is_unknown codes_known operand_known operations
order = record {
  mark_first = (refl, refl);
  version_next = (refl, refl);
  length_before_codes = refl;
  length_before_records = refl;
  codes_before_records = refl;
}

abbrev at : ℕ → Span
at s = record { start = s; end = s }

-- NOP; HLT
abbrev two : List ℕ
two = front 1 2 ++ (plain 97 1 ++ plain 93 2)

record Room : Type 0 where
  -- 9 with the first record that does not fit, and its span
  no_room : loaded two 0 ≡ Err (E.Record 0 (N.SliceTooShort (at 1)))
  one_byte : loaded two 1 ≡ Err (E.Record 1 (N.SliceTooShort (at 2)))
  -- the image last: INT1 behind a NOP is 7 in any image
  image_last : loaded (front 1 2 ++ (plain 97 1 ++ plain 82 2)) 0 ≡ Err (E.Record 1 (N.NotSupported (at 2)))
  -- of two refused records the first
  first_refused : loaded (front 1 2 ++ (plain 82 1 ++ plain 95 2)) 0 ≡ Err (E.Record 0 (N.NotSupported (at 1)))

room : Room
unfolding record_bytes opened headed is_count has_mark u16_at show_accepted is_unknown is_over walk codes_known operand_known operations instruction_at operand_at answer questions well_formed prefix grouped_of forms_of forms number_of layout
room = record { no_room = refl; one_byte = refl; image_last = refl; first_refused = refl }

-- ---- version 3 (document 02, No. 11): 48 is MOVSB, 46 REP, 96 LOCK, 95 ESC
record Repeats (x y z : ℕ) : Type 0 where
  -- the image of REP MOVSB, and of REP followed by MOVSB, is F3 A4
  rep_movsb : image_after (front 3 1 ++ longer 48 0xF3 1) (x ∷ y ∷ z ∷ []) ≡ 0xF3 ∷ 0xA4 ∷ z ∷ []
  rep_then_movsb : image_after (front 3 2 ++ (longer 46 0 1 ++ longer 48 0 2)) (x ∷ y ∷ z ∷ []) ≡ 0xF3 ∷ 0xA4 ∷ z ∷ []
  old_rep_then_movsb : image_after (front 1 2 ++ (plain 46 1 ++ plain 48 2)) (x ∷ y ∷ z ∷ []) ≡ 0xF3 ∷ 0xA4 ∷ z ∷ []
  -- 23 with its record and its span; after any 15, and never 15 itself
  repeat_99 : loaded (front 3 2 ++ (longer 97 0 1 ++ longer 48 99 2)) 7 ≡ Err (E.Record 1 (N.InvalidRepeat (at 2)))
  rep_lock : loaded (front 3 1 ++ longer 96 0xF3 1) 7 ≡ Err (E.Record 0 (N.InvalidRepeat (at 1)))
  rep_esc : loaded (front 3 1 ++ longer 95 0xF3 1) 7 ≡ Err (E.Record 0 (N.InvalidRepeat (at 1)))
  code_before_23 : loaded (front 3 2 ++ (longer 48 99 1 ++ longer 99 0 2)) 7 ≡ Err (E.UnknownCode 1)
  -- 9 behind it
  room_behind_23 : loaded (front 3 2 ++ (longer 97 0 1 ++ longer 48 99 2)) 0 ≡ Err (E.Record 1 (N.InvalidRepeat (at 2)))
  no_room : loaded (front 3 1 ++ longer 48 0xF3 1) 1 ≡ Err (E.Record 0 (N.SliceTooShort (at 1)))

repeats : (x y z : ℕ) → Repeats x y z
unfolding record_bytes opened headed is_count has_mark u16_at show_accepted is_unknown is_over walk codes_known operand_known operations instruction_at operand_at answer questions well_formed prefix is_repeat is_string grouped_of forms_of forms number_of layout
repeats x y z = record {
  rep_movsb = refl;
  rep_then_movsb = refl;
  old_rep_then_movsb = refl;
  repeat_99 = refl;
  rep_lock = refl;
  rep_esc = refl;
  code_before_23 = refl;
  room_behind_23 = refl;
  no_room = refl;
}
