-- Rows of the cue compiler (document 02, No. 9); the bytes are NASM's.
-- Assumes nothing.
use Rattle.std.specs.Prelude.{Err, Ok}
use mathlib.Core.Path.{◌≡◌, refl}
use mathlib.Core.List.{[], ◌∷◌}
use lib.ListN.{replicate}
use Rattle.mrc_compiler.specs.Operations as Ops
use Rattle.x86.specs.Forms.{forms}
use Rattle.x86.specs.Reading.{prefix}
use Rattle.encode_groups.specs.Grouping.{grouped_of}
use Rattle.encode_spec.specs.WellFormed.{well_formed}
use Rattle.encode_spec.specs.Choice.{forms_of}
use Rattle.encode_spec.specs.Layout.{layout}
use Rattle.encode_spec.specs.Questions.{questions}
use Rattle.encode_spec.specs.Answer.{answer}
use Rattle.cue_compile.specs.declared.CueError.TheVariants as E
use Rattle.cue_compile.specs.Cues.{cues_in, some_without}
use Rattle.cue_compile.specs.Program.{program, assembled}
use Rattle.cue_compile.specs.Compiling.{number_of, compiled, image_after}

record Rows : Type 0 where
  -- no cues are HLT, and a byte behind it stays
  no_cues : (compiled [] 1 ≡ Ok 1) × (image_after [] (7 ∷ 8 ∷ []) ≡ 0xF4 ∷ 8 ∷ [])
  -- a delay of 1234 (hexadecimal), port 61, mask 80
  one_cue : image_after (0x34 ∷ 0x12 ∷ 0x61 ∷ 0x80 ∷ []) (replicate 11 7)
      ≡ 0xB9 ∷ 0x34 ∷ 0x12 ∷ 0xE2 ∷ 0xFE ∷ 0xB0 ∷ 0x80 ∷ 0xE6 ∷ 0x61 ∷ 0xF4 ∷ 7 ∷ []
  two_cues : image_after (10 ∷ 0 ∷ 97 ∷ 1 ∷ 0x34 ∷ 0x12 ∷ 98 ∷ 0x80 ∷ []) (replicate 19 7)
      ≡ 0xB9 ∷ 0x0A ∷ 0 ∷ 0xE2 ∷ 0xFE ∷ 0xB0 ∷ 1 ∷ 0xE6 ∷ 0x61 ∷ 0xB9 ∷ 0x34 ∷ 0x12 ∷ 0xE2 ∷ 0xFE ∷ 0xB0 ∷ 0x80 ∷ 0xE6 ∷ 0x62 ∷ 0xF4 ∷ []
  -- 19 for part of a cue and for 201, before 20 and 9
  part_of_a_cue : (compiled (0 ∷ 0 ∷ 0 ∷ []) 0 ≡ Err E.WrongLength) × (compiled (1 ∷ 1 ∷ []) 10 ≡ Err E.WrongLength)
  too_many : (compiled (replicate 804 0) 0 ≡ Err E.WrongLength) × (compiled (replicate 804 1) 2000 ≡ Err E.WrongLength)
  -- 200 are taken: 9 bytes each and 1
  two_hundred : (compiled (replicate 800 1) 1801 ≡ Ok 1801) × (compiled (replicate 800 1) 1800 ≡ Err E.ImageTooShort)
  -- 20 before 9
  no_delay : compiled (replicate 800 0) 0 ≡ Err E.NoDelay
  second_without : compiled (1 ∷ 0 ∷ 0 ∷ 0 ∷ 0 ∷ 0 ∷ 5 ∷ 5 ∷ []) 100 ≡ Err E.NoDelay
  -- 256 is a delay
  low_byte_0 : compiled (0 ∷ 1 ∷ 0 ∷ 0 ∷ []) 10 ≡ Ok 10
  -- 9 on both sides of the program's length
  no_room : (compiled [] 0 ≡ Err E.ImageTooShort) × (compiled (1 ∷ 0 ∷ 0 ∷ 0 ∷ []) 9 ≡ Err E.ImageTooShort)
  just_room : compiled (1 ∷ 0 ∷ 0 ∷ 0 ∷ []) 10 ≡ Ok 10
  -- a refusal changes nothing
  stays : (image_after (replicate 4 0) (7 ∷ []) ≡ 7 ∷ []) × (image_after [] [] ≡ [])
  numbers : (number_of E.WrongLength ≡ 19) × (number_of E.NoDelay ≡ 20) × (number_of E.ImageTooShort ≡ 9)

rows : Rows
unfolding compiled cues_in some_without program assembled answer questions well_formed prefix grouped_of forms_of forms Ops.number_of layout
rows = record {
  no_cues = (refl, refl);
  one_cue = refl;
  two_cues = refl;
  part_of_a_cue = (refl, refl);
  too_many = (refl, refl);
  two_hundred = (refl, refl);
  no_delay = refl;
  second_without = refl;
  low_byte_0 = refl;
  no_room = (refl, refl);
  just_room = refl;
  stays = (refl, refl);
  numbers = (refl, refl, refl);
}
