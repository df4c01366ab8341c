-- What compiling a list of cues answers, and what it leaves in the image (REFERENCE 14).
-- Definitions only.
use Rattle.std.specs.Prelude.{ℕ, List, ◌++◌, leb, length, drop, Err, Ok, Result}
use Rattle.mrc_compiler.specs.Choose.{pick}
use Rattle.cue_compile.specs.declared.CueError.{CueError}
use Rattle.cue_compile.specs.declared.CueError.TheVariants as E
use Rattle.cue_compile.specs.Cues.{cues_in, is_cue_list, some_without}
use Rattle.cue_compile.specs.Program.{image_of}

-- document 02's number for each case
abbrev pub number_of : CueError → ℕ
number_of E.WrongLength = 19
number_of E.NoDelay = 20
number_of E.ImageTooShort = 9

-- the questions in their order; size is the length of the lent image
unfoldable pub compiled : List ℕ → ℕ → Result ℕ CueError
compiled s size =
    let n = length (image_of (cues_in s)) in
    pick (is_cue_list s)
    (pick (some_without (cues_in s)) (Err E.NoDelay) (pick (leb n size) (Ok n) (Err E.ImageTooShort)))
    (Err E.WrongLength)

-- the image afterwards: the program's bytes at the front, or what it was
abbrev pub placed : List ℕ → List ℕ → Result ℕ CueError → List ℕ
placed s image (Ok n) = image_of (cues_in s) ++ drop n image
placed s image (Err e) = image

abbrev pub image_after : List ℕ → List ℕ → List ℕ
image_after s image = placed s image (compiled s (length image))
