-- The reader's answer: what the forms read, with the form that read it, and document 01's number of a refusal.
-- Definitions only.
use Rattle.std.specs.Prelude.{ℕ, List, [], ◌∷◌, get_or, Option, Some, None, Result, Ok, Err}
use Rattle.mrc_compiler.specs.Choose.{pick}
use Rattle.x86_forms.specs.declared.FormName.{FormName}
use Rattle.x86.specs.declared.Instruction.{Instruction}
use Rattle.x86.specs.declared.ReadError.{ReadError}
use Rattle.x86.specs.Forms.{Form}
use Rattle.read_table.specs.Rows.{name_of, no_form}
use Rattle.x86.specs.Reading.{Read, refusal_number, some, starting_with, fitting, has_second, prefix, repeats, reads}
use Rattle.reader.specs.declared.Reading.{Reading}

abbrev pub first_of : List Form → FormName
first_of [] = no_form
first_of (f ∷ fs) = name_of f

-- the forms fs of a first byte that go on with the bytes t
abbrev pub going_on : List Form → List ℕ → List Form
going_on fs t = pick (some (λ f. has_second f.extension) fs) (fitting (get_or t 0 0) fs) fs

-- the form by which bytes behind a prefix read: the first that fits
abbrev pub form_behind : List ℕ → FormName
form_behind [] = no_form
form_behind (c ∷ t) = first_of (going_on (starting_with c) t)

abbrev pub form_plain : List ℕ → FormName
form_plain [] = no_form
form_plain (b ∷ s) = pick (prefix b) (form_behind s) (form_behind (b ∷ s))

-- behind a repeat it is the string operation's
abbrev pub form_of : List ℕ → FormName
form_of [] = no_form
form_of (b ∷ s) = pick (repeats (b ∷ s)) (form_plain s) (form_plain (b ∷ s))

abbrev pub reading : Instruction → FormName → ℕ → Reading
reading m f n = record { instruction = m; form = f; length = n }

-- an instruction with its form and length, or why the bytes are none
abbrev pub Decoded : Type 0
Decoded = Result Reading ReadError

abbrev pub with_form : Read → FormName → Decoded
with_form (Ok (m, n)) f = Ok (reading m f n)
with_form (Err e) f = Err e

-- what stands at the front of some bytes
unfoldable pub decoded : ℕ → List ℕ → Decoded
decoded off s = with_form (reads off s) (form_of s)

-- the refusal's number (REFERENCE 6); none for an instruction
abbrev pub refusal_of : Decoded → Option ℕ
refusal_of (Ok r) = None
refusal_of (Err e) = Some (refusal_number e)
