-- The table of 256 rows as the code has it: shape and operation are looked up by the first byte, and by the digit where it decides.
-- Nobody has to believe it: proofs/Agree shows that it says what the forms say.
-- Definitions only.
use Rattle.std.specs.Prelude.{ℕ, ◌+◌, ◌*◌, ◌/◌, ◌%◌, Bool, List, [], ◌∷◌, eqb, ltb, get_or, None, Option}
use Rattle.mrc_compiler.specs.declared.operations.Operation.{Operation}
use Rattle.mrc_compiler.specs.declared.operations.Operation.TheVariants as Op
use Rattle.mrc_compiler.specs.Choose.{pick, both, either}
use Rattle.mrc_compiler.specs.Operations.{operation_numbered}
use Rattle.x86_forms.specs.declared.FormName.{FormName}
use Rattle.x86.specs.Forms.{Extension, Form, form}
use Rattle.x86.specs.Forms as F
use Rattle.x86.specs.Reading.{digit, about, allows_second}
use Rattle.x86.specs.Rows.{Class, Shape}
use Rattle.x86.specs.Rows as K

-- ---- a form as the manual names it
abbrev pub named : ℕ → Extension → FormName
named c e = record { opcode = c; extension = e }

-- opcode and extension, as the list of forms has them
abbrev pub name_of : Form → FormName
name_of f = named f.opcode f.extension

-- where no form reads, none is answered
abbrev pub no_form : FormName
no_form = named 0 F.no

-- ---- the operation
-- numbers of operations by lines: a line for each first byte, then eight for the digits of 80, 81 and 83; 8F; C6 and C7; D0 to D3; F6 and F7; FE; FF. 99, which is
-- none's, where no form begins, and for a first byte whose digit decides
abbrev pub operation_numbers : List ℕ
operation_numbers =
    14 ∷ 14 ∷ 14 ∷ 14 ∷ 14 ∷ 14 ∷ 1 ∷ 2 ∷ 44 ∷ 44 ∷ 44 ∷ 44 ∷ 44 ∷ 44 ∷ 1 ∷ 99
    ∷ 15 ∷ 15 ∷ 15 ∷ 15 ∷ 15 ∷ 15 ∷ 1 ∷ 2 ∷ 20 ∷ 20 ∷ 20 ∷ 20 ∷ 20 ∷ 20 ∷ 1 ∷ 2
    ∷ 42 ∷ 42 ∷ 42 ∷ 42 ∷ 42 ∷ 42 ∷ 99 ∷ 18 ∷ 19 ∷ 19 ∷ 19 ∷ 19 ∷ 19 ∷ 19 ∷ 99 ∷ 25
    ∷ 45 ∷ 45 ∷ 45 ∷ 45 ∷ 45 ∷ 45 ∷ 99 ∷ 17 ∷ 23 ∷ 23 ∷ 23 ∷ 23 ∷ 23 ∷ 23 ∷ 99 ∷ 24
    ∷ 16 ∷ 16 ∷ 16 ∷ 16 ∷ 16 ∷ 16 ∷ 16 ∷ 16 ∷ 21 ∷ 21 ∷ 21 ∷ 21 ∷ 21 ∷ 21 ∷ 21 ∷ 21
    ∷ 1 ∷ 1 ∷ 1 ∷ 1 ∷ 1 ∷ 1 ∷ 1 ∷ 1 ∷ 2 ∷ 2 ∷ 2 ∷ 2 ∷ 2 ∷ 2 ∷ 2 ∷ 2
    ∷ 99 ∷ 99 ∷ 99 ∷ 99 ∷ 99 ∷ 99 ∷ 99 ∷ 99 ∷ 99 ∷ 99 ∷ 99 ∷ 99 ∷ 99 ∷ 99 ∷ 99 ∷ 99
    ∷ 67 ∷ 75 ∷ 64 ∷ 72 ∷ 61 ∷ 69 ∷ 65 ∷ 73 ∷ 68 ∷ 76 ∷ 66 ∷ 74 ∷ 62 ∷ 70 ∷ 63 ∷ 71
    ∷ 99 ∷ 99 ∷ 99 ∷ 99 ∷ 43 ∷ 43 ∷ 3 ∷ 3 ∷ 0 ∷ 0 ∷ 0 ∷ 0 ∷ 0 ∷ 7 ∷ 0 ∷ 99
    ∷ 3 ∷ 3 ∷ 3 ∷ 3 ∷ 3 ∷ 3 ∷ 3 ∷ 3 ∷ 32 ∷ 33 ∷ 99 ∷ 94 ∷ 12 ∷ 13 ∷ 11 ∷ 10
    ∷ 0 ∷ 0 ∷ 0 ∷ 0 ∷ 48 ∷ 49 ∷ 50 ∷ 51 ∷ 43 ∷ 43 ∷ 56 ∷ 57 ∷ 54 ∷ 55 ∷ 52 ∷ 53
    ∷ 0 ∷ 0 ∷ 0 ∷ 0 ∷ 0 ∷ 0 ∷ 0 ∷ 0 ∷ 0 ∷ 0 ∷ 0 ∷ 0 ∷ 0 ∷ 0 ∷ 0 ∷ 0
    ∷ 99 ∷ 99 ∷ 60 ∷ 60 ∷ 9 ∷ 8 ∷ 99 ∷ 99 ∷ 99 ∷ 99 ∷ 99 ∷ 99 ∷ 83 ∷ 81 ∷ 84 ∷ 85
    ∷ 99 ∷ 99 ∷ 99 ∷ 99 ∷ 28 ∷ 31 ∷ 98 ∷ 6 ∷ 99 ∷ 99 ∷ 99 ∷ 99 ∷ 99 ∷ 99 ∷ 99 ∷ 99
    ∷ 79 ∷ 78 ∷ 77 ∷ 80 ∷ 4 ∷ 4 ∷ 5 ∷ 5 ∷ 58 ∷ 59 ∷ 59 ∷ 59 ∷ 4 ∷ 4 ∷ 5 ∷ 5
    ∷ 96 ∷ 99 ∷ 47 ∷ 46 ∷ 93 ∷ 87 ∷ 99 ∷ 99 ∷ 86 ∷ 88 ∷ 91 ∷ 92 ∷ 89 ∷ 90 ∷ 99 ∷ 99
    -- digits
    ∷ 14 ∷ 44 ∷ 15 ∷ 20 ∷ 42 ∷ 19 ∷ 45 ∷ 23
    ∷ 2 ∷ 99 ∷ 99 ∷ 99 ∷ 99 ∷ 99 ∷ 99 ∷ 99
    ∷ 0 ∷ 99 ∷ 99 ∷ 99 ∷ 99 ∷ 99 ∷ 99 ∷ 99
    ∷ 38 ∷ 39 ∷ 40 ∷ 41 ∷ 35 ∷ 36 ∷ 99 ∷ 37
    ∷ 43 ∷ 99 ∷ 34 ∷ 22 ∷ 26 ∷ 27 ∷ 29 ∷ 30
    ∷ 16 ∷ 21 ∷ 99 ∷ 99 ∷ 99 ∷ 99 ∷ 99 ∷ 99
    ∷ 16 ∷ 21 ∷ 58 ∷ 58 ∷ 59 ∷ 99 ∷ 1 ∷ 99
    -- the line of none
    ∷ 99 ∷ []

abbrev pub operation_at : ℕ → Option Operation
operation_at n = operation_numbered (get_or operation_numbers n 0)

-- the first line of the digits of a first byte whose digit decides
abbrev pub digits_of : ℕ → ℕ
digits_of c =
    pick (ltb c 0x84) 256 (pick (ltb c 0xC0) 264 (pick (ltb c 0xD0) 272 (pick (ltb c 0xF0) 280 (pick (ltb c 0xFE) 288 (pick (eqb c 0xFE) 296 304)))))

-- the line of first byte c and second byte x; 312, the last, where they have no operation
abbrev pub line_of : Class → ℕ → ℕ → ℕ
line_of K.unused c x = 312
line_of K.plain c x = c
line_of K.plus_register c x = c
line_of K.plus_segment c x = c
line_of K.modrm c x = c
line_of K.modrm_digit c x = digits_of c + digit x
line_of K.second_0a c x = pick (eqb x 0x0A) c 312

abbrev pub found_of : Class → ℕ → ℕ → Option Operation
found_of k c x = operation_at (line_of k c x)

-- do the slots have the second byte x?
abbrev pub slots_fit : Shape → ℕ → Bool
slots_fit s x = both (allows_second (about s.first).restriction x) (allows_second (about s.second).restriction x)

unfoldable pub found_at : Shape → ℕ → ℕ → Option Operation
found_at s c x = pick (slots_fit s x) (found_of s.class c x) None

-- 86, 87 and 90 to 97 are XCHG's
abbrev pub exchanges : ℕ → Bool
exchanges c = either (eqb (c / 2) 0x43) (eqb (c / 8) 0x12)

-- 84 and 85 are TEST's of a register
abbrev pub tests_register : ℕ → Bool
tests_register c = eqb (c / 2) 0x42

-- ---- the form
abbrev pub extension_at : Class → Extension
extension_at K.unused = F.no
extension_at K.plain = F.no
extension_at K.plus_register = F.+r
extension_at K.plus_segment = F.+s
extension_at K.modrm = F./r
extension_at K.modrm_digit = F./ 0
extension_at K.second_0a = F.0A

-- a form of this shape; the reading does not look at its opcode and digit
abbrev pub shape_form : Shape → Operation → Form
shape_form s op = form 0 (extension_at s.class) op s.first s.second

-- where the operation does not matter either
abbrev pub any_form : Shape → Form
any_form s = shape_form s Op.ESC

-- the form that first byte c and second byte x have
abbrev pub form_at : Class → ℕ → ℕ → FormName
form_at K.unused c x = no_form
form_at K.plain c x = named c F.no
form_at K.plus_register c x = named (c / 8 * 8) F.+r
form_at K.plus_segment c x = named (c % 8) F.+s
form_at K.modrm c x = named c F./r
form_at K.modrm_digit c x = named c (F./ (digit x))
form_at K.second_0a c x = named c F.0A
