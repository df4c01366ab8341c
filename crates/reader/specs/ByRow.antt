-- The reading by rows, as the code does it, and what it makes of a repeat.
-- Nobody has to believe it: proofs/ByRow shows that it is the reading by forms.
-- Definitions only.
use Rattle.std.specs.Prelude.{ℕ, Bool, List, [], ◌∷◌, eqb, get_or, Ok, Err, None, Option, Some}
use Rattle.mrc_compiler.specs.declared.operations.Operation.{Operation}
use Rattle.mrc_compiler.specs.Choose.{pick, either}
use Rattle.x86.specs.declared.ReadError.TheVariants.{NotAnInstruction, NotComplete}
use Rattle.x86.specs.Reading.{Read, digit, has_second, may_name_memory, read_form, read_plain}
use Rattle.x86.specs.Instructions.{instruction, repeated}
use Rattle.x86.specs.declared.Operand.TheVariants as O
use Rattle.mrc_compiler.specs.declared.encoder.OperandSize.TheVariants as S
use Rattle.x86.specs.Rows.{plain, Shape, rows, shape_numbered, by_digit}
use Rattle.read_table.specs.Rows.{no_form, found_of, found_at, extension_at, shape_form, any_form, form_at}
use Rattle.reader.specs.Answer.{form_plain, reading, Decoded, with_form}

abbrev pub by_found : {A : Type 0} → Option Operation → A → (Operation → A) → A
by_found None n f = n
by_found (Some op) n f = f op

unfoldable pub read_shape : ℕ → ℕ → Shape → ℕ → ℕ → List ℕ → Read
read_shape off p s c x t = by_found (found_at s c x) (Err NotAnInstruction) (λ op. read_form off p c x t (shape_form s op))

unfoldable pub decoded_shape : ℕ → ℕ → Shape → ℕ → ℕ → List ℕ → Decoded
decoded_shape off p s c x t = with_form (read_shape off p s c x t) (form_at s.class c x)

-- the shape in row n with second byte x
abbrev pub shape_with : ℕ → ℕ → Shape
shape_with n x = shape_numbered (by_digit n (digit x))

abbrev pub decoded_second : ℕ → ℕ → ℕ → ℕ → List ℕ → Decoded
decoded_second off p n c [] = with_form (Err NotComplete) no_form
decoded_second off p n c (x ∷ t) = decoded_shape off p (shape_with n x) c x t

-- may a row of this shape follow the prefix p (0: none)?
abbrev pub may_follow : ℕ → Shape → Bool
may_follow p s = either (eqb p 0) (may_name_memory (any_form s))

-- the shapes of a row agree on whether there is a second byte, and on memory
abbrev pub decoded_behind : ℕ → ℕ → ℕ → ℕ → List ℕ → Decoded
decoded_behind off p n c t =
    let s = shape_with n 0 in
    pick (may_follow p s)
    (pick (has_second (extension_at s.class)) (decoded_second off p n c t) (decoded_shape off p s c 0 t))
    (with_form (Err NotAnInstruction) no_form)

abbrev pub decoded_row : ℕ → ℕ → ℕ → ℕ → List ℕ → Decoded
decoded_row off p n c t = pick (eqb n 0) (with_form (Err NotAnInstruction) no_form) (decoded_behind off p n c t)

unfoldable pub decoded_opcode : ℕ → ℕ → List ℕ → Decoded
decoded_opcode off p [] = with_form (Err NotComplete) no_form
decoded_opcode off p (c ∷ t) = decoded_row off p (get_or rows c 0) c t

-- without a repeat
unfoldable pub decoded_plain : ℕ → List ℕ → Decoded
decoded_plain off s = with_form (read_plain off s) (form_plain s)

-- the string operation c, which is one byte, behind the repeat b
abbrev pub decoded_repeat : ℕ → ℕ → Decoded
decoded_repeat b c =
    by_found (found_of plain c 0) (Err NotAnInstruction) (λ op. Ok (reading (repeated b (instruction op S.Unspecified O.None O.None)) (form_at plain c 0) 2))
