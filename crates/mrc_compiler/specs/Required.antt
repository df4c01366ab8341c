-- What the require functions of 000 answer: the value in its type, or the refusal with the value and the type's limits.
-- Definitions only.
use Rattle.std.specs.Prelude.{ℤ, pos, negsuc, Err, Ok, Result, ℕ}
use Rattle.mrc_compiler.specs.declared.ast.Span.{Span}
use Rattle.mrc_compiler.specs.declared.encoder.EncodeError.{EncodeError}
use Rattle.mrc_compiler.specs.declared.encoder.EncodeError.TheVariants as E
use Rattle.mrc_compiler.specs.Choose.{pick}
use Rattle.mrc_compiler.specs.Values.{within, mod_z}

-- the value in low to high as the type holds it, or refusal 5 with the limits
abbrev pub required : {A : Type 0} → (ℤ → A) → ℤ → ℤ → ℤ → Span → Result A EncodeError
required held low high value span =
    pick (within low high value) (Ok (held value)) (Err (E.ImmediateOutOfRange span value low high))

abbrev pub required_byte : ℤ → Span → Result ℕ EncodeError
required_byte = required (mod_z 256) (pos 0) (pos 255)

abbrev pub required_signed_byte : ℤ → Span → Result ℤ EncodeError
required_signed_byte = required (λ z. z) (negsuc 127) (pos 127)

abbrev pub required_word : ℤ → Span → Result ℕ EncodeError
required_word = required (mod_z 65536) (pos 0) (pos 65535)

abbrev pub required_signed_word : ℤ → Span → Result ℤ EncodeError
required_signed_word = required (λ z. z) (negsuc 32767) (pos 32767)
