-- How many bytes an answer has, for a caller that lends no slice yet.
-- Definitions only.
use Rattle.mrc_compiler.specs.declared.encoder.EncodeError.{EncodeError}
use Rattle.std.specs.Prelude.{length, Err, Ok, Result, ℕ}
use Rattle.encode_spec.specs.Answer.{Answer, bytes, refused}

abbrev pub length_of : Answer → Result ℕ EncodeError
length_of (bytes bs) = Ok (length bs)
length_of (refused e) = Err e
