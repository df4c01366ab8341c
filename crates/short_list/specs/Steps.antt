-- What the reader's answer says of a string's length.
-- Definitions only.
use Rattle.std.specs.Prelude.{ℕ, Bool, false, eqb, Ok, Err}
use Rattle.reader.specs.Answer.{Decoded}

abbrev pub whole_in : Decoded → ℕ → Bool
whole_in (Ok r) l = eqb r.length l
whole_in (Err e) l = false
