-- What is said of the starts. Nobody has to believe it: the proofs of the functions tie it to check_spec's definitions.
-- Definitions only.
use Rattle.std.specs.Prelude.{Bool, true, false, Err, Ok, Result, ℕ}
use Rattle.show_file.specs.declared.LoadError.{LoadError}
use Rattle.show_file.specs.declared.Header.{Header}

abbrev pub is_image : Result (Header × ℕ) LoadError → Bool
is_image (Ok (h, n)) = true
is_image (Err e) = false
