-- What fsq_load answers: the loader's answer, as a response.
-- Definitions only.
use Rattle.std.specs.Prelude.{Err, Ok, Result, ℕ}
use Rattle.show_file.specs.declared.Header.{Header}
use Rattle.show_file.specs.declared.LoadError.{LoadError}
use Rattle.show_file.specs.declared.LoadError.TheVariants as E
use Rattle.show_file.specs.Refusals.{number_of}
use Rattle.foreign_report.specs.declared.Response.{Response}
use Rattle.foreign_report.specs.Crossing.{response_length, response_alone, response_refusal, of_record}

-- the loader's number; a record's refusal with its span and values
abbrev pub response_load_error : LoadError → Response
response_load_error E.NoMark = response_alone (number_of E.NoMark)
response_load_error E.WrongVersion = response_alone (number_of E.WrongVersion)
response_load_error E.WrongLength = response_alone (number_of E.WrongLength)
response_load_error (E.UnknownCode k) = of_record (response_alone (number_of (E.UnknownCode k))) k
response_load_error (E.Record k e) = of_record (response_refusal e) k

-- 0 with the length of the image, or the refusal
abbrev pub response_loaded : Result (Header × ℕ) LoadError → Response
response_loaded (Ok (h, n)) = response_length n
response_loaded (Err e) = response_load_error e
