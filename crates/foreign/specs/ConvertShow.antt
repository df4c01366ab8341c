-- What fsq_convert answers: the converter's answer, as a response.
-- Definitions only.
use Rattle.std.specs.Prelude.{Err, Ok, Result, ℕ}
use Rattle.convert_spec.specs.declared.ConvertError.{ConvertError}
use Rattle.convert_spec.specs.declared.ConvertError.TheVariants as X
use Rattle.convert_spec.specs.Refusals.{number_of}
use Rattle.foreign_report.specs.declared.Response.{Response}
use Rattle.foreign_report.specs.Crossing.{response_length, response_alone, of_record}
use Rattle.foreign.specs.LoadShow.{response_load_error}

-- the loader's refusals as fsq_load tells them; 24 and 25 with their record; 9 with none
abbrev pub response_convert_error : ConvertError → Response
response_convert_error (X.Load e) = response_load_error e
response_convert_error (X.ShiftCountOutOfRange k) = of_record (response_alone (number_of (X.ShiftCountOutOfRange k))) k
response_convert_error (X.NoRecordAtTarget k) = of_record (response_alone (number_of (X.NoRecordAtTarget k))) k
response_convert_error X.SliceTooShort = response_alone (number_of X.SliceTooShort)

-- 0 with the length of the written file, or the refusal
abbrev pub response_converted : Result ℕ ConvertError → Response
response_converted (Ok n) = response_length n
response_converted (Err e) = response_convert_error e
