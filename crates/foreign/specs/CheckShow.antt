-- What fsq_check answers: the answer of the check of targets, as a response.
-- Definitions only.
use Rattle.std.specs.Prelude.{ℕ, ◌%◌, pos, Result, Ok, Err}
use Rattle.convert_spec.specs.declared.ConvertError.TheVariants as X
use Rattle.convert_spec.specs.Refusals.{number_of}
use Rattle.check_spec.specs.declared.CheckError.{CheckError}
use Rattle.check_spec.specs.declared.CheckError.TheVariants as C
use Rattle.foreign_report.specs.declared.Response.{Response}
use Rattle.foreign_report.specs.Crossing.{no_span, no_record, response_length}
use Rattle.foreign.specs.LoadShow.{response_load_error}

-- 25 of record k with its target; where a length would stand, the record that the target falls into
abbrev pub response_stray : ℕ → ℕ → ℕ → Response
response_stray k target around = record {
  number = number_of (X.NoRecordAtTarget k);
  length = around;
  span = no_span;
  value = pos target;
  low = pos 0;
  high = pos 0;
  «record» = k % 4294967296;
}

-- 0 with the length of the image, or the refusal
abbrev pub response_checked : Result ℕ CheckError → Response
response_checked (Ok n) = response_length n
response_checked (Err (C.Inside k target j)) = response_stray k target (j % 4294967296)
response_checked (Err (C.Outside k target)) = response_stray k target no_record
response_checked (Err (C.Load e)) = response_load_error e
