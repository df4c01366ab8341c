-- What fsq_evaluate answers.
-- Definitions only.
use Rattle.std.specs.Prelude.{ℤ, Result}
use Rattle.sum_spec.specs.declared.SumError.{SumError}
use Rattle.sum_spec.specs.Sums.{Numbered, value, refused, numbered}
use Rattle.foreign_report.specs.declared.Response.{Response}
use Rattle.foreign_report.specs.Crossing.{response_alone, response_value}

abbrev pub response_numbered : Numbered → Response
response_numbered (value z) = response_value z
response_numbered (refused n) = response_alone n

abbrev pub response_answer : Result ℤ SumError → Response
response_answer a = response_numbered (numbered a)
