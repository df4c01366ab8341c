-- What fsq_cue answers.
-- Definitions only.
use Rattle.std.specs.Prelude.{Err, Ok, Result, ℕ}
use Rattle.cue_compile.specs.declared.CueError.{CueError}
use Rattle.cue_compile.specs.Compiling.{number_of}
use Rattle.foreign_report.specs.declared.Response.{Response}
use Rattle.foreign_report.specs.Crossing.{response_alone, response_length}

-- no refusal has a span or a record
abbrev pub response_compiled : Result ℕ CueError → Response
response_compiled (Ok n) = response_length n
response_compiled (Err e) = response_alone (number_of e)
