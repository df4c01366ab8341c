-- What fsq_list answers, and what it leaves in out.
-- Definitions only.
use Rattle.std.specs.Prelude.{ℕ, List, Err, Ok, Result}
use Rattle.mrc_compiler.specs.declared.encoder.EncodeError.{EncodeError}
use Rattle.encode_spec.specs.Answer.{answer}
use Rattle.lister.specs.Listing.{outcome, slice_after}
use Rattle.foreign_report.specs.declared.Response.{Response}
use Rattle.foreign_report.specs.Crossing.{response_length, response_refusal}
use Rattle.foreign.specs.EncodeRecord.{Record, response_of, left_by}

-- 0 with the number of entries, or the refusal
abbrev pub response_listed : Result ℕ EncodeError → Response
response_listed (Ok n) = response_length n
response_listed (Err e) = response_refusal e

abbrev pub response_listing : Record → ℕ → List ℕ → Response
response_listing r off out = response_of r (λ insn. response_listed (outcome (answer insn off) insn off out))

abbrev pub list_after : Record → ℕ → List ℕ → List ℕ
list_after r off out = left_by r out (λ insn. slice_after (answer insn off) insn off out)
