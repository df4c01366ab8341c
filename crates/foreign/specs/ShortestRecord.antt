-- What fsq_shortest answers, and what it leaves in out.
-- Definitions only.
use Rattle.std.specs.Prelude.{ℕ, List}
use Rattle.encode_spec.specs.Answer.{outcome, slice_after}
use Rattle.shortest_encoder.specs.Shortest.{shortest_answer}
use Rattle.foreign_report.specs.declared.Response.{Response}
use Rattle.foreign_report.specs.Crossing.{response_encoded}
use Rattle.foreign.specs.EncodeRecord.{Record, response_of, left_by}

abbrev pub response_shortest : Record → ℕ → List ℕ → Response
response_shortest r off out = response_of r (λ insn. response_encoded (outcome (shortest_answer insn off) insn.opers_span out))

abbrev pub shortest_after : Record → ℕ → List ℕ → List ℕ
shortest_after r off out = left_by r out (λ insn. slice_after (shortest_answer insn off) out)
