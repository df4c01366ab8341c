-- What fsq_form answers, and what it leaves in out.
-- Definitions only.
use Rattle.std.specs.Prelude.{ℕ, List}
use Rattle.encode_form.specs.Ground.{ground}
use Rattle.text_form.specs.Lines.{ground_line, explained, explained_in}
use Rattle.foreign_report.specs.declared.Response.{Response}
use Rattle.foreign_report.specs.Crossing.{response_encoded}
use Rattle.foreign.specs.EncodeRecord.{Record, response_of, left_by}

abbrev pub response_form : Record → ℕ → List ℕ → Response
response_form r off out = response_of r (λ insn. response_encoded (explained (ground_line (ground insn off) insn) insn.opers_span out))

abbrev pub form_after : Record → ℕ → List ℕ → List ℕ
form_after r off out = left_by r out (λ insn. explained_in (ground_line (ground insn off) insn) out)
