-- The encoder's refusals: the number, span and values of each case (REFERENCE 5).
-- Definitions only.
use Rattle.std.specs.Prelude.{ℕ, ℤ}
use Rattle.mrc_compiler.specs.declared.ast.Span.{Span}
use Rattle.mrc_compiler.specs.declared.encoder.EncodeError.{EncodeError}
use Rattle.mrc_compiler.specs.declared.encoder.EncodeError.TheVariants as E

-- what is reported beside number and span
pub data Values : Type 0 where
  none : Values
  outside : (value low high : ℤ) → Values  -- 5: the value and its limits
  distance : ℤ → Values  -- 6: the distance modulo 2^32, from -2^31 to 2^31 - 1

pub record Report : Type 0 where
  pub number : ℕ
  pub span : Span
  pub values : Values

abbrev pub report : ℕ → Span → Values → Report
report n s v = record { number = n; span = s; values = v }

abbrev pub report_of : EncodeError → Report
report_of (E.InvalidOperands s) = report 1 s none
report_of (E.OperandSizeNotSpecified s) = report 2 s none
report_of (E.OperandSizesDoNotMatch s) = report 3 s none
report_of (E.InvalidOperandSize s) = report 4 s none
report_of (E.ImmediateOutOfRange s value low high) = report 5 s (outside value low high)
report_of (E.RelativeJumpOutOfRange s size signed d) = report 6 s (distance d)
report_of (E.NotSupported s) = report 7 s none
report_of (E.NotWellFormed s) = report 8 s none
report_of (E.InvalidRepeat s) = report 23 s none
report_of (E.SliceTooShort s) = report 9 s none

abbrev pub span_of : EncodeError → Span
span_of e = (report_of e).span
