-- What crosses to a program in another language: an answer's number, and a report of 28 bytes, little-endian: length, span start and end (u32), value, low, high (i32), record (u32).
-- Definitions only.
use Rattle.std.specs.Prelude.{ℕ, ◌/◌, ◌%◌, List, [], ◌∷◌, ◌++◌, leb, ℤ, pos, length, drop, Err, Ok, Result}
use Rattle.mrc_compiler.specs.declared.ast.Span.{Span}
use Rattle.mrc_compiler.specs.declared.encoder.EncodeError.{EncodeError}
use Rattle.mrc_compiler.specs.Choose.{pick}
use Rattle.mrc_compiler.specs.Values.{mod_z}
use Rattle.mrc_compiler.specs.Refusals.{Values, none, outside, distance, Report, report_of}
use Rattle.foreign_report.specs.declared.Response.{Response}

-- ---- numbers
-- a number modulo 2^32 as four bytes, low byte first
unfoldable pub u32_bytes : ℕ → List ℕ
u32_bytes n = n % 256 ∷ n / 256 % 256 ∷ n / 65536 % 256 ∷ n / 16777216 % 256 ∷ []

-- an i32 in 32 bits
abbrev pub bits : ℤ → ℕ
bits z = mod_z 4294967296 z

abbrev pub three_bytes : ℕ → ℕ → ℕ → List ℕ
three_bytes a b c = u32_bytes a ++ (u32_bytes b ++ u32_bytes c)

-- ---- what an answer tells
abbrev pub no_span : Span
no_span = record { start = 0; end = 0 }

-- the record of a report that names none: a record's index in its file is below it
abbrev pub no_record : ℕ
no_record = 4294967295

-- the report's value and limits: a distance has no limits
abbrev pub value_of : Values → ℤ
value_of none = pos 0
value_of (outside value low high) = value
value_of (distance d) = d

abbrev pub low_of : Values → ℤ
low_of none = pos 0
low_of (outside value low high) = low
low_of (distance d) = pos 0

abbrev pub high_of : Values → ℤ
high_of none = pos 0
high_of (outside value low high) = high
high_of (distance d) = pos 0

-- a refusal: the number, span and values of mrc_compiler's Refusals
abbrev pub response_report : Report → Response
response_report r = record {
  number = r.number;
  length = 0;
  span = r.span;
  value = value_of r.values;
  low = low_of r.values;
  high = high_of r.values;
  «record» = no_record;
}

abbrev pub response_refusal : EncodeError → Response
response_refusal e = response_report (report_of e)

-- a number with its span, and with no report at all
abbrev pub response_span : ℕ → Span → Response
response_span n span = response_report (record { number = n; span = span; values = none })

abbrev pub response_alone : ℕ → Response
response_alone n = response_span n no_span

-- 0 with a length
abbrev pub response_length : ℕ → Response
response_length n = record {
  number = 0;
  length = n % 4294967296;
  span = no_span;
  value = pos 0;
  low = pos 0;
  high = pos 0;
  «record» = no_record;
}

-- 0 with a value
abbrev pub response_value : ℤ → Response
response_value z = record {
  number = 0;
  length = 0;
  span = no_span;
  value = z;
  low = pos 0;
  high = pos 0;
  «record» = no_record;
}

-- 0 with the number of bytes, or the refusal
abbrev pub response_encoded : Result ℕ EncodeError → Response
response_encoded (Ok n) = response_length n
response_encoded (Err e) = response_refusal e

-- a response about record k of a file
abbrev pub of_record : Response → ℕ → Response
of_record t k = record {
  number = t.number;
  length = t.length;
  span = t.span;
  value = t.value;
  low = t.low;
  high = t.high;
  «record» = k % 4294967296;
}

-- ---- the report
abbrev pub report_length : ℕ
report_length = 28

abbrev pub report_bytes : Response → List ℕ
report_bytes t =
    three_bytes t.length t.span.start t.span.end
    ++ (three_bytes (bits t.value) (bits t.low) (bits t.high) ++ u32_bytes t.«record»)

-- the lent report afterwards: its later bytes stay, and a shorter one stays whole
abbrev pub report_after : Response → List ℕ → List ℕ
report_after t s = pick (leb report_length (length s)) (report_bytes t ++ drop report_length s) s
