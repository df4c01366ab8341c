-- Reports of the encoder's answers, byte by byte.
-- Assumes nothing.
use Rattle.std.specs.Prelude.{Err, Ok}
use mathlib.Core.Path.{◌≡◌, refl}
use mathlib.Core.Bool.{true}
use mathlib.Core.List.{List, [], ◌∷◌, ◌++◌}
use Prim.Native.Nat.{ℕ}
use lib.IntN.{pos, negsuc}
use Rattle.mrc_compiler.specs.declared.ast.Span.{Span}
use Rattle.mrc_compiler.specs.declared.encoder.EncodeError.TheVariants as E
use Rattle.mrc_compiler.specs.declared.encoder.OperandSize.TheVariants as S
use Rattle.foreign_report.specs.Crossing.{u32_bytes, response_alone, response_encoded, report_bytes, report_after}

abbrev pub span : Span
span = record { start = 0x04030201; end = 258 }

abbrev pub zeros4 : List ℕ
zeros4 = 0 ∷ 0 ∷ 0 ∷ 0 ∷ []

abbrev pub span_bytes : List ℕ
span_bytes = 1 ∷ 2 ∷ 3 ∷ 4 ∷ 2 ∷ 1 ∷ 0 ∷ 0 ∷ []

abbrev pub zeros12 : List ℕ
zeros12 = zeros4 ++ (zeros4 ++ zeros4)

-- the record of a report that names none
abbrev pub ones4 : List ℕ
ones4 = 0xFF ∷ 0xFF ∷ 0xFF ∷ 0xFF ∷ []

record Rows : Type 0 where
  accepted : report_bytes (response_encoded (Ok 7)) ≡ (7 ∷ 0 ∷ 0 ∷ 0 ∷ []) ++ (zeros4 ++ (zeros4 ++ (zeros12 ++ ones4)))
  out_of_range : report_bytes (response_encoded (Err (E.ImmediateOutOfRange span (negsuc 1) (negsuc 127) (pos 65535))))
      ≡ zeros4 ++ (span_bytes ++ (0xFE ∷ 0xFF ∷ 0xFF ∷ 0xFF ∷ 0x80 ∷ 0xFF ∷ 0xFF ∷ 0xFF ∷ 0xFF ∷ 0xFF ∷ 0 ∷ 0 ∷ ones4))
  distance : report_bytes (response_encoded (Err (E.RelativeJumpOutOfRange span S.Byte true (pos 128)))) ≡ zeros4 ++ (span_bytes ++ ((128 ∷ 0 ∷ 0 ∷ 0 ∷ []) ++ (zeros4 ++ (zeros4 ++ ones4))))
  repeat : (response_encoded (Err (E.InvalidRepeat span))).number ≡ 23
  number_alone : report_bytes (response_alone 15) ≡ zeros12 ++ (zeros12 ++ ones4)
  short_report : report_after (response_alone 15) span_bytes ≡ span_bytes

rows : Rows
unfolding u32_bytes
rows = record { accepted = refl; out_of_range = refl; distance = refl; repeat = refl; number_alone = refl; short_report = refl }
