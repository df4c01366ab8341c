-- The refusals of a conversion (REFERENCE 16).
-- Definitions only.
use Rattle.std.specs.Prelude.{ℕ}
use Rattle.show_file.specs.Refusals as Show
use Rattle.convert_spec.specs.declared.ConvertError.{ConvertError}
use Rattle.convert_spec.specs.declared.ConvertError.TheVariants as X

abbrev pub number_of : ConvertError → ℕ
number_of (X.Load e) = Show.number_of e
number_of (X.ShiftCountOutOfRange k) = 24
number_of (X.NoRecordAtTarget k) = 25
number_of X.SliceTooShort = 9
