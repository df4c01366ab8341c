-- The number by which the definitions name an encoding.
-- Definitions only.
use Rattle.std.specs.Prelude.{ℕ}
use Rattle.list_spec.specs.declared.Encoding.{Encoding}
use Rattle.list_spec.specs.declared.Encoding.TheVariants as C
use Rattle.list_spec.specs.Starts.{primary}

abbrev pub encoding_number : Encoding → ℕ
encoding_number C.Primary = primary
encoding_number C.Alternate = 1
