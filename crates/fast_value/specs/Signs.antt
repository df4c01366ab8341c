-- The lower limit of a range that has so many numbers below 0.
-- Definitions only.
use Rattle.std.specs.Prelude.{ℕ, zero, suc, ℤ, pos, negsuc}

abbrev pub minus : ℕ → ℤ
minus zero = pos 0
minus (suc n) = negsuc n
