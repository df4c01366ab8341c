-- Signed values: ranges, and what is left of a value in a byte or a word.
-- Definitions only.
use Rattle.std.specs.Prelude.{ℕ, ◌-◌, ◌/◌, ◌%◌, Bool, ◌&&◌, ℤ, pos, negsuc}
use Rattle.std.specs.Int.Signed.{le_z}

-- lo ≤ z ≤ hi
abbrev pub within : ℤ → ℤ → ℤ → Bool
within lo hi z = le_z lo z && le_z z hi

-- z modulo m, from 0 to m - 1; negsuc n is -(n + 1)
abbrev pub mod_z : ℕ → ℤ → ℕ
mod_z m (pos n) = n % m
mod_z m (negsuc n) = m - 1 - n % m

-- the /n of ADD OR ADC SBB AND SUB XOR CMP, by the first opcode of the operation
abbrev pub digit_of : ℕ → ℕ
digit_of n = n / 8
