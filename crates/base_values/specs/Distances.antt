-- Distances of branches (REFERENCE 5).
-- Definitions only.
use Rattle.std.specs.Prelude.{ℕ, ◌+◌, ◌-◌, ℤ, pos, negsuc, ◌-ℤ◌, nat_lt, Result, Ok, Err}
use Rattle.mrc_compiler.specs.Choose.{pick}
use Rattle.mrc_compiler.specs.Values.{within, mod_z}

-- the target less the end of an instruction of `size` bytes at `offset`
abbrev pub distance_of : ℤ → ℕ → ℕ → ℤ
distance_of target offset size = target -ℤ pos (offset + size)

-- a number below 2^32 as the i32 with the same 32 bits
abbrev pub as_i_32 : ℕ → ℤ
as_i_32 n = pick (nat_lt n 2147483648) (pos n) (negsuc (4294967295 - n))

-- a value modulo 2^32, as an i32
abbrev pub wrapped : ℤ → ℤ
wrapped z = as_i_32 (mod_z 4294967296 z)

-- what a short branch emits for a distance: its low byte, or, where it is no signed byte, the distance to report
abbrev pub relative_of : ℤ → Result ℕ ℤ
relative_of d = pick (within (negsuc 127) (pos 127) d) (Ok (mod_z 256 d)) (Err (wrapped d))
