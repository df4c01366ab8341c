-- The register that an operand is.
-- Definitions only.
use Rattle.std.specs.Prelude.{ℕ, Option, Some, None}
use Rattle.x86.specs.declared.Operand.{Operand}
use Rattle.x86.specs.Instructions.{by_register}

-- the number of an operand that is a register
abbrev pub register_in : Operand → Option ℕ
register_in a = by_register a Some None
