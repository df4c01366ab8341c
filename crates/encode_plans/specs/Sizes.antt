-- What common_operand_size answers, and the small tests of the groups.
-- Definitions only.
use Rattle.std.specs.Prelude.{ℕ, Bool, true, false, eqb, Result, Ok, Err}
use Rattle.mrc_compiler.specs.declared.ast.DataSize.{DataSize}
use Rattle.mrc_compiler.specs.declared.ast.DataSize.TheVariants as Z
use Rattle.mrc_compiler.specs.declared.encoder.OperandSize.{OperandSize}
use Rattle.mrc_compiler.specs.Choose.{both, by_size}
use Rattle.mrc_compiler.specs.declared.encoder.generate.NoForm.{NoForm}
use Rattle.encode_lines.specs.Lines.{size_not_specified, sizes_do_not_match}

-- questions 3 and 4 for two operands: the size that they share, or which of the two gets no
abbrev pub common_of : OperandSize → OperandSize → Result DataSize NoForm
common_of a b =
    by_size a
    (by_size b (Err size_not_specified) (Ok Z.Byte) (Ok Z.Word))
    (by_size b (Ok Z.Byte) (Ok Z.Byte) (Err sizes_do_not_match))
    (by_size b (Ok Z.Word) (Err sizes_do_not_match) (Ok Z.Word))

-- the size that an operand states, or why its group has no form for it
abbrev pub stated_size : OperandSize → NoForm → Result DataSize NoForm
stated_size a e = by_size a (Err e) (Ok Z.Byte) (Ok Z.Word)

-- CL, DX, and [BX] without displacement
abbrev pub is_cl : OperandSize → ℕ → Bool
is_cl size rm = both (by_size size false true false) (eqb rm 1)

abbrev pub is_dx : OperandSize → ℕ → Bool
is_dx size rm = both (by_size size false false true) (eqb rm 2)

abbrev pub is_bx : ℕ → ℕ → Bool
is_bx mode rm = both (eqb mode 0) (eqb rm 7)
