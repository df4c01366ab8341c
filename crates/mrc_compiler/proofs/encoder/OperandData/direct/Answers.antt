use mir.Syntax.{w32}
use mir.ValLaws.{to_z-of_z}
use Rattle.mrc_compiler.proofs.encoder.OperandData.direct.Goals as goal

pub returns : goal.returns
returns c = rw (c.operand_size_from_data_size.ensures, c.override_prefix.ensures, to_z-of_z w32 c.args.address c.ranges.address)
