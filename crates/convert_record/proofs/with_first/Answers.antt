use mir.Syntax.{w32}
use mir.ValLaws.{to_z-of_z}
use Rattle.convert_record.proofs.with_first.Goals as goal

pub returns : goal.returns
returns c =
    let e = to_z-of_z w32 c.args.value c.ranges.value in
    rw (rw e at c.with_imm.ensures) at c.with_operands.ensures
