use Rattle.std.proofs.Common.{◌∙◌, arith, w32}
use mir.ValLaws.{to_z-of_z}
use Rattle.convert_record.proofs.Laws.{four_put}
use Rattle.convert_record.proofs.put_i32.Goals as goal

pub returns : goal.returns
returns c =
    let q = rw (to_z-of_z w32 c.args.value c.ranges.value) at c.bits_of.ensures in
    four_put c.args.rec.now c.args.at _ c.bits_of.result c.args.value _ (omega arith) (omega arith) q (c.copy_from_slice.ensures.after ∙ c.to_le_bytes.ensures)
