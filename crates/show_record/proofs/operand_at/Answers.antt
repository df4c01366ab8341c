use mir.Syntax.{w32}
use mir.Val.{SFits}
use mir.ValLaws.{to_z-of_z}
use Rattle.std.proofs.Common.{rules}
use Rattle.std.proofs.lemmas.Option.{unwrap_or-slice_get}
use Rattle.show_record.specs.Record.{operand_at}
use Rattle.show_record.proofs.operand_at.Goals as goal

pub returns : goal.returns
unfolding operand_at
returns c =
    let imm : SFits w32 c.i32_at.result = search rules in
    let displacement : SFits w32 c.i32_at-2.result = search rules in
    rw (
      to_z-of_z w32 c.i32_at.result imm,
      to_z-of_z w32 c.i32_at-2.result displacement,
      c.span_at.ensures,
      c.unwrap_or.ensures,
      c.size_of.ensures,
      unwrap_or-slice_get,
      c.unwrap_or-2.ensures,
      c.kind_of.ensures,
      unwrap_or-slice_get,
      c.i32_at.ensures,
      c.i32_at-2.ensures,
      c.unwrap_or-3.ensures,
      c.size_of-2.ensures,
      unwrap_or-slice_get,
      c.unwrap_or-4.ensures,
      c.jump_kind_of.ensures,
      unwrap_or-slice_get,
    )
