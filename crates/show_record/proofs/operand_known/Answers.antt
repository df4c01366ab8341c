use Rattle.std.proofs.Common.{arith}
use Rattle.std.proofs.lemmas.Grind.{common_steps}
use Rattle.show_record.proofs.Laws.{all_known}
use Rattle.show_record.proofs.operand_known.Goals.{then-is_some, else-is_some, then-is_some-2, else-is_some-2}
use Rattle.show_record.proofs.operand_known.Goals as goal

pub returns-then-is_some-3 : goal.returns-then-is_some-3
returns-then-is_some-3 c =
    elim c.if-is_some-2.branch [
      | then-is_some-2 w ↦ elim c.if-is_some.branch [
        | then-is_some v ↦ all_known c.args.bytes.now c.args.at (cc) (cc) (cc) (cc)
        | else-is_some v ↦ grind (arith, common_steps)
      ]
      | else-is_some-2 w ↦ grind (arith, common_steps)
    ]
