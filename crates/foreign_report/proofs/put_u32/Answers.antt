use Rattle.std.proofs.Common.{arith, ◌∙◌}
use Rattle.foreign_report.specs.Crossing.{u32_bytes}
use Rattle.foreign_report.proofs.Laws.{word_put}
use Rattle.foreign_report.proofs.put_u32.Goals as goal

pub returns : goal.returns
unfolding u32_bytes
returns c = word_put c.args.report.now c.copy_from_slice.new.self c.args.at _ c.args.n (omega arith) c.requires (c.copy_from_slice.ensures.after ∙ c.to_le_bytes.ensures)
