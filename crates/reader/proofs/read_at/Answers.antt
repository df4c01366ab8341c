use Rattle.std.proofs.Common.{rules, sym, ◌∙◌}
use Rattle.reader.proofs.Laws.{instruction_back, refusal_back}
use Rattle.reader.proofs.read_at.Goals as goal

pub returns : goal.returns
returns c = instruction_back c.args.offset c.args.bytes.now _ (sym c.read.ensures ∙ c.in_ok-reading.was)

pub returns-in_err-reading : goal.returns-in_err-reading
returns-in_err-reading c = rw (← (refusal_back c.args.offset c.args.bytes.now _ (sym c.read.ensures ∙ c.in_err-reading.was))) (search rules)
