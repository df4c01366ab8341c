use Rattle.std.proofs.Common.{sym, ◌∙◌}
use Rattle.reader.proofs.Laws.{short_not, two_repeat}
use Rattle.reader.proofs.repeats_string.Goals as goal

pub returns-then-bytes-lt2 : goal.returns-then-bytes-lt2
returns-then-bytes-lt2 c = rw (short_not c.args.bytes.now c.if-bytes-lt2.true)

pub returns-then-is_repeat : goal.returns-then-is_repeat
returns-then-is_repeat c = rw (two_repeat c.args.bytes.now c.if-bytes-lt2.false, sym c.is_repeat.ensures ∙ c.if-is_repeat.true) c.begins_string.ensures

pub returns-else-is_repeat : goal.returns-else-is_repeat
returns-else-is_repeat c = rw (two_repeat c.args.bytes.now c.if-bytes-lt2.false, sym c.is_repeat.ensures ∙ c.if-is_repeat.false) c.if-is_repeat.false
