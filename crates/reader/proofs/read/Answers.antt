use mathlib.Core.Path.{sym, ◌∙◌}
use native.Mathlib.Omega.{arith}
use Rattle.reader.proofs.Laws.{two_bytes, string_behind, with_repeat, plain_decoded}
use Rattle.reader.proofs.read.Goals as goal

pub bounds-bytes-0 : goal.bounds-bytes-0
bounds-bytes-0 c = omega (arith, two_bytes c.args.bytes.now (sym c.repeats_string.ensures ∙ c.if-repeats_string.true))

pub bounds-bytes-1 : goal.bounds-bytes-1
bounds-bytes-1 c = omega (arith, two_bytes c.args.bytes.now (sym c.repeats_string.ensures ∙ c.if-repeats_string.true))

pub read_repeated-requires : goal.read_repeated-requires
read_repeated-requires c = string_behind c.args.bytes.now (sym c.repeats_string.ensures ∙ c.if-repeats_string.true)

pub returns-then-repeats_string : goal.returns-then-repeats_string
returns-then-repeats_string c =
    c.read_repeated.ensures
    ∙ with_repeat c.args.offset c.args.bytes.now (sym c.repeats_string.ensures ∙ c.if-repeats_string.true)

pub returns : goal.returns
returns c =
    c.read_plain.ensures
    ∙ plain_decoded c.args.offset c.args.bytes.now (sym c.repeats_string.ensures ∙ c.if-repeats_string.false)
