use Rattle.std.proofs.Common.{◌+◌, w32, rules}
use mir.Val.{SFits}
use mir.ValLaws.{to_z-of_z}
use Rattle.encode_spec.specs.Records.{dst}
use Rattle.convert_passes.proofs.Laws.{place_is, place_there}
use Rattle.convert_passes.proofs.place_of.Goals as goal

pub returns-clause-value : goal.returns-clause-value
returns-clause-value c =
    let a = c.args in
    let f : SFits w32 (dst a.insn).imm = search rules in
    let z = to_z-of_z w32 (dst a.insn).imm f in
    place_is a.starts.now a.n a.insn c.low_word.result c.place_at.result c.requires.1 (rw z at c.low_word.ensures) c.place_at.ensures

pub returns-clause-there : goal.returns-clause-there
returns-clause-there c = rw c.place_at.ensures (place_there c.args.starts.now (c.args.n + 1) c.low_word.result c.requires.1)
