use Rattle.std.proofs.Common.{w32, rules, arith}
use mir.Val.{SFits}
use mir.ValLaws.{to_z-of_z}
use Rattle.encode_spec.specs.Records.{dst}
use Rattle.show_file.specs.Show.{insn_at}
use Rattle.convert_passes.specs.Passes.{place}
use Rattle.show_check.proofs.Laws.{strays_inside, strays_outside, no_strays}
use Rattle.show_check.proofs.check_targets.Goals as goal

pub returns-in-Some-record_around : goal.returns-in-Some-record_around
returns-in-Some-record_around c =
    let a = c.args in
    let f = a.file.now in
    let s = place a.starts.now in
    let k = c.in-Some.ensures in
    let fits : SFits w32 (dst c.insn_at-insn.result).imm = search rules in
    let t = rw (to_z-of_z w32 (dst c.insn_at-insn.result).imm fits, c.insn_at-insn.ensures) at c.low_word-target.ensures in
    strays_inside s (insn_at f) a.n a.size _ c.in-Some.ensures.value c.in-Some.ensures.there _ t _ c.in-Some-record_around.ensures.value c.in-Some-record_around.ensures.there

pub returns-in-None : goal.returns-in-None
returns-in-None c =
    let a = c.args in
    let f = a.file.now in
    let s = place a.starts.now in
    let fits : SFits w32 (dst c.insn_at-insn.result).imm = search rules in
    let t = rw (to_z-of_z w32 (dst c.insn_at-insn.result).imm fits, c.insn_at-insn.ensures) at c.low_word-target.ensures in
    strays_outside s (insn_at f) a.n a.size _ c.in-Some.ensures.value c.in-Some.ensures.there _ t a.n c.in-None.ensures.value (omega arith)

pub returns-in_default : goal.returns-in_default
returns-in_default c = let a = c.args in no_strays (place a.starts.now) (insn_at a.file.now) a.n a.size a.n c.in_default.ensures.value (omega arith)
