use Rattle.std.proofs.Common.{◌≡◌, length, sym, arith, rules}
use lib.Seq.{set_out}
use Rattle.desk_step.proofs.with_word.Goals as goal

pub returns-else-n-lt8 : goal.returns-else-n-lt8
returns-else-n-lt8 c =
    let e : length c.args.registers ≡ 8 = search rules in
    sym (set_out c.args.registers c.args.n c.args.v (omega arith))
