use Rattle.text_line.proofs.Laws.{then}
use Rattle.text_line.specs.Numbers.{sign, decimal}
use lib.IntN.{nat_abs}
use mir.Syntax.{w32}
use mir.ValLaws.{to_z-of_z}
use Rattle.text_line.proofs.push_signed.Goals as goal

pub returns : goal.returns
returns c =
    let s = c in
    let e = to_z-of_z w32 c.args.value c.ranges.value in
    let m = rw e at c.magnitude.ensures in
    then c.args.line (sign c.args.value) (decimal (nat_abs c.args.value)) (rw e at c.push_sign.ensures) (rw (← m) c.push_decimal.ensures)
