use Rattle.text_line.proofs.Laws.{then}
use Rattle.text_line.specs.Numbers.{digit_from, decimal, long_decimal}
use mathlib.Core.List.{◌++◌}
use Rattle.text_line.proofs.push_long.Goals as goal

pub returns : goal.returns
unfolding long_decimal
returns c =
    let a = c.args in
    let fifth = digit_from 100000 a.n ++ decimal a.n in
    let fourth = digit_from 1000000 a.n ++ fifth in
    let third = digit_from 10000000 a.n ++ fourth in
    let second = digit_from 100000000 a.n ++ third in
    then a.line (digit_from 1000000000 a.n) second c.push_digit-first.ensures
    (then _ (digit_from 100000000 a.n) third c.push_digit-second.ensures
    (then _ (digit_from 10000000 a.n) fourth c.push_digit-third.ensures
    (then _ (digit_from 1000000 a.n) fifth c.push_digit-fourth.ensures
    (then _ (digit_from 100000 a.n) (decimal a.n) c.push_digit-fifth.ensures c.push_decimal.ensures))))
