use Rattle.text_line.proofs.Laws.{then}
use Rattle.text_line.specs.Numbers.{digit_from, decimal}
use mathlib.Core.List.{[], ◌∷◌, ◌++◌}
use Prim.Native.Nat.{◌+◌, ◌%◌}
use Rattle.text_line.proofs.push_decimal.Goals as goal

pub returns : goal.returns
unfolding decimal
returns c =
    let a = c.args in
    let units = (0x30 + a.n % 10) ∷ [] in
    let tens = digit_from 10 a.n ++ units in
    let hundreds = digit_from 100 a.n ++ tens in
    let thousands = digit_from 1000 a.n ++ hundreds in
    then a.line (digit_from 10000 a.n) thousands c.push_digit-first.ensures
    (then _ (digit_from 1000 a.n) hundreds c.push_digit-second.ensures
    (then _ (digit_from 100 a.n) tens c.push_digit-third.ensures
    (then _ (digit_from 10 a.n) units c.push_digit-fourth.ensures c.push.ensures)))
