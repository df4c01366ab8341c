use Rattle.show_file.proofs.Opening.{opened_exact}
use Rattle.show_load.specs.Loading.{show_accepted}
use Rattle.show_file.specs.Show.{first_unknown}
use Rattle.std.proofs.Common.{◌≤◌, sym, ◌∙◌, arith, le-ltb, lt-ltb}
use Rattle.show_load.proofs.accept.Goals as goal

pub first_unknown-requires : goal.first_unknown-requires
first_unknown-requires c =
    let e = opened_exact _ c.args.file.now _ (sym c.open.ensures ∙ c.in_ok-header.was) in
    (e.its_length, e.its_count)

pub returns-in-Some : goal.returns-in-Some
unfolding show_accepted
returns-in-Some c =
    let first = c.in-Some.ensures.first in
    rw (sym c.open.ensures ∙ c.in_ok-header.was, ← first, lt-ltb _ _ c.in-Some.ensures.below)

pub measure-requires : goal.measure-requires
measure-requires c =
    let e = opened_exact _ c.args.file.now _ (sym c.open.ensures ∙ c.in_ok-header.was) in
    (e.its_length, e.its_count)

pub returns : goal.returns
unfolding show_accepted
returns c =
    let n = c.in_ok-header.header.count in
    let l : n ≤ first_unknown c.args.file.now n = omega (arith, c.in_default.ensures.first) in
    rw (sym c.open.ensures ∙ c.in_ok-header.was, le-ltb _ _ l) c.measure.ensures
