use Rattle.show_file.proofs.Opening.{opened_exact}
use Rattle.show_file.specs.Show.{first_unknown}
use Rattle.show_load.specs.Loading.{show_accepted}
use Rattle.show_check.proofs.Laws.{handed_on}
use Rattle.std.proofs.Common.{◌≤◌, refl, sym, ◌∙◌, arith, le-ltb, lt-ltb}
use Rattle.show_check.proofs.check.Goals as goal

pub returns-in_err-header : goal.returns-in_err-header
returns-in_err-header c = handed_on _ _ c.from_residual.ensures.1 ∙ rw (sym c.open.ensures ∙ c.in_err-header.was) refl

pub first_unknown-requires : goal.first_unknown-requires
first_unknown-requires c =
    let e = opened_exact _ c.args.file.now _ (sym c.open.ensures ∙ c.in_ok-header.was) in
    (e.its_length, e.its_count)

pub returns-in-Some : goal.returns-in-Some
unfolding show_accepted
returns-in-Some c = rw (sym c.open.ensures ∙ c.in_ok-header.was, ← c.in-Some.ensures.first, lt-ltb _ _ c.in-Some.ensures.below)

pub check_records-requires : goal.check_records-requires
check_records-requires c =
    let e = opened_exact _ c.args.file.now _ (sym c.open.ensures ∙ c.in_ok-header.was) in
    (e.its_length, e.its_count)

pub returns : goal.returns
unfolding show_accepted
returns c =
    let n = c.in_ok-header.header.count in
    let l : n ≤ first_unknown c.args.file.now n = omega (arith, c.in_default.ensures.first) in
    rw (sym c.open.ensures ∙ c.in_ok-header.was, le-ltb _ _ l) c.check_records.ensures
