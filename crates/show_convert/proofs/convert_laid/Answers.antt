use native.Mathlib.Omega.{arith}
use lib.ListN.{length}
use Rattle.convert_passes.proofs.Measuring.{exact}
use Rattle.show_convert.specs.Placing.{stray_of}
use Rattle.show_convert.proofs.Answers.{none_before, filled, stray_is, stray_first}
use Rattle.show_convert.proofs.convert_laid.Goals as goal

pub first_stray-requires : goal.first_stray-requires
first_stray-requires c =
    let f = c.args.file.now in
    let h = c.args.header in
    (exact f h c.requires.show, omega (arith, c.requires.show.few), c.requires.room.0)

pub returns-in-Some-clause-value : goal.returns-in-Some-clause-value
returns-in-Some-clause-value c =
    let f = c.args.file.now in
    let h = c.args.header in
    let e = stray_is f h c.args.starts.now c.args.gains.now c.requires _ c.in-Some.ensures.value in
    stray_first f h (length c.args.out.now) _ e c.in-Some.ensures.there

pub convert_placed-requires : goal.convert_placed-requires
convert_placed-requires c =
    let f = c.args.file.now in
    let h = c.args.header in
    let s = c.args.starts.now in
    let g = c.args.gains.now in
    let r = c.requires in
    let e = stray_is f h s g r h.count c.in_default.ensures.value in
    (filled f h s g r (none_before (stray_of f h) h.count h.count e (omega arith)), r.known)

pub returns-clause-value : goal.returns-clause-value
returns-clause-value c =
    let f = c.args.file.now in
    let h = c.args.header in
    let e = stray_is f h c.args.starts.now c.args.gains.now c.requires h.count c.in_default.ensures.value in
    rw (none_before (stray_of f h) h.count h.count e (omega arith)) c.convert_placed.ensures.value
