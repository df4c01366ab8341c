use mathlib.Core.Path.{sym, ◌∙◌}
use lib.ListN.{length}
use native.Mathlib.Omega.{arith}
use Rattle.show_file.specs.Show.{first_unknown}
use Rattle.convert_spec.specs.Converting.{first_miscounted}
use Rattle.convert_laws.proofs.Done.{all_counted}
use Rattle.convert_passes.proofs.Measuring.{exact}
use Rattle.show_convert.proofs.Answers.{handed_on, none_before, unknown_first, miscounted_next, refused_next, all_taken, targets_next}
use borrow.Author.Rules.{rules}
use Rattle.show_convert.proofs.convert_show.Goals as goal

pub first_unknown-requires : goal.first_unknown-requires
first_unknown-requires c = (exact c.args.file.now c.args.header c.requires, omega (arith, c.requires.few))

pub returns-in-Some-clause-value : goal.returns-in-Some-clause-value
returns-in-Some-clause-value c =
    let f = c.args.file.now in
    let h = c.args.header in
    unknown_first f h (length c.args.out.now) _ c.in-Some.ensures.first c.in-Some.ensures.below

pub first_miscounted-requires : goal.first_miscounted-requires
first_miscounted-requires c = (exact c.args.file.now c.args.header c.requires, omega (arith, c.requires.few))

pub returns-in-Some-first_miscounted-clause-value : goal.returns-in-Some-first_miscounted-clause-value
returns-in-Some-first_miscounted-clause-value c =
    let f = c.args.file.now in
    let h = c.args.header in
    let u = none_before (first_unknown f h.count) h.count h.count c.in_default.ensures.first (omega arith) in
    miscounted_next f h (length c.args.out.now) u _ c.in-Some-first_miscounted.ensures.value c.in-Some-first_miscounted.ensures.there

pub lay_out-requires : goal.lay_out-requires
lay_out-requires c =
    let f = c.args.file.now in
    let h = c.args.header in
    let x = c.requires in
    let m = none_before (first_miscounted f h.count) h.count h.count c.in_default-first_miscounted.ensures.value (omega arith) in
    (exact f h x, x.few, (omega (arith, x.few), omega (arith, x.few)), all_counted f h.count m)

pub returns-in_err-lay_out-clause-value : goal.returns-in_err-lay_out-clause-value
returns-in_err-lay_out-clause-value c =
    let f = c.args.file.now in
    let h = c.args.header in
    let u = none_before (first_unknown f h.count) h.count h.count c.in_default.ensures.first (omega arith) in
    let m = none_before (first_miscounted f h.count) h.count h.count c.in_default-first_miscounted.ensures.value (omega arith) in
    let q = sym c.in_err-lay_out.was ∙ c.lay_out.ensures.value in
    handed_on _ _ c.from_residual.ensures.1 ∙ refused_next f h (length c.args.out.now) u m _ q

pub convert_laid-requires : goal.convert_laid-requires
convert_laid-requires c =
    let f = c.args.file.now in
    let h = c.args.header in
    let x = c.requires in
    let u = none_before (first_unknown f h.count) h.count h.count c.in_default.ensures.first (omega arith) in
    let m = none_before (first_miscounted f h.count) h.count h.count c.in_default-first_miscounted.ensures.value (omega arith) in
    let q = sym c.in_ok-lay_out.was ∙ c.lay_out.ensures.value in
    let t = rw c.in_ok-lay_out.was at c.lay_out.ensures.table in
    let g = rw c.in_ok-lay_out.was at c.lay_out.ensures.table_2 in
    let few = x.few in
    record { show = x; known = u; counted = m; taken = all_taken f h (length c.args.out.now) u m q; starts_are = t; gains_are = g; room = (search rules, search rules) }

pub returns-clause-value : goal.returns-clause-value
returns-clause-value c =
    let f = c.args.file.now in
    let h = c.args.header in
    let u = none_before (first_unknown f h.count) h.count h.count c.in_default.ensures.first (omega arith) in
    let m = none_before (first_miscounted f h.count) h.count h.count c.in_default-first_miscounted.ensures.value (omega arith) in
    let q = sym c.in_ok-lay_out.was ∙ c.lay_out.ensures.value in
    c.convert_laid.ensures.value ∙ targets_next f h (length c.args.out.now) u m (all_taken f h (length c.args.out.now) u m q)
