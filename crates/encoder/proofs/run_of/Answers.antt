use mathlib.Core.Path.{sym, ◌∙◌}
use Rattle.std.proofs.lemmas.Result.{err_from_is_err_and}
use Rattle.encoder.proofs.Laws.{not_formed, run_planned, run_refused}
use Rattle.encoder.proofs.run_of.Goals as goal

pub returns-in_err-require_well_formed : goal.returns-in_err-require_well_formed
returns-in_err-require_well_formed c =
    let p = err_from_is_err_and c.from_residual.result c.from_residual.ensures.1 in
    let a = not_formed c.args.insn c.args.offset (sym c.require_well_formed.ensures ∙ c.in_err-require_well_formed.was) in
    rw (p.1, p.2, a)

pub returns-in_err-run : goal.returns-in_err-run
returns-in_err-run c =
    let p = err_from_is_err_and c.from_residual-in_err-run.result c.from_residual-in_err-run.ensures.1 in
    let w = sym c.require_well_formed.ensures ∙ c.in_ok-require_well_formed.was in
    let a = run_refused c.args.insn c.args.offset w (sym (rw c.plan_of.ensures at c.run_of_plan.ensures) ∙ c.in_err-run.was) in
    rw (p.1, p.2, a)

pub returns : goal.returns
returns c =
    let w = sym c.require_well_formed.ensures ∙ c.in_ok-require_well_formed.was in
    let a = run_planned c.args.insn c.args.offset w c.ranges.offset.fits (sym (rw c.plan_of.ensures at c.run_of_plan.ensures) ∙ c.in_ok-run.was) in
    rw (c.with_repeat.ensures) a
