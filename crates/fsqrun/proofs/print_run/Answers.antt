-- The text that is written fits the slice it was written to.
use Rattle.std.proofs.Common.{sym, ◌∙◌, length-take-le, arith}
use Rattle.desk_text.proofs.Whole.{written_fits}
use Rattle.fsqrun.proofs.print_run.Goals as goal

pub slice_bounds-write_all-end : goal.slice_bounds-write_all-end
slice_bounds-write_all-end g c =
    let fits = written_fits _ _ _ _ _ (sym c.write_run.ensures.value ∙ c.in-Ok.is) in
    omega arith

pub slice_bounds-write_all-end-in-Ok : goal.slice_bounds-write_all-end-in-Ok
slice_bounds-write_all-end-in-Ok g c =
    let fits = written_fits _ _ _ _ _ (sym c.write_run.ensures.value ∙ c.in-Ok.is) in
    sym (length-take-le c.in-Ok.n c.write_run.new.out (omega arith))
